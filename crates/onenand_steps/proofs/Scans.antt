-- Walks over the words of a page.
use Rattle.std.proofs.Common.{◌≡◌, ℕ, zero, suc, ◌+◌, ◌<◌, true, false, refl, arith}
use Rattle.std.proofs.lemmas.Grind.{common_steps}
use Rattle.flash.specs.Geometry.{blank_word}
use Rattle.flash.specs.Meaning.{Meaning, word_at}
use Rattle.onenand_rules.specs.Ticks.{blank}

pub blank_none : (m : Meaning) (b p : ℕ) → blank m b p 0 ≡ true
unfolding blank
blank_none m b p = refl

-- one word more is blank
pub blank_more : (m : Meaning) (b p k : ℕ) → word_at m b p k ≡ blank_word → blank m b p k ≡ true → blank m b p (k + 1) ≡ true
unfolding blank
blank_more m b p k e h = grind (arith, common_steps)

-- a word that is not blank shows in every longer part
pub not_blank : (m : Meaning) (b p k n : ℕ) → k < n → (word_at m b p k ≡ blank_word → ⊥) → blank m b p n ≡ false
unfolding blank
not_blank m b p k zero h e = absurd (omega arith)
not_blank m b p k (suc n) h e = grind (arith, common_steps, not_blank m b p k n)
