-- Two lists of answers, word for word.
use Rattle.std.proofs.Common.{◌≡◌, ℕ, ◌<◌, true, Bool, ◌&&◌, eqb, List, Ok, Result, length, get_or, sym, refl, ap, ◌∙◌}
use Rattle.std.specs.Bool.{Decides}
use Rattle.std.proofs.lemmas.Bool.{eq-eqb}
use Rattle.std.proofs.lemmas.Bool.Decides.{same_from_decides, Decides-below_and}
use Rattle.onenand_rules.specs.declared.calls.Answer.{Answer}
use Rattle.onenand_rules.specs.declared.calls.Answer.TheVariants.{Word}
use Rattle.onenand_rules.specs.declared.calls.Refusal.{Refusal}
use Rattle.calibration.specs.Words.{is_same, same_words}

module _ (xs ys : List (Result Answer Refusal)) where
  -- call k of both answered the same word
  abbrev pub SameAt : ℕ → Type 0
  SameAt k = is_same (get_or xs k (Ok (Word 0))) (get_or ys k (Ok (Word 0))) ≡ true

  words_decide : (n : ℕ) → Decides (same_words xs ys n) ((k : ℕ) → k < n → SameAt k)
  unfolding same_words
  words_decide n = Decides-below_and (λ k. is_same (get_or xs k (Ok (Word 0))) (get_or ys k (Ok (Word 0)))) SameAt (same_words xs ys) (λ k. (λ e. e, λ e. e)) refl (λ k. refl) n

  -- where they are as long, a test that is true where all are the same is the one that is asked for
  pub same_test : (r : Bool) → length xs ≡ length ys → Decides r ((k : ℕ) → k < length ys → SameAt k) → r ≡ (eqb (length xs) (length ys) && same_words xs ys (length ys))
  same_test r long decides =
      same_from_decides r (same_words xs ys (length ys)) decides (words_decide (length ys))
      ∙ sym (ap (λ b. b && same_words xs ys (length ys)) (eq-eqb (length xs) (length ys) long))
