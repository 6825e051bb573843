-- When two arrays mean the same.
use Rattle.std.proofs.Common.{◌≡◌, ℕ}
use mathlib.Core.Path.{fun_ext}
use Rattle.flash.specs.Meaning.{Meaning}

-- they agree in how many blocks there are, in each word, and in what is dead
pub same_meaning : (m n : Meaning) → m.count ≡ n.count → ((b p w : ℕ) → m.word b p w ≡ n.word b p w) → ((b p : ℕ) → m.dead_page b p ≡ n.dead_page b p)
    → ((b : ℕ) → m.dead_block b ≡ n.dead_block b) → m ≡ n
same_meaning m n counts words pages blocks = λ i. record {
  count = counts i;
  word = fun_ext (λ b. fun_ext (λ p. fun_ext (words b p))) i;
  dead_page = fun_ext (λ b. fun_ext (pages b)) i;
  dead_block = fun_ext blocks i;
}
