-- The 16 bits of a word.
use Rattle.std.proofs.Common.{◌≡◌, ℕ, ◌%◌, ◌^◌, ◌<◌, ap, ◌∙◌, arith}
use lib.Bits.{bit_and, and_mod}
use Rattle.flash.specs.Geometry.{bits16}

-- ANDing keeps to them
pub and_16 : (x v : ℕ) → v < 2 ^ 16 → bits16 (bit_and x v) ≡ bit_and (bits16 x) v
and_16 x v h = let e : v % 2 ^ 16 ≡ v = omega arith in and_mod x v 16 ∙ ap (bit_and (bits16 x)) e
