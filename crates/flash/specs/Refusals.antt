-- Refusals by their numbers.
use Rattle.std.specs.Prelude.{ℕ, Some, None, Ok, Err, Option, Result}

-- the number that a check answers, and none where all is well
abbrev pub refusal : {E : Type 0} → (E → ℕ) → Result (Unit {0}) E → Option ℕ
refusal number (Ok u) = None
refusal number (Err e) = Some (number e)
