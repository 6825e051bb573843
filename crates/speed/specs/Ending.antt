-- Ticks that are put until a command ends.
use Rattle.std.specs.Prelude.{ℕ, zero, suc, Bool, false, cond, ◌==◌}
use Rattle.onenand_rules.specs.declared.calls.Call.TheVariants.{Tick}
use Rattle.onenand_rules.specs.State.{State}
use Rattle.onenand_rules.specs.Calls.{Reply, word, done, tick, refused}
use Rattle.onenand_rules.specs.Steps.{step}

-- a tick answered that the command runs on
abbrev pub runs_on : Reply → Bool
runs_on (word w) = false
runs_on done = false
runs_on (tick n) = n == 1
runs_on (refused n) = false

-- how many ticks a reply counts for
abbrev pub counted : Reply → ℕ
counted (word w) = 0
counted done = 0
counted (tick n) = 1
counted (refused n) = 0

-- of at most n ticks that are put until the command ends, those that are answered
unfoldable pub answered : ℕ → State → ℕ
answered zero s = 0
answered (suc n) s = cond (runs_on (step s Tick).1) (suc (answered n (step s Tick).0)) (counted (step s Tick).1)

-- and where the chip stands after them
unfoldable pub ended : ℕ → State → State
ended zero s = s
ended (suc n) s = cond (runs_on (step s Tick).1) (ended n (step s Tick).0) (step s Tick).0
