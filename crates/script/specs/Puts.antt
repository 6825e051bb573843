-- The calls that a script puts to a chip. How many ticks are put depends on the replies, so each definition takes the state.
use Rattle.std.specs.Prelude.{ℕ, zero, suc, Bool, true, false, cond, List, [], ◌∷◌, ◌++◌, length, Ok, Err, Result, nat_lt}
use Rattle.onenand_rules.specs.declared.calls.Call.{Call}
use Rattle.onenand_rules.specs.declared.calls.Call.TheVariants.{Read, Write, Tick, Warm, Cold}
use Rattle.onenand_rules.specs.State.{State}
use Rattle.onenand_rules.specs.Calls.{Reply, word, done, tick as ticked, refused}
use Rattle.onenand_rules.specs.Steps.{step, after}
use Rattle.script_forms.specs.Lines.{lines_of}
use Rattle.script_forms.specs.Grammar.{Asked, read, write, tick, warm, cold, form_of}

-- the reply is a refusal
abbrev pub is_refused : Reply → Bool
is_refused (word w) = false
is_refused done = false
is_refused (ticked n) = false
is_refused (refused n) = true

-- of n ticks that are asked for, those that run: none from the first that is refused on
abbrev pub ran : ℕ → State → ℕ
ran zero s = 0
ran (suc n) s = cond (is_refused (step s Tick).1) 0 (suc (ran n (step s Tick).0))

-- and those that are put, the first that is refused being the last
abbrev pub ticks_put : ℕ → State → List Call
ticks_put zero s = []
ticks_put (suc n) s = Tick ∷ cond (is_refused (step s Tick).1) [] (ticks_put n (step s Tick).0)

-- the calls that a form puts
abbrev pub calls_for : State → Asked → List Call
calls_for s (read a) = Read a ∷ []
calls_for s (write a w) = Write a w ∷ []
calls_for s (tick n) = ticks_put n s
calls_for s warm = Warm ∷ []
calls_for s cold = Cold ∷ []

-- and a line: none if it is no form
abbrev pub calls_of_line : State → Result Asked ℕ → List Call
calls_of_line s (Ok f) = calls_for s f
calls_of_line s (Err k) = []

-- and some lines
abbrev pub calls_of_lines : List (List ℕ) → State → List Call
calls_of_lines [] s = []
calls_of_lines (l ∷ ls) s = calls_of_line s (form_of l) ++ calls_of_lines ls (after s (calls_of_line s (form_of l)))

-- a script may have 16,384 bytes
abbrev pub is_too_long : List ℕ → Bool
is_too_long script = nat_lt 16384 (length script)

-- and a script: none if it is too long
unfoldable pub calls_of : List ℕ → State → List Call
calls_of script s = cond (is_too_long script) [] (calls_of_lines (lines_of script) s)
