-- What a script prints.
use Rattle.std.specs.Prelude.{ℕ, ◌+◌, cond, List, [], ◌∷◌, ◌++◌, Ok, Err, Result}
use Rattle.onenand_rules.specs.declared.calls.Call.TheVariants.{Read, Write}
use Rattle.onenand_rules.specs.State.{State}
use Rattle.onenand_rules.specs.Calls.{Reply, word, done, tick as ticked, refused}
use Rattle.onenand_rules.specs.Steps.{step, after}
use Rattle.onenand_laws.specs.Observer.{peek}
use Rattle.script_forms.specs.declared.parts.Place.{Place}
use Rattle.script_forms.specs.Lines.{lines_of}
use Rattle.script_forms.specs.Grammar.{Asked, read, write, tick, warm, cold, form_of}
use Rattle.script_entries.specs.declared.faults.Fault.{Fault}
use Rattle.script_entries.specs.declared.faults.Fault.TheVariants.{NoForm, TooLong}
use Rattle.script_entries.specs.declared.faults.Code.{Code}
use Rattle.script_entries.specs.declared.entries.Entry.{Entry}
use Rattle.script_entries.specs.declared.entries.Entry.TheVariants.{Word, Written, Ticked, Warm, Cold, Refused}
use Rattle.script_entries.specs.Codes.{chip_code, code_of}
use Rattle.script_entries.specs.Texts.{line_of}
use Rattle.script.specs.Puts.{ran, calls_of_line, is_too_long}

-- what the code gives for a form, its fault by layer and number
abbrev pub coded : Result Entry Fault → Result Entry Code
coded (Ok e) = Ok e
coded (Err f) = Err (code_of f)

-- an entry, unless the chip refused the call
abbrev pub unless : Reply → Entry → Result Entry Code
unless (word w) e = Ok e
unless done e = Ok e
unless (ticked n) e = Ok e
unless (refused n) e = Err (chip_code n)

-- what a form gives where the chip stands so: an entry, or the chip's refusal
abbrev pub performed : State → Asked → Result Entry Code
performed s (read a) = unless (step s (Read a)).1 (Word a (peek s a))
performed s (write a w) = unless (step s (Write a w)).1 (Written a w)
performed s (tick n) = Ok (Ticked (ran n s))
performed s warm = Ok Warm
performed s cold = Ok Cold

-- a line's number and a column
abbrev pub place : ℕ → ℕ → Place
place n k = record { line = n; column = k }

-- the chip's refusals stand at column 1
abbrev pub placed : ℕ → Result Entry Code → Entry
placed n (Ok e) = e
placed n (Err c) = Refused c (place n 1)

-- the entry for line n, by what the line asks or the column at which it is no form
abbrev pub entry_for : ℕ → State → Result Asked ℕ → Entry
entry_for n s (Ok f) = placed n (performed s f)
entry_for n s (Err k) = Refused (code_of NoForm) (place n k)

-- what lines print, the first of them being line n
abbrev pub told : ℕ → List (List ℕ) → State → List ℕ
told n [] s = []
told n (l ∷ ls) s = line_of (entry_for n s (form_of l)) ++ told (n + 1) ls (after s (calls_of_line s (form_of l)))

-- the one entry of a script that is too long
abbrev pub too_long : Entry
too_long = Refused (code_of TooLong) (place 1 1)

-- what a script prints: of one that is too long nothing is played
unfoldable pub transcript : List ℕ → State → List ℕ
transcript script s = cond (is_too_long script) (line_of too_long) (told 1 (lines_of script) s)
