-- A transcript line by line.
use Rattle.std.specs.Prelude.{◌≡◌, ℕ, ◌+◌, List, ◌++◌, length}
use Rattle.onenand_rules.specs.State.{State}
use Rattle.onenand_rules.specs.Steps.{after}
use Rattle.script.specs.Puts.{calls_of_lines}
use Rattle.script.specs.Transcript.{told}

-- whatever is refused among some lines, the lines after them print what they do where those leave the chip
abbrev pub LinesGoOn : Type 0
LinesGoOn = (n : ℕ) (before rest : List (List ℕ)) (s : State) →
    told n (before ++ rest) s ≡ told n before s ++ told (n + length before) rest (after s (calls_of_lines before s))
