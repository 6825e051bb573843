use Rattle.std.proofs.Common.{◌≡◌, ◌+◌, ◌++◌, string_bytes}
use Rattle.onenand.specs.Chips.{state_of}
use Rattle.script_forms.specs.Lines.{lines_of}
use Rattle.script_forms.specs.Parts.{left}
use Rattle.script.specs.Puts.{calls_of_lines}
use Rattle.script.specs.Transcript.{told}
use Rattle.script.proofs.Playing.{Way}
use Rattle.script.proofs.play_lines.Given as goal

-- what is printed, and what the lines that are left will print, is what all print; and so with the calls
abbrev pub invariant-loop-line : goal.invariant-loop-line
invariant-loop-line g l =
    let here = state_of l.chip in
    let start = state_of l.initial.chip in
    (string_bytes l.out ++ told (l.line-iterator.lines + 1) (left l.line-iterator) here ≡ string_bytes l.initial.out ++ told 1 (lines_of l.script) start)
    × Way start (left l.line-iterator) here (calls_of_lines (lines_of l.script) start)
