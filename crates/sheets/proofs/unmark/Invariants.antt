use Rattle.std.proofs.Common.{◌≡◌, ◌++◌, map, take, drop}
use Rattle.sheets.specs.Contents.{unmarked}
use Rattle.sheets.proofs.unmark.Given as goal

abbrev pub invariant-loop-sheet : goal.invariant-loop-sheet
invariant-loop-sheet l = l.sheet-items ≡ map (unmarked l.block) (take l.sheet-index l.initial.sheet-items) ++ drop l.sheet-index l.initial.sheet-items
