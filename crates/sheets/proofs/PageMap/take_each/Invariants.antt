use Rattle.std.proofs.Common.{◌≡◌, [], drop}
use Rattle.sheets.specs.Checks.{good_sheets, cleared, walked}
use Rattle.sheets.proofs.Walks.{given}
use Rattle.sheets.proofs.PageMap.take_each.Given as goal

abbrev pub invariant-loop-sheet : goal.invariant-loop-sheet
invariant-loop-sheet l =
    (walked l.self.count (drop l.sheet-index l.sheets) l.self.bytes.now ≡ given (good_sheets l.fn.self.count [] l.sheets) l.sheets (cleared l.fn.self.count l.fn.self.bytes.now))
    × (l.self.bytes.ghost_name ≡ l.fn.self.bytes.ghost_name)
