use Rattle.std.proofs.Common.{Bool, List, ℕ, [], length, sym, ap}
use Rattle.std.proofs.lemmas.Bool.{eqb-true}
use Rattle.sheets.specs.Checks.{good_sheets}
use Rattle.sheets.proofs.Owning.{pages_owned}
use Rattle.sheets.proofs.Walks.{walk_ends}
use Rattle.sheets.proofs.PageMap.take_each.Goals as goal

pub returns-clause-owned : goal.returns-clause-owned
returns-clause-owned c t =
    let n = c.args.self.now.count in
    let ss = c.args.sheets.now in
    let w = c.loop-sheet in
    let e = walk_ends w.self.count ss w.self.bytes.now w.sheet-index _ w.invariant.0 c.loop-sheet-test.false in
    pages_owned n ss (eqb-true (good_sheets n [] ss) (length ss) (sym (ap (λ (x : Bool × List ℕ). x.0) e)))
