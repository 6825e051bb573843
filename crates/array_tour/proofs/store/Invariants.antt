use Rattle.std.proofs.Common.{◌≡◌, drop}
use Rattle.array_tour.specs.Tables.{stored}
use Rattle.array_tour.proofs.store.Given as goal

abbrev pub invariant-loop-i : goal.invariant-loop-i
invariant-loop-i g l = stored (g.D.Array.meaning l.array) l.page.block l.page.page l.i (drop l.i l.words) ≡ stored (g.D.Array.meaning l.initial.array) l.page.block l.page.page 0 l.words
