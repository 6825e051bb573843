use Rattle.std.proofs.Common.{◌≡◌}
use Rattle.flash.specs.Runs.{run}
use Rattle.flash.proofs.set_all.Given as goal

abbrev pub invariant-loop-x : goal.invariant-loop-x
invariant-loop-x g l = l.x-items ≡ run l.item 0 l.x-index l.initial.x-items
