use Rattle.std.proofs.Common.{◌≡◌}
use Rattle.onenand.specs.Chips.{state_of}
use Rattle.speed.specs.Load.{rounds_end, rounds_tally}
use Rattle.speed.proofs.play.Given as goal

abbrev pub invariant-loop-round : goal.invariant-loop-round
invariant-loop-round g l =
    let here = state_of l.chip in
    let start = state_of l.initial.chip in
    (l.tally ≡ rounds_tally l.round start l.initial.tally)
    × (here ≡ rounds_end l.round start)
