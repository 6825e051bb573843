use Rattle.std.proofs.Common.{◌≡◌, ◌+◌, ◌-◌}
use Rattle.onenand_rules.specs.Steps.{after}
use Rattle.onenand.specs.Chips.{state_of}
use Rattle.script.specs.Puts.{ran, ticks_put}
use Rattle.script.proofs.run_ticks.Given as goal

-- those that ran, and those that are left and will run, are all that run
abbrev pub invariant-loop-done : goal.invariant-loop-done
invariant-loop-done g l =
    let here = state_of l.chip in
    let start = state_of l.initial.chip in
    (l.done + ran (l.count - l.done) here ≡ ran l.count start)
    × (after here (ticks_put (l.count - l.done) here) ≡ after start (ticks_put l.count start))
