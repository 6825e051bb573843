use Rattle.std.proofs.Common.{◌≡◌, ◌+◌, ◌-◌}
use Rattle.onenand.specs.Chips.{state_of}
use Rattle.speed.specs.Ending.{answered, ended}
use Rattle.speed.proofs.finish.Given as goal

-- the ticks so far, and those that will be answered, are all
abbrev pub invariant-loop-k : goal.invariant-loop-k
invariant-loop-k g l =
    let here = state_of l.chip in
    let start = state_of l.initial.chip in
    (l.k + answered (1056 - l.k) here ≡ answered 1056 start)
    × (ended (1056 - l.k) here ≡ ended 1056 start)
