use Rattle.std.proofs.Common.{◌≡◌, map, take, vec_items}
use Rattle.onenand_rules.specs.Calls.{reply_of}
use Rattle.onenand_rules.specs.Steps.{after, replies}
use Rattle.onenand.specs.Chips.{state_of}
use Rattle.onenand_play.proofs.play.Given as goal

-- the calls so far have been put, and answered
abbrev pub invariant-loop-call : goal.invariant-loop-call
invariant-loop-call g l =
    (state_of l.chip ≡ after (state_of l.initial.chip) (take l.call-index l.calls))
    × (map reply_of (vec_items l.answers) ≡ replies (state_of l.initial.chip) (take l.call-index l.calls))
