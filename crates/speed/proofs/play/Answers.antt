use Rattle.onenand.specs.Chips.{state_of}
use Rattle.speed.specs.Load.{tally_of}
use Rattle.speed.proofs.Load.{no_round_leads, no_round_counts, round_on}
use Rattle.speed.proofs.play.Goals as goal

pub loop-round-init : goal.loop-round-init
loop-round-init g c =
    let start = state_of c.command-ticks.new.chip in
    (no_round_counts start (tally_of c.command-ticks.result 0), no_round_leads start)

pub loop-round-preserved : goal.loop-round-preserved
loop-round-preserved g c =
    let start = state_of c.command-ticks.new.chip in
    let here = state_of c.loop-round.chip in
    let there = state_of c.play_round.new.chip in
    let told = c.play_round.ensures in
    round_on c.loop-round.round start here there (tally_of c.command-ticks.result 0) c.loop-round.tally c.play_round.new.tally c.loop-round.invariant told.tally told.state
