use Rattle.std.proofs.Common.{sym, ◌∙◌, arith}
use Rattle.onenand.specs.Chips.{state_of}
use Rattle.script.proofs.Ticking.{ran_on, state_on, state_up}
use Rattle.script.proofs.run_ticks.Goals as goal

pub loop-done-preserved : goal.loop-done-preserved
loop-done-preserved g c =
    let n = c.args.count in
    let k = c.loop-done.done in
    let here = state_of c.loop-done.chip in
    let there = state_of c.tick.new.self in
    let told = c.tick.ensures in
    let runs = c.if-is_err.ensures.value in (
      omega (arith, ran_on n k here there c.tick.result c.loop-done-test.true told.answer told.state runs, c.loop-done.invariant.0),
      sym (state_on n k here there c.tick.result c.loop-done-test.true told.answer told.state runs) ∙ c.loop-done.invariant.1,
    )

pub returns-then-is_err-clause-state : goal.returns-then-is_err-clause-state
returns-then-is_err-clause-state g c =
    let here = state_of c.loop-done.chip in
    let there = state_of c.tick.new.self in
    let told = c.tick.ensures in
    sym (state_up c.args.count c.loop-done.done here there c.tick.result c.loop-done-test.true told.answer told.state c.if-is_err.ensures.value) ∙ c.loop-done.invariant.1
