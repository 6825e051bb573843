use Rattle.std.proofs.Common.{sym, ap, ◌∙◌}
use Rattle.onenand_rules.specs.declared.calls.Call.{Call}
use Rattle.onenand_rules.specs.Steps.{step}
use Rattle.onenand.specs.Chips.{state_of}
use Rattle.onenand_play.proofs.answer.Goals as goal

pub returns-in-Cold-clause-state : goal.returns-in-Cold-clause-state
returns-in-Cold-clause-state g c = c.cold.ensures.state ∙ sym (ap (λ (k : Call). (step (state_of c.args.chip.now) k).0) c.in-Cold.is)
