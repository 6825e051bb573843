use Rattle.std.proofs.Common.{ap, ◌∙◌}
use Rattle.onenand_rules.specs.Resets.{fresh_core}
use Rattle.onenand_steps.proofs.Stands.{same_state}
use Rattle.onenand_steps.proofs.power.core_over.Goals as goal

pub returns : goal.returns
returns g c = same_state (c.fresh_core.ensures ∙ ap (fresh_core c.args.device c.args.version) c.boot_words-boot.ensures.words) c.boot_words-boot.ensures.same
