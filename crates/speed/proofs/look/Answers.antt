use Rattle.std.proofs.Common.{◌∙◌}
use Rattle.onenand.specs.Chips.{state_of}
use Rattle.speed.proofs.Load.{reads_there}
use Rattle.speed.proofs.look.Goals as goal

pub returns : goal.returns
returns g c = c.unwrap_or.ensures ∙ reads_there (state_of c.args.chip.now) c.args.address c.read.result c.read.ensures
