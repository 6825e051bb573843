use Rattle.onenand_laws.proofs.Whole.{promised}
use Rattle.onenand.proofs.chip.Chip.power_up.Goals as goal

pub returns-clause-promise : goal.returns-clause-promise
returns-clause-promise g c calls = promised c.args.device c.args.version (g.D.Array.meaning c.args.array) calls (g.D.Array.capped c.args.array)
