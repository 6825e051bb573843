use Rattle.onenand_laws.proofs.Whole.{promised}
use Rattle.onenand_laws.proofs.promise_holds.Goals as goal

pub returns : goal.returns
returns c = promised
