use Rattle.script.proofs.Going.{lines_go_on}
use Rattle.script.proofs.laws.lines_go_on.Goals as goal

pub returns : goal.returns
returns c = lines_go_on
