use Rattle.std.proofs.Common.{rules}
use Rattle.calibration.proofs.Comparing.{same_test}
use Rattle.calibration.proofs.are_same.Goals as goal

pub returns-then-a-b : goal.returns-then-a-b
returns-then-a-b c = same_test c.args.a.now c.args.b.now c.all.result c.if-a-b.true (λ e. search rules, λ h. search rules)
