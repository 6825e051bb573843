use Rattle.std.proofs.Common.{rules, sym}
use Rattle.script_forms.proofs.Agreeing.{agreed_is}
use Rattle.script_forms.proofs.shapes.agreement.Goals as goal

pub returns-clause-value : goal.returns-clause-value
returns-clause-value c = sym (agreed_is c.args.shape.now c.args.line.now c.count.result (search rules) (search rules) (search rules) (search rules))
