use Rattle.std.proofs.Common.{◌≤◌, rules, arith}
use Rattle.std.proofs.lemmas.Grind.{common_steps}
use Rattle.script_forms.specs.Shapes.{read_shape, write_shape, tick_shape, warm_shape, cold_shape, agreed, begun}
use Rattle.script_forms.proofs.shapes.begun.Goals as goal

pub returns-clause-value : goal.returns-clause-value
returns-clause-value c =
    let line = c.args.line.now in
    let read : agreed read_shape line ≤ c.unwrap_or.result = search rules in
    let write : agreed write_shape line ≤ c.unwrap_or.result = search rules in
    let tick : agreed tick_shape line ≤ c.unwrap_or.result = search rules in
    let warm : agreed warm_shape line ≤ c.unwrap_or.result = search rules in
    let cold : agreed cold_shape line ≤ c.unwrap_or.result = search rules in
    let one_of_them : c.unwrap_or.result ≤ begun line = grind (arith, common_steps) in
    omega arith
