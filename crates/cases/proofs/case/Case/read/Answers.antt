use Rattle.std.proofs.Common.{[], ◌∷◌, ◌++◌, Some, None, ap, ◌∙◌, lit<}
use Rattle.std.proofs.lemmas.Str.Pattern.{split_parts, split_after, split_text_parts}
use Rattle.cases.proofs.case.Case.read.Goals as goal

pub returns : goal.returns
returns c =
    let first = split_parts 10 c.args.text.now (Some (c.in_ok-name.name, c.in_ok-name.rest)) c.in_ok-name.ensures.cases (lit< tt) in
    let second = split_text_parts (61 ∷ 10 ∷ []) c.in_ok-name.rest.now (Some (c.in_ok-script.script, c.in_ok-script.transcript)) c.in_ok-script.ensures.cases in
    (first.0 ∙ ap (λ xs. c.in_ok-name.name.now ++ (10 ∷ xs)) second, first.1)

pub returns-in_err-name : goal.returns-in_err-name
returns-in_err-name c = rw c.from_residual.ensures
    (λ n s t one e. split_after 10 c.args.text.now n (s ++ (61 ∷ 10 ∷ t)) None c.in_err-name.ensures.cases (lit< tt) e one)

pub returns-in_err-script : goal.returns-in_err-script
returns-in_err-script c = rw c.from_residual-in_err-script.ensures
    (λ n s t one e.
    let first = split_after 10 c.args.text.now n (s ++ (61 ∷ 10 ∷ t)) (Some (c.in_ok-name.name, c.in_ok-name.rest)) c.in_ok-name.ensures.cases (lit< tt) e one in
    split_text_parts (61 ∷ 10 ∷ []) c.in_ok-name.rest.now None c.in_err-script.ensures.cases s t first.1)
