-- Lines, and the lines after them.
use Rattle.std.proofs.Common.{◌≡◌, suc, ◌+◌, [], ◌∷◌, ◌++◌, length, sym, ap, ◌∙◌, append_assoc, arith}
use Rattle.onenand_rules.specs.Steps.{after}
use Rattle.onenand_laws.proofs.Whole.{after_more}
use Rattle.script_forms.specs.Grammar.{form_of}
use Rattle.script_entries.specs.Texts.{line_of}
use Rattle.script.specs.Puts.{calls_of_line, calls_of_lines}
use Rattle.script.specs.Transcript.{entry_for, told}
use Rattle.script.specs.Laws.{LinesGoOn}

pub lines_go_on : LinesGoOn
lines_go_on n [] rest s = let e : n ≡ n + 0 = omega arith in ap (λ k. told k rest s) e
lines_go_on n (l ∷ ls) rest s =
    let line = line_of (entry_for n s (form_of l)) in
    let calls = calls_of_line s (form_of l) in
    let there = after s calls in
    let more = calls_of_lines ls there in
    let e : n + 1 + length ls ≡ n + suc (length ls) = omega arith in
    ap (λ x. line ++ x) (lines_go_on (n + 1) ls rest there)
    ∙ sym (append_assoc line (told (n + 1) ls there) (told (n + 1 + length ls) rest (after there more)))
    ∙ ap (λ k. (line ++ told (n + 1) ls there) ++ told k rest (after there more)) e
    ∙ ap (λ x. (line ++ told (n + 1) ls there) ++ told (n + suc (length ls)) rest x) (sym (after_more s calls more))
