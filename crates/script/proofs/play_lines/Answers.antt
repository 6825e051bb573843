use Rattle.std.proofs.Common.{ℕ, ◌+◌, ◌++◌, string_bytes, ap, ◌∙◌}
use Rattle.onenand.specs.Chips.{state_of}
use Rattle.script_forms.specs.Lines.{lines_of}
use Rattle.script_forms.specs.Parts.{left}
use Rattle.script_forms.specs.Grammar.{form_of}
use Rattle.script.specs.Puts.{calls_of_lines}
use Rattle.script.specs.Transcript.{entry_for, told}
use Rattle.script.proofs.Playing.{told_more, way_on, way_stopped}
use Rattle.script.proofs.play_lines.Goals as goal

pub loop-line-preserved : goal.loop-line-preserved
loop-line-preserved g c =
    let start = state_of c.args.chip.now in
    let here = state_of c.loop-line.chip in
    let there = state_of c.play_line-entry.new.chip in
    let lines = lines_of c.args.script.now in
    let l = c.in-Some.line.bytes.now in
    let now = left c.loop-line.line-iterator in
    let more = left c.next.new.self in
    let printed = string_bytes c.add_entry.new.out in
    let got = c.in-Some.ensures.steps in
    let gives = c.play_line-entry.ensures.entry ∙ ap (λ (k : ℕ). entry_for k here (form_of l)) got.1 in
    let goes = c.play_line-entry.ensures.state in (
      ap (λ (k : ℕ). printed ++ told (k + 1) more there) got.2
          ∙ told_more (c.loop-line.line-iterator.lines + 1) l now more here there c.play_line-entry.result (string_bytes c.loop-line.out) printed (string_bytes c.args.out.now ++ told 1 lines start)
          got.0 gives goes c.in_ok-add_entry.ensures c.loop-line.invariant.0,
      way_on start here there l now more (calls_of_lines lines start) got.0 goes c.loop-line.invariant.1,
    )

pub returns-in_err-add_entry-clause-stopped : goal.returns-in_err-add_entry-clause-stopped
returns-in_err-add_entry-clause-stopped g c =
    let start = state_of c.args.chip.now in
    let there = state_of c.play_line-entry.new.chip in
    let all = calls_of_lines (lines_of c.args.script.now) start in
    let more = left c.next.new.self in
    way_stopped start there more all
    (way_on start (state_of c.loop-line.chip) there c.in-Some.line.bytes.now (left c.loop-line.line-iterator) more all c.in-Some.ensures.steps.0 c.play_line-entry.ensures.state c.loop-line.invariant.1)

pub returns-clause-stopped : goal.returns-clause-stopped
returns-clause-stopped g c =
    let start = state_of c.args.chip.now in
    way_stopped start (state_of c.loop-line.chip) (left c.loop-line.line-iterator) (calls_of_lines (lines_of c.args.script.now) start) c.loop-line.invariant.1
