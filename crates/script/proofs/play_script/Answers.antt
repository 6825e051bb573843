use Rattle.std.proofs.Common.{ℕ, List, ◌++◌, sym, refl, ap, ◌∙◌, subst}
use Rattle.onenand_rules.specs.declared.calls.Call.{Call}
use Rattle.onenand_rules.specs.Steps.{after}
use Rattle.onenand_laws.specs.Promise.{Stopped}
use Rattle.onenand_laws.proofs.Whole.{played}
use Rattle.onenand.specs.Chips.{state_of}
use Rattle.script_forms.specs.Lines.{lines_of}
use Rattle.script_entries.specs.declared.entries.Entry.{Entry}
use Rattle.script_entries.specs.Texts.{line_of}
use Rattle.script.specs.Puts.{calls_of}
use Rattle.script.specs.Transcript.{told}
use Rattle.script.proofs.Lengths.{text_long, text_short, calls_long, calls_short}
use Rattle.script.proofs.play_script.Goals as goal

pub returns-then-is_too_long : goal.returns-then-is_too_long
returns-then-is_too_long g c =
    let s = state_of c.args.chip.now in
    let script = c.args.script.now in
    let long = sym c.is_too_long.ensures ∙ c.if-is_too_long.true in
    let none = ap (after s) (sym (calls_long script s long)) in
    record {
      text = c.in_ok-add_entry.ensures ∙ ap (λ (o : List ℕ). o ++ line_of c.too_long.result) c.new-out.ensures.bytes ∙ ap (λ (e : Entry). line_of e) c.too_long.ensures ∙ sym (text_long script s long);
      state = none;
      stopped = (0, refl);
      promise = played s (calls_of script s) s none;
    }

pub returns-in_err-play_lines-clause-stopped : goal.returns-in_err-play_lines-clause-stopped
returns-in_err-play_lines-clause-stopped g c =
    let s = state_of c.args.chip.now in
    let there = state_of c.play_lines.new.chip in
    let short = sym c.is_too_long.ensures ∙ c.if-is_too_long.false in
    subst (λ (cs : List Call). Stopped s cs there) (sym (calls_short c.args.script.now s short)) c.play_lines.ensures.stopped

pub returns : goal.returns
returns g c =
    let s = state_of c.args.chip.now in
    let there = state_of c.play_lines.new.chip in
    let script = c.args.script.now in
    let short = sym c.is_too_long.ensures ∙ c.if-is_too_long.false in
    let led = c.in_ok-play_lines.ensures.state ∙ ap (after s) (sym (calls_short script s short)) in
    record {
      text = c.in_ok-play_lines.ensures.text ∙ ap (λ (o : List ℕ). o ++ told 1 (lines_of script) s) c.new-out.ensures.bytes ∙ sym (text_short script s short);
      state = led;
      stopped = subst (λ (cs : List Call). Stopped s cs there) (sym (calls_short script s short)) c.play_lines.ensures.stopped;
      promise = played s (calls_of script s) there led;
    }
