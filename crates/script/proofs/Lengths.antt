-- A script that is too long, and one that is not.
use Rattle.std.proofs.Common.{◌≡◌, ℕ, true, false, cond, List, [], ap}
use Rattle.onenand_rules.specs.State.{State}
use Rattle.script_forms.specs.Lines.{lines_of}
use Rattle.script_entries.specs.Texts.{line_of}
use Rattle.script.specs.Puts.{is_too_long, calls_of_lines, calls_of}
use Rattle.script.specs.Transcript.{told, too_long, transcript}

module _ (script : List ℕ) (s : State) where
  pub text_long : is_too_long script ≡ true → transcript script s ≡ line_of too_long
  unfolding transcript
  text_long e = ap (λ b. cond b (line_of too_long) (told 1 (lines_of script) s)) e

  pub text_short : is_too_long script ≡ false → transcript script s ≡ told 1 (lines_of script) s
  unfolding transcript
  text_short e = ap (λ b. cond b (line_of too_long) (told 1 (lines_of script) s)) e

  pub calls_long : is_too_long script ≡ true → calls_of script s ≡ []
  unfolding calls_of
  calls_long e = ap (λ b. cond b [] (calls_of_lines (lines_of script) s)) e

  pub calls_short : is_too_long script ≡ false → calls_of script s ≡ calls_of_lines (lines_of script) s
  unfolding calls_of
  calls_short e = ap (λ b. cond b [] (calls_of_lines (lines_of script) s)) e
