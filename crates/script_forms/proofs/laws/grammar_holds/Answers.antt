use Rattle.script_forms.proofs.Columns.{column_is_first}
use Rattle.script_forms.proofs.Cutting.{lines_are_the_script}
use Rattle.script_forms.proofs.Texts.{form_is_its_text}
use Rattle.script_forms.proofs.laws.grammar_holds.Goals as goal

pub returns : goal.returns
returns c = record { lines = lines_are_the_script; text = form_is_its_text; column = column_is_first }
