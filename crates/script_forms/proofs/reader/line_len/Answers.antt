use Rattle.std.proofs.Common.{sym, rules}
use Rattle.std.proofs.lemmas.List.Sums.{position_or_len_is}
use Rattle.script_forms.specs.Lines.{is_feed}
use Rattle.script_forms.proofs.reader.line_len.Goals as goal

pub returns-clause-value : goal.returns-clause-value
returns-clause-value c = sym (position_or_len_is is_feed c.args.script.now c.unwrap_or.result 0 (search rules) (search rules) (search rules))
