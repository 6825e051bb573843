-- How an answer is printed.
use Rattle.std.specs.Prelude.{ℕ, List, ◌++◌, Ok, Err, Result, codes, decimal}
use Rattle.flash.specs.Texts.{hex_word}
use Rattle.onenand_rules.specs.declared.calls.Answer.{Answer}
use Rattle.onenand_rules.specs.declared.calls.Answer.TheVariants.{Word, Done, Ticked}
use Rattle.onenand_rules.specs.declared.calls.Progress.TheVariants.{Running, Ended}
use Rattle.onenand_rules.specs.declared.calls.Refusal.{Refusal}
use Rattle.onenand_rules.specs.Calls.{number_of}

-- a read's word, a tick's 1 or 0, or the number of a refusal
abbrev pub text : Result Answer Refusal → List ℕ
text (Ok (Word w)) = hex_word w
text (Ok Done) = codes "done"
text (Ok (Ticked Running)) = codes "1"
text (Ok (Ticked Ended)) = codes "0"
text (Err e) = codes "refused with " ++ decimal (number_of e)
