-- What the chip answers, in the words of the rules, and how the code's answers say it.
use Rattle.std.specs.Prelude.{ℕ, Ok, Err, Result}
use Rattle.onenand_rules.specs.declared.calls.Refusal.{Refusal}
use Rattle.onenand_rules.specs.declared.calls.Refusal.TheVariants.{Unassigned, Taken, ReadOnly, Busy, Pending, NoCommand}
use Rattle.onenand_rules.specs.declared.calls.Progress.{Progress}
use Rattle.onenand_rules.specs.declared.calls.Progress.TheVariants.{Running, Ended}
use Rattle.onenand_rules.specs.declared.calls.Answer.{Answer}
use Rattle.onenand_rules.specs.declared.calls.Answer.TheVariants.{Word, Done, Ticked}

-- a reply of the chip: a read's word, nothing, a tick's 1 or 0, or the number of a refusal
pub data Reply : Type 0 where
  word : ℕ → Reply
  done : Reply
  tick : ℕ → Reply
  refused : ℕ → Reply

-- the number of each refusal
abbrev pub number_of : Refusal → ℕ
number_of Unassigned = 6
number_of Taken = 7
number_of ReadOnly = 8
number_of Busy = 9
number_of Pending = 10
number_of NoCommand = 11

-- a tick answers 1 while the command runs on, and 0 when it ended
abbrev pub tick_number : Progress → ℕ
tick_number Running = 1
tick_number Ended = 0

-- what a call of the code says, by what it answers where it is not refused
abbrev pub reply_by : {A : Type 0} → (A → Reply) → Result A Refusal → Reply
reply_by answer (Ok a) = answer a
reply_by answer (Err e) = refused (number_of e)

-- so a read, a write and a tick
abbrev pub read_reply : Result ℕ Refusal → Reply
read_reply r = reply_by word r

abbrev pub write_reply : Result (Unit {0}) Refusal → Reply
write_reply r = reply_by (λ u. done) r

abbrev pub tick_reply : Result Progress Refusal → Reply
tick_reply r = reply_by (λ p. tick (tick_number p)) r

-- and any call
abbrev pub answer_reply : Answer → Reply
answer_reply (Word w) = word w
answer_reply Done = done
answer_reply (Ticked p) = tick (tick_number p)

abbrev pub reply_of : Result Answer Refusal → Reply
reply_of r = reply_by answer_reply r
