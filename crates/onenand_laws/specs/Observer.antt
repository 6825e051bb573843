-- What an onlooker follows of a run, by the calls and the replies to them alone:
-- which command is under way, how each block is protected, and the words that a block had when it was last unlocked.
use Rattle.std.specs.Prelude.{ℕ, zero, suc, ◌+◌, Bool, true, false, cond, ◌&&◌, ◌||◌, List, [], ◌∷◌, ◌==◌}
use Rattle.flash.specs.Meaning.{Meaning}
use Rattle.onenand_protection.specs.declared.Lock.{Lock}
use Rattle.onenand_protection.specs.declared.Lock.TheVariants.{Locked}
use Rattle.onenand_protection.specs.Protection.{is_unlocked, protected}
use Rattle.onenand_rules.specs.declared.calls.Call.{Call}
use Rattle.onenand_rules.specs.declared.calls.Call.TheVariants.{Read, Write, Tick, Warm, Cold}
use Rattle.onenand_rules.specs.declared.commands.Command.{Command}
use Rattle.onenand_rules.specs.declared.commands.Command.TheVariants.{Load, Program, CopyBack, Erase, Verify, Protect, Reset, Unknown}
use Rattle.onenand_rules.specs.Commands.{command_of}
use Rattle.onenand_rules.specs.State.{State}
use Rattle.onenand_rules.specs.Calls.{Reply, word, done, tick, refused}
use Rattle.onenand_rules.specs.Resets.{powered_up}
use Rattle.onenand_rules.specs.Steps.{step}

-- the word in a reply, and 0 where there is none
abbrev pub word_in : Reply → ℕ
word_in (word w) = w
word_in done = 0
word_in (tick n) = 0
word_in (refused n) = 0

-- the word that a read of an address would answer, were it put next
abbrev pub peek : State → ℕ → ℕ
peek s a = word_in (step s (Read a)).1

-- the command under way: none, or `started s c k`, the one of code word c, whose write was accepted when the chip stood at s,
-- before that write, and which has had k ticks
pub data Underway : Type 0 where
  none : Underway
  started : State → ℕ → ℕ → Underway

-- one tick more
abbrev pub longer : Underway → Underway
longer none = none
longer (started from c k) = started from c (k + 1)

-- a command starts when its write to F220h is accepted, ends at its tick that answers 0, and is dropped by a reset
abbrev pub underway_after : Underway → State → Call → Reply → Underway
underway_after u s (Read a) r = u
underway_after u s (Write a c) (word w) = u
underway_after u s (Write a c) done = cond (a == 0xF220) (started s c 0) u
underway_after u s (Write a c) (tick n) = u
underway_after u s (Write a c) (refused n) = u
underway_after u s Tick (word w) = u
underway_after u s Tick done = u
underway_after u s Tick (tick zero) = none
underway_after u s Tick (tick (suc n)) = longer u
underway_after u s Tick (refused n) = u
underway_after u s Warm r = none
underway_after u s Cold r = none

-- what the end of a command makes of the block states: a protection command is obeyed or ignored, any other leaves them
abbrev pub locks_ended : ℕ → Command → ℕ → ℕ → (ℕ → Lock) → ℕ → Lock
locks_ended n (Load p) a z t = t
locks_ended n (Program p) a z t = t
locks_ended n CopyBack a z t = t
locks_ended n Erase a z t = t
locks_ended n Verify a z t = t
locks_ended n (Protect l) a z t = protected n l a z t
locks_ended n (Reset r) a z t = t
locks_ended n Unknown a z t = t

-- with the range that F24Ch and F24Dh held at its start
abbrev pub locks_by : ℕ → Underway → (ℕ → Lock) → ℕ → Lock
locks_by n none t b = t b
locks_by n (started from c k) t b = locks_ended n (command_of c) (peek from 0xF24C) (peek from 0xF24D) t b

-- the block states after a call: warm and cold resets lock every block
abbrev pub locks_after_call : ℕ → Underway → (ℕ → Lock) → Call → Reply → ℕ → Lock
locks_after_call n u t (Read a) r b = t b
locks_after_call n u t (Write a w) r b = t b
locks_after_call n u t Tick (word w) b = t b
locks_after_call n u t Tick done b = t b
locks_after_call n u t Tick (tick zero) b = locks_by n u t b
locks_after_call n u t Tick (tick (suc i)) b = t b
locks_after_call n u t Tick (refused i) b = t b
locks_after_call n u t Warm r b = Locked
locks_after_call n u t Cold r b = Locked

-- a moment of a run: where the chip stands, what is under way, how each block is protected,
-- and the words that each block had after the last call that left it unlocked, or else at power-up
pub record Moment : Type 0 where
  pub chip : State
  pub underway : Underway
  pub lock : ℕ → Lock
  pub kept : ℕ → ℕ → ℕ → ℕ

-- power-up
abbrev pub begins : ℕ → ℕ → Meaning → Moment
begins d v m = record { chip = powered_up d v m; underway = none; lock = λ _. Locked; kept = m.word }

-- the moment after a call that led to this state with this reply
abbrev pub after_call : Moment → Call → State × Reply → Moment
after_call t c x =
    let lock : ℕ → Lock = locks_after_call x.0.array.count t.underway t.lock c x.1 in
    record {
      chip = x.0;
      underway = underway_after t.underway t.chip c x.1;
      lock = lock;
      kept = λ b p w. cond (is_unlocked (lock b)) (x.0.array.word b p w) (t.kept b p w);
    }

-- the moment after a call
abbrev pub next : Moment → Call → Moment
next t c = after_call t c (step t.chip c)

-- the moment that a list of calls leads to
unfoldable pub reaches : Moment → List Call → Moment
reaches t [] = t
reaches t (c ∷ cs) = reaches (next t c) cs

-- a call drops what is under way: an accepted 00F0h or 00F3h, a warm or a cold reset
abbrev pub drops : Call → Reply → Bool
drops (Read a) r = false
drops (Write a w) (word v) = false
drops (Write a w) done = a == 0xF220 && (w == 0x00F0 || w == 0x00F3)
drops (Write a w) (tick n) = false
drops (Write a w) (refused n) = false
drops Tick r = false
drops Warm r = true
drops Cold r = true
