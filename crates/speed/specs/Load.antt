-- The load: where its rounds lead a chip, and what they are counted as.
use Rattle.std.specs.Prelude.{ℕ, zero, suc, ◌+◌, ◌*◌, ◌%◌, ◌^◌, cond, ◌==◌}
use Rattle.onenand_rules.specs.declared.calls.Call.TheVariants.{Write}
use Rattle.onenand_rules.specs.State.{State}
use Rattle.onenand_rules.specs.Steps.{step}
use Rattle.onenand_laws.specs.Observer.{peek}
use Rattle.speed.specs.declared.Tally.{Tally}
use Rattle.speed.specs.Ending.{answered, ended}

-- where a write leads
unfoldable pub wrote : State → ℕ → ℕ → State
wrote s a w = (step s (Write a w)).0

-- the word that a read answers, and 0 where it is refused
unfoldable pub shown_at : State → ℕ → ℕ
shown_at s a = peek s a

-- INT cleared, and a command's word written
abbrev pub ordered : State → ℕ → State
ordered s c = wrote (wrote s 0xF241 0x0000) 0xF220 c

-- the ticks that a command then takes, and where they lead
abbrev pub ticks_taken : State → ℕ → ℕ
ticks_taken s c = answered 1056 (ordered s c)

abbrev pub commanded : State → ℕ → State
commanded s c = ended 1056 (ordered s c)

-- round n has its word in the buffer, and both sectors of its page of block 1
abbrev pub prepared : ℕ → State → State
prepared n s = wrote (wrote (wrote (wrote s 0x0200 (n % 65536)) 0xF100 1) 0xF107 (n % 64 * 4)) 0xF200 0x0800

-- it programs the page, loads it, and erases the block after its last page
abbrev pub programmed : ℕ → State → State
programmed n s = commanded (prepared n s) 0x0080

abbrev pub loaded_back : ℕ → State → State
loaded_back n s = commanded (programmed n s) 0x0000

abbrev pub round_end : ℕ → State → State
round_end n s = cond (n % 64 == 63) (commanded (loaded_back n s) 0x0094) (loaded_back n s)

abbrev pub round_ticks : ℕ → State → ℕ
round_ticks n s = ticks_taken (prepared n s) 0x0080 + ticks_taken (programmed n s) 0x0000 + cond (n % 64 == 63) (ticks_taken (loaded_back n s) 0x0094) 0

-- a tally, the tally with n ticks and a loaded word w more, and with a round more
abbrev pub tally_of : ℕ → ℕ → Tally
tally_of t c = record { ticks = t; checksum = c }

abbrev pub counted_on : Tally → ℕ → ℕ → Tally
counted_on t n w = tally_of ((t.ticks + n) % 2 ^ 64) ((t.checksum * 31 % 2 ^ 32 + w) % 2 ^ 32)

abbrev pub tallied : ℕ → State → Tally → Tally
tallied n s t = counted_on t (round_ticks n s) (shown_at (loaded_back n s) 0x0200)

-- where the first n rounds lead, and their tally
unfoldable pub rounds_end : ℕ → State → State
rounds_end zero s = s
rounds_end (suc n) s = round_end n (rounds_end n s)

unfoldable pub rounds_tally : ℕ → State → Tally → Tally
rounds_tally zero s t = t
rounds_tally (suc n) s t = tallied n (rounds_end n s) (rounds_tally n s t)

-- the range of a protection command set to blocks 0 to 1
abbrev pub ranged : State → State
ranged s = wrote (wrote s 0xF24C 0) 0xF24D 1
