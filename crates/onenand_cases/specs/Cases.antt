-- Cases that were checked by hand, as statements about the definition of the chip.
use Rattle.std.specs.Prelude.{◌≡◌, List, [], ◌∷◌, ◌++◌, false, ℕ, ◌+◌, ◌*◌, replicate}
use Rattle.flash.specs.Meaning.{Meaning}
use Rattle.image.specs.Layout.{in_block, place}
use Rattle.onenand_protection.specs.declared.Lock.TheVariants.{Locked, Unlocked}
use Rattle.onenand_rules.specs.declared.calls.Call.{Call}
use Rattle.onenand_rules.specs.declared.calls.Call.TheVariants.{Read, Write, Tick}
use Rattle.onenand_rules.specs.State.{State}
use Rattle.onenand_rules.specs.Calls.{Reply, word, tick, refused}
use Rattle.onenand_rules.specs.Resets.{powered_up}
use Rattle.onenand_rules.specs.Steps.{step, after, replies}

-- an array of 8 blocks, nothing dead, every word 0FF0h
abbrev pub plain : Meaning
plain = record { count = 8; word = λ b p w. 0x0FF0; dead_page = λ b p. false; dead_block = λ b. false }

-- a chip over it, as power comes on
abbrev pub fresh : State
fresh = powered_up 0x0004 0x0000 plain

-- what a read of a answers after some calls
abbrev pub read_after : State → List Call → ℕ → Reply
read_after s cs a = (step (after s cs) (Read a)).1

-- INT cleared, a command written, and n ticks
abbrev pub command_with : ℕ → ℕ → List Call
command_with c n = Write 0xF241 0x0000 ∷ Write 0xF220 c ∷ replicate n Tick

-- the range of blocks from a to z, and a protection command over it
abbrev pub protect : ℕ → ℕ → ℕ → List Call
protect c a z = Write 0xF24C a ∷ Write 0xF24D z ∷ command_with c 1

-- F200h and F107h keep the bits of their masks, wherever the chip stands
pub record Masks : Type 0 where
  pub buffer : (s : State) → read_after s (Write 0xF200 0xFFFF ∷ []) 0xF200 ≡ word 0x0D01
  pub page : (s : State) → read_after s (Write 0xF107 0xFFFF ∷ []) 0xF107 ≡ word 0x00FD

-- a load with F200h 0D00h, cut after n ticks by a core reset
abbrev pub cut_load : ℕ → List Call
cut_load n = Write 0xF200 0x0D00 ∷ command_with 0x0000 n ++ (Write 0xF220 0x00F0 ∷ Tick ∷ [])

-- F200h 0D00h takes D1_1, then D1_0: both are taken while the load runs, D0_0 and D0_1 are not,
-- and after the 264 ticks of one sector D1_1 is loaded and D1_0 is not
pub record Turns : Type 0 where
  pub taken : replies (after fresh (Write 0xF200 0x0D00 ∷ command_with 0x0000 0)) (Read 0x0500 ∷ Read 0x8028 ∷ Read 0x0400 ∷ Read 0x8020 ∷ []) ≡ refused 7 ∷ refused 7 ∷ refused 7 ∷ refused 7 ∷ []
  pub free : replies (after fresh (Write 0xF200 0x0D00 ∷ command_with 0x0000 0)) (Read 0x0200 ∷ Read 0x8010 ∷ Read 0x0300 ∷ Read 0x8018 ∷ []) ≡ word 0xFFFF ∷ word 0xFFFF ∷ word 0xFFFF ∷ word 0xFFFF ∷ []
  pub first : replies (after fresh (cut_load 264)) (Read 0x0500 ∷ Read 0x05FF ∷ Read 0x8028 ∷ Read 0x802F ∷ []) ≡ word 0x0FF0 ∷ word 0x0FF0 ∷ word 0x0FF0 ∷ word 0x0FF0 ∷ []
  pub then : replies (after fresh (cut_load 264)) (Read 0x0400 ∷ Read 0x04FF ∷ Read 0x8020 ∷ Read 0x8027 ∷ []) ≡ word 0xFFFF ∷ word 0xFFFF ∷ word 0xFFFF ∷ word 0xFFFF ∷ []
  pub next : replies (after fresh (cut_load 265)) (Read 0x0400 ∷ Read 0x0401 ∷ []) ≡ word 0x0FF0 ∷ word 0xFFFF ∷ []

-- word 527 of page 63 lies at 33,791 in its block
pub record LastWord : Type 0 where
  pub of_block : in_block 63 527 ≡ 33791
  pub in_image : (b : ℕ) → place b 63 527 ≡ b * 33792 + 33791

-- 1234h programmed over 0FF0h leaves 0230h
abbrev pub program_one : List Call
program_one = protect 0x0023 0 7 ++ (Write 0xF100 3 ∷ Write 0xF200 0x0801 ∷ Write 0x0200 0x1234 ∷ command_with 0x0080 264)

pub record Ands : Type 0 where
  pub ends : read_after fresh program_one 0xF240 ≡ word 0x0000
  pub leaves : (after fresh program_one).array.word 3 0 0 ≡ 0x0230

-- a two-sector load: tick 527 answers 1, tick 528 answers 0, the next is refused with 11
abbrev pub LongLoad : Type 0
LongLoad = replies (after fresh (Write 0xF200 0x0800 ∷ command_with 0x0000 526)) (Tick ∷ Tick ∷ Tick ∷ []) ≡ tick 1 ∷ tick 0 ∷ refused 11 ∷ []

-- with 8 blocks, a load with F200h 0001h ends with F240h 6400h, and command 0001h with 0400h
pub record FailedChecks : Type 0 where
  pub boot_chosen : replies (after fresh (Write 0xF200 0x0001 ∷ command_with 0x0000 0)) (Tick ∷ Read 0xF240 ∷ []) ≡ tick 0 ∷ word 0x6400 ∷ []
  pub no_command : replies (after fresh (command_with 0x0001 0)) (Tick ∷ Read 0xF240 ∷ []) ≡ tick 0 ∷ word 0x0400 ∷ []

-- with 8 blocks, unlock 2 to 5 and then 4 to 6 leaves 4, 5 and 6 unlocked, and all others locked
abbrev pub Unlocks : Type 0
Unlocks = (after fresh (protect 0x0023 2 5 ++ protect 0x0023 4 6)).core.locks ≡ replicate 4 Locked ++ (replicate 3 Unlocked ++ replicate 249 Locked)

-- with 8 blocks, tight 3 to 3 and then unlock 2 to 4: F24Eh stays 0001h, INT rises, and no Error shows
abbrev pub tight_then_unlock : List Call
tight_then_unlock = protect 0x002C 3 3 ++ protect 0x0023 2 4

pub record TightStays : Type 0 where
  pub protection : read_after fresh tight_then_unlock 0xF24E ≡ word 0x0001
  pub interrupt : read_after fresh tight_then_unlock 0xF241 ≡ word 0x8000
  pub status : read_after fresh tight_then_unlock 0xF240 ≡ word 0x0000
  pub table : (after fresh tight_then_unlock).core.locks ≡ (after fresh (protect 0x002C 3 3)).core.locks

-- all of them
pub record HandChecked : Type 0 where
  pub masks : Masks
  pub turns : Turns
  pub last_word : LastWord
  pub ands : Ands
  pub long_load : LongLoad
  pub failed_checks : FailedChecks
  pub unlocks : Unlocks
  pub tight_stays : TightStays
