-- Power-up, and the warm and cold resets.
use Rattle.std.specs.Prelude.{ℕ, List, map, replicate}
use Rattle.std.specs.List.{range_with_len}
use Rattle.flash.specs.Geometry.{max_blocks, page_words, blank_word}
use Rattle.flash.specs.Meaning.{Meaning, word_at}
use Rattle.onenand_protection.specs.declared.Lock.{Lock}
use Rattle.onenand_protection.specs.declared.Lock.TheVariants.{Locked}
use Rattle.onenand_protection.specs.Protection.{protection_word}
use Rattle.onenand_registers.specs.Registers.{powered as poweredRegisters, reset}
use Rattle.onenand_rules.specs.declared.plans.Running.TheVariants.{Idle}
use Rattle.onenand_rules.specs.declared.state.Core.{Core}
use Rattle.onenand_rules.specs.State.{State, state_for, state_with}

-- every block locked
abbrev pub all_locked : List Lock
all_locked = replicate max_blocks Locked

-- the boot load: both sectors of block 0, page 0
abbrev pub boot_words : Meaning → List ℕ
boot_words m = map (word_at m 0 0) (range_with_len 0 page_words)

-- what the chip holds as its power comes on, with these boot words
abbrev pub fresh_core : ℕ → ℕ → List ℕ → Core
fresh_core d v boot = record {
  device = d;
  version = v;
  registers = poweredRegisters (protection_word Locked);
  bootram = boot;
  dataram = replicate 1056 blank_word;
  locks = all_locked;
  running = Idle;
}

-- the chip as its power comes on, with device word d and version word v, over an array
abbrev pub powered_up : ℕ → ℕ → Meaning → State
powered_up d v m = state_for (fresh_core d v (boot_words m)) m

-- a warm reset keeps the RAMs, the device words and the array
abbrev pub warmed : State → State
warmed s = state_with s (reset s.core.registers (protection_word Locked)) s.core.dataram all_locked Idle s.array

-- a cold reset is a power-up of the same chip over the same array
abbrev pub cooled : State → State
cooled s = powered_up s.core.device s.core.version s.array
