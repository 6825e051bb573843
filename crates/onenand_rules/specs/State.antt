-- The state of the chip: what it holds, beside what its array means.
use Rattle.std.specs.Prelude.{ℕ, List}
use Rattle.flash.specs.Meaning.{Meaning}
use Rattle.onenand_protection.specs.declared.Lock.{Lock}
use Rattle.onenand_registers.specs.declared.registers.Registers.{Registers}
use Rattle.onenand_rules.specs.declared.plans.Running.{Running}
use Rattle.onenand_rules.specs.declared.state.Core.{Core}

-- the core, and the array's meaning
pub record State : Type 0 where
  pub core : Core
  pub array : Meaning

-- the state of these two
abbrev pub state_for : Core → Meaning → State
state_for c m = record { core = c; array = m }

-- the core with other registers, DataRAM, block states and running command
abbrev pub core_with : Core → Registers → List ℕ → List Lock → Running → Core
core_with c r d t u = record { device = c.device; version = c.version; registers = r; bootram = c.bootram; dataram = d; locks = t; running = u }

-- the state with these and another array
abbrev pub state_with : State → Registers → List ℕ → List Lock → Running → Meaning → State
state_with s r d t u m = state_for (core_with s.core r d t u) m

-- the state with other registers alone
abbrev pub with_registers : State → Registers → State
with_registers s r = state_with s r s.core.dataram s.core.locks s.core.running s.array
