-- What each call leaves as it was.
use Rattle.std.specs.Prelude.{◌≡◌, ℕ, ◌<◌}
use Rattle.flash.specs.Meaning.{Meaning}
use Rattle.onenand_rules.specs.declared.calls.Call.{Call}
use Rattle.onenand_rules.specs.declared.calls.Call.TheVariants.{Read, Write, Tick, Warm, Cold}
use Rattle.onenand_rules.specs.declared.plans.Running.{Running}
use Rattle.onenand_rules.specs.declared.plans.Running.TheVariants.{Idle, Runs}
use Rattle.onenand_rules.specs.Plans.{ticks_of}
use Rattle.onenand_rules.specs.State.{State}
use Rattle.onenand_rules.specs.Steps.{step}

-- the device words
pub record SameDevice (s s' : State) : Type 0 where
  pub device : s'.core.device ≡ s.core.device
  pub version : s'.core.version ≡ s.core.version

-- the array's count and its dead sets, which never change
pub record SameSizes (m m' : Meaning) : Type 0 where
  pub count : m'.count ≡ m.count
  pub dead_page : m'.dead_page ≡ m.dead_page
  pub dead_block : m'.dead_block ≡ m.dead_block

-- all that a write leaves: it reaches registers, DataRAM and the running command alone
pub record LeftByWrite (s s' : State) : Type 0 where
  pub array : s'.array ≡ s.array
  pub locks : s'.core.locks ≡ s.core.locks
  pub bootram : s'.core.bootram ≡ s.core.bootram
  pub protection : s'.core.registers.protection ≡ s.core.registers.protection

-- what a warm reset leaves
pub record LeftByWarm (s s' : State) : Type 0 where
  pub array : s'.array ≡ s.array
  pub dataram : s'.core.dataram ≡ s.core.dataram
  pub bootram : s'.core.bootram ≡ s.core.bootram

-- a running command has had fewer ticks than it takes
abbrev pub Within : Running → Type 0
Within Idle = Unit {0}
Within (Runs p k) = k < ticks_of p

-- of any state: the frame of each call, what it leaves as it was
pub record Frames (s : State) : Type 0 where
  pub device : (c : Call) → SameDevice s (step s c).0
  pub sizes : (c : Call) → SameSizes s.array (step s c).0.array
  pub within : (c : Call) → Within s.core.running → Within (step s c).0.core.running
  pub read : (a : ℕ) → (step s (Read a)).0 ≡ s
  pub write : (a w : ℕ) → LeftByWrite s (step s (Write a w)).0
  pub tick : (step s Tick).0.core.bootram ≡ s.core.bootram
  pub warm : LeftByWarm s (step s Warm).0
  pub cold : (step s Cold).0.array ≡ s.array
