-- What each call leaves as it was, by cases on the place that it reaches.
use Rattle.std.proofs.Common.{◌≡◌, ℕ, ◌+◌, ◌<◌, cond, ltb, List, set, refl, ap, arith}
use Rattle.std.proofs.lemmas.Bool.{cond_both, ltb-true}
use Rattle.flash.specs.Meaning.{Meaning}
use Rattle.onenand_protection.specs.declared.Lock.{Lock}
use Rattle.onenand_registers.specs.declared.registers.Registers.{Registers}
use Rattle.onenand_registers.specs.declared.address.Place.{Place}
use Rattle.onenand_registers.specs.declared.address.Place.TheVariants.{Boot, Data, Constant, Device, Version, Operand, Command, Config, Status, Interrupt, Protection, Unassigned}
use Rattle.onenand_registers.specs.Addresses.{place_of}
use Rattle.onenand_registers.specs.Registers.{with_operands, operand_written, config_written, interrupt_written}
use Rattle.onenand_transfer.specs.declared.Part.{Part}
use Rattle.onenand_transfer.specs.Transfers.{size}
use Rattle.onenand_rules.specs.declared.calls.Call.{Call}
use Rattle.onenand_rules.specs.declared.calls.Call.TheVariants.{Read, Write, Tick, Warm, Cold}
use Rattle.onenand_rules.specs.declared.plans.Action.{Action}
use Rattle.onenand_rules.specs.declared.plans.Plan.{Plan}
use Rattle.onenand_rules.specs.declared.plans.Plan.TheVariants.{Fails, Loads, Programs, Copies, Erases, Verifies, Protects, Resets}
use Rattle.onenand_rules.specs.declared.plans.Running.{Running}
use Rattle.onenand_rules.specs.declared.plans.Running.TheVariants.{Idle, Runs}
use Rattle.onenand_rules.specs.Commands.{command_of}
use Rattle.onenand_rules.specs.Plans.{ticks_of, action_of, taken, busy}
use Rattle.onenand_rules.specs.State.{State, state_with}
use Rattle.onenand_rules.specs.Calls.{Reply, tick, refused, done}
use Rattle.onenand_rules.specs.Writes.{pending, plan_for, accepted, commanded, stored}
use Rattle.onenand_rules.specs.Ticks.{succeeds, array_after, registers_after, acted, closed, failed, ticked}
use Rattle.onenand_rules.specs.Steps.{step}
use Rattle.onenand_laws.specs.Frames.{SameDevice, SameSizes, LeftByWrite, Within, Frames}
use Rattle.std.proofs.lemmas.Bool.Decides.{nat_tests}

-- a state with other registers, RAM, block states, running command and array is of the same device
same_device : (s : State) (r : Registers) (d : List ℕ) (t : List Lock) (u : Running) (m : Meaning) → SameDevice s (state_with s r d t u m)
same_device s r d t u m = record { device = refl; version = refl }

same_sizes : (m : Meaning) → SameSizes m m
same_sizes m = record { count = refl; dead_page = refl; dead_block = refl }

-- what a write leaves, and that it keeps the running command within its ticks
record Written (s s' : State) : Type 0 where
  left : LeftByWrite s s'
  device : SameDevice s s'
  within : Within s.core.running → Within s'.core.running

unchanged : (s : State) → Written s s
unchanged s = record {
  left = record { array = refl; locks = refl; bootram = refl; protection = refl };
  device = record { device = refl; version = refl };
  within = λ h. h;
}

changed : (s : State) (r : Registers) (d : List ℕ) (u : Running) → r.protection ≡ s.core.registers.protection → (Within s.core.running → Within u) → Written s (state_with s r d s.core.locks u s.array)
changed s r d u e h = record {
  left = record { array = refl; locks = refl; bootram = refl; protection = e };
  device = same_device s r d s.core.locks u s.array;
  within = h;
}

-- a command takes a tick at least
some_words : (p : Part) (f : ℕ) → 0 < size p f
unfolding size
some_words p f = grind arith

some_ticks : (p : Plan) → 0 < ticks_of p
some_ticks (Fails f k) = omega arith
some_ticks (Loads t) = some_words t.part t.buffer
some_ticks (Programs t) = some_words t.part t.buffer
some_ticks (Copies from to) = let h = some_words from.part from.buffer in omega arith
some_ticks (Erases b) = omega arith
some_ticks (Verifies b) = omega arith
some_ticks (Protects p) = omega arith
some_ticks (Resets r) = omega arith

commands : (s : State) (w : ℕ) → Written s (commanded s w).0
commands s w =
    let By : State × Reply → Type 0 = λ x. Written s x.0 in
    cond_both (busy s.core.running (command_of w)) (s, refused 9) (cond (pending s.core (command_of w)) (s, refused 10) (accepted s w, done)) By
    (λ _. unchanged s)
    (λ _. cond_both (pending s.core (command_of w)) (s, refused 10) (accepted s w, done) By
    (λ _. unchanged s)
    (λ _. changed s _ s.core.dataram (Runs (plan_for s w) 0) refl (λ _. some_ticks (plan_for s w))))

stores : (s : State) (w : ℕ) (p : Place) → Written s (stored s w p).0
stores s w (Boot x) = unchanged s
stores s w (Data x) =
    cond_both (taken s.core.running x) (s, refused 7) (state_with s s.core.registers (set s.core.dataram x w) s.core.locks s.core.running s.array, done) (λ (y : State × Reply). Written s y.0)
    (λ _. unchanged s)
    (λ _. changed s s.core.registers (set s.core.dataram x w) s.core.running refl (λ h. h))
stores s w (Constant v) = unchanged s
stores s w Device = unchanged s
stores s w Version = unchanged s
stores s w (Operand o) = changed s (with_operands s.core.registers (operand_written s.core.registers.operands o w)) s.core.dataram s.core.running refl (λ h. h)
stores s w Command = commands s w
stores s w Config = changed s (config_written s.core.registers w) s.core.dataram s.core.running refl (λ h. h)
stores s w Status = unchanged s
stores s w Interrupt = changed s (interrupt_written s.core.registers w) s.core.dataram s.core.running refl (λ h. h)
stores s w Protection = unchanged s
stores s w Unassigned = unchanged s

-- what a tick leaves
record Ticked (s s' : State) : Type 0 where
  device : SameDevice s s'
  sizes : SameSizes s.array s'.array
  within : Within s.core.running → Within s'.core.running
  bootram : s'.core.bootram ≡ s.core.bootram

moved : (s : State) (r : Registers) (d : List ℕ) (t : List Lock) (u : Running) (m : Meaning) → SameSizes s.array m → Within u → Ticked s (state_with s r d t u m)
moved s r d t u m z h = record { device = same_device s r d t u m; sizes = z; within = λ _. h; bootram = refl }

sizes_after : (d : List ℕ) (m : Meaning) (a : Action) → SameSizes m (array_after d m a)
sizes_after d m a = grind arith

runs_on : (s : State) (p : Plan) (k : ℕ) → Ticked s (ticked s (Runs p k)).0
runs_on s p k =
    let a = action_of p k in
    let z = sizes_after s.core.dataram s.array a in
    let By : State × Reply → Type 0 = λ x. Ticked s x.0 in
    cond_both (succeeds s.array a)
    (cond (ltb (k + 1) (ticks_of p)) (acted s a (registers_after s a) (Runs p (k + 1)), tick 1) (acted s a (closed p (registers_after s a)) Idle, tick 0))
    (state_with s (failed p s.core.registers) s.core.dataram s.core.locks Idle s.array, tick 0) By
    (λ _. cond_both (ltb (k + 1) (ticks_of p)) (acted s a (registers_after s a) (Runs p (k + 1)), tick 1) (acted s a (closed p (registers_after s a)) Idle, tick 0) By
    (λ h. moved s _ _ _ (Runs p (k + 1)) _ z (ltb-true (k + 1) (ticks_of p) h))
    (λ _. moved s _ _ _ Idle _ z tt))
    (λ _. moved s _ _ _ Idle _ (same_sizes s.array) tt)

ticks : (s : State) (u : Running) → Ticked s (ticked s u).0
ticks s u = grind (arith, nat_tests)

pub frames : (s : State) → Frames s
frames s = record {
  device = device;
  sizes = sizes;
  within = within;
  read = λ a. refl;
  write = λ a w. (stores s w (place_of a)).left;
  tick = (ticks s s.core.running).bootram;
  warm = record { array = refl; dataram = refl; bootram = refl };
  cold = refl;
}
  where
    device : (c : Call) → SameDevice s (step s c).0
    device (Read a) = record { device = refl; version = refl }
    device (Write a w) = (stores s w (place_of a)).device
    device Tick = (ticks s s.core.running).device
    device Warm = record { device = refl; version = refl }
    device Cold = record { device = refl; version = refl }

    sizes : (c : Call) → SameSizes s.array (step s c).0.array
    sizes (Read a) = same_sizes s.array
    sizes (Write a w) = let e = (stores s w (place_of a)).left.array in record { count = ap (λ (m : Meaning). m.count) e; dead_page = ap (λ (m : Meaning). m.dead_page) e; dead_block = ap (λ (m : Meaning). m.dead_block) e }
    sizes Tick = (ticks s s.core.running).sizes
    sizes Warm = same_sizes s.array
    sizes Cold = same_sizes s.array

    within : (c : Call) → Within s.core.running → Within (step s c).0.core.running
    within (Read a) h = h
    within (Write a w) h = (stores s w (place_of a)).within h
    within Tick h = (ticks s s.core.running).within h
    within Warm h = tt
    within Cold h = tt
