-- A write, and the acceptance of a command.
use Rattle.std.specs.Prelude.{ℕ, Bool, cond, not, ◌&&◌, slice_set}
use Rattle.onenand_protection.specs.Protection.{lock_at}
use Rattle.onenand_registers.specs.declared.address.Place.{Place}
use Rattle.onenand_registers.specs.declared.address.Place.TheVariants.{Boot, Data, Constant, Device, Version, Operand, Command, Config, Status, Interrupt, Protection, Unassigned}
use Rattle.onenand_registers.specs.Bits.{is_set}
use Rattle.onenand_registers.specs.Registers.{with_operands, operand_written, config_written, interrupt_written, command_begun}
use Rattle.onenand_rules.specs.declared.commands.Command.{Command as Cmd}
use Rattle.onenand_rules.specs.declared.plans.Plan.{Plan}
use Rattle.onenand_rules.specs.declared.plans.Running.TheVariants.{Runs}
use Rattle.onenand_rules.specs.declared.state.Core.{Core}
use Rattle.onenand_rules.specs.Commands.{command_of, is_reset, running_status}
use Rattle.onenand_rules.specs.Plans.{plan_kind, taken, busy}
use Rattle.onenand_rules.specs.Checks.{planned}
use Rattle.onenand_rules.specs.State.{State, state_with, with_registers}
use Rattle.onenand_rules.specs.Calls.{Reply, done, refused}

-- INT is 1 and stands in the way of a command, unless it is a reset
abbrev pub pending : Core → Cmd → Bool
pending c q = not (is_reset q) && is_set 15 c.registers.interrupt

-- the plan of a code word that is accepted
abbrev pub plan_for : State → ℕ → Plan
plan_for s w = planned (lock_at s.core.locks) s.core.registers.operands s.array.count (command_of w)

-- the state once it is accepted: F220h holds it, F240h shows it, and it has had no tick
abbrev pub accepted : State → ℕ → State
accepted s w =
    state_with s (command_begun s.core.registers w (running_status (plan_kind (plan_for s w))))
    s.core.dataram s.core.locks (Runs (plan_for s w) 0) s.array

-- a write to F220h
abbrev pub commanded : State → ℕ → State × Reply
commanded s w =
    cond (busy s.core.running (command_of w)) (s, refused 9)
    (cond (pending s.core (command_of w)) (s, refused 10)
    (accepted s w, done))

-- a write of w to a place
abbrev pub stored : State → ℕ → Place → State × Reply
stored s w (Boot x) = (s, refused 8)
stored s w (Data x) =
    cond (taken s.core.running x) (s, refused 7)
    (state_with s s.core.registers (slice_set s.core.dataram x w) s.core.locks s.core.running s.array, done)
stored s w (Constant v) = (s, refused 8)
stored s w Device = (s, refused 8)
stored s w Version = (s, refused 8)
stored s w (Operand o) = (with_registers s (with_operands s.core.registers (operand_written s.core.registers.operands o w)), done)
stored s w Command = commanded s w
stored s w Config = (with_registers s (config_written s.core.registers w), done)
stored s w Status = (s, refused 8)
stored s w Interrupt = (with_registers s (interrupt_written s.core.registers w), done)
stored s w Protection = (s, refused 8)
stored s w Unassigned = (s, refused 6)
