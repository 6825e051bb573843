-- A read.
use Rattle.std.specs.Prelude.{cond, slice_index}
use Rattle.onenand_registers.specs.declared.address.Place.{Place}
use Rattle.onenand_registers.specs.declared.address.Place.TheVariants.{Boot, Data, Constant, Device, Version, Operand, Command, Config, Status, Interrupt, Protection, Unassigned}
use Rattle.onenand_registers.specs.Registers.{operand_at}
use Rattle.onenand_rules.specs.declared.state.Core.{Core}
use Rattle.onenand_rules.specs.Plans.{taken}
use Rattle.onenand_rules.specs.Calls.{Reply, word, refused}

-- what a read of a place answers
abbrev pub shown : Core → Place → Reply
shown c (Boot x) = word (slice_index c.bootram x)
shown c (Data x) = cond (taken c.running x) (refused 7) (word (slice_index c.dataram x))
shown c (Constant w) = word w
shown c Device = word c.device
shown c Version = word c.version
shown c (Operand o) = word (operand_at c.registers.operands o)
shown c Command = word c.registers.command
shown c Config = word c.registers.config
shown c Status = word c.registers.status
shown c Interrupt = word c.registers.interrupt
shown c Protection = word c.registers.protection
shown c Unassigned = refused 6
