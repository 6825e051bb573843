-- The four checks of an accepted command, and the plan that comes of them.
-- t: the state of each block; o: the operands; n: how many blocks there are; q: the command.
use Rattle.std.specs.Prelude.{ℕ, Bool, true, false, cond, ◌&&◌, Ok, Err, Result, nat_lt}
use Rattle.onenand_protection.specs.declared.Lock.{Lock}
use Rattle.onenand_protection.specs.declared.Protection.{Protection}
use Rattle.onenand_protection.specs.Protection.{is_unlocked}
use Rattle.onenand_registers.specs.declared.registers.Operands.{Operands}
use Rattle.onenand_transfer.specs.declared.Part.{Part}
use Rattle.onenand_transfer.specs.declared.Part.TheVariants.{Whole}
use Rattle.onenand_transfer.specs.declared.Transfer.{Transfer}
use Rattle.onenand_transfer.specs.Transfers.{chooses_data}
use Rattle.onenand_rules.specs.declared.commands.Command.{Command}
use Rattle.onenand_rules.specs.declared.commands.Command.TheVariants.{Load, Program, CopyBack, Erase, Verify, Protect, Reset, Unknown}
use Rattle.onenand_rules.specs.declared.commands.Fault.{Fault}
use Rattle.onenand_rules.specs.declared.commands.Fault.TheVariants.{Plain, Barred}
use Rattle.onenand_rules.specs.declared.commands.Kind.TheVariants.{Other}
use Rattle.onenand_rules.specs.declared.plans.Plan.{Plan}
use Rattle.onenand_rules.specs.declared.plans.Plan.TheVariants.{Fails, Loads, Programs, Copies, Erases, Verifies, Protects, Resets}
use Rattle.onenand_rules.specs.Commands.{kind_of}

-- first check: the command is one of the table
abbrev pub is_known : Command → Bool
is_known (Load p) = true
is_known (Program p) = true
is_known CopyBack = true
is_known Erase = true
is_known Verify = true
is_known (Protect l) = true
is_known (Reset r) = true
is_known Unknown = false

-- second check: F100h is one of n blocks for transfers, erase and verify, and so is F102h for copy-back
abbrev pub blocks_there : Operands → ℕ → Command → Bool
blocks_there o n (Load p) = nat_lt o.block n
blocks_there o n (Program p) = nat_lt o.block n
blocks_there o n CopyBack = nat_lt o.block n && nat_lt o.copy_block n
blocks_there o n Erase = nat_lt o.block n
blocks_there o n Verify = nat_lt o.block n
blocks_there o n (Protect l) = true
blocks_there o n (Reset r) = true
blocks_there o n Unknown = true

-- third check: F200h does not choose BootRAM, for transfers
abbrev pub buffer_fit : Operands → Command → Bool
buffer_fit o (Load p) = chooses_data o.buffer
buffer_fit o (Program p) = chooses_data o.buffer
buffer_fit o CopyBack = chooses_data o.buffer
buffer_fit o Erase = true
buffer_fit o Verify = true
buffer_fit o (Protect l) = true
buffer_fit o (Reset r) = true
buffer_fit o Unknown = true

-- fourth check: the block that is written to is unlocked
abbrev pub target_open : (ℕ → Lock) → Operands → Command → Bool
target_open t o (Load p) = true
target_open t o (Program p) = is_unlocked (t o.block)
target_open t o CopyBack = is_unlocked (t o.copy_block)
target_open t o Erase = is_unlocked (t o.block)
target_open t o Verify = true
target_open t o (Protect l) = true
target_open t o (Reset r) = true
target_open t o Unknown = true

-- all four, in this order; the last two set Lock
abbrev pub checked : (ℕ → Lock) → Operands → ℕ → Command → Result (Unit {0}) Fault
checked t o n q =
    cond (is_known q)
    (cond (blocks_there o n q)
    (cond (buffer_fit o q)
    (cond (target_open t o q) (Ok tt) (Err Barred))
    (Err Barred))
    (Err Plain))
    (Err Plain)

-- a transfer with F100h and F107h, and with F102h and F103h
abbrev pub transfer_of : Operands → Part → Transfer
transfer_of o p = record { block = o.block; page = o.page; buffer = o.buffer; part = p }

abbrev pub copy_target : Operands → Transfer
copy_target o = record { block = o.copy_block; page = o.copy_page; buffer = o.buffer; part = Whole }

-- a protection command with F24Ch and F24Dh
abbrev pub protection_of : Operands → Lock → Protection
protection_of o l = record { lock = l; first = o.first; last = o.last }

-- what a command that passes its checks is going to do
abbrev pub intended : Operands → Command → Plan
intended o (Load p) = Loads (transfer_of o p)
intended o (Program p) = Programs (transfer_of o p)
intended o CopyBack = Copies (transfer_of o Whole) (copy_target o)
intended o Erase = Erases o.block
intended o Verify = Verifies o.block
intended o (Protect l) = Protects (protection_of o l)
intended o (Reset r) = Resets r
intended o Unknown = Fails Plain Other

-- and what one is going to do by its checks' result
abbrev pub plan_by : Result (Unit {0}) Fault → Operands → Command → Plan
plan_by (Ok u) o q = intended o q
plan_by (Err f) o q = Fails f (kind_of q)

-- the plan of a command, by its checks
abbrev pub planned : (ℕ → Lock) → Operands → ℕ → Command → Plan
planned t o n q = plan_by (checked t o n q) o q
