-- The commands by their code words, and what they show in F240h and raise in F241h.
use Rattle.std.specs.Prelude.{ℕ, ◌+◌, Bool, true, false, cond, ◌==◌}
use Rattle.onenand_protection.specs.declared.Lock.TheVariants.{Locked, Unlocked, Tight}
use Rattle.onenand_transfer.specs.declared.Part.TheVariants.{Whole, Spare}
use Rattle.onenand_rules.specs.declared.commands.ResetKind.TheVariants.{Core, Hot}
use Rattle.onenand_rules.specs.declared.commands.Command.{Command}
use Rattle.onenand_rules.specs.declared.commands.Command.TheVariants.{Load, Program, CopyBack, Erase, Verify, Protect, Reset, Unknown}
use Rattle.onenand_rules.specs.declared.commands.Kind.{Kind}
use Rattle.onenand_rules.specs.declared.commands.Kind.TheVariants.{Loading, Programming, Erasing, Verifying, Other, Resetting}
use Rattle.onenand_rules.specs.declared.commands.Fault.{Fault}
use Rattle.onenand_rules.specs.declared.commands.Fault.TheVariants.{Plain, Barred}

-- the command that a word written to F220h is
abbrev pub command_of : ℕ → Command
command_of c =
    cond (c == 0x0000) (Load Whole)
    (cond (c == 0x0013) (Load Spare)
    (cond (c == 0x0080) (Program Whole)
    (cond (c == 0x001A) (Program Spare)
    (cond (c == 0x001B) CopyBack
    (cond (c == 0x0094) Erase
    (cond (c == 0x0071) Verify
    (cond (c == 0x0023) (Protect Unlocked)
    (cond (c == 0x002A) (Protect Locked)
    (cond (c == 0x002C) (Protect Tight)
    (cond (c == 0x00F0) (Reset Core)
    (cond (c == 0x00F3) (Reset Hot) Unknown)))))))))))

-- the command is 00F0h or 00F3h
abbrev pub is_reset : Command → Bool
is_reset (Load p) = false
is_reset (Program p) = false
is_reset CopyBack = false
is_reset Erase = false
is_reset Verify = false
is_reset (Protect l) = false
is_reset (Reset r) = true
is_reset Unknown = false

-- what a command counts as in F240h and F241h
abbrev pub kind_of : Command → Kind
kind_of (Load p) = Loading
kind_of (Program p) = Programming
kind_of CopyBack = Programming
kind_of Erase = Erasing
kind_of Verify = Verifying
kind_of (Protect l) = Other
kind_of (Reset r) = Resetting
kind_of Unknown = Other

-- the kind bit of F240h: bit 13 Load, 12 Prog, 11 Erase, 7 reset busy
abbrev pub status_bit : Kind → ℕ
status_bit Loading = 0x2000
status_bit Programming = 0x1000
status_bit Erasing = 0x0800
status_bit Verifying = 0x0800
status_bit Other = 0x0000
status_bit Resetting = 0x0080

-- what an end raises in F241h: bit 15 INT, and 7 for loads, 6 for programs, 5 for erase, 4 for resets
abbrev pub raised : Kind → ℕ
raised Loading = 0x8080
raised Programming = 0x8040
raised Erasing = 0x8020
raised Verifying = 0x8000
raised Other = 0x8000
raised Resetting = 0x8010

-- F240h while a command runs: OnGo, bit 15, and the kind bit
abbrev pub running_status : Kind → ℕ
running_status k = 0x8000 + status_bit k

-- F240h after an end with Error, bit 10: the kind bit stays, and Lock, bit 14, shows what barred the command
abbrev pub error_status : Fault → Kind → ℕ
error_status Plain k = 0x0400 + status_bit k
error_status Barred k = 0x4400 + status_bit k
