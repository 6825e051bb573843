-- What the host addresses.
use Rattle.std.specs.Prelude.{ℕ, ◌+◌, ◌-◌, cond, ◌&&◌, ◌==◌, nat_le, nat_lt}
use Rattle.onenand_registers.specs.declared.registers.Operand.TheVariants.{Block, CopyBlock, CopyPage, Page, Buffer, First, Last}
use Rattle.onenand_registers.specs.declared.address.Place.{Place}
use Rattle.onenand_registers.specs.declared.address.Place.TheVariants.{Boot, Data, Constant, Device, Version, Operand, Command, Config, Status, Interrupt, Protection, Unassigned}

-- the register at an address
abbrev pub register_at : ℕ → Place
register_at a =
    cond (a == 0xF000) (Constant 0x00EC)
    (cond (a == 0xF001) Device
    (cond (a == 0xF002) Version
    (cond (a == 0xF003) (Constant 0x0400)
    (cond (a == 0xF004) (Constant 0x0200)
    (cond (a == 0xF005) (Constant 0x0201)
    (cond (a == 0xF006) (Constant 0x0000)
    (cond (a == 0xF100) (Operand Block)
    (cond (a == 0xF102) (Operand CopyBlock)
    (cond (a == 0xF103) (Operand CopyPage)
    (cond (a == 0xF107) (Operand Page)
    (cond (a == 0xF200) (Operand Buffer)
    (cond (a == 0xF220) Command
    (cond (a == 0xF221) Config
    (cond (a == 0xF240) Status
    (cond (a == 0xF241) Interrupt
    (cond (a == 0xF24C) (Operand First)
    (cond (a == 0xF24D) (Operand Last)
    (cond (a == 0xF24E) Protection Unassigned))))))))))))))))))

-- where an address leads: words of BootRAM and DataRAM count from 0, main words first and spare words after them
abbrev pub place_of : ℕ → Place
place_of a =
    cond (nat_le a 0x01FF) (Boot a)
    (cond (nat_le a 0x05FF) (Data (a - 0x0200))
    (cond (nat_le 0x8000 a && nat_le a 0x800F) (Boot (512 + (a - 0x8000)))
    (cond (nat_le 0x8010 a && nat_le a 0x802F) (Data (1024 + (a - 0x8010)))
    (register_at a))))

-- the address of a DataRAM word
abbrev pub address_of : ℕ → ℕ
address_of x = cond (nat_lt x 1024) (0x0200 + x) (0x8010 + (x - 1024))
