-- The chip's registers: what a write keeps, and what they start from.
use Rattle.std.specs.Prelude.{ℕ, ◌+◌, bit_and, bit_or}
use Rattle.onenand_registers.specs.declared.registers.Operand.{Operand}
use Rattle.onenand_registers.specs.declared.registers.Operand.TheVariants.{Block, CopyBlock, CopyPage, Page, Buffer, First, Last}
use Rattle.onenand_registers.specs.declared.registers.Operands.{Operands}
use Rattle.onenand_registers.specs.declared.registers.Registers.{Registers}

-- the operands, in the order of their addresses
abbrev pub operands_of : ℕ → ℕ → ℕ → ℕ → ℕ → ℕ → ℕ → Operands
operands_of b cb cp p f a z = record { block = b; copy_block = cb; copy_page = cp; page = p; buffer = f; first = a; last = z }

-- the word that an operand holds
abbrev pub operand_at : Operands → Operand → ℕ
operand_at r Block = r.block
operand_at r CopyBlock = r.copy_block
operand_at r CopyPage = r.copy_page
operand_at r Page = r.page
operand_at r Buffer = r.buffer
operand_at r First = r.first
operand_at r Last = r.last

-- the bits that an operand keeps of a written word
abbrev pub mask_of : Operand → ℕ
mask_of Block = 0x00FF
mask_of CopyBlock = 0x00FF
mask_of CopyPage = 0x00FD
mask_of Page = 0x00FD
mask_of Buffer = 0x0D01
mask_of First = 0x00FF
mask_of Last = 0x00FF

-- one operand holds w, the others stay
abbrev pub operand_put : Operands → Operand → ℕ → Operands
operand_put r Block w = operands_of w r.copy_block r.copy_page r.page r.buffer r.first r.last
operand_put r CopyBlock w = operands_of r.block w r.copy_page r.page r.buffer r.first r.last
operand_put r CopyPage w = operands_of r.block r.copy_block w r.page r.buffer r.first r.last
operand_put r Page w = operands_of r.block r.copy_block r.copy_page w r.buffer r.first r.last
operand_put r Buffer w = operands_of r.block r.copy_block r.copy_page r.page w r.first r.last
operand_put r First w = operands_of r.block r.copy_block r.copy_page r.page r.buffer w r.last
operand_put r Last w = operands_of r.block r.copy_block r.copy_page r.page r.buffer r.first w

-- the operands after a write
abbrev pub operand_written : Operands → Operand → ℕ → Operands
operand_written r o w = operand_put r o (bit_and w (mask_of o))

-- the bits that F221h keeps of a written word
abbrev pub config_mask : ℕ
config_mask = 0xFFE0

-- the registers: operands, F220h, F221h, F240h, F241h and F24Eh
abbrev pub registers_of : Operands → ℕ → ℕ → ℕ → ℕ → ℕ → Registers
registers_of o c f s i p = record { operands = o; command = c; config = f; status = s; interrupt = i; protection = p }

-- other operands
abbrev pub with_operands : Registers → Operands → Registers
with_operands r o = registers_of o r.command r.config r.status r.interrupt r.protection

-- a write to F221h
abbrev pub config_written : Registers → ℕ → Registers
config_written r w = registers_of r.operands r.command (bit_and w config_mask) r.status r.interrupt r.protection

-- a write to F241h, which can only clear bits
abbrev pub interrupt_written : Registers → ℕ → Registers
interrupt_written r w = registers_of r.operands r.command r.config r.status (bit_and r.interrupt w) r.protection

-- F24Eh holds p
abbrev pub with_protection : Registers → ℕ → Registers
with_protection r p = registers_of r.operands r.command r.config r.status r.interrupt p

-- a command begins: F220h holds it and F240h shows it
abbrev pub command_begun : Registers → ℕ → ℕ → Registers
command_begun r c s = registers_of r.operands c r.config s r.interrupt r.protection

-- a command ends: F240h shows s, and F241h gains the bits i
abbrev pub command_ended : Registers → ℕ → ℕ → Registers
command_ended r s i = registers_of r.operands r.command r.config s (bit_or r.interrupt i) r.protection

-- what registers start from, with the words of F221h, F241h and F24Eh
abbrev pub started : ℕ → ℕ → ℕ → Registers
started f i p = registers_of (operands_of 0 0 0 0 0 0 0) 0 f 0 i p

-- F221h at power-up
abbrev pub start_config : ℕ
start_config = 0x40C0

-- F241h after a boot load, and after a hot or warm reset
abbrev pub boot_interrupt : ℕ
boot_interrupt = 0x8080

abbrev pub reset_interrupt : ℕ
reset_interrupt = 0x8010

-- registers at power-up and after a cold reset, F24Eh p
abbrev pub powered : ℕ → Registers
powered p = started start_config boot_interrupt p

-- registers after a hot or warm reset, which keeps bits 7 to 5 of F221h
abbrev pub reset : Registers → ℕ → Registers
reset r p = started (0x4000 + bit_and r.config 0x00E0) reset_interrupt p
