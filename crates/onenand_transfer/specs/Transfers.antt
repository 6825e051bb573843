-- Transfers between a page and DataRAM: which words move, in which order, and which sectors are taken meanwhile.
-- f107 stands for the word of F107h (or F103h), f200 for that of F200h.
use Rattle.std.specs.Prelude.{ℕ, ◌+◌, ◌-◌, ◌*◌, ◌/◌, ◌%◌, Bool, cond, ◌&&◌, ◌||◌, ◌==◌, nat_lt}
use Rattle.onenand_registers.specs.Bits.{bit, is_set}
use Rattle.onenand_transfer.specs.declared.Part.{Part}
use Rattle.onenand_transfer.specs.declared.Part.TheVariants.{Whole, Spare}
use Rattle.onenand_transfer.specs.declared.Transfer.{Transfer}

-- the page is bits 7 to 2, the sector bit 0; the register's mask leaves no bit above these
abbrev pub page_of : ℕ → ℕ
page_of f107 = f107 / 4

-- F200h chooses DataRAM, and not BootRAM
abbrev pub chooses_data : ℕ → Bool
chooses_data f200 = is_set 11 f200

-- how many sectors move: one or two
abbrev pub sectors : ℕ → ℕ
sectors f200 = 2 - bit 0 f200

-- how many words move: 264 a sector, or its 8 spare words alone
unfoldable pub size : Part → ℕ → ℕ
size Whole f200 = 264 * sectors f200
size Spare f200 = 8 * sectors f200

-- the number that word i would have if whole sectors moved: 256 main words, then 8 spare words
abbrev pub counted : Part → ℕ → ℕ
counted Whole i = i
counted Spare i = 264 * (i / 8) + (256 + i % 8)

-- word o, 0 to 263, of sector s where n sectors have their main words first and their spare words after them
abbrev pub sector_word : ℕ → ℕ → ℕ → ℕ
sector_word n s o = cond (nat_lt o 256) (256 * s + o) (256 * n + (8 * s + (o - 256)))

-- the sector of the page that moves first (j = 0) or second (j = 1): the second is the other one
abbrev pub page_sector : ℕ → ℕ → ℕ
page_sector f107 j = (bit 0 f107 + j) % 2

-- the sector of DataRAM that goes with it: D0_0, D0_1, D1_0 and D1_1 are 0 to 3; the second is the other one of the pair
abbrev pub buffer_sector : ℕ → ℕ → ℕ
buffer_sector f200 j = 2 * bit 10 f200 + (bit 8 f200 + j) % 2

-- where word i that moves stands in its page
unfoldable pub page_word : Part → ℕ → ℕ → ℕ
page_word part f107 i = let c = counted part i in sector_word 2 (page_sector f107 (c / 264)) (c % 264)

-- where it stands in DataRAM
unfoldable pub buffer_word : Part → ℕ → ℕ → ℕ
buffer_word part f200 i = let c = counted part i in sector_word 4 (buffer_sector f200 (c / 264)) (c % 264)

-- the sector that a DataRAM word lies in
abbrev pub sector_of : ℕ → ℕ
sector_of x = cond (nat_lt x 1024) (x / 256) ((x - 1024) / 8)

-- DataRAM word x lies in a sector that F200h chooses: while the transfer runs it is taken, and the host cannot reach it
unfoldable pub chosen : ℕ → ℕ → Bool
chosen f200 x = sector_of x == buffer_sector f200 0 || (bit 0 f200 == 0 && sector_of x == buffer_sector f200 1)

-- how many words a transfer moves
abbrev pub words : Transfer → ℕ
words t = size t.part t.buffer
