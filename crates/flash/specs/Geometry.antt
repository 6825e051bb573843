-- The sizes of a flash array, and where a sector's words stand in their page.
use Rattle.std.specs.Prelude.{ℕ, ◌+◌, ◌*◌, ◌%◌, ◌^◌, cond, ◌&&◌, Some, None, Option, nat_lt}

-- the most blocks that an array has
abbrev pub max_blocks : ℕ
max_blocks = 256

-- pages in a block
abbrev pub block_pages : ℕ
block_pages = 64

-- words in a page: 512 main words, then 16 spare words
abbrev pub page_words : ℕ
page_words = 528

-- words in a block
abbrev pub block_words : ℕ
block_words = block_pages * page_words

-- a word with every bit set, as an erase leaves it
abbrev pub blank_word : ℕ
blank_word = 0xFFFF

-- the 16 bits of a word: what a list of a caller's words holds, since they have no more
abbrev pub bits16 : ℕ → ℕ
bits16 x = x % 2 ^ 16

-- where word i of sector s stands in its page, of the words that stand from `first` on, `each` of them a sector
abbrev pub sector_word : ℕ → ℕ → ℕ → ℕ → Option ℕ
sector_word first each s i = cond (nat_lt s 2 && nat_lt i each) (Some (first + (each * s + i))) None

-- where main word i of sector s stands in its page
abbrev pub main_word : ℕ → ℕ → Option ℕ
main_word s i = cond (nat_lt s 2 && nat_lt i 256) (Some (256 * s + i)) None

-- where spare word i of sector s stands in its page
abbrev pub spare_word : ℕ → ℕ → Option ℕ
spare_word s i = cond (nat_lt s 2 && nat_lt i 8) (Some (512 + (8 * s + i))) None
