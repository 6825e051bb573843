-- What a list of sheets with its words means, and what programs and erases leave of both.
use Rattle.std.specs.Prelude.{ℕ, ◌+◌, ◌*◌, Bool, false, cond, not, ◌&&◌, List, map, Some, None, Option, ◌==◌, bit_and, nat_lt, slice_index, slice_index_or, slice_set}
use Rattle.flash.specs.Geometry.{page_words, blank_word, bits16}
use Rattle.flash.specs.Meaning.{Meaning, programmable, erasable}
use Rattle.flash.specs.Runs.{filled}
use Rattle.sheets.specs.declared.Sheet.{Sheet}
use Rattle.sheets.specs.Pages.{no_sheet, first_of, has_sheet, mark}
use Rattle.sheets.specs.Checks.{lists_fit}

-- lists that do not fit each other make no blocks
abbrev pub blocks : ℕ → List Sheet → List ℕ → ℕ
blocks n ss ws = cond (lists_fit n ss ws) n 0

-- where word w of sheet k stands among the caller's words
abbrev pub place : ℕ → ℕ → ℕ
place k w = k * page_words + w

-- word w of sheet k: blank where the sheet is not written
abbrev pub sheet_word : List Sheet → List ℕ → ℕ → ℕ → ℕ
sheet_word ss ws k w = cond (nat_lt w page_words && not (mark ss k == 0)) (bits16 (slice_index_or ws (place k w) blank_word)) blank_word

-- a page without a sheet is dead, and no block is
abbrev pub sheet_meaning : ℕ → List Sheet → List ℕ → Meaning
sheet_meaning n ss ws = record {
  count = blocks n ss ws;
  word = λ b p w. sheet_word ss ws (first_of b p ss) w;
  dead_page = λ b p. not (has_sheet b p ss);
  dead_block = λ b. false;
}

-- the sheet that has a word which can be programmed
abbrev pub seat_of : ℕ → List Sheet → List ℕ → ℕ → ℕ → ℕ → Option ℕ
seat_of n ss ws b p w = cond (programmable (sheet_meaning n ss ws) b p w) (Some (first_of b p ss)) None

-- the sheet, its mark set
abbrev pub written : Sheet → Sheet
written s = record { block = s.block; page = s.page; written = 1 }

-- before its first program sheet k gets its mark, and its words are blanked
abbrev pub opened : List Sheet → ℕ → List Sheet
opened ss k = cond (mark ss k == 0) (slice_set ss k (written (slice_index_or ss k no_sheet))) ss

abbrev pub words_opened : Bool → List ℕ → ℕ → List ℕ
words_opened fresh ws k = cond fresh (filled blank_word (k * page_words) page_words ws) ws

-- word w of sheet k with v ANDed in, and its words blanked before if the sheet is fresh
abbrev pub word_stored : Bool → List ℕ → ℕ → ℕ → ℕ → List ℕ
word_stored fresh ws k w v = slice_set (words_opened fresh ws k) (place k w) (bit_and (slice_index (words_opened fresh ws k) (place k w)) v)

-- the caller's sheets and words after a program
abbrev pub sheets_programmed : ℕ → List Sheet → List ℕ → ℕ → ℕ → ℕ → List Sheet
sheets_programmed n ss ws b p w = cond (programmable (sheet_meaning n ss ws) b p w) (opened ss (first_of b p ss)) ss

abbrev pub words_programmed : ℕ → List Sheet → List ℕ → ℕ → ℕ → ℕ → ℕ → List ℕ
words_programmed n ss ws b p w v =
    cond (programmable (sheet_meaning n ss ws) b p w)
    (word_stored (mark ss (first_of b p ss) == 0) ws (first_of b p ss) w v)
    ws

-- the sheet, its mark cleared if it is of block b
abbrev pub unmarked : ℕ → Sheet → Sheet
unmarked b s = record { block = s.block; page = s.page; written = cond (s.block == b) 0 s.written }

-- the caller's sheets after an erase, which writes no words
abbrev pub sheets_erased : ℕ → List Sheet → List ℕ → ℕ → List Sheet
sheets_erased n ss ws b = cond (erasable (sheet_meaning n ss ws) b) (map (unmarked b) ss) ss
