-- What the caller's words and worn list mean, and what programs and erases leave of the words.
use Rattle.std.specs.Prelude.{ℕ, ◌*◌, Bool, cond, not, ◌&&◌, List, length, Some, None, Option, ◌==◌, bit_and, nat_lt, slice_index, slice_index_or, slice_set}
use Rattle.flash.specs.Geometry.{block_pages, page_words, block_words, blank_word, bits16}
use Rattle.flash.specs.Meaning.{Meaning, in_range, programmable, erasable}
use Rattle.flash.specs.Runs.{filled}
use Rattle.image.specs.Layout.{place}
use Rattle.image.specs.Checks.{whole_blocks, byte_each}

-- an image that its check turns away has no blocks
abbrev pub blocks : List ℕ → List ℕ → ℕ
blocks ws wn = cond (whole_blocks ws && byte_each ws wn) (length wn) 0

-- a worn byte other than 0 makes its block dead, and all pages of it
abbrev pub is_worn : List ℕ → ℕ → Bool
is_worn wn b = not (slice_index wn b == 0)

-- what the words ws and the worn list wn mean
abbrev pub image_meaning : List ℕ → List ℕ → Meaning
image_meaning ws wn = record {
  count = blocks ws wn;
  word = λ b p w. cond (nat_lt p block_pages && nat_lt w page_words) (bits16 (slice_index_or ws (place b p w) blank_word)) blank_word;
  dead_page = λ b p. is_worn wn b;
  dead_block = λ b. is_worn wn b;
}

-- where a word stands among the caller's words, if it is in range
abbrev pub place_of : List ℕ → List ℕ → ℕ → ℕ → ℕ → Option ℕ
place_of ws wn b p w = cond (in_range (image_meaning ws wn) b p w) (Some (place b p w)) None

-- the caller's words after a program
abbrev pub words_programmed : List ℕ → List ℕ → ℕ → ℕ → ℕ → ℕ → List ℕ
words_programmed ws wn b p w v =
    cond (programmable (image_meaning ws wn) b p w) (slice_set ws (place b p w) (bit_and (slice_index ws (place b p w)) v)) ws

-- the caller's words after an erase
abbrev pub words_erased : List ℕ → List ℕ → ℕ → List ℕ
words_erased ws wn b = cond (erasable (image_meaning ws wn) b) (filled blank_word (b * block_words) block_words ws) ws
