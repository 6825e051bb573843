-- A table of words in a page, and what the tour makes of an array.
use Rattle.std.specs.Prelude.{ℕ, ◌+◌, List, [], ◌∷◌, ◌++◌, slice_index, Ok, Err, Result, codes}
use Rattle.flash.specs.Meaning.{Meaning, word_at, after_program, after_erase}
use Rattle.flash.specs.declared.Failed.{Failed}
use Rattle.flash.specs.Texts.{hex_word}

-- the array after a table was programmed, word after word, from word i of a page on
unfoldable pub stored : Meaning → ℕ → ℕ → ℕ → List ℕ → Meaning
stored m b p i [] = m
stored m b p i (v ∷ vs) = stored (after_program m b p i v) b p (i + 1) vs

-- the first four words of a page
abbrev pub four_words : Meaning → ℕ → ℕ → List ℕ
four_words m b p = word_at m b p 0 ∷ word_at m b p 1 ∷ word_at m b p 2 ∷ word_at m b p 3 ∷ []

-- how it is told whether an array did what it was asked
abbrev pub told : Result (Unit {0}) Failed → List ℕ
told (Ok u) = codes "done"
told (Err e) = codes "failed"

-- the array after a first and a second table went into a page, and its block was erased;
-- a program of page q of block d and an erase of block c were tried in between
abbrev pub toured : Meaning → ℕ → ℕ → List ℕ → List ℕ → ℕ → ℕ → ℕ → Meaning
toured m b p first second d q c =
    after_erase (after_erase (after_program (stored (stored m b p 0 first) b p 0 second) d q 0 0) c) b

-- four words with a space between each two
abbrev pub four_text : List ℕ → List ℕ
four_text vs = hex_word (slice_index vs 0) ++ codes " " ++ hex_word (slice_index vs 1) ++ codes " " ++ hex_word (slice_index vs 2) ++ codes " " ++ hex_word (slice_index vs 3)
