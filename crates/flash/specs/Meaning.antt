-- What a flash array means, and what reading, programming and erasing make of that.
use Rattle.std.specs.Prelude.{ℕ, Bool, true, false, cond, not, ◌&&◌, ◌==◌, bit_and, nat_lt, Ok, Err, Result}
use Rattle.flash.specs.Geometry.{block_pages, page_words, blank_word}
use Rattle.flash.specs.declared.Failed.{Failed}

-- a count of blocks, the words by block, page and word, the dead pages and the dead blocks
pub record Meaning : Type 0 where
  pub count : ℕ
  pub word : ℕ → ℕ → ℕ → ℕ
  pub dead_page : ℕ → ℕ → Bool
  pub dead_block : ℕ → Bool

-- block, page and word are in range
abbrev pub in_range : Meaning → ℕ → ℕ → ℕ → Bool
in_range m b p w = nat_lt b m.count && (nat_lt p block_pages && nat_lt w page_words)

-- what reading a word answers
abbrev pub word_at : Meaning → ℕ → ℕ → ℕ → ℕ
word_at m b p w = cond (in_range m b p w) (m.word b p w) blank_word

-- what programming or erasing answers, by whether it was done
abbrev pub outcome_of : Bool → Result (Unit {0}) Failed
outcome_of true = Ok tt
outcome_of false = Err (record {})

-- a word that can be programmed: in range, in a page that is not dead
abbrev pub programmable : Meaning → ℕ → ℕ → ℕ → Bool
programmable m b p w = in_range m b p w && not (m.dead_page b p)

-- the same array, with v ANDed into one word
abbrev pub programmed : Meaning → ℕ → ℕ → ℕ → ℕ → Meaning
programmed m b p w v = record {
  count = m.count;
  word = λ b' p' w'. cond (b' == b && (p' == p && w' == w)) (bit_and (m.word b' p' w') v) (m.word b' p' w');
  dead_page = m.dead_page;
  dead_block = m.dead_block;
}

-- the array after a program, done or failed
abbrev pub after_program : Meaning → ℕ → ℕ → ℕ → ℕ → Meaning
after_program m b p w v = cond (programmable m b p w) (programmed m b p w v) m

-- a block that can be erased: in range and not dead
abbrev pub erasable : Meaning → ℕ → Bool
erasable m b = nat_lt b m.count && not (m.dead_block b)

-- the same array, with every word of one block blank
abbrev pub erased : Meaning → ℕ → Meaning
erased m b = record {
  count = m.count;
  word = λ b' p' w'. cond (b' == b) blank_word (m.word b' p' w');
  dead_page = m.dead_page;
  dead_block = m.dead_block;
}

-- the array after an erase, done or failed
abbrev pub after_erase : Meaning → ℕ → Meaning
after_erase m b = cond (erasable m b) (erased m b) m
