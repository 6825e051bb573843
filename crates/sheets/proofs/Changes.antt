-- What reads, programs and erases of the caller's lists do to the meaning of a sheet array.
use Rattle.std.proofs.Common.{◌≡◌, ℕ, zero, suc, ◌+◌, ◌*◌, ◌^◌, ◌<◌, ◌≤◌, Bool, true, cond, not, ◌&&◌, eqb, ltb, leb, List, [], ◌∷◌, map, ◌++◌, length, get_or, take, drop, set, Some, refl, ap, ◌∙◌, ap₂, ⊎_elim, arith}
use lib.Bits.{bit_and}
use Rattle.std.proofs.lemmas.List.{length-set, length-map, get_or-set_same, get_or-set_other, set-get_or, get_or_default, get_or_past}
use Rattle.std.proofs.lemmas.List.Edits.{map_over_more}
use Rattle.std.proofs.lemmas.Bool.{cases_lt}
use Rattle.std.proofs.lemmas.Bool.Decides.{nat_tests}
use Rattle.flash.specs.Geometry.{max_blocks, page_words, blank_word, bits16}
use Rattle.flash.specs.Meaning.{programmable, programmed, after_program, erased, after_erase}
use Rattle.flash.proofs.Bits.{and_16}
use Rattle.flash.proofs.Meanings.{same_meaning}
use Rattle.flash.proofs.Runs.{length-filled, get_or-filled}
use Rattle.sheets.specs.declared.Sheet.{Sheet}
use Rattle.sheets.specs.Pages.{no_sheet, first_of, mark}
use Rattle.sheets.specs.Checks.{max_sheets}
use Rattle.sheets.specs.Contents.{blocks, place, sheet_word, sheet_meaning, written, opened, words_opened, word_stored, seat_of, unmarked, sheets_erased}
use Rattle.sheets.proofs.Finding.{first_is_of, first_of_one, first_set, first_unmarked}

-- the count goes by how many sheets and words there are
blocks_same : (n : ℕ) (ss tt' : List Sheet) (ws xs : List ℕ) → length tt' ≡ length ss → length xs ≡ length ws → blocks n tt' xs ≡ blocks n ss ws
blocks_same n ss tt' ws xs e f = ap₂ (λ k m. cond (leb n max_blocks && (leb k max_sheets && eqb m (k * page_words))) n 0) e f

-- sheet k after it was opened: its mark, its page, and how many sheets there are
mark_opened : (ss : List Sheet) (k j : ℕ) → k < length ss → mark (opened ss k) j ≡ cond (eqb j k && eqb (mark ss k) 0) 1 (mark ss j)
mark_opened ss k j h = grind (arith, nat_tests, get_or-set_same, get_or-set_other)

first_opened : (b p : ℕ) (ss : List Sheet) (k : ℕ) → first_of b p (opened ss k) ≡ first_of b p ss
first_opened b p ss k = grind (arith, nat_tests, first_set)

length-opened : (ss : List Sheet) (k : ℕ) → length (opened ss k) ≡ length ss
length-opened ss k = grind (arith, nat_tests, length-set)

-- the words of sheet k after it was opened
module _ (fresh : Bool) (ws : List ℕ) (k : ℕ) (h : k * page_words + page_words ≤ length ws) where
  length-words_opened : length (words_opened fresh ws k) ≡ length ws
  length-words_opened = grind (arith, nat_tests, length-filled)

  get_or-words_opened : (i : ℕ) → get_or (words_opened fresh ws k) i blank_word ≡ cond (fresh && (leb (k * page_words) i && ltb i (k * page_words + page_words))) blank_word (get_or ws i blank_word)
  get_or-words_opened i = grind (arith, nat_tests, get_or-filled)

-- a word that a program changes stands within the lists
module _ (n : ℕ) (ss : List Sheet) (ws : List ℕ) (b p w : ℕ) (t : programmable (sheet_meaning n ss ws) b p w ≡ true) where
  sheet_in : first_of b p ss < length ss
  sheet_in = grind (arith, nat_tests)

  word_low : w < page_words
  word_low = grind (arith, nat_tests)

  words_in : first_of b p ss * page_words + page_words ≤ length ws
  words_in = grind (arith, nat_tests)

-- word w of sheet k gets v ANDed in, by the places of sheets alone
module _ (ss : List Sheet) (ws : List ℕ) (k w v : ℕ) (small : v < 2 ^ 16) (hk : k < length ss) (hw : w < page_words) (hws : k * page_words + page_words ≤ length ws) where
  abbrev fresh : Bool
  fresh = eqb (mark ss k) 0

  abbrev os : List ℕ
  os = words_opened fresh ws k

  abbrev x : ℕ
  x = bit_and (get_or os (place k w) 0) v

  hos : place k w < length os
  hos = grind (arith, length-words_opened)

  -- the new word, by its 16 bits
  anded : bits16 x ≡ bit_and (bits16 (cond fresh blank_word (get_or ws (place k w) blank_word))) v
  anded =
      let was = get_or_default os (place k w) 0 blank_word hos ∙ get_or-words_opened fresh ws k hws (place k w) in
      let kept = and_16 (get_or os (place k w) 0) v small in
      grind (arith, nat_tests)

  pub by_sheet : (j u : ℕ) → sheet_word (opened ss k) (word_stored fresh ws k w v) j u ≡ cond (eqb j k && eqb u w) (bit_and (sheet_word ss ws j u) v) (sheet_word ss ws j u)
  by_sheet j u =
      let value = anded in
      grind (arith, nat_tests, mark_opened, get_or-set_same, get_or-set_other, get_or-words_opened, hos)

module _ (n : ℕ) (ss : List Sheet) (ws : List ℕ) (b p w v : ℕ) (small : v < 2 ^ 16) (t : programmable (sheet_meaning n ss ws) b p w ≡ true) where
  abbrev k : ℕ
  k = first_of b p ss

  abbrev ss' : List Sheet
  ss' = opened ss k

  abbrev ws' : List ℕ
  ws' = word_stored (eqb (mark ss k) 0) ws k w v

  -- sheet k alone is of page p of block b
  one_page : (b' p' w' : ℕ) → (eqb (first_of b' p' ss) k && eqb w' w) ≡ (eqb b' b && (eqb p' p && eqb w' w))
  one_page b' p' w' = grind (arith, nat_tests, first_of_one, sheet_in)

  each : (b' p' w' : ℕ) → (sheet_meaning n ss' ws').word b' p' w' ≡ (programmed (sheet_meaning n ss ws) b p w v).word b' p' w'
  each b' p' w' =
      let here = first_opened b' p' ss k in
      let word = by_sheet ss ws k w v small (sheet_in n ss ws b p w t) (word_low n ss ws b p w t) (words_in n ss ws b p w t) (first_of b' p' ss) w' in
      let page = one_page b' p' w' in
      grind (arith, nat_tests)

  long : length ws' ≡ length ws
  long = grind (arith, length-set, length-words_opened, words_in)

  program_done : sheet_meaning n ss' ws' ≡ programmed (sheet_meaning n ss ws) b p w v
  program_done = same_meaning _ _ (blocks_same n ss ss' ws ws' (length-opened ss k) long) each
      (λ b' p'. ap₂ (λ f l. not (ltb f l)) (first_opened b' p' ss k) (length-opened ss k)) (λ b'. refl)

-- the list after sheet i was opened
opened_by : (ss : List Sheet) (i : ℕ) (s : Sheet) → s ≡ cond (eqb (mark ss i) 0) (written (get_or ss i no_sheet)) (get_or ss i no_sheet) → set ss i s ≡ opened ss i
opened_by ss i s e = grind (arith, nat_tests, set-get_or)

pub programmed_is : (n : ℕ) (ss : List Sheet) (ws xs : List ℕ) (b p w v i : ℕ) (s : Sheet) → seat_of n ss ws b p w ≡ Some i
    → s ≡ cond (eqb (mark ss i) 0) (written (get_or ss i no_sheet)) (get_or ss i no_sheet) → xs ≡ word_stored (eqb (mark ss i) 0) ws i w v → v < 2 ^ 16
    → sheet_meaning n (set ss i s) xs ≡ after_program (sheet_meaning n ss ws) b p w v
programmed_is n ss ws xs b p w v i s e es ew small = grind (arith, nat_tests, opened_by, program_done)

-- one mark more is cleared
pub unmark_more : (b i : ℕ) (xs ys : List Sheet) (s : Sheet) → ys ≡ map (unmarked b) (take i xs) ++ drop i xs → i < length xs → length ys ≡ length xs → s ≡ unmarked b (get_or ys i no_sheet)
    → set ys i s ≡ map (unmarked b) (take (i + 1) xs) ++ drop (i + 1) xs
unmark_more b i xs ys s e h same f = ap (set ys i) f ∙ map_over_more (unmarked b) xs ys i (get_or ys i no_sheet) h e (get_or_default ys i no_sheet (get_or ys i no_sheet) (omega arith))

mark_unmarked : (b : ℕ) (ss : List Sheet) (j : ℕ) → mark (map (unmarked b) ss) j ≡ cond (eqb (get_or ss j no_sheet).block b) 0 (mark ss j)
mark_unmarked b [] j = grind (arith, nat_tests)
mark_unmarked b (s ∷ ss) zero = refl
mark_unmarked b (s ∷ ss) (suc j) = mark_unmarked b ss j

module _ (n : ℕ) (ss : List Sheet) (ws : List ℕ) (b : ℕ) where
  abbrev us : List Sheet
  us = map (unmarked b) ss

  each_word : (b' p' w' : ℕ) → (sheet_meaning n us ws).word b' p' w' ≡ (erased (sheet_meaning n ss ws) b).word b' p' w'
  each_word b' p' w' =
      let j = first_of b' p' ss in
      let marks = mark_unmarked b ss j in
      ap (λ i. sheet_word us ws i w') (first_unmarked b' p' b ss) ∙ ⊎_elim
      (λ (h : j < length ss). let is = first_is_of b' p' ss h in grind (arith, nat_tests))
      (λ (h : length ss ≤ j). let none = get_or_past ss j no_sheet h in grind (arith, nat_tests))
      (cases_lt j (length ss))

  erase_done : sheet_meaning n us ws ≡ erased (sheet_meaning n ss ws) b
  erase_done = same_meaning _ _ (blocks_same n ss us ws ws (length-map ss (unmarked b)) refl) each_word
      (λ b' p'. ap₂ (λ f l. not (ltb f l)) (first_unmarked b' p' b ss) (length-map ss (unmarked b))) (λ b'. refl)

pub erased_is : (n : ℕ) (ss ms : List Sheet) (ws : List ℕ) (b : ℕ) → ms ≡ sheets_erased n ss ws b → sheet_meaning n ms ws ≡ after_erase (sheet_meaning n ss ws) b
erased_is n ss ms ws b e = grind (arith, nat_tests, erase_done)
