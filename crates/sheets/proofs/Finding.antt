-- The first sheet of a page: a walk finds it, it is of that page, and marks do not move it.
use Rattle.std.proofs.Common.{◌≡◌, ℕ, zero, suc, ◌<◌, true, cond, List, [], ◌∷◌, map, length, get_or, set, refl, ap, arith}
use Rattle.std.specs.List.{position_or_len, position}
use Rattle.std.proofs.lemmas.Bool.Decides.{nat_tests}
use Rattle.flash.specs.Geometry.{block_pages, page_words}
use Rattle.sheets.specs.declared.Sheet.{Sheet}
use Rattle.sheets.specs.Pages.{no_sheet, is_of, first_of, sheet_of}
use Rattle.sheets.specs.Contents.{blocks, seat_of, unmarked}

-- the library's search stops at the first sheet of a page, which is the one that has the page's words
first_is_position : (b p : ℕ) (ss : List Sheet) → position_or_len (is_of b p) ss ≡ first_of b p ss
unfolding first_of
first_is_position b p [] = refl
first_is_position b p (s ∷ ss) = let more = first_is_position b p ss in grind (arith, nat_tests)

pub position_is_sheet : (b p : ℕ) (ss : List Sheet) → position (is_of b p) ss ≡ sheet_of b p ss
position_is_sheet b p ss = let first = first_is_position b p ss in grind (arith, nat_tests)

pub found : (n : ℕ) (ss : List Sheet) (ws : List ℕ) (b p w : ℕ) → b < blocks n ss ws → p < block_pages → w < page_words → position (is_of b p) ss ≡ seat_of n ss ws b p w
found n ss ws b p w hb hp hw = let sheet = position_is_sheet b p ss in grind (arith, nat_tests)

-- the sheet that is found is of the page
pub first_is_of : (b p : ℕ) (ss : List Sheet) → first_of b p ss < length ss → is_of b p (get_or ss (first_of b p ss) no_sheet) ≡ true
unfolding first_of
first_is_of b p [] h = absurd (omega arith)
first_is_of b p (s ∷ ss) h = let more = first_is_of b p ss in grind (arith, nat_tests)

-- a sheet is the first of one page only
pub first_of_one : (b p b' p' : ℕ) (ss : List Sheet) → first_of b p ss < length ss → first_of b' p' ss ≡ first_of b p ss → (b' ≡ b) × (p' ≡ p)
first_of_one b p b' p' ss h e =
    let here = first_is_of b p ss h in
    let there = first_is_of b' p' ss (omega arith) in
    let at = ap (λ k. get_or ss k no_sheet) e in
    (grind (arith, nat_tests), grind (arith, nat_tests))

-- a sheet that keeps its page is found where it was
pub first_set : (b p : ℕ) (ss : List Sheet) (k : ℕ) (t : Sheet) → is_of b p t ≡ is_of b p (get_or ss k no_sheet) → first_of b p (set ss k t) ≡ first_of b p ss
unfolding first_of
first_set b p [] k t e = refl
first_set b p (s ∷ ss) zero t e = ap (λ x. cond x 0 (suc (first_of b p ss))) e
first_set b p (s ∷ ss) (suc k) t e = ap (λ n. cond (is_of b p s) 0 (suc n)) (first_set b p ss k t e)

pub first_unmarked : (b p c : ℕ) (ss : List Sheet) → first_of b p (map (unmarked c) ss) ≡ first_of b p ss
unfolding first_of
first_unmarked b p c [] = refl
first_unmarked b p c (s ∷ ss) = ap (λ n. cond (is_of b p s) 0 (suc n)) (first_unmarked b p c ss)
