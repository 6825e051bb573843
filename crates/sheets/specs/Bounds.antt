-- What every array owes of itself: a sheet array has at most 256 blocks, and its words have 16 bits.
use Rattle.std.specs.Prelude.{ℕ, ◌*◌, ◌^◌, ◌<◌, ◌≤◌, not, ◌&&◌, List, length, ◌==◌, nat_le, nat_lt, slice_index_or}
use Rattle.std.proofs.Common.{arith}
use Rattle.std.proofs.lemmas.Nat.{mod_below}
use Rattle.std.proofs.lemmas.Bool.{cond_both, and_parts, leb-true}
use Rattle.flash.specs.Geometry.{max_blocks, page_words, blank_word, bits16}
use Rattle.sheets.specs.declared.Sheet.{Sheet}
use Rattle.sheets.specs.Pages.{first_of, mark}
use Rattle.sheets.specs.Checks.{max_sheets, lists_fit}
use Rattle.sheets.specs.Contents.{place, sheet_meaning}

pub capped : (n : ℕ) (ss : List Sheet) (ws : List ℕ) → (sheet_meaning n ss ws).count ≤ max_blocks
capped n ss ws = cond_both (lists_fit n ss ws) n 0 (λ m. m ≤ max_blocks)
    (λ t. leb-true n max_blocks (and_parts (nat_le n max_blocks) (nat_le (length ss) max_sheets && length ws == length ss * page_words) t).0)
    (λ t. omega arith)

pub narrow : (n : ℕ) (ss : List Sheet) (ws : List ℕ) (b p w : ℕ) → (sheet_meaning n ss ws).word b p w < 2 ^ 16
narrow n ss ws b p w =
    let k = first_of b p ss in
    cond_both (nat_lt w page_words && not (mark ss k == 0)) (bits16 (slice_index_or ws (place k w) blank_word)) blank_word (λ x. x < 2 ^ 16)
    (λ t. mod_below (slice_index_or ws (place k w) blank_word) (2 ^ 16) (omega arith))
    (λ t. omega arith)
