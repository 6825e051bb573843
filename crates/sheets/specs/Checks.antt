-- What the check of a list of sheets answers, and what it leaves in the scratch.
use Rattle.std.specs.Prelude.{ℕ, suc, ◌+◌, ◌*◌, Bool, true, false, cond, not, ◌&&◌, List, [], ◌∷◌, length, take, Some, None, Ok, Err, Option, Result, ◌==◌, nat_le, nat_lt, slice_index, slice_set}
use Rattle.flash.specs.Geometry.{max_blocks, block_pages, page_words}
use Rattle.flash.specs.Runs.{filled}
use Rattle.sheets.specs.declared.Sheet.{Sheet}
use Rattle.sheets.specs.declared.SheetFault.{SheetFault}
use Rattle.sheets.specs.declared.SheetFault.TheVariants.{Lists, Scratch, Page}
use Rattle.sheets.specs.Pages.{has_sheet}

-- the number of each fault
abbrev pub number_of : SheetFault → ℕ
number_of Lists = 3
number_of Scratch = 4
number_of Page = 5

-- the most sheets in a list
abbrev pub max_sheets : ℕ
max_sheets = 64

-- the count of blocks, the sheets and their words agree in number
abbrev pub lists_fit : ℕ → List Sheet → List ℕ → Bool
lists_fit n ss ws = nat_le n max_blocks && (nat_le (length ss) max_sheets && length ws == length ss * page_words)

-- the scratch has a byte for each page of n blocks
abbrev pub roomy : ℕ → List ℕ → Bool
roomy n t = nat_le (n * block_pages) (length t)

-- the byte of a sheet's page in the scratch
abbrev pub byte_of : Sheet → ℕ
byte_of s = s.block * block_pages + s.page

-- a sheet is good after others if its page is one of n blocks, and none of them is of that page
abbrev pub good_after : ℕ → List Sheet → Sheet → Bool
good_after n before s = nat_lt s.block n && (nat_lt s.page block_pages && not (has_sheet s.block s.page before))

-- how many sheets are good before the first that is not
unfoldable pub good_sheets : ℕ → List Sheet → List Sheet → ℕ
good_sheets n before [] = 0
good_sheets n before (s ∷ ss) = cond (good_after n before s) (suc (good_sheets n (s ∷ before) ss)) 0

-- what the check says of the pages, by whether each sheet has one of its own
abbrev pub page_found : Bool → Result (Unit {0}) SheetFault
page_found true = Ok tt
page_found false = Err Page

-- the number of the first fault
abbrev pub sheet_check : ℕ → List Sheet → List ℕ → List ℕ → Option ℕ
sheet_check n ss ws t =
    cond (lists_fit n ss ws)
    (cond (roomy n t) (cond ((good_sheets n [] ss) == length ss) None (Some 5)) (Some 4))
    (Some 3)

-- the scratch with the bytes of sheets set to 1
unfoldable pub marked : List Sheet → List ℕ → List ℕ
marked [] t = t
marked (s ∷ ss) t = marked ss (slice_set t (byte_of s) 1)

-- the scratch with the bytes of n blocks cleared
abbrev pub cleared : ℕ → List ℕ → List ℕ
cleared n t = filled 0 0 (n * block_pages) t

-- the scratch after the check: past numbers 3 and 4 it is cleared, and marked up to the first sheet that is not good
abbrev pub scratch_after : ℕ → List Sheet → List ℕ → List ℕ → List ℕ
scratch_after n ss ws t =
    cond (lists_fit n ss ws && roomy n t) (marked (take (good_sheets n [] ss) ss) (cleared n t)) t

-- the check's walk as it goes along: a sheet is good if its page is one of n blocks and not marked yet
abbrev pub good_now : ℕ → List ℕ → Sheet → Bool
good_now n t s = nat_lt s.block n && (nat_lt s.page block_pages && slice_index t (byte_of s) == 0)

-- whether all sheets of the walk are good, and the scratch that it leaves
unfoldable pub walked : ℕ → List Sheet → List ℕ → Bool × List ℕ
walked n [] t = (true, t)
walked n (s ∷ ss) t = cond (good_now n t s) (walked n ss (slice_set t (byte_of s) 1)) (false, t)
