-- Sheets and the pages that they are of.
use Rattle.std.specs.Prelude.{ℕ, suc, Bool, cond, ◌&&◌, List, [], ◌∷◌, length, Some, None, Option, ◌==◌, nat_lt, slice_index_or}
use Rattle.sheets.specs.declared.Sheet.{Sheet}

-- a sheet that stands for none past the end of a list
abbrev pub no_sheet : Sheet
no_sheet = record { block = 0; page = 0; written = 0 }

-- sheet s is of page p of block b
abbrev pub is_of : ℕ → ℕ → Sheet → Bool
is_of b p s = s.block == b && s.page == p

-- the place of the first sheet of a page, or how many sheets there are
unfoldable pub first_of : ℕ → ℕ → List Sheet → ℕ
first_of b p [] = 0
first_of b p (s ∷ ss) = cond (is_of b p s) 0 (suc (first_of b p ss))

-- some sheet is of the page
abbrev pub has_sheet : ℕ → ℕ → List Sheet → Bool
has_sheet b p ss = nat_lt (first_of b p ss) (length ss)

-- the sheet of a page: of several the first
abbrev pub sheet_of : ℕ → ℕ → List Sheet → Option ℕ
sheet_of b p ss = cond (has_sheet b p ss) (Some (first_of b p ss)) None

-- the written mark of sheet k
abbrev pub mark : List Sheet → ℕ → ℕ
mark ss k = (slice_index_or ss k no_sheet).written
