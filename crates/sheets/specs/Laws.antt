-- What a list that passes the check can be relied on for.
use Rattle.std.specs.Prelude.{◌≡◌, ℕ, ◌<◌, List, Some, slice_index_or}
use Rattle.flash.specs.Geometry.{block_pages}
use Rattle.sheets.specs.declared.Sheet.{Sheet}
use Rattle.sheets.specs.Pages.{no_sheet, sheet_of}

-- sheet k is of a page of n blocks, and it is the sheet that this page reads from
pub record OwnsPage (n : ℕ) (ss : List Sheet) (k : ℕ) : Type 0 where
  pub block : (slice_index_or ss k no_sheet).block < n
  pub page : (slice_index_or ss k no_sheet).page < block_pages
  pub first : sheet_of (slice_index_or ss k no_sheet).block (slice_index_or ss k no_sheet).page ss ≡ Some k
