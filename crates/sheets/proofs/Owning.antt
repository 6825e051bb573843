-- A list of sheets that passes the check has one sheet a page.
use Rattle.std.proofs.Common.{◌≡◌, ℕ, zero, suc, ◌<◌, true, false, List, [], ◌∷◌, length, get_or, arith}
use Rattle.std.proofs.lemmas.Bool.Decides.{nat_tests}
use Rattle.flash.specs.Geometry.{block_pages}
use Rattle.sheets.specs.declared.Sheet.{Sheet}
use Rattle.sheets.specs.Pages.{no_sheet, first_of, has_sheet}
use Rattle.sheets.specs.Checks.{good_after, good_sheets}
use Rattle.sheets.specs.Laws.{OwnsPage}
use Rattle.sheets.proofs.Walks.{has_more}

-- sheet k is of a page of n blocks that no sheet before it is of
record New (n : ℕ) (before ss : List Sheet) (k : ℕ) : Type 0 where
  block : (get_or ss k no_sheet).block < n
  page : (get_or ss k no_sheet).page < block_pages
  first : first_of (get_or ss k no_sheet).block (get_or ss k no_sheet).page ss ≡ k
  fresh : has_sheet (get_or ss k no_sheet).block (get_or ss k no_sheet).page before ≡ false

new_here : (n : ℕ) (before : List Sheet) (s : Sheet) (ss : List Sheet) → good_after n before s ≡ true → New n before (s ∷ ss) 0
unfolding first_of
new_here n before s ss g = record {
  block = grind (arith, nat_tests);
  page = grind (arith, nat_tests);
  first = grind (arith, nat_tests);
  fresh = grind (arith, nat_tests);
}

new_later : (n : ℕ) (before : List Sheet) (s : Sheet) (ss : List Sheet) (k : ℕ) → New n (s ∷ before) ss k → New n before (s ∷ ss) (suc k)
unfolding first_of
new_later n before s ss k r =
    let more = has_more (get_or ss k no_sheet).block (get_or ss k no_sheet).page s before in
    record {
      block = r.block;
      page = r.page;
      first = grind (arith, nat_tests);
      fresh = grind (arith, nat_tests);
    }

all_good : (n : ℕ) (before : List Sheet) (s : Sheet) (ss : List Sheet) → good_sheets n before (s ∷ ss) ≡ length (s ∷ ss)
    → (good_after n before s ≡ true) × (good_sheets n (s ∷ before) ss ≡ length ss)
unfolding good_sheets
all_good n before s ss e = (grind (arith, nat_tests), grind (arith, nat_tests))

all_new : (n : ℕ) (before ss : List Sheet) → good_sheets n before ss ≡ length ss → (k : ℕ) → k < length ss → New n before ss k
all_new n before [] e k h = absurd (omega arith)
all_new n before (s ∷ ss) e zero h = new_here n before s ss (all_good n before s ss e).0
all_new n before (s ∷ ss) e (suc k) h = new_later n before s ss k (all_new n (s ∷ before) ss (all_good n before s ss e).1 k (omega arith))

pub pages_owned : (n : ℕ) (ss : List Sheet) → good_sheets n [] ss ≡ length ss → (k : ℕ) → k < length ss → OwnsPage n ss k
pages_owned n ss e k l =
    let r = all_new n [] ss e k l in
    record { block = r.block; page = r.page; first = grind (arith, nat_tests) }
