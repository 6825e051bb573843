-- The check's walk over the sheets, by the scratch and by the sheets alone.
use Rattle.std.proofs.Common.{◌≡◌, ℕ, ◌+◌, ◌*◌, ◌<◌, ◌≤◌, Bool, true, false, cond, eqb, List, [], ◌∷◌, length, get_or, take, drop, set, Result, Ok, Err, sym, refl, ap, ap₂, ◌∙◌, ⊎_elim, arith}
use Rattle.std.proofs.lemmas.List.{at_drop_more, at_drop_all, length-set, get_or-set_same, get_or-set_other}
use Rattle.std.proofs.lemmas.Bool.{cond-true, cond-false, cases_Bool}
use Rattle.std.proofs.lemmas.Bool.Decides.{nat_tests}
use Rattle.flash.specs.Geometry.{block_pages}
use Rattle.flash.proofs.Runs.{get_or-filled, length-filled}
use Rattle.sheets.specs.declared.Sheet.{Sheet}
use Rattle.sheets.specs.declared.SheetFault.{SheetFault}
use Rattle.sheets.specs.Pages.{no_sheet, is_of, first_of, has_sheet}
use Rattle.sheets.specs.Checks.{byte_of, good_after, good_sheets, marked, cleared, good_now, walked, page_found}

found_good : (g : Bool) (x : Unit {0}) → page_found g ≡ Ok x → g ≡ true
found_good true x e = refl
found_good false x e = cc

found_bad : (g : Bool) (x : SheetFault) → page_found g ≡ Err x → g ≡ false
found_bad true x e = cc
found_bad false x e = refl

-- one step of a walk that is as good as `all`, by what the mark of its sheet answers, and the walk's end
module _ (n : ℕ) (ss : List Sheet) (t : List ℕ) (i : ℕ) (all : Bool × List ℕ) (so_far : walked n (drop i ss) t ≡ all) where
  abbrev good : Bool
  good = good_now n t (get_or ss i no_sheet)

  abbrev after : List ℕ
  after = set t (byte_of (get_or ss i no_sheet)) 1

  step : i < length ss → walked n (drop i ss) t ≡ cond good (walked n (drop (i + 1) ss) after) (false, t)
  unfolding walked
  step within = at_drop_more (λ xs. walked n xs t) ss i no_sheet within

  pub walk_on : (m : ℕ) (r : Result (Unit {0}) SheetFault) (x : Unit {0}) (u : List ℕ) → i < length ss → r ≡ page_found good → r ≡ Ok x → u ≡ cond good after t → m ≡ n → walked m (drop (i + 1) ss) u ≡ all
  walk_on m r x u within v f e same =
      let g = found_good good x (sym v ∙ f) in
      ap₂ (λ k xs. walked k (drop (i + 1) ss) xs) same (e ∙ cond-true _ _ _ g) ∙ sym (step within ∙ cond-true _ _ _ g) ∙ so_far

  pub walk_stops : (r : Result (Unit {0}) SheetFault) (x : SheetFault) (u : List ℕ) → i < length ss → r ≡ page_found good → r ≡ Err x → u ≡ cond good after t → (good, u) ≡ all
  walk_stops r x u within v f e =
      let g = found_bad good x (sym v ∙ f) in
      ap₂ (λ r v. (r, v)) g (e ∙ cond-false _ _ _ g) ∙ sym (step within ∙ cond-false _ _ _ g) ∙ so_far

  pub walk_ends : length ss ≤ i → (true, t) ≡ all
  unfolding walked
  walk_ends h = sym (at_drop_all (λ xs. walked n xs t) ss i h) ∙ so_far

-- the scratch shows which pages of n blocks have a sheet
abbrev Shows : ℕ → List Sheet → List ℕ → Type 0
Shows n before t = (b p : ℕ) → b < n → p < block_pages → get_or t (b * block_pages + p) 0 ≡ cond (has_sheet b p before) 1 0

pub has_more : (b p : ℕ) (s : Sheet) (ss : List Sheet) → has_sheet b p (s ∷ ss) ≡ cond (is_of b p s) true (has_sheet b p ss)
unfolding first_of
has_more b p s ss = grind (arith, nat_tests)

shows_none : (n : ℕ) (t : List ℕ) → n * block_pages ≤ length t → Shows n [] (cleared n t)
unfolding first_of
shows_none n t long b p hb hp = let e = get_or-filled 0 0 (n * block_pages) t (b * block_pages + p) 0 (omega arith) in grind (arith, nat_tests)

shows_more : (n : ℕ) (before : List Sheet) (t : List ℕ) (s : Sheet) → n * block_pages ≤ length t → good_after n before s ≡ true → Shows n before t → Shows n (s ∷ before) (set t (byte_of s) 1)
shows_more n before t s long g shows b p hb hp =
    let more = has_more b p s before in
    let was = shows b p hb hp in
    grind (arith, nat_tests, get_or-set_same, get_or-set_other)

same_test : (n : ℕ) (before : List Sheet) (t : List ℕ) (s : Sheet) → Shows n before t → good_now n t s ≡ good_after n before s
same_test n before t s shows = grind (arith, nat_tests, shows)

-- what the walk gives, by how many sheets are good
abbrev pub given : ℕ → List Sheet → List ℕ → Bool × List ℕ
given k ss t = (eqb k (length ss), marked (take k ss) t)

walk_is : (n : ℕ) (before ss : List Sheet) (t : List ℕ) → n * block_pages ≤ length t → Shows n before t → walked n ss t ≡ given (good_sheets n before ss) ss t
unfolding walked good_sheets marked
walk_is n before [] t long shows = refl
walk_is n before (s ∷ ss) t long shows =
    let test = same_test n before t s shows in
    ⊎_elim
    (λ (g : good_after n before s ≡ true).
    let longer = length-set t (byte_of s) 1 in
    let more = walk_is n (s ∷ before) ss (set t (byte_of s) 1) (omega arith) (shows_more n before t s long g shows) in
    grind (arith, nat_tests))
    (λ (g : good_after n before s ≡ false). grind (arith, nat_tests))
    (cases_Bool (good_after n before s))

pub walk_cleared : (n : ℕ) (ss : List Sheet) (t u : List ℕ) → n * block_pages ≤ length t → u ≡ cleared n t → walked n ss u ≡ given (good_sheets n [] ss) ss (cleared n t)
walk_cleared n ss t u long e =
    let longer : n * block_pages ≤ length (cleared n t) = let e = length-filled 0 0 (n * block_pages) t (omega arith) in omega arith in
    ap (walked n ss) e ∙ walk_is n [] ss (cleared n t) longer (shows_none n t long)
