-- The length and the items of a list after a run was filled.
use Rattle.std.proofs.Common.{◌≡◌, ℕ, ◌+◌, ◌<◌, ◌≤◌, min, cond, ◌&&◌, ltb, leb, List, ◌++◌, length, get_or, take, drop, set, replicate, sym, ap, ◌∙◌, zero-add, arith}
use Rattle.std.proofs.lemmas.List.{length-replicate, places, take_all, drop_all, take_at, drop_at, drop-drop, append-nil, length-append, length-take-le}
use Rattle.std.proofs.lemmas.List.Edits.{length-paste, paste_none, paste_all, fill_from_more}
use Rattle.std.proofs.lemmas.Bool.Decides.{nat_tests}
use Rattle.flash.specs.Runs.{run, filled}

length_run : {X : Type 0} (y : X) (at n : ℕ) (xs : List X) → at + n ≤ length xs → length (run y at n xs) ≡ length xs
unfolding run
length_run y at n xs h = grind (arith, length-replicate, length-paste)

get_or-run : {X : Type 0} (y : X) (at n : ℕ) (xs : List X) (k : ℕ) (d : X) → at + n ≤ length xs → get_or (run y at n xs) k d ≡ cond (leb at k && ltb k (at + n)) y (get_or xs k d)
unfolding run
get_or-run y at n xs k d h = let e = length-replicate n y in grind (arith, places, nat_tests)

pub length-filled : {X : Type 0} (y : X) (at n : ℕ) (xs : List X) → at + n ≤ length xs → length (filled y at n xs) ≡ length xs
length-filled y at n xs h = grind (arith, length_run)

pub get_or-filled : {X : Type 0} (y : X) (at n : ℕ) (xs : List X) (k : ℕ) (d : X) → at + n ≤ length xs → get_or (filled y at n xs) k d ≡ cond (leb at k && ltb k (at + n)) y (get_or xs k d)
get_or-filled y at n xs k d h = grind (arith, nat_tests, get_or-run)

-- a run from the start of a list: none of it yet, one item more, and all of the list
pub run_start : {X : Type 0} (y : X) (xs : List X) → xs ≡ run y 0 0 xs
unfolding run
run_start y xs = paste_none xs 0 (replicate 0 y)

pub run_next : {X : Type 0} (y : X) (i : ℕ) (xs zs : List X) → zs ≡ run y 0 i xs → i < length xs → set zs i y ≡ run y 0 (i + 1) xs
unfolding run
run_next y i xs zs e h = ap (λ l. set l i y) e ∙ ap (λ k. set (run y 0 i xs) k y) (sym (zero-add i)) ∙ fill_from_more xs 0 i y (omega arith)

pub run_all : {X : Type 0} (y : X) (n : ℕ) (xs zs : List X) → zs ≡ run y 0 n xs → length xs ≡ n → zs ≡ replicate (length xs) y
unfolding run
run_all y n xs zs e h = grind (arith, length-replicate, take_all, drop_all, append-nil)

-- a list of two parts, of which the second is filled from its start on
pub parts_filled : {X : Type 0} (y : X) (at n m : ℕ) (xs ys zs ws : List X) → xs ≡ ys ++ zs → length ys ≡ min at (length xs) → m ≡ min n (length zs) → ws ≡ replicate (length (take m zs)) y
    → ys ++ (ws ++ drop m zs) ≡ filled y at n xs
unfolding run
parts_filled y at n m xs ys zs ws e l few all =
    let long = ap length e ∙ length-append ys zs in
    let front : take at xs ≡ ys = grind (arith, take_at, take_all, drop_all, append-nil) in
    let twice = drop-drop m at xs in
    let back : drop (at + m) xs ≡ drop m zs = grind (arith, drop_at, drop_all) in
    grind (arith, paste_all, length-replicate, length-take-le)
