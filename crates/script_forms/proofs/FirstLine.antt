-- A script's first line, and the lines past it.
use Rattle.std.proofs.Common.{◌≡◌, ℕ, suc, ◌+◌, ◌<◌, Bool, true, false, cond, not, eqb, List, [], ◌∷◌, length, take, drop, refl, ap, arith}
use Rattle.std.specs.List.{before_first, after_first, position_or_len}
use Rattle.script_forms.specs.Lines.{is_feed, onto, lines_of}

pub first_line : (bs : List ℕ) → 0 < length bs → lines_of bs ≡ before_first is_feed bs ∷ lines_of (after_first is_feed bs)
first_line [] h = absurd (omega arith)
first_line (b ∷ bs) h = by (eqb b 10) bs (first_line bs)
  where
    by : (t : Bool) (cs : List ℕ) → (0 < length cs → lines_of cs ≡ before_first is_feed cs ∷ lines_of (after_first is_feed cs)) →
        let n = cond (not t) (1 + position_or_len is_feed cs) 0 in
        cond t ([] ∷ lines_of cs) (onto b (lines_of cs)) ≡ take n (b ∷ cs) ∷ lines_of (drop (n + 1) (b ∷ cs))
    by true cs ih = refl
    by false [] ih = refl
    by false (c ∷ cs) ih =
        let n = position_or_len is_feed (c ∷ cs) in
        let one : 1 + n ≡ suc n = omega arith in
        let two : suc n + 1 ≡ suc (n + 1) = omega arith in
        rw (one, two) (ap (onto b) (ih (omega arith)))
