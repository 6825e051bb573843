-- The column of a line that is no form.
use Rattle.std.proofs.Common.{◌≡◌, ℕ, zero, suc, ◌+◌, ◌-◌, ◌<◌, ◌≤◌, max, true, false, cond, eqb, List, [], ◌∷◌, ◌++◌, length, take, drop, Ok, Err, Result, refl, ap, ◌∙◌, subst, ⊎_elim, arith, eq-eqb, eqb-true}
use Rattle.std.proofs.lemmas.Bool.{cond_both, both_ways, and_from, and_parts, cases_lt}
use Rattle.std.proofs.lemmas.Bool.Decides.{nat_tests}
use Rattle.std.proofs.lemmas.List.{length-append, length-take}
use Rattle.script_forms.specs.Shapes.{read_shape, write_shape, tick_shape, warm_shape, cold_shape, fits, agreed, has_shape, begun}
use Rattle.script_forms.specs.Grammar.{Asked}
use Rattle.script_forms.specs.Laws.{Begins, ColumnIsFirst}
use Rattle.script_forms.proofs.Choosing.{NoShape, form_by, some_form}

-- some line of a shape, from where it is left
abbrev fill : List ℕ → List ℕ
fill [] = []
fill (s ∷ ss) = cond (eqb s 35) 48 s ∷ fill ss

-- each of its bytes fits
fits_fill : (s : ℕ) → fits s (cond (eqb s 35) 48 s) ≡ true
fits_fill s = grind (arith, nat_tests)

-- a line of a shape agrees with it to the end
filled : (ss : List ℕ) → (agreed ss (fill ss) ≡ length ss) × (length (fill ss) ≡ length ss)
filled [] = (refl, refl)
filled (s ∷ ss) =
    let h = filled ss in
    (ap (λ b. cond b (suc (agreed ss (fill ss))) 0) (fits_fill s) ∙ ap suc h.0, ap suc h.1)

-- the first m bytes of a line, filled up to a line of the shape
abbrev filled_from : List ℕ → List ℕ → ℕ → List ℕ
filled_from ss bs m = take m bs ++ fill (drop m ss)

-- what agrees with a shape can be filled up so
whole : (ss bs : List ℕ) → let line = filled_from ss bs (agreed ss bs) in (agreed ss line ≡ length ss) × (length line ≡ length ss)
whole [] bs = (refl, refl)
whole (s ∷ ss) [] = filled (s ∷ ss)
whole (s ∷ ss) (b ∷ bs) =
    let h = whole ss bs in
    cond_both (fits s b) _ _ (λ m. let line = filled_from (s ∷ ss) (b ∷ bs) m in (agreed (s ∷ ss) line ≡ suc (length ss)) × (length line ≡ suc (length ss)))
    (λ e. (ap (λ t. cond t (suc (agreed ss (filled_from ss bs (agreed ss bs)))) 0) e ∙ ap suc h.0, ap suc h.1))
    (λ _. filled (s ∷ ss))

-- a line of the shape that goes on from there
abbrev full : List ℕ → List ℕ → List ℕ
full ss bs = filled_from ss bs (agreed ss bs)

is_whole : (ss bs : List ℕ) → has_shape ss (full ss bs) ≡ true
is_whole ss bs = let h = whole ss bs in and_from _ _ (eq-eqb _ _ h.1) (eq-eqb _ _ h.0)

-- an agreement with c bytes of a line, however they go on, is one with the line
agreed_front : (c : ℕ) (ss bs rest : List ℕ) → c ≤ length bs → c ≤ agreed ss (take c bs ++ rest) → c ≤ agreed ss bs
agreed_front zero ss bs rest h k = omega arith
agreed_front (suc c) [] bs rest h k = k
agreed_front (suc c) (s ∷ ss) [] rest h k = absurd (omega arith)
agreed_front (suc c) (s ∷ ss) (b ∷ bs) rest h k =
    cond_both (fits s b) _ _ (λ n. suc c ≤ n)
    (λ e. let j = rw e at k in let i : c ≤ agreed ss bs = agreed_front c ss bs rest (omega arith) (omega arith) in omega arith)
    (λ e. rw e at k)

-- no agreement goes past the line
agreed_within : (ss bs : List ℕ) → agreed ss bs ≤ length bs
agreed_within [] bs = omega arith
agreed_within (s ∷ ss) [] = omega arith
agreed_within (s ∷ ss) (b ∷ bs) =
    let h = agreed_within ss bs in
    cond_both (fits s b) _ _ (λ n. n ≤ suc (length bs)) (λ _. omega arith) (λ _. omega arith)

-- n bytes of a line begin some form
record Front (line : List ℕ) (n : ℕ) : Type 0 where
  begins : Begins (take n line)

-- one of the five agrees as far as any
begins : (line : List ℕ) → Front line (begun line)
begins line =
    longer (so_far read_shape (λ none. none.read)) (longer (so_far write_shape (λ none. none.write)) (longer (so_far tick_shape (λ none. none.tick))
    (longer (so_far warm_shape (λ none. none.warm)) (so_far cold_shape (λ none. none.cold)))))
  where
    longer : {a b : ℕ} → Front line a → Front line b → Front line (max a b)
    longer {a} {b} p q = ⊎_elim
        (λ (h : a < b). let e : b ≡ max a b = omega arith in subst (Front line) e q)
        (λ (h : b ≤ a). let e : a ≡ max a b = omega arith in subst (Front line) e p)
        (cases_lt a b)

    so_far : (ss : List ℕ) → (NoShape (full ss line) → has_shape ss (full ss line) ≡ false) → Front line (agreed ss line)
    so_far ss other = record { begins = (fill (drop (agreed ss line) ss), some_form (full ss line) (λ none. both_ways _ (other none) (is_whole ss line))) }

-- a line of a shape that begins with c bytes of another line agrees with that one so far
far : (ss line rest : List ℕ) (c : ℕ) → c ≤ length line → has_shape ss (take c line ++ rest) ≡ true → c ≤ agreed ss line
far ss line rest c h e =
    let p = and_parts _ _ e in
    let long : length (take c line ++ rest) ≡ length ss = eqb-true _ _ p.0 in
    let all : agreed ss (take c line ++ rest) ≡ length ss = eqb-true _ _ p.1 in
    agreed_front c ss line rest h (omega (arith, length-append (take c line) rest, length-take c line))

-- past what is begun no form goes on
stops : (line : List ℕ) (c : ℕ) → begun line < c → c ≤ length line → Begins (take c line) → ⊥
stops line c more h (rest, (f, form)) =
    form_by (λ r. r ≡ Ok f → ⊥) (take c line ++ rest) (past read_shape (omega arith)) (past write_shape (omega arith)) (past tick_shape (omega arith)) (past warm_shape (omega arith)) (past cold_shape (omega arith)) (λ _ e. cc) form
  where
    past : (ss : List ℕ) → agreed ss line < c → {A : Type 0} → has_shape ss (take c line ++ rest) ≡ true → A → ⊥
    past ss short e _ = omega (arith, far ss line rest c h e)

-- the column of a line that is no form
abbrev IsColumn : List ℕ → Result Asked ℕ → Type 0
IsColumn line (Ok f) = Unit {0}
IsColumn line (Err c) = c ≡ begun line + 1

pub column_is_first : ColumnIsFirst
column_is_first line c e =
    let here : c ≡ begun line + 1 = subst (IsColumn line) e (form_by (IsColumn line) line (λ _. tt) (λ _. tt) (λ _. tt) (λ _. tt) (λ _. tt) (λ _. refl)) in
    let before : begun line ≡ c - 1 = omega arith in (
      omega arith,
      omega (arith, agreed_within read_shape line, agreed_within write_shape line, agreed_within tick_shape line, agreed_within warm_shape line, agreed_within cold_shape line),
      (subst (Front line) before (begins line)).begins,
      stops line c (omega arith),
    )
