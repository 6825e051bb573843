-- A script's lines, of the script.
use Rattle.std.proofs.Common.{◌≡◌, ℕ, false, eqb, ◌⊎◌, List, [], ◌∷◌, ◌++◌, sym, refl, ap, inl, inr, arith, eqb-true}
use Rattle.std.proofs.lemmas.Bool.{cond_both}
use Rattle.script_forms.specs.Lines.{onto, lines_of}
use Rattle.script_forms.specs.Laws.{ended, NoFeeds, LastSome, LinesAreTheScript}

abbrev Whole : List ℕ → List (List ℕ) → Type 0
Whole bs ls = (ended ls ≡ bs) ⊎ ((ended ls ≡ bs ++ 10 ∷ []) × LastSome ls)

-- an empty line in front
fed : (b : ℕ) (bs : List ℕ) (ls : List (List ℕ)) → b ≡ 10 → Whole bs ls → Whole (b ∷ bs) ([] ∷ ls)
fed b bs ls e (inl h) = inl (λ i. sym e i ∷ h i)
fed b bs [] e (inr h) = absurd h.1
fed b bs (l ∷ ls) e (inr h) = inr ((λ i. sym e i ∷ h.0 i), h.1)

-- a byte more in front of the first line
joined : (b : ℕ) (bs : List ℕ) (ls : List (List ℕ)) → Whole bs ls → Whole (b ∷ bs) (onto b ls)
joined b bs [] (inl h) = inr (ap (λ l. b ∷ (l ++ 10 ∷ [])) h, omega arith)
joined b bs [] (inr h) = absurd h.1
joined b bs (l ∷ ls) (inl h) = inl (ap (λ x. b ∷ x) h)
joined b bs (l ∷ []) (inr h) = inr (ap (λ x. b ∷ x) h.0, omega arith)
joined b bs (l ∷ m ∷ ls) (inr h) = inr (ap (λ x. b ∷ x) h.0, h.1)

no_feeds : (b : ℕ) (ls : List (List ℕ)) → eqb b 10 ≡ false → NoFeeds ls → NoFeeds (onto b ls)
no_feeds b [] e h = ((e, tt), tt)
no_feeds b (l ∷ ls) e h = ((e, h.0), h.1)

pub lines_are_the_script : LinesAreTheScript
lines_are_the_script [] = (tt, inl refl)
lines_are_the_script (b ∷ bs) =
    let h = lines_are_the_script bs in
    cond_both (eqb b 10) _ _ (λ ls. NoFeeds ls × Whole (b ∷ bs) ls)
    (λ e. ((tt, h.0), fed b bs (lines_of bs) (eqb-true b 10 e) h.1))
    (λ e. (no_feeds b (lines_of bs) e h.0, joined b bs (lines_of bs) h.1))
