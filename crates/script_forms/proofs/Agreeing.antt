-- How far a line agrees with a shape.
use Rattle.std.proofs.Common.{◌≡◌, ℕ, zero, suc, ◌<◌, ◌≤◌, true, false, cond, List, [], ◌∷◌, get_or, length, ap, ◌∙◌, arith}
use Rattle.script_forms.specs.Shapes.{fits, agreed}

-- as many bytes agree as fit before the first that does not
pub agreed_is : (ss bs : List ℕ) (n : ℕ) → n ≤ length ss → n ≤ length bs →
    ((k : ℕ) → k < n → fits (get_or ss k 0) (get_or bs k 0) ≡ true) →
    (n < length ss → n < length bs → fits (get_or ss n 0) (get_or bs n 0) ≡ false) → agreed ss bs ≡ n
agreed_is [] bs n short within each stops = omega arith
agreed_is (s ∷ ss) [] n short within each stops = omega arith
agreed_is (s ∷ ss) (b ∷ bs) zero short within each stops = ap (λ t. cond t (suc (agreed ss bs)) 0) (stops (omega arith) (omega arith))
agreed_is (s ∷ ss) (b ∷ bs) (suc n) short within each stops =
    ap (λ t. cond t (suc (agreed ss bs)) 0) (each 0 (omega arith))
    ∙ ap suc (agreed_is ss bs n (omega arith) (omega arith) (λ k h. each (suc k) (omega arith)) (λ p q. stops (omega arith) (omega arith)))
