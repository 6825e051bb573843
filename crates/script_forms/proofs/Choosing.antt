-- The form of a line, by the five tests.
use Rattle.std.proofs.Common.{◌≡◌, ℕ, ◌+◌, true, false, List, Ok, Err, Result, refl}
use Rattle.std.proofs.lemmas.Bool.{cond_both}
use Rattle.script_forms.specs.Shapes.{read_shape, write_shape, tick_shape, warm_shape, cold_shape, has_shape, begun}
use Rattle.script_forms.specs.Grammar.{Asked, read, write, tick, warm, cold, number_at, form_of}
use Rattle.script_forms.specs.Laws.{IsForm}

-- no test holds
pub record NoShape (line : List ℕ) : Type 0 where
  pub read : has_shape read_shape line ≡ false
  pub write : has_shape write_shape line ≡ false
  pub tick : has_shape tick_shape line ≡ false
  pub warm : has_shape warm_shape line ≡ false
  pub cold : has_shape cold_shape line ≡ false

-- what holds of whatever the tests lead to holds of the form
pub form_by : (P : Result Asked ℕ → Type 0) (line : List ℕ) →
    (has_shape read_shape line ≡ true → P (Ok (read (number_at line 7)))) →
    (has_shape write_shape line ≡ true → P (Ok (write (number_at line 8) (number_at line 13)))) →
    (has_shape tick_shape line ≡ true → P (Ok (tick (number_at line 7)))) →
    (has_shape warm_shape line ≡ true → P (Ok warm)) →
    (has_shape cold_shape line ≡ true → P (Ok cold)) →
    (NoShape line → P (Err (begun line + 1))) → P (form_of line)
form_by P line r w t m c none =
    cond_both _ _ _ P r (λ no_r. cond_both _ _ _ P w (λ no_w. cond_both _ _ _ P t (λ no_t. cond_both _ _ _ P m (λ no_m. cond_both _ _ _ P c (λ no_c.
    none (record { read = no_r; write = no_w; tick = no_t; warm = no_m; cold = no_c }))))))

-- a line of some shape is a form
pub some_form : (line : List ℕ) → (NoShape line → ⊥) → IsForm line
some_form line some = form_by (λ r. (f : Asked) × (r ≡ Ok f)) line (λ _. (_, refl)) (λ _. (_, refl)) (λ _. (_, refl)) (λ _. (_, refl)) (λ _. (_, refl)) (λ none. absurd (some none))
