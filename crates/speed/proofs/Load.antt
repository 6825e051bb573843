-- Reads and rounds of the load, opened.
use Rattle.std.proofs.Common.{◌≡◌, ℕ, suc, ◌+◌, Ok, Err, Result, sym, refl, ap, ◌∙◌, add-one}
use Rattle.std.specs.Result.{result_unwrap_or}
use Rattle.onenand_rules.specs.declared.calls.Call.TheVariants.{Read}
use Rattle.onenand_rules.specs.declared.calls.Refusal.{Refusal}
use Rattle.onenand_rules.specs.State.{State}
use Rattle.onenand_rules.specs.Calls.{read_reply}
use Rattle.onenand_rules.specs.Steps.{step}
use Rattle.onenand_laws.specs.Observer.{word_in}
use Rattle.speed.specs.declared.Tally.{Tally}
use Rattle.speed.specs.Load.{shown_at, round_end, tallied, rounds_end, rounds_tally}

-- the word of a read, and 0 where it is refused
pub reads_there : (s : State) (a : ℕ) (r : Result ℕ Refusal) → read_reply r ≡ (step s (Read a)).1 → result_unwrap_or r 0 ≡ shown_at s a
unfolding shown_at
reads_there s a (Ok w) e = ap word_in e
reads_there s a (Err f) e = ap word_in e

-- no round, and a round more
pub no_round_leads : (s : State) → s ≡ rounds_end 0 s
unfolding rounds_end
no_round_leads s = refl

pub no_round_counts : (s : State) (t : Tally) → t ≡ rounds_tally 0 s t
unfolding rounds_tally
no_round_counts s t = refl

round_leads : (n : ℕ) (s : State) → round_end n (rounds_end n s) ≡ rounds_end (suc n) s
unfolding rounds_end
round_leads n s = refl

round_counts : (n : ℕ) (s : State) (t : Tally) → tallied n (rounds_end n s) (rounds_tally n s t) ≡ rounds_tally (suc n) s t
unfolding rounds_tally
round_counts n s t = refl

pub round_on : (n : ℕ) (start here there : State) (t₀ t t' : Tally)
    → (t ≡ rounds_tally n start t₀) × (here ≡ rounds_end n start) → t' ≡ tallied n here t → there ≡ round_end n here
    → (t' ≡ rounds_tally (n + 1) start t₀) × (there ≡ rounds_end (n + 1) start)
round_on n start here there t₀ t t' inv e f = (
  e ∙ ap (λ s. tallied n s t) inv.1
      ∙ ap (λ u. tallied n (rounds_end n start) u) inv.0
      ∙ round_counts n start t₀
      ∙ ap (λ k. rounds_tally k start t₀) (sym (add-one n)),
  f ∙ ap (λ s. round_end n s) inv.1 ∙ round_leads n start ∙ ap (λ k. rounds_end k start) (sym (add-one n)),
)
