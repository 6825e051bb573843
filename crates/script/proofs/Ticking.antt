-- One tick more of those that a form asks for.
use Rattle.std.proofs.Common.{◌≡◌, ℕ, suc, ◌+◌, ◌-◌, ◌<◌, Ok, Err, Result, Bool, true, false, cond, is_err, [], sym, refl, ap, ◌∙◌, arith}
use Rattle.onenand_rules.specs.declared.calls.Call.TheVariants.{Tick}
use Rattle.onenand_rules.specs.declared.calls.Progress.{Progress}
use Rattle.onenand_rules.specs.declared.calls.Refusal.{Refusal}
use Rattle.onenand_rules.specs.Calls.{tick_reply}
use Rattle.onenand_rules.specs.State.{State}
use Rattle.onenand_rules.specs.Steps.{step, after}
use Rattle.script.specs.Puts.{is_refused, ran, ticks_put}

refuses : (r : Result Progress Refusal) → is_refused (tick_reply r) ≡ is_err r
refuses (Ok p) = refl
refuses (Err e) = refl

-- a chip in the state s has had `done` of `count` ticks, and a tick takes it to s'
module _ (count done : ℕ) (s s' : State) (r : Result Progress Refusal) (more : done < count) (answers : tick_reply r ≡ (step s Tick).1) (led : s' ≡ (step s Tick).0) where
  one_of : count - done ≡ suc (count - (done + 1))
  one_of = omega arith

  abbrev left : ℕ
  left = count - (done + 1)

  is_it : (b : Bool) → b ≡ is_err r → is_refused (step s Tick).1 ≡ b
  is_it b e = sym (ap is_refused answers) ∙ refuses r ∙ sym e

  -- it ran
  module _ (runs : false ≡ is_err r) where
    pub ran_on : ran (count - done) s ≡ suc (ran left s')
    ran_on = ap (λ n. ran n s) one_of ∙ ap (λ b. cond b 0 (suc (ran left (step s Tick).0))) (is_it false runs) ∙ ap (λ t. suc (ran left t)) (sym led)

    pub state_on : after s (ticks_put (count - done) s) ≡ after s' (ticks_put left s')
    state_on = ap (λ n. after s (ticks_put n s)) one_of ∙ ap (λ b. after (step s Tick).0 (cond b [] (ticks_put left (step s Tick).0))) (is_it false runs) ∙ ap (λ t. after t (ticks_put left t)) (sym led)

  -- it was refused
  module _ (stops : true ≡ is_err r) where
    pub state_up : after s (ticks_put (count - done) s) ≡ s'
    state_up = ap (λ n. after s (ticks_put n s)) one_of ∙ ap (λ b. after (step s Tick).0 (cond b [] (ticks_put left (step s Tick).0))) (is_it true stops) ∙ sym led
