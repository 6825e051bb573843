-- One tick more of those that are put until a command ends.
use Rattle.std.proofs.Common.{◌≡◌, ℕ, suc, ◌+◌, ◌-◌, ◌<◌, true, false, cond, sym, refl, ap, ◌∙◌, arith}
use Rattle.onenand_rules.specs.declared.calls.Call.TheVariants.{Tick}
use Rattle.onenand_rules.specs.State.{State}
use Rattle.onenand_rules.specs.Calls.{Reply}
use Rattle.onenand_rules.specs.Steps.{step}
use Rattle.speed.specs.Ending.{runs_on, counted, answered, ended}

pub none_answered : (s : State) → answered 0 s ≡ 0
unfolding answered
none_answered s = refl

pub none_put : (s : State) → ended 0 s ≡ s
unfolding ended
none_put s = refl

-- a chip in the state s has had k of n ticks, and a tick replies r and takes it to s'
module _ (n k : ℕ) (s s' : State) (r : Reply) (more : k < n) (told : r ≡ (step s Tick).1) (led : s' ≡ (step s Tick).0) where
  one_of : n - k ≡ suc (n - (k + 1))
  one_of = omega arith

  abbrev left : ℕ
  left = n - (k + 1)

  -- the command runs on
  module _ (runs : runs_on r ≡ true) where
    on : runs_on (step s Tick).1 ≡ true
    on = sym (ap runs_on told) ∙ runs

    pub answered_on : answered (n - k) s ≡ suc (answered left s')
    unfolding answered
    answered_on =
        ap (λ i. answered i s) one_of
        ∙ ap (λ b. cond b (suc (answered left (step s Tick).0)) (counted (step s Tick).1)) on
        ∙ ap (λ t. suc (answered left t)) (sym led)

    pub ended_on : ended (n - k) s ≡ ended left s'
    unfolding ended
    ended_on =
        ap (λ i. ended i s) one_of
        ∙ ap (λ b. cond b (ended left (step s Tick).0) (step s Tick).0) on
        ∙ ap (λ t. ended left t) (sym led)

  -- it does not
  module _ (stops : runs_on r ≡ false) where
    up : runs_on (step s Tick).1 ≡ false
    up = sym (ap runs_on told) ∙ stops

    pub answered_up : answered (n - k) s ≡ counted r
    unfolding answered
    answered_up =
        ap (λ i. answered i s) one_of
        ∙ ap (λ b. cond b (suc (answered left (step s Tick).0)) (counted (step s Tick).1)) up
        ∙ sym (ap counted told)

    pub ended_up : ended (n - k) s ≡ s'
    unfolding ended
    ended_up =
        ap (λ i. ended i s) one_of
        ∙ ap (λ b. cond b (ended left (step s Tick).0) (step s Tick).0) up
        ∙ sym led
