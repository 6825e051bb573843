-- A tick along a row is the tick of what runs.
use Rattle.std.proofs.Common.{◌≡◌, ℕ, ◌+◌, ◌-◌, ◌<◌, ◌≤◌, Bool, true, false, Some, is_ok, List, get_or, set, sym, refl, ap, ◌∙◌, arith}
use Rattle.std.proofs.lemmas.Bool.{cond-true, lt-ltb}
use Rattle.flash.specs.Meaning.{Meaning, word_at, outcome_of, programmable, programmed}
use Rattle.onenand_transfer.specs.declared.Transfer.{Transfer}
use Rattle.onenand_rules.specs.declared.plans.Plan.{Plan}
use Rattle.onenand_rules.specs.declared.plans.Running.TheVariants.{Runs}
use Rattle.onenand_rules.specs.Plans.{ticks_of, action_of}
use Rattle.onenand_rules.specs.State.{State, state_with}
use Rattle.onenand_rules.specs.Ticks.{ticked}
use Rattle.onenand_rules.specs.Calls.{tick}
use Rattle.onenand_laws.proofs.Faith.{ticks_few}
use Rattle.onenand_rows.specs.declared.Way.{Way}
use Rattle.onenand_rows.specs.declared.Way.TheVariants.{Load, Program}
use Rattle.onenand_rows.specs.declared.Row.{Row}
use Rattle.onenand_rows.specs.Rows.{is_along, Suits}
use Rattle.onenand_rows.proofs.Rows.{moves, Stands, Leads, leads}
use Rattle.onenand_steps.specs.Moves.{moved_well, moved_data, moved_array}

-- what was done went well
pub went_well : (b : Bool) → is_ok (outcome_of b) ≡ true → b ≡ true
went_well true e = refl
went_well false e = e

-- the state with word o of a row moved, that way, and k ticks had
abbrev moved : State → Row → ℕ → Way → Plan → ℕ → State
moved s r o way p k =
    state_with s s.core.registers (moved_data s.core.dataram s.array r.block r.page (r.word + o) (r.«data» + o) way) s.core.locks (Runs p k)
    (moved_array s.core.dataram s.array r.block r.page (r.word + o) (r.«data» + o) way)

-- word i of a transfer is word o of the row
module _ (s : State) (r : Row) (o : ℕ) (t : Transfer) (i : ℕ) (h : Stands r o t i) (p : Plan) (k : ℕ) (on : k + 1 < ticks_of p) where
  abbrev m : Meaning
  m = s.array

  abbrev d : List ℕ
  d = s.core.dataram

  moves_on : (way : Way) → action_of p k ≡ moves way t i → moved_well m r.block r.page (r.word + o) way ≡ true → ticked s (Runs p k) ≡ (moved s r o way p (k + 1), tick 1)
  moves_on Load acts e = rw acts (cond-true _ _ _ (lt-ltb (k + 1) (ticks_of p) on)
      ∙ ap (λ (l : List ℕ). (state_with s s.core.registers l s.core.locks (Runs p (k + 1)) m, tick 1)) (λ j. set d (h.place j) (word_at m (h.block j) (h.page j) (h.word j))))
  moves_on Program acts e = rw acts (cond-true _ _ _ ((λ j. programmable m (h.block j) (h.page j) (h.word j)) ∙ e)
      ∙ cond-true _ _ _ (lt-ltb (k + 1) (ticks_of p) on)
      ∙ ap (λ (n : Meaning). (state_with s s.core.registers d s.core.locks (Runs p (k + 1)) n, tick 1))
      ((λ j. programmed m (h.block j) (h.page j) (h.word j) (get_or d (h.place j) 0)) ∙ sym (cond-true _ _ _ e)))

-- the row suits what runs, and the tick goes along it
module _ (s : State) (r : Row) (p : Plan) (k : ℕ) (suits : Suits (Some r) (Runs p k)) (along : is_along r k ≡ true) where
  led : Leads r p k (k - r.from)
  led = leads r p k suits along

  pub short : k + 1 ≤ 1056
  short = let h = led.goes_on in let few = ticks_few p in omega arith

  pub along_on : moved_well s.array r.block r.page (r.word + (k - r.from)) r.way ≡ true → ticked s (Runs p k) ≡ (moved s r (k - r.from) r.way p (k + 1), tick 1)
  along_on e = moves_on s r (k - r.from) led.of led.number led.stands p k led.goes_on r.way led.acts e
