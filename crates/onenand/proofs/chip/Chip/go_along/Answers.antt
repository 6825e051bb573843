use Rattle.std.proofs.Common.{◌+◌, ◌≤◌, Some, is_ok, sym, ap, ◌∙◌, subst, arith}
use Rattle.onenand_rules.specs.declared.plans.Running.TheVariants.{Runs}
use Rattle.onenand_rules.specs.State.{State, core_with}
use Rattle.onenand_rules.specs.Ticks.{ticked}
use Rattle.onenand_rules.specs.Calls.{Reply}
use Rattle.onenand_rows.specs.Rows.{Suits}
use Rattle.onenand_steps.proofs.Stands.{same_state}
use Rattle.onenand.specs.Chips.{state_of}
use Rattle.onenand.proofs.Along.{short, along_on, went_well}
use Rattle.onenand.proofs.chip.Chip.go_along.Goals as goal

pub overflow_add-k : goal.overflow_add-k
overflow_add-k g c =
    let chip = c.args.self.now in
    let row = c.in-Some.row in
    let suits = subst (Suits (Some row)) c.in-Runs.is (subst (λ r. Suits r chip.core.running) c.in-Some.is chip.suits) in
    let h : c.in-Runs.k + 1 ≤ 1056 = short (state_of chip) row c.in-Runs.field-0 c.in-Runs.k suits (sym c.is_along.ensures ∙ c.if-is_along.true) in
    omega arith

pub returns : goal.returns
returns g c =
    let chip = c.args.self.now in
    let s = state_of chip in
    let row = c.in-Some.row in
    let suits = subst (Suits (Some row)) c.in-Runs.is (subst (λ r. Suits r chip.core.running) c.in-Some.is chip.suits) in
    let moved = c.move_word.ensures in
    let well = went_well _ (sym (ap is_ok moved.value) ∙ sym c.is_ok.ensures.value ∙ c.if-is_ok.true) in
    let e = ap (ticked s) c.in-Runs.is ∙ along_on s row c.in-Runs.field-0 c.in-Runs.k suits (sym c.is_along.ensures ∙ c.if-is_along.true) well in (
      sym (ap (λ (q : State × Reply). q.1) e),
      same_state (λ i. core_with chip.core chip.core.registers (moved.words i) chip.core.locks (Runs c.in-Runs.field-0 (c.in-Runs.k + 1))) moved.flash
          ∙ sym (ap (λ (q : State × Reply). q.0) e),
    )
