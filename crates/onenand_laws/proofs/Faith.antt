-- The promise at one moment: each part of it follows from the invariant.
use Rattle.std.proofs.Common.{◌≡◌, ℕ, zero, suc, ◌+◌, ◌-◌, ◌<◌, ◌≤◌, Bool, true, false, cond, not, ◌||◌, eqb, ltb, ◌⊎◌, List, [], ◌∷◌, length, get_or, replicate, sym, refl, ap, ◌∙◌, subst, inl, inr, ⊎_elim, arith, rules}
use lib.Bits.{bit_and}
use Rattle.std.proofs.lemmas.Bool.{cond_both, eqb-true, ltb-true, ltb-false, false≢true, true≢false, ne_eqb, eq-eqb, cases_eq, cond-true, cond-false, or_cases}
use Rattle.std.proofs.lemmas.Bool.Decides.{nat_tests}
use Rattle.flash.specs.Meaning.{Meaning}
use Rattle.onenand_protection.specs.declared.Lock.TheVariants.{Tight}
use Rattle.onenand_protection.specs.Protection.{is_unlocked, lock_at}
use Rattle.onenand_registers.specs.declared.address.Place.{Place}
use Rattle.onenand_registers.specs.declared.registers.Registers.{Registers}
use Rattle.onenand_registers.specs.Addresses.{place_of, address_of}
use Rattle.onenand_transfer.specs.declared.Part.TheVariants.{Whole}
use Rattle.onenand_transfer.specs.declared.Transfer.{Transfer}
use Rattle.onenand_transfer.specs.Transfers.{buffer_word}
use Rattle.onenand_rules.specs.declared.calls.Call.{Call}
use Rattle.onenand_rules.specs.declared.calls.Call.TheVariants.{Read, Write, Tick, Warm, Cold}
use Rattle.onenand_rules.specs.declared.commands.Command.{Command as Cmd}
use Rattle.onenand_rules.specs.declared.commands.Command.TheVariants.{Load, Program, CopyBack, Erase, Verify, Protect, Reset, Unknown}
use Rattle.onenand_rules.specs.declared.commands.Kind.{Kind}
use Rattle.onenand_rules.specs.declared.commands.Fault.{Fault}
use Rattle.onenand_rules.specs.declared.plans.Plan.{Plan}
use Rattle.onenand_rules.specs.declared.plans.Plan.TheVariants.{Fails, Loads, Programs, Copies, Erases, Verifies, Protects, Resets}
use Rattle.onenand_rules.specs.declared.plans.Running.{Running}
use Rattle.onenand_rules.specs.declared.plans.Running.TheVariants.{Idle, Runs}
use Rattle.onenand_rules.specs.declared.plans.Action.TheVariants.{LoadWord, ProgramWord}
use Rattle.onenand_rules.specs.declared.state.Core.{Core}
use Rattle.onenand_rules.specs.Commands.{command_of, is_reset, error_status}
use Rattle.onenand_rules.specs.Plans.{ticks_of, action_of, plan_kind, plan_fault, is_hot, taken, holds_off, busy}
use Rattle.onenand_rules.specs.Checks.{transfer_of, copy_target, intended, planned}
use Rattle.onenand_rules.specs.State.{State}
use Rattle.onenand_rules.specs.Calls.{Reply, word, done, tick, refused}
use Rattle.onenand_rules.specs.Reads.{shown}
use Rattle.onenand_rules.specs.Writes.{plan_for, stored}
use Rattle.onenand_rules.specs.Ticks.{succeeds, array_after, registers_after, acted, closed, ticked}
use Rattle.onenand_rules.specs.Steps.{step}
use Rattle.onenand_laws.specs.Observer.{word_in, peek, Underway, none, started, Moment, next, reaches, drops}
use Rattle.onenand_laws.specs.Promise.{Reads, Clear, is_load, is_program, is_changing, part_of, count, block, page, place, Loaded, Programmed, Copied, Erased, Faithful, Ends, Calm, Still}
use Rattle.onenand_laws.proofs.Words.{buffer_word_below, size_some, place_of_address}
use Rattle.onenand_laws.proofs.Tight.{stays_tight}
use Rattle.onenand_laws.proofs.Moments.{ProgramsSoFar, Progress, Held, Under, Sound, plan_ways, progress_on, next_sound}

pub ticks_few : (p : Plan) → ticks_of p ≤ 1056
ticks_few (Fails f k) = omega arith
ticks_few (Loads t) = let h = (size_some t.part t.buffer).1 in omega arith
ticks_few (Programs t) = let h = (size_some t.part t.buffer).1 in omega arith
ticks_few (Copies f t) = let h = (size_some f.part f.buffer).1 in let k = (size_some t.part t.buffer).1 in omega arith
ticks_few (Erases b) = omega arith
ticks_few (Verifies b) = omega arith
ticks_few (Protects p) = omega arith
ticks_few (Resets r) = omega arith

held : (t : Moment) → Sound t → (from : State) (c k : ℕ) → t.underway ≡ started from c k → Held from c k t.chip
held t h from c k e = subst (λ u. Under u t.chip) e h.under

-- with no command running every DataRAM word can be read
reads_data : (s : State) (x : ℕ) → x < 1056 → s.core.running ≡ Idle → Reads s (address_of x) (get_or s.core.dataram x 0)
reads_data s x l e = ap (shown s.core) (place_of_address x l) ∙ ap (λ r. cond (taken r x) (refused 7) (word (get_or s.core.dataram x 0))) e

peeks_data : (s : State) (x : ℕ) → x < 1056 → s.core.running ≡ Idle → peek s (address_of x) ≡ get_or s.core.dataram x 0
peeks_data s x l e = ap word_in (reads_data s x l e)

-- the code words
program_code : (c : ℕ) → is_program c ≡ true → command_of c ≡ Program (part_of c)
program_code c h = grind (arith, eqb-true, or_cases)

load_code : (c : ℕ) → is_load c ≡ true → command_of c ≡ Load (part_of c)
load_code c h = grind (arith, eqb-true, or_cases)

-- a plan that was made in a state: it fails, or it is the one intended
plan_from : (from : State) (q : Cmd) (P : Plan → Type 0) → ((f : Fault) (d : Kind) → P (Fails f d)) → P (intended from.core.registers.operands q) →
    P (planned (lock_at from.core.locks) from.core.registers.operands from.array.count q)
plan_from from q P f w = plan_ways (lock_at from.core.locks) from.core.registers.operands from.array.count q P (λ x. f x _) (λ _. w)

-- a program
module _ (from : State) (c : ℕ) (e : is_program c ≡ true) where
  abbrev transfer : Transfer
  transfer = transfer_of from.core.registers.operands (part_of c)

  programmed_by : (k : ℕ) (s : State) → ProgramsSoFar from transfer k s → Programmed from c k s.array
  programmed_by k s h = record {
    shown = λ i l. let x = buffer_word (part_of c) from.core.registers.operands.buffer i in let y = buffer_word_below (part_of c) from.core.registers.operands.buffer i in
        reads_data from x y h.rested ∙ ap word (sym (peeks_data from x y h.rested));
    anded = λ i l. h.anded.these i l ∙ ap (bit_and (from.array.word (block from) (page from) (place from c i)))
        (sym (peeks_data from (buffer_word (part_of c) from.core.registers.operands.buffer i) (buffer_word_below (part_of c) from.core.registers.operands.buffer i) h.rested));
    others = h.anded.others;
  }

  by_program : (P : Plan → Type 0) → ((f : Fault) (d : Kind) → P (Fails f d)) → P (Programs transfer) → P (plan_for from c)
  by_program P f w = subst (λ q. P (planned (lock_at from.core.locks) from.core.registers.operands from.array.count q)) (sym (program_code c e))
      (plan_from from (Program (part_of c)) P f w)

  programmed_so_far : (k : ℕ) (s : State) → k < ticks_of (plan_for from c) → Progress (plan_for from c) from k s → Programmed from c k s.array
  programmed_so_far k s = by_program (λ p. k < ticks_of p → Progress p from k s → Programmed from c k s.array)
      (λ f d i h. record { shown = λ j q. absurd (omega arith); anded = λ j q. absurd (omega arith); others = λ b p w _. h b p w })
      (λ i h. programmed_by k s h)

  programmed_whole : (s : State) (k : ℕ) (r : Registers) (u : Running) → length s.core.dataram ≡ 1056 → succeeds s.array (action_of (plan_for from c) k) ≡ true → k < ticks_of (plan_for from c) → ticks_of (plan_for from c) ≤ k + 1 →
      Progress (plan_for from c) from k s → Programmed from c (count from c) (acted s (action_of (plan_for from c) k) r u).array
  programmed_whole s k r u z = by_program (λ p. succeeds s.array (action_of p k) ≡ true → k < ticks_of p → ticks_of p ≤ k + 1 → Progress p from k s → Programmed from c (count from c) (acted s (action_of p k) r u).array)
      (λ f d w. absurd (false≢true w))
      (λ w i j h. subst (λ x. Programmed from c x (acted s (ProgramWord transfer k) r u).array) (omega arith)
      (programmed_by (k + 1) (acted s (ProgramWord transfer k) r u) (progress_on (Programs transfer) from s k r u z i tt w h)))

-- a load that ended
module _ (from : State) (c : ℕ) (e : is_load c ≡ true) where
  abbrev carried : Transfer
  carried = transfer_of from.core.registers.operands (part_of c)

  by_load : (P : Plan → Type 0) → ((f : Fault) (d : Kind) → P (Fails f d)) → P (Loads carried) → P (plan_for from c)
  by_load P f w = subst (λ q. P (planned (lock_at from.core.locks) from.core.registers.operands from.array.count q)) (sym (load_code c e))
      (plan_from from (Load (part_of c)) P f w)

  loaded_whole : (s : State) (k : ℕ) (r : Registers) (u : Running) → u ≡ Idle → length s.core.dataram ≡ 1056 → succeeds s.array (action_of (plan_for from c) k) ≡ true → k < ticks_of (plan_for from c) → ticks_of (plan_for from c) ≤ k + 1 →
      Progress (plan_for from c) from k s → Loaded from c (acted s (action_of (plan_for from c) k) r u)
  loaded_whole s k r u n z = by_load (λ p. succeeds s.array (action_of p k) ≡ true → k < ticks_of p → ticks_of p ≤ k + 1 → Progress p from k s → Loaded from c (acted s (action_of p k) r u))
      (λ f d w. absurd (false≢true w))
      (λ w i j h x l. reads_data (acted s (LoadWord carried k) r u) (buffer_word (part_of c) from.core.registers.operands.buffer x) (buffer_word_below (part_of c) from.core.registers.operands.buffer x) n
      ∙ ap word ((progress_on (Loads carried) from s k r u z i tt w h).loaded x (omega arith)))

-- a copy-back
module _ (from : State) where
  abbrev taking : Transfer
  taking = transfer_of from.core.registers.operands Whole

  abbrev giving : Transfer
  giving = copy_target from.core.registers.operands

  copied_so_far : (k : ℕ) (s : State) → k < ticks_of (plan_for from 0x001B) → Progress (plan_for from 0x001B) from k s → Copied from (k - count from 0x001B) s.array
  copied_so_far k s = plan_from from CopyBack (λ p. k < ticks_of p → Progress p from k s → Copied from (k - count from 0x001B) s.array)
      (λ f d i h. record { anded = λ j q. absurd (omega arith); others = λ b p w _. h b p w })
      (λ i h. record { anded = h.anded.these; others = h.anded.others })

  copied_whole : (s : State) (k : ℕ) (r : Registers) (u : Running) → length s.core.dataram ≡ 1056 → succeeds s.array (action_of (plan_for from 0x001B) k) ≡ true → k < ticks_of (plan_for from 0x001B) → ticks_of (plan_for from 0x001B) ≤ k + 1 →
      Progress (plan_for from 0x001B) from k s → Copied from (count from 0x001B) (acted s (action_of (plan_for from 0x001B) k) r u).array
  copied_whole s k r u z = plan_from from CopyBack (λ p. succeeds s.array (action_of p k) ≡ true → k < ticks_of p → ticks_of p ≤ k + 1 → Progress p from k s → Copied from (count from 0x001B) (acted s (action_of p k) r u).array)
      (λ f d w. absurd (false≢true w))
      (λ w i j h. let y = (progress_on (Copies taking giving) from s k r u z i tt w h).anded in
      subst (λ x. Copied from x (acted s (action_of (Copies taking giving) k) r u).array) (omega arith) (record { anded = y.these; others = y.others }))

-- an erase that ended
erased_whole : (from s : State) (k : ℕ) (r : Registers) (u : Running) → succeeds s.array (action_of (plan_for from 0x0094) k) ≡ true → k < ticks_of (plan_for from 0x0094) → ticks_of (plan_for from 0x0094) ≤ k + 1 →
    Progress (plan_for from 0x0094) from k s → Erased from (acted s (action_of (plan_for from 0x0094) k) r u).array
erased_whole from s k r u = plan_from from Erase (λ p. succeeds s.array (action_of p k) ≡ true → k < ticks_of p → ticks_of p ≤ k + 1 → Progress p from k s → Erased from (acted s (action_of p k) r u).array)
    (λ f d w. absurd (false≢true w))
    (λ w i j h. cond_both (ltb k 63) _ _ (λ a. Erased from (acted s a r u).array) (λ e. absurd (let l = ltb-true k 63 e in omega arith))
    (λ _. record {
      blank = λ p x. cond-true (eqb (block from) (block from)) _ _ (eq-eqb (block from) (block from) refl);
      others = λ b p x n. cond-false (eqb b (block from)) _ _ (ne_eqb b (block from) n) ∙ h.1 b p x;
    }))

erased_none : (from s : State) (k : ℕ) → Progress (plan_for from 0x0094) from k s → (b p w : ℕ) → s.array.word b p w ≡ from.array.word b p w
erased_none from s k = plan_from from Erase (λ p. Progress p from k s → (b p w : ℕ) → s.array.word b p w ≡ from.array.word b p w) (λ f d h. h) (λ h. h.1)

-- a command that does not change the array
abbrev changes : Cmd → Bool
changes (Load p) = false
changes (Program p) = true
changes CopyBack = true
changes Erase = true
changes Verify = false
changes (Protect l) = false
changes (Reset r) = false
changes Unknown = false

changing_code : (c : ℕ) → changes (command_of c) ≡ is_changing c
changing_code c = grind (arith, nat_tests)

module _ (from : State) (k : ℕ) (d : List ℕ) (m : Meaning) where
  abbrev Harmless : Cmd → Type 0
  Harmless q = array_after d m (action_of (planned (lock_at from.core.locks) from.core.registers.operands from.array.count q) k) ≡ m

  action_harmless : (q : Cmd) → changes q ≡ false → Harmless q
  action_harmless q h = grind arith

-- no call but a tick ends a command
abbrev is_end : Reply → Bool
is_end (word w) = false
is_end done = false
is_end (tick zero) = true
is_end (tick (suc n)) = false
is_end (refused n) = false

not_end : (r : Reply) → is_end r ≡ false → r ≡ tick 0 → ⊥
not_end r h e = true≢false (ap is_end (sym e) ∙ h)

read_ends_none : (c : Core) (p : Place) → is_end (shown c p) ≡ false
read_ends_none c p = grind arith

-- what holds of a refused write and of one that is done holds of any write
by_write : (s : State) (w : ℕ) (P : State × Reply → Type 0) → ((n : ℕ) → P (s, refused n)) → ((s' : State) → s'.array ≡ s.array → P (s', done)) → (p : Place) → P (stored s w p)
by_write s w P h e p = grind arith

write_ends_none : (s : State) (w : ℕ) (p : Place) → is_end (stored s w p).1 ≡ false
write_ends_none s w = by_write s w (λ y. is_end y.1 ≡ false) (λ n. refl) (λ s' e. refl)

write_array : (s : State) (w : ℕ) (p : Place) → (stored s w p).0.array ≡ s.array
write_array s w = by_write s w (λ y. y.0.array ≡ s.array) (λ n. refl) (λ s' e. e)

error_not_clear : (f : Fault) (k : Kind) → bit_and (error_status f k) 0x0400 ≡ 0 → ⊥
error_not_clear f k h = grind arith

module _ (s : State) (from : State) (c k : ℕ) (h : Held from c k s) where
  -- a call that ends a command with Error clear is a tick that did its last action
  by_end : (P : State → Type 0) → ((r : Registers) (u : Running) → u ≡ Idle → succeeds s.array (action_of (plan_for from c) k) ≡ true → ticks_of (plan_for from c) ≤ k + 1 → P (acted s (action_of (plan_for from c) k) r u)) →
      (call : Call) → (step s call).1 ≡ tick 0 → Clear (step s call).0 → P (step s call).0
  by_end P f (Read a) e q = absurd (not_end _ (read_ends_none s.core (place_of a)) e)
  by_end P f (Write a w) e q = absurd (not_end _ (write_ends_none s w (place_of a)) e)
  by_end P f Tick e q = subst (λ r. (ticked s r).1 ≡ tick 0 → Clear (ticked s r).0 → P (ticked s r).0) (sym h.running)
      (cond_both (succeeds s.array (action_of (plan_for from c) k)) _ _ (λ (y : State × Reply). y.1 ≡ tick 0 → Clear y.0 → P y.0)
      (λ w. cond_both (ltb (k + 1) (ticks_of (plan_for from c))) _ _ (λ (y : State × Reply). y.1 ≡ tick 0 → Clear y.0 → P y.0)
      (λ _ x _. absurd (not_end (tick 1) refl x))
      (λ l _ _. f (closed (plan_for from c) (registers_after s (action_of (plan_for from c) k))) Idle refl w (ltb-false (k + 1) (ticks_of (plan_for from c)) l)))
      (λ _ _ x. absurd (error_not_clear (plan_fault (plan_for from c)) (plan_kind (plan_for from c)) x)))
      e q
  by_end P f Warm e q = absurd (not_end done refl e)
  by_end P f Cold e q = absurd (not_end done refl e)

  closed_clear : bit_and (closed (plan_for from c) (registers_after s (action_of (plan_for from c) k))).status 0x0400 ≡ 0
  closed_clear = cond_both (is_hot (plan_for from c)) _ _ (λ (r : Registers). bit_and r.status 0x0400 ≡ 0) (λ _. refl) (λ _. refl)

  -- and one that ends it with Error leaves the array
  by_error : (call : Call) → (step s call).1 ≡ tick 0 → (Clear (step s call).0 → ⊥) → (step s call).0.array ≡ s.array
  by_error (Read a) e q = refl
  by_error (Write a w) e q = write_array s w (place_of a)
  by_error Tick e q = subst (λ r. (Clear (ticked s r).0 → ⊥) → (ticked s r).1 ≡ tick 0 → (ticked s r).0.array ≡ s.array) (sym h.running)
      (cond_both (succeeds s.array (action_of (plan_for from c) k)) _ _ (λ (y : State × Reply). (Clear y.0 → ⊥) → y.1 ≡ tick 0 → y.0.array ≡ s.array)
      (λ w. cond_both (ltb (k + 1) (ticks_of (plan_for from c))) _ _ (λ (y : State × Reply). (Clear y.0 → ⊥) → y.1 ≡ tick 0 → y.0.array ≡ s.array)
      (λ _ _ x. absurd (not_end (tick 1) refl x))
      (λ _ x _. absurd (x closed_clear)))
      (λ _ _ _. refl))
      q e
  by_error Warm e q = refl
  by_error Cold e q = refl

  on_or_ended : ((step s Tick).1 ≡ tick 1) ⊎ ((step s Tick).1 ≡ tick 0)
  on_or_ended = subst (λ r. ((ticked s r).1 ≡ tick 1) ⊎ ((ticked s r).1 ≡ tick 0)) (sym h.running)
      (cond_both (succeeds s.array (action_of (plan_for from c) k)) _ _ (λ (y : State × Reply). (y.1 ≡ tick 1) ⊎ (y.1 ≡ tick 0))
      (λ _. cond_both (ltb (k + 1) (ticks_of (plan_for from c))) _ _ (λ (y : State × Reply). (y.1 ≡ tick 1) ⊎ (y.1 ≡ tick 0)) (λ _. inl refl) (λ _. inr refl))
      (λ _. inr refl))

-- a call that drops a command leaves the array
drop_array : (s : State) (c : Call) → drops c (step s c).1 ≡ true → (step s c).0.array ≡ s.array
drop_array s c h = search rules

no_tick_array : (s : State) (c : Call) → (c ≡ Tick → ⊥) → (step s c).0.array ≡ s.array
no_tick_array s c h = search rules

harmless_array : (s : State) (from : State) (c k : ℕ) → Held from c k s → is_changing c ≡ false → (call : Call) → (step s call).0.array ≡ s.array
harmless_array s from c k h n (Read a) = refl
harmless_array s from c k h n (Write a w) = write_array s w (place_of a)
harmless_array s from c k h n Tick = subst (λ r. (ticked s r).0.array ≡ s.array) (sym h.running)
    (cond_both (succeeds s.array (action_of (plan_for from c) k)) _ _ (λ (y : State × Reply). y.0.array ≡ s.array)
    (λ _. cond_both (ltb (k + 1) (ticks_of (plan_for from c))) _ _ (λ (y : State × Reply). y.0.array ≡ s.array) (λ _. same) (λ _. same))
    (λ _. refl))
  where
    same : array_after s.core.dataram s.array (action_of (plan_for from c) k) ≡ s.array
    same = action_harmless from k s.core.dataram s.array (command_of c) (changing_code c ∙ n)
harmless_array s from c k h n Warm = refl
harmless_array s from c k h n Cold = refl

-- a refused call leaves everything
abbrev Unchanged : State → ℕ → State × Reply → Type 0
Unchanged s n y = y.1 ≡ refused n → y.0 ≡ s

refused_call : (s : State) (n : ℕ) (c : Call) → Unchanged s n (step s c)
refused_call s n c = search rules

-- any other word is no reset's
no_reset : (w : ℕ) → (w ≡ 0x00F0 → ⊥) → (w ≡ 0x00F3 → ⊥) → is_reset (command_of w) ≡ false
no_reset w n m = let e = ne_eqb w 0x00F0 n in let f = ne_eqb w 0x00F3 m in grind (arith, nat_tests)

-- only a reset is accepted while a plan runs
resets_alone : (s : State) (p : Plan) (k w : ℕ) → s.core.running ≡ Runs p k → (step s (Write 0xF220 w)).1 ≡ done → (w ≡ 0x00F0) ⊎ (w ≡ 0x00F3)
resets_alone s p k w e h = ⊎_elim inl (λ n. ⊎_elim inr (λ m. absurd (refused_then n m)) (cases_eq w 0x00F3)) (cases_eq w 0x00F0)
  where
    refused_then : (w ≡ 0x00F0 → ⊥) → (w ≡ 0x00F3 → ⊥) → ⊥
    refused_then n m =
        let b : busy s.core.running (command_of w) ≡ true = ap (λ u. busy u (command_of w)) e ∙ ap (λ q. not q || holds_off p) (no_reset w n m) in
        let r : (step s (Write 0xF220 w)).1 ≡ refused 9 = ap (λ (y : State × Reply). y.1) (cond-true _ _ _ b) in
        let z : ◌≡◌ {A = ℕ} 0 1 = cc in
        omega arith

pub faithful : (t : Moment) → Sound t → (c : Call) → Faithful t c
faithful t h c = record {
  protected = λ b p w _. h.kept b p w;
  tight = stays_tight t c;
  loads = λ from code k u q e f. let x = held t h from code k u in
      by_end t.chip from code k x (Loaded from code) (λ r u n w l. loaded_whole from code q t.chip k r u n h.shape.dataram w x.early l x.progress) c e f;
  programs = λ from code k u q e f. let x = held t h from code k u in
      by_end t.chip from code k x (λ y. Programmed from code (count from code) y.array) (λ r u n w l. programmed_whole from code q t.chip k r u h.shape.dataram w x.early l x.progress) c e f;
  stops = λ from code k u q e f. let x = held t h from code k u in
      subst (Programmed from code k) (sym (by_error t.chip from code k x c e f)) (programmed_so_far from code q k t.chip x.early x.progress);
  cuts = λ from code k u q d. let x = held t h from code k u in
      subst (Programmed from code k) (sym (drop_array t.chip c d)) (programmed_so_far from code q k t.chip x.early x.progress);
  copies = λ from k u e f. let x = held t h from 0x001B k u in
      by_end t.chip from 0x001B k x (λ y. Copied from (count from 0x001B) y.array) (λ r u n w l. copied_whole from t.chip k r u h.shape.dataram w x.early l x.progress) c e f;
  copy_stops = λ from k u e f. let x = held t h from 0x001B k u in
      subst (Copied from (k - count from 0x001B)) (sym (by_error t.chip from 0x001B k x c e f)) (copied_so_far from k t.chip x.early x.progress);
  copy_cuts = λ from k u d. let x = held t h from 0x001B k u in
      subst (Copied from (k - count from 0x001B)) (sym (drop_array t.chip c d)) (copied_so_far from k t.chip x.early x.progress);
  unmoved = λ d b p w. ap (λ (m : Meaning). m.word b p w) (drop_array t.chip c d);
  erases = λ from k u e f. let x = held t h from 0x0094 k u in
      by_end t.chip from 0x0094 k x (λ y. Erased from y.array) (λ r u n w l. erased_whole from t.chip k r u w x.early l x.progress) c e f;
  erase_stops = λ from k u e f b p w. let x = held t h from 0x0094 k u in
      ap (λ (m : Meaning). m.word b p w) (by_error t.chip from 0x0094 k x c e f) ∙ erased_none from t.chip k x.progress b p w;
  erase_cuts = λ from k u d b p w. let x = held t h from 0x0094 k u in
      ap (λ (m : Meaning). m.word b p w) (drop_array t.chip c d) ∙ erased_none from t.chip k x.progress b p w;
  steady = no_tick_array t.chip c;
  harmless = λ from code k u n. harmless_array t.chip from code k (held t h from code k u) n c;
  ticks = λ from code k u. on_or_ended t.chip from code k (held t h from code k u);
  quiet = λ u. ap (λ r. (ticked t.chip r).1) (subst (λ v. Under v t.chip) u h.under);
  alone = λ from code k w u e. resets_alone t.chip (plan_for from code) k w (held t h from code k u).running e;
  short = λ from code k u. let x = held t h from code k u in let y = ticks_few (plan_for from code) in let z = x.early in omega arith;
  refusals = λ n. refused_call t.chip n c;
  reads = λ a. refl;
}

-- the words of a tight block stay
stays : (t : Moment) → Sound t → (c : Call) (b p w : ℕ) → (next t c).lock b ≡ Tight → (next t c).chip.array.word b p w ≡ t.chip.array.word b p w
stays t h c b p w e = (next_sound t h c).kept b p w ∙ ap (λ l. cond (is_unlocked l) ((next t c).chip.array.word b p w) (t.kept b p w)) e ∙ sym (h.kept b p w)

one_call : (t : Moment) → Sound t → (c : Call) (b p w : ℕ) → t.lock b ≡ Tight → (c ≡ Warm → ⊥) → (c ≡ Cold → ⊥) →
    ((next t c).lock b ≡ Tight) × ((next t c).chip.array.word b p w ≡ t.chip.array.word b p w)
one_call t h c b p w e f g = ⊎_elim (λ x. (x, stays t h c b p w x)) (⊎_elim (λ x. absurd (f x)) (λ x. absurd (g x))) (stays_tight t c b e)

calm_head : (c : Call) (cs : List Call) → Calm (c ∷ cs) → (c ≡ Warm → ⊥) × (c ≡ Cold → ⊥) × Calm cs
calm_head c cs h = grind arith

pub still : (t : Moment) → Sound t → Still t
unfolding reaches
still t h [] b p w e k = refl
still t h (c ∷ cs) b p w e k = let q = calm_head c cs k in let o = one_call t h c b p w e q.0 q.1 in
    still (next t c) (next_sound t h c) cs b p w o.0 q.2 ∙ o.1

-- ticks alone bring a command to its end
next_tick : (t : Moment) → Sound t → (from : State) (c k : ℕ) → t.underway ≡ started from c k → ((next t Tick).underway ≡ started from c (k + 1)) ⊎ ((next t Tick).underway ≡ none)
next_tick t h from c k e = grind (arith, on_or_ended, held)

ends_in : (n : ℕ) (t : Moment) → Sound t → (from : State) (c k : ℕ) → t.underway ≡ started from c k → ticks_of (plan_for from c) ≤ k + n →
    (x : ℕ) × (x ≤ n) × ((reaches t (replicate x Tick)).underway ≡ none)
unfolding reaches
ends_in zero t h from c k e l = absurd (let q = (held t h from c k e).early in omega arith)
ends_in (suc n) t h from c k e l = ⊎_elim
    (λ f. let r = ends_in n (next t Tick) (next_sound t h Tick) from c (k + 1) f (omega arith) in (suc r.0, (let q = r.1 in omega arith), r.2))
    (λ f. (suc zero, omega arith, f))
    (next_tick t h from c k e)

pub ends : (t : Moment) → Sound t → (u : Underway) → t.underway ≡ u → Ends t
unfolding reaches
ends t h none e = (zero, omega arith, e)
ends t h (started from c k) e = let l = ticks_few (plan_for from c) in ends_in 1056 t h from c k e (omega arith)
