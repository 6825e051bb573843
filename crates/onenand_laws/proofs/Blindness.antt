-- A block that is never read tells nothing: two chips whose arrays differ in it alone answer alike.
use Rattle.std.proofs.Common.{◌≡◌, ℕ, ◌+◌, ◌<◌, Bool, true, false, cond, not, ◌&&◌, ◌||◌, eqb, ltb, List, [], ◌∷◌, map, sym, refl, ap, ◌∙◌, subst, inl, inr, arith}
use Rattle.std.specs.List.{range_with_len}
use Rattle.std.proofs.lemmas.Bool.{and_from, cond-false}
use Rattle.std.proofs.lemmas.Bool.Decides.{nat_tests}
use Rattle.flash.specs.Geometry.{block_pages, page_words, blank_word}
use Rattle.flash.specs.Meaning.{Meaning, word_at}
use Rattle.onenand_protection.specs.declared.Lock.{Lock}
use Rattle.onenand_protection.specs.Protection.{lock_at}
use Rattle.onenand_registers.specs.declared.address.Place.{Place}
use Rattle.onenand_registers.specs.declared.address.Place.TheVariants.{Boot, Data, Constant, Device, Version, Operand, Command, Config, Status, Interrupt, Protection, Unassigned}
use Rattle.onenand_registers.specs.declared.registers.Operands.{Operands}
use Rattle.onenand_registers.specs.declared.registers.Registers.{Registers}
use Rattle.onenand_registers.specs.Registers.{with_protection, command_begun}
use Rattle.onenand_registers.specs.Addresses.{place_of}
use Rattle.onenand_transfer.specs.Transfers.{page_of, page_word}
use Rattle.onenand_rules.specs.declared.calls.Call.{Call}
use Rattle.onenand_rules.specs.declared.calls.Call.TheVariants.{Read, Write, Tick, Warm, Cold}
use Rattle.onenand_rules.specs.declared.commands.Command.{Command as Cmd}
use Rattle.onenand_rules.specs.declared.commands.Command.TheVariants.{Load, Program, CopyBack, Erase, Verify, Protect, Reset, Unknown}
use Rattle.onenand_rules.specs.declared.plans.Plan.{Plan}
use Rattle.onenand_rules.specs.declared.plans.Plan.TheVariants.{Fails, Loads, Programs, Copies, Erases, Verifies, Protects, Resets}
use Rattle.onenand_rules.specs.declared.plans.Running.{Running}
use Rattle.onenand_rules.specs.declared.plans.Running.TheVariants.{Idle, Runs}
use Rattle.onenand_rules.specs.declared.plans.Action.{Action}
use Rattle.onenand_rules.specs.declared.plans.Action.TheVariants.{Fail, Wait, LoadWord, ProgramWord, EraseBlock, VerifyPage, SetLocks}
use Rattle.onenand_rules.specs.declared.state.Core.{Core}
use Rattle.onenand_rules.specs.Commands.{command_of, running_status}
use Rattle.onenand_rules.specs.Plans.{ticks_of, action_of, plan_kind, taken, busy}
use Rattle.onenand_rules.specs.Checks.{intended, planned}
use Rattle.onenand_rules.specs.State.{State, state_for, core_with}
use Rattle.onenand_rules.specs.Calls.{Reply, done, tick}
use Rattle.onenand_rules.specs.Writes.{pending, accepted, commanded, stored}
use Rattle.onenand_rules.specs.Ticks.{blank, succeeds, data_after, locks_after, protection_after, array_after, acted, closed, ticked}
use Rattle.onenand_rules.specs.Resets.{boot_words, fresh_core, powered_up}
use Rattle.onenand_rules.specs.Steps.{step, after, replies}
use Rattle.onenand_laws.specs.Promise.{is_load, Apart, starts_reading, Looks, Blind}
use Rattle.onenand_laws.proofs.Moments.{is_command, command_place, plan_ways}

-- the commands that read the array
abbrev is_reading : Cmd → Bool
is_reading (Load p) = true
is_reading (Program p) = false
is_reading CopyBack = true
is_reading Erase = false
is_reading Verify = true
is_reading (Protect l) = false
is_reading (Reset r) = false
is_reading Unknown = false

reading_code : (c : ℕ) → is_reading (command_of c) ≡ (is_load c || (eqb c 0x001B || eqb c 0x0071))
reading_code c = grind (arith, nat_tests)

module _ (b : ℕ) where
  -- a plan does not read the block
  abbrev UnseenBy : Plan → Type 0
  UnseenBy (Fails f k) = Unit {0}
  UnseenBy (Loads t) = t.block ≡ b → ⊥
  UnseenBy (Programs t) = Unit {0}
  UnseenBy (Copies f t) = f.block ≡ b → ⊥
  UnseenBy (Erases x) = Unit {0}
  UnseenBy (Verifies x) = x ≡ b → ⊥
  UnseenBy (Protects p) = Unit {0}
  UnseenBy (Resets r) = Unit {0}

  abbrev Unseen : Running → Type 0
  Unseen Idle = Unit {0}
  Unseen (Runs p k) = UnseenBy p

  -- nor does an action
  abbrev Overlooks : Action → Type 0
  Overlooks Fail = Unit {0}
  Overlooks Wait = Unit {0}
  Overlooks (LoadWord t i) = t.block ≡ b → ⊥
  Overlooks (ProgramWord t i) = Unit {0}
  Overlooks (EraseBlock x) = Unit {0}
  Overlooks (VerifyPage x p) = x ≡ b → ⊥
  Overlooks (SetLocks p) = Unit {0}

  overlooks : (p : Plan) (k : ℕ) → UnseenBy p → Overlooks (action_of p k)
  overlooks p k h = grind arith

  unseen_intended : (o : Operands) (q : Cmd) → (is_reading q ≡ true → o.block ≡ b → ⊥) → UnseenBy (intended o q)
  unseen_intended o q h = grind arith

  unseen_plan : (t : ℕ → Lock) (o : Operands) (n : ℕ) (q : Cmd) → (is_reading q ≡ true → o.block ≡ b → ⊥) → UnseenBy (planned t o n q)
  unseen_plan t o n q h = plan_ways t o n q UnseenBy (λ _. tt) (λ _. unseen_intended o q h)

  -- two chips after a call, and their replies: only the block may tell them apart
  record Alike (x x' : State × Reply) : Type 0 where
    core : x.0.core ≡ x'.0.core
    reply : x.1 ≡ x'.1
    arrays : Apart b x.0.array x'.0.array
    unseen : Unseen x.0.core.running

  -- both take the same way
  alike_cond : (q q' : Bool) (x y x' y' : State × Reply) → q ≡ q' → (q ≡ true → Alike x x') → (q ≡ false → Alike y y') → Alike (cond q x y) (cond q' x' y')
  alike_cond q q' x y x' y' e f g = subst (λ r. Alike (cond q x y) (cond r x' y')) e (go q f g)
    where
      go : (r : Bool) → (r ≡ true → Alike x x') → (r ≡ false → Alike y y') → Alike (cond r x y) (cond r x' y')
      go true f g = f refl
      go false f g = g refl

  -- one core over two arrays
  module _ (c : Core) (m m' : Meaning) (e : Apart b m m') where
    abbrev here : State
    here = state_for c m

    abbrev there : State
    there = state_for c m'

    word_same : (x p w : ℕ) → (x ≡ b → ⊥) → word_at m x p w ≡ word_at m' x p w
    word_same x p w n = λ i. cond (ltb x (e.count i) && (ltb p block_pages && ltb w page_words)) (e.word x p w n i) blank_word

    blank_same : (x p k : ℕ) → (x ≡ b → ⊥) → blank m x p k ≡ blank m' x p k
    unfolding blank
    blank_same x p k h = grind arith

    succeeds_same : (a : Action) → Overlooks a → succeeds m a ≡ succeeds m' a
    succeeds_same Fail u = refl
    succeeds_same Wait u = refl
    succeeds_same (LoadWord t i) u = refl
    succeeds_same (ProgramWord t j) u = λ i. (ltb t.block (e.count i) && (ltb (page_of t.page) block_pages && ltb (page_word t.part t.page j) page_words)) && not (e.dead_page i t.block (page_of t.page))
    succeeds_same (EraseBlock x) u = λ i. ltb x (e.count i) && not (e.dead_block i x)
    succeeds_same (VerifyPage x p) u = blank_same x p page_words u
    succeeds_same (SetLocks p) u = refl

    data_same : (a : Action) → Overlooks a → data_after c.dataram m a ≡ data_after c.dataram m' a
    data_same a h = grind arith

    apart_after : (a : Action) → Apart b (array_after c.dataram m a) (array_after c.dataram m' a)
    apart_after a = grind arith

    acted_alike : (a : Action) (r : ℕ → Registers) (u : Running) (q : Reply) → Overlooks a → Unseen u → Alike (acted here a (r m.count) u, q) (acted there a (r m'.count) u, q)
    acted_alike a r u q v v' = record {
      core = λ i. core_with c (r (e.count i)) (data_same a v i) (locks_after (e.count i) a c.locks) u;
      reply = refl;
      arrays = apart_after a;
      unseen = v';
    }

    -- the registers after an action, by the number of blocks
    abbrev registers_by : Action → ℕ → Registers
    registers_by a n = with_protection c.registers (protection_after n a c.locks c.registers.protection)

    ticked_alike : (r : Running) → Unseen c.running → Unseen r → Alike (ticked here r) (ticked there r)
    ticked_alike Idle u v = record { core = refl; reply = refl; arrays = e; unseen = u }
    ticked_alike (Runs p k) u v = alike_cond (succeeds m (action_of p k)) (succeeds m' (action_of p k)) _ _ _ _ (succeeds_same (action_of p k) (overlooks p k v))
        (λ _. alike_cond (ltb (k + 1) (ticks_of p)) (ltb (k + 1) (ticks_of p)) _ _ _ _ refl
        (λ _. acted_alike (action_of p k) (registers_by (action_of p k)) (Runs p (k + 1)) (tick 1) (overlooks p k v) v)
        (λ _. acted_alike (action_of p k) (λ n. closed p (registers_by (action_of p k) n)) Idle (tick 0) (overlooks p k v) tt))
        (λ _. record { core = refl; reply = refl; arrays = e; unseen = tt })

    -- a call with this reply starts no read of the block
    abbrev Unread : Call → Reply → Type 0
    Unread q r = starts_reading q r ≡ true → c.registers.operands.block ≡ b → ⊥

    reply_done : (w : ℕ) → busy c.running (command_of w) ≡ false → pending c (command_of w) ≡ false → (commanded here w).1 ≡ done
    reply_done w p q = ap (λ (y : State × Reply). y.1) (cond-false (busy c.running (command_of w)) _ _ p ∙ cond-false (pending c (command_of w)) _ _ q)

    accepted_alike : (a w : ℕ) → eqb a 0xF220 ≡ true → Unread (Write a w) done → Alike (accepted here w, done) (accepted there w, done)
    accepted_alike a w f h = record {
      core = λ i. let p = planned (lock_at c.locks) c.registers.operands (e.count i) (command_of w) in
          core_with c (command_begun c.registers w (running_status (plan_kind p))) c.dataram c.locks (Runs p 0);
      reply = refl;
      arrays = e;
      unseen = unseen_plan (lock_at c.locks) c.registers.operands m.count (command_of w) (λ x. h (and_from (eqb a 0xF220) _ f (sym (reading_code w) ∙ x)));
    }

    -- calls that change registers and DataRAM alone, and calls that change nothing
    plain_alike : Unseen c.running → (r : Registers) (d : List ℕ) (q : Reply) →
        Alike (state_for (core_with c r d c.locks c.running) m, q) (state_for (core_with c r d c.locks c.running) m', q)
    plain_alike u r d q = record { core = refl; reply = refl; arrays = e; unseen = u }

    same_alike : Unseen c.running → (q : Reply) → Alike (here, q) (there, q)
    same_alike u q = record { core = refl; reply = refl; arrays = e; unseen = u }

    stored_alike : (a w : ℕ) (p : Place) → is_command p ≡ eqb a 0xF220 → Unseen c.running → Unread (Write a w) (stored here w p).1 → Alike (stored here w p) (stored there w p)
    stored_alike a w (Boot x) f u h = same_alike u _
    stored_alike a w (Data x) f u h = alike_cond (taken c.running x) (taken c.running x) _ _ _ _ refl (λ _. same_alike u _) (λ _. plain_alike u _ _ _)
    stored_alike a w (Constant v) f u h = same_alike u _
    stored_alike a w Device f u h = same_alike u _
    stored_alike a w Version f u h = same_alike u _
    stored_alike a w (Operand o) f u h = plain_alike u _ _ _
    stored_alike a w Command f u h = alike_cond (busy c.running (command_of w)) (busy c.running (command_of w)) _ _ _ _ refl
        (λ _. same_alike u _)
        (λ p. alike_cond (pending c (command_of w)) (pending c (command_of w)) _ _ _ _ refl
        (λ _. same_alike u _)
        (λ q. accepted_alike a w (sym f) (λ x. h (ap (starts_reading (Write a w)) (reply_done w p q) ∙ x))))
    stored_alike a w Config f u h = plain_alike u _ _ _
    stored_alike a w Status f u h = same_alike u _
    stored_alike a w Interrupt f u h = plain_alike u _ _ _
    stored_alike a w Protection f u h = same_alike u _
    stored_alike a w Unassigned f u h = same_alike u _

    -- the boot words are of block 0
    boot_same : 0 < b → boot_words m ≡ boot_words m'
    boot_same z = ap (λ f. map f (range_with_len 0 page_words)) (λ i w. word_same 0 0 w (λ q. absurd (omega arith)) i)

    powered_same : 0 < b → (d v : ℕ) → (powered_up d v m).core ≡ (powered_up d v m').core
    powered_same z d v = ap (fresh_core d v) (boot_same z)

    step_alike : (q : Call) → 0 < b → Unseen c.running → Unread q (step here q).1 → Alike (step here q) (step there q)
    step_alike (Read a) z u h = same_alike u _
    step_alike (Write a w) z u h = stored_alike a w (place_of a) (command_place a) u h
    step_alike Tick z u h = ticked_alike c.running u u
    step_alike Warm z u h = record { core = refl; reply = refl; arrays = e; unseen = tt }
    step_alike Cold z u h = record { core = powered_same z c.device c.version; reply = refl; arrays = e; unseen = tt }

  -- two chips after the same calls
  record RunsAlike (s s' : State) (cs : List Call) : Type 0 where
    answers : replies s cs ≡ replies s' cs
    arrays : Apart b (after s cs).array (after s' cs).array

  runs_alike : 0 < b → (cs : List Call) (c : Core) (m m' : Meaning) → Apart b m m' → Unseen c.running → (Looks b (state_for c m) cs → ⊥) → RunsAlike (state_for c m) (state_for c m') cs
  runs_alike z [] c m m' e u h = record { answers = refl; arrays = e }
  runs_alike z (q ∷ cs) c m m' e u h =
      let s = (step (state_for c m) q).0 in let s' = (step (state_for c m') q).0 in
      let a = step_alike c m m' e q z u (λ r k. h (inl (r, k))) in
      let rest = runs_alike z cs s.core s.array s'.array a.arrays a.unseen (λ l. h (inr l)) in
      let more : RunsAlike s s' cs = subst (λ k. RunsAlike s (state_for k s'.array) cs) a.core rest in
      record { answers = λ i. a.reply i ∷ more.answers i; arrays = more.arrays }

pub blind : (d v : ℕ) (m : Meaning) (cs : List Call) (m' : Meaning) (b : ℕ) → 0 < b → Apart b m m' → (Looks b (powered_up d v m) cs → ⊥) → Blind d v m cs m' b
blind d v m cs m' b z e h =
    let a : RunsAlike b (powered_up d v m) (powered_up d v m') cs
    = subst (λ k. RunsAlike b (powered_up d v m) (state_for k m') cs) (powered_same b (powered_up d v m).core m m' e z d v) (runs_alike b z cs (powered_up d v m).core m m' e tt h) in
    record { answers = a.answers; words = a.arrays }
