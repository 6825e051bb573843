-- The invariant of a run: what holds at each of its moments, and that each call keeps it.
use Rattle.std.proofs.Common.{◌≡◌, ℕ, ◌+◌, ◌-◌, ◌<◌, ◌≤◌, Bool, true, false, cond, ◌&&◌, eqb, ltb, List, [], ◌∷◌, length, get_or, set, replicate, Ok, Err, Result, sym, refl, ap, ◌∙◌, subst, ⊎_elim, arith, rules}
use mathlib.Core.Path.{fun_ext}
use lib.Bits.{bit_and}
use Rattle.std.proofs.lemmas.Bool.{cond_both, cond-true, cases_eq, cases_lt, eqb-true, eq-eqb, ltb-true, ltb-false, both_ways, false≢true, and_parts, and_from}
use Rattle.std.proofs.lemmas.Bool.Decides.{nat_tests}
use Rattle.std.proofs.lemmas.List.{length-set, get_or-set_same, get_or-set_other, length-replicate, get_or_past, get_or-replicate}
use Rattle.flash.specs.Geometry.{max_blocks, block_pages, page_words, blank_word}
use Rattle.flash.specs.Meaning.{Meaning, programmed}
use Rattle.onenand_protection.specs.declared.Lock.{Lock}
use Rattle.onenand_protection.specs.declared.Lock.TheVariants.{Locked, Unlocked}
use Rattle.onenand_protection.specs.Protection.{is_unlocked, lock_at, protected}
use Rattle.onenand_registers.specs.declared.address.Place.{Place}
use Rattle.onenand_registers.specs.declared.address.Place.TheVariants.{Boot, Data, Constant, Device, Version, Operand, Command, Config, Status, Interrupt, Protection, Unassigned}
use Rattle.onenand_registers.specs.declared.registers.Operands.{Operands}
use Rattle.onenand_registers.specs.declared.registers.Registers.{Registers}
use Rattle.onenand_registers.specs.Addresses.{place_of}
use Rattle.onenand_transfer.specs.declared.Transfer.{Transfer}
use Rattle.onenand_transfer.specs.Transfers.{page_of, words, page_word, buffer_word, chosen}
use Rattle.onenand_rules.specs.declared.calls.Call.{Call}
use Rattle.onenand_rules.specs.declared.calls.Call.TheVariants.{Read, Write, Tick, Warm, Cold}
use Rattle.onenand_rules.specs.declared.commands.Command.{Command as Cmd}
use Rattle.onenand_rules.specs.declared.commands.Fault.{Fault}
use Rattle.onenand_rules.specs.declared.plans.Plan.{Plan}
use Rattle.onenand_rules.specs.declared.plans.Plan.TheVariants.{Fails, Loads, Programs, Copies, Erases, Verifies, Protects, Resets}
use Rattle.onenand_rules.specs.declared.plans.Running.{Running}
use Rattle.onenand_rules.specs.declared.plans.Running.TheVariants.{Idle, Runs}
use Rattle.onenand_rules.specs.declared.plans.Action.{Action}
use Rattle.onenand_rules.specs.declared.plans.Action.TheVariants.{Fail, Wait, LoadWord, ProgramWord, EraseBlock, VerifyPage, SetLocks}
use Rattle.onenand_rules.specs.Commands.{command_of, kind_of}
use Rattle.onenand_rules.specs.Plans.{ticks_of, action_of, taken_by, taken, busy}
use Rattle.onenand_rules.specs.Checks.{checked, intended, plan_by, planned}
use Rattle.onenand_rules.specs.State.{State, state_with, with_registers}
use Rattle.onenand_rules.specs.Calls.{Reply, done, tick, refused}
use Rattle.onenand_rules.specs.Reads.{shown}
use Rattle.onenand_rules.specs.Writes.{pending, plan_for, accepted, stored}
use Rattle.onenand_rules.specs.Ticks.{array_word, data_word, succeeds, data_after, locks_after, array_after, registers_after, acted, closed, failed, ticked}
use Rattle.onenand_rules.specs.Resets.{all_locked, powered_up}
use Rattle.onenand_rules.specs.Steps.{step}
use Rattle.onenand_laws.specs.Observer.{Underway, none, started, underway_after, locks_ended, locks_by, locks_after_call, Moment, begins, after_call, next, reaches}
use Rattle.onenand_laws.proofs.Words.{page_word_same, buffer_word_same, buffer_word_below, buffer_word_chosen, size_some}
use Rattle.onenand_laws.proofs.Tight.{table}

-- the first k words v of a transfer are ANDed into an array that was old, and no other word differs
pub record Anded (old : Meaning) (t : Transfer) (v : ℕ → ℕ) (k : ℕ) (m : Meaning) : Type 0 where
  pub these : (i : ℕ) → i < k → m.word t.block (page_of t.page) (page_word t.part t.page i) ≡ bit_and (old.word t.block (page_of t.page) (page_word t.part t.page i)) (v i)
  pub others : (b p w : ℕ) → ((i : ℕ) → i < k → b ≡ t.block → p ≡ page_of t.page → w ≡ page_word t.part t.page i → ⊥) → m.word b p w ≡ old.word b p w

-- what a plan has done after k ticks, since the state that it was accepted in

-- a load: its first k buffer words hold their array words
pub record LoadsSoFar (t : Transfer) (k : ℕ) (s : State) : Type 0 where
  pub loaded : (i : ℕ) → i < k → data_word s.core.dataram t i ≡ array_word s.array t i

-- a program: its block is unlocked, its buffer words are as they were, and the first k are ANDed in
pub record ProgramsSoFar (from : State) (t : Transfer) (k : ℕ) (s : State) : Type 0 where
  pub unlocked : lock_at s.core.locks t.block ≡ Unlocked
  pub rested : from.core.running ≡ Idle
  pub buffer : (x : ℕ) → chosen t.buffer x ≡ true → get_or s.core.dataram x 0 ≡ get_or from.core.dataram x 0
  pub anded : Anded from.array t (data_word from.core.dataram t) k s.array

-- a copy-back: its buffer words hold their array words as they were, and then these are ANDed in
pub record CopiesSoFar (from : State) (f t : Transfer) (k : ℕ) (s : State) : Type 0 where
  pub unlocked : lock_at s.core.locks t.block ≡ Unlocked
  pub part : t.part ≡ f.part
  pub buffer : t.buffer ≡ f.buffer
  pub count : s.array.count ≡ from.array.count
  pub loaded : (i : ℕ) → i < k → i < words f → data_word s.core.dataram f i ≡ array_word from.array f i
  pub anded : Anded from.array t (array_word from.array f) (k - words f) s.array

-- an erase does nothing before its last tick
abbrev pub Progress : Plan → State → ℕ → State → Type 0
Progress (Fails f d) from k s = (b p w : ℕ) → s.array.word b p w ≡ from.array.word b p w
Progress (Loads t) from k s = LoadsSoFar t k s
Progress (Programs t) from k s = ProgramsSoFar from t k s
Progress (Copies f t) from k s = CopiesSoFar from f t k s
Progress (Erases b) from k s = (lock_at s.core.locks b ≡ Unlocked) × ((x p w : ℕ) → s.array.word x p w ≡ from.array.word x p w)
Progress (Verifies b) from k s = Unit {0}
Progress (Protects p) from k s = Unit {0}
Progress (Resets r) from k s = Unit {0}

-- the command of a code word that was accepted in a state runs, and has had k ticks
pub record Held (from : State) (c k : ℕ) (s : State) : Type 0 where
  pub running : s.core.running ≡ Runs (plan_for from c) k
  pub early : k < ticks_of (plan_for from c)
  pub progress : Progress (plan_for from c) from k s

abbrev pub Under : Underway → State → Type 0
Under none s = s.core.running ≡ Idle
Under (started from c k) s = Held from c k s

-- the sizes that no call changes
pub record Shaped (s : State) : Type 0 where
  pub dataram : length s.core.dataram ≡ 1056
  pub states : length s.core.locks ≡ max_blocks
  pub few : s.array.count ≤ max_blocks

-- the invariant: the onlooker's block states are the chip's, its words are the array's, and its command is the one that runs
pub record Sound (t : Moment) : Type 0 where
  pub shape : Shaped t.chip
  pub locks : t.lock ≡ lock_at t.chip.core.locks
  pub kept : (b p w : ℕ) → t.chip.array.word b p w ≡ t.kept b p w
  pub under : Under t.underway t.chip

kept_on : (q : Bool) (x y : ℕ) → (q ≡ false → x ≡ y) → x ≡ cond q x y
kept_on q x y h = grind arith

-- no word differs of a block that is not unlocked now
abbrev Keeps : State → State → Type 0
Keeps s s' = (b p w : ℕ) → is_unlocked (lock_at s'.core.locks b) ≡ false → s'.array.word b p w ≡ s.array.word b p w

-- the invariant after a call, by its parts
sound_after : (t : Moment) (c : Call) (x : State × Reply) → Sound t → Shaped x.0 →
    locks_after_call x.0.array.count t.underway t.lock c x.1 ≡ lock_at x.0.core.locks → Keeps t.chip x.0 →
    Under (underway_after t.underway t.chip c x.1) x.0 → Sound (after_call t c x)
sound_after t c x h shape locks keeps under = record {
  shape = shape;
  locks = locks;
  kept = λ b p w. kept_on _ _ _ (λ e. keeps b p w (ap (λ f. is_unlocked (f b)) (sym locks) ∙ e) ∙ h.kept b p w);
  under = under;
}

-- the plan of a command: it fails a check, or it is the one intended
pub plan_ways : (t : ℕ → Lock) (o : Operands) (n : ℕ) (q : Cmd) (P : Plan → Type 0) → ((f : Fault) → P (Fails f (kind_of q))) →
    (checked t o n q ≡ Ok tt → P (intended o q)) → P (planned t o n q)
plan_ways t o n q P f g = go (checked t o n q) g
  where
    go : (v : Result (Unit {0}) Fault) → (v ≡ Ok tt → P (intended o q)) → P (plan_by v o q)
    go (Ok u) g = g refl
    go (Err e) g = f e

-- what a running command has done stays so while the host writes elsewhere
progress_kept : (p : Plan) (from s : State) (k : ℕ) (r : Registers) (d : List ℕ) → ((x : ℕ) → taken_by p x ≡ true → get_or d x 0 ≡ get_or s.core.dataram x 0) →
    k < ticks_of p → Progress p from k s → Progress p from k (state_with s r d s.core.locks s.core.running s.array)
progress_kept (Fails f kd) from s k r d e l h = h
progress_kept (Loads t) from s k r d e l h = record { loaded = λ i q. e _ (buffer_word_chosen t.part t.buffer i (omega arith)) ∙ h.loaded i q }
progress_kept (Programs t) from s k r d e l h = record { unlocked = h.unlocked; rested = h.rested; buffer = λ x q. e x q ∙ h.buffer x q; anded = h.anded }
progress_kept (Copies f t) from s k r d e l h = record {
  unlocked = h.unlocked;
  part = h.part;
  buffer = h.buffer;
  count = h.count;
  loaded = λ i q q'. e _ (buffer_word_chosen f.part f.buffer i q') ∙ h.loaded i q q';
  anded = h.anded;
}
progress_kept (Erases b) from s k r d e l h = h
progress_kept (Verifies b) from s k r d e l h = tt
progress_kept (Protects p) from s k r d e l' h = tt
progress_kept (Resets x) from s k r d e l h = tt

under_kept : (u : Underway) (s : State) (r : Registers) (d : List ℕ) → ((x : ℕ) → taken s.core.running x ≡ true → get_or d x 0 ≡ get_or s.core.dataram x 0) →
    Under u s → Under u (state_with s r d s.core.locks s.core.running s.array)
under_kept none s r d e h = h
under_kept (started from c k) s r d e h = record {
  running = h.running;
  early = h.early;
  progress = progress_kept (plan_for from c) from s k r d (λ x q. e x (ap (λ y. taken y x) h.running ∙ q)) h.early h.progress;
}

-- a command begins
ticks_some : (p : Plan) → 0 < ticks_of p
ticks_some (Fails f k) = omega arith
ticks_some (Loads t) = (size_some t.part t.buffer).0
ticks_some (Programs t) = (size_some t.part t.buffer).0
ticks_some (Copies f t) = let h = (size_some f.part f.buffer).0 in omega arith
ticks_some (Erases b) = omega arith
ticks_some (Verifies b) = omega arith
ticks_some (Protects p) = omega arith
ticks_some (Resets r) = omega arith

module _ (s : State) (r : Registers) (u : Running) where
  abbrev begun : State
  begun = state_with s r s.core.dataram s.core.locks u s.array

  abbrev Passes : Cmd → Type 0
  Passes q = checked (lock_at s.core.locks) s.core.registers.operands s.array.count q ≡ Ok tt

  -- the progress of a plan that has had no tick
  begins_intended : (q : Cmd) → busy s.core.running q ≡ false → Passes q → Progress (intended s.core.registers.operands q) s 0 begun
  begins_intended q h e = grind arith

  begins_plan : (q : Cmd) → busy s.core.running q ≡ false → Progress (planned (lock_at s.core.locks) s.core.registers.operands s.array.count q) s 0 begun
  begins_plan q h = plan_ways (lock_at s.core.locks) s.core.registers.operands s.array.count q (λ p. Progress p s 0 begun) (λ f b p w. refl) (begins_intended q h)

-- a write
abbrev pub is_command : Place → Bool
is_command (Boot x) = false
is_command (Data x) = false
is_command (Constant w) = false
is_command Device = false
is_command Version = false
is_command (Operand o) = false
is_command Command = true
is_command Config = false
is_command Status = false
is_command Interrupt = false
is_command Protection = false
is_command Unassigned = false

pub command_place : (a : ℕ) → is_command (place_of a) ≡ eqb a 0xF220
command_place a = grind (arith, nat_tests)

module _ (t : Moment) (h : Sound t) (a w : ℕ) where
  abbrev WriteSound : State × Reply → Type 0
  WriteSound x = Sound (after_call t (Write a w) x)

  refused_write : (n : ℕ) → WriteSound (t.chip, refused n)
  refused_write n = sound_after t (Write a w) (t.chip, refused n) h h.shape h.locks (λ b p v e. refl) h.under

  -- to DataRAM that is not taken, or to a register that is not F220h
  quiet_write : false ≡ eqb a 0xF220 → (r : Registers) (d : List ℕ) → length d ≡ 1056 →
      ((x : ℕ) → taken t.chip.core.running x ≡ true → get_or d x 0 ≡ get_or t.chip.core.dataram x 0) →
      WriteSound (state_with t.chip r d t.chip.core.locks t.chip.core.running t.chip.array, done)
  quiet_write e r d l k =
      let s = state_with t.chip r d t.chip.core.locks t.chip.core.running t.chip.array in
      sound_after t (Write a w) (s, done) h (record { dataram = l; states = h.shape.states; few = h.shape.few }) h.locks (λ b p v q. refl)
      (subst (λ q. Under (cond q (started t.chip w 0) t.underway) s) e (under_kept t.underway t.chip r d k h.under))

  register_write : false ≡ eqb a 0xF220 → (r : Registers) → WriteSound (with_registers t.chip r, done)
  register_write e r = quiet_write e r t.chip.core.dataram h.shape.dataram (λ x k. refl)

  accepted_write : true ≡ eqb a 0xF220 → busy t.chip.core.running (command_of w) ≡ false → WriteSound (accepted t.chip w, done)
  accepted_write e f = sound_after t (Write a w) (accepted t.chip w, done) h (record { dataram = h.shape.dataram; states = h.shape.states; few = h.shape.few }) h.locks (λ b p v q. refl)
      (subst (λ q. Under (cond q (started t.chip w 0) t.underway) (accepted t.chip w)) e
      (record { running = refl; early = ticks_some (plan_for t.chip w); progress = begins_plan t.chip _ _ (command_of w) f }))

  write_sound : (p : Place) → is_command p ≡ eqb a 0xF220 → WriteSound (stored t.chip w p)
  write_sound (Boot x) e = refused_write 8
  write_sound (Data x) e = cond_both (taken t.chip.core.running x) _ _ WriteSound (λ _. refused_write 7)
      (λ f. quiet_write e t.chip.core.registers (set t.chip.core.dataram x w) (length-set t.chip.core.dataram x w ∙ h.shape.dataram)
      (λ y k. get_or-set_other t.chip.core.dataram x y w 0 (λ q. both_ways _ f (ap (taken t.chip.core.running) (sym q) ∙ k))))
  write_sound (Constant v) e = refused_write 8
  write_sound Device e = refused_write 8
  write_sound Version e = refused_write 8
  write_sound (Operand o) e = register_write e _
  write_sound Command e = cond_both (busy t.chip.core.running (command_of w)) _ _ WriteSound (λ _. refused_write 9)
      (λ f. cond_both (pending t.chip.core (command_of w)) _ _ WriteSound (λ _. refused_write 10) (λ _. accepted_write e f))
  write_sound Config e = register_write e _
  write_sound Status e = refused_write 8
  write_sound Interrupt e = register_write e _
  write_sound Protection e = refused_write 8
  write_sound Unassigned e = refused_write 6

-- a tick, by its action: the sizes stay
action_length : (n : ℕ) (a : Action) (d : List Lock) → length d ≡ max_blocks → length (locks_after n a d) ≡ max_blocks
action_length n a d h = grind arith

action_data : (m : Meaning) (a : Action) (d : List ℕ) → length d ≡ 1056 → length (data_after d m a) ≡ 1056
action_data m a d h = search rules

action_count : (m : Meaning) (a : Action) (d : List ℕ) → (array_after d m a).count ≡ m.count
action_count m a d = grind arith

acted_shape : (s : State) (a : Action) (r : Registers) (u : Running) → Shaped s → Shaped (acted s a r u)
acted_shape s a r u h = record {
  dataram = action_data s.array a s.core.dataram h.dataram;
  states = action_length s.array.count a s.core.locks h.states;
  few = subst (λ n. n ≤ 256) (sym (action_count s.array a s.core.dataram)) h.few;
}

-- the block that an action writes is unlocked
abbrev Open : (ℕ → Lock) → Action → Type 0
Open t Fail = Unit {0}
Open t Wait = Unit {0}
Open t (LoadWord f i) = Unit {0}
Open t (ProgramWord f i) = t f.block ≡ Unlocked
Open t (EraseBlock b) = t b ≡ Unlocked
Open t (VerifyPage b p) = Unit {0}
Open t (SetLocks p) = Unit {0}

plan_open : (p : Plan) (from : State) (k : ℕ) (s : State) → Progress p from k s → Open (lock_at s.core.locks) (action_of p k)
plan_open p from k s h = grind arith

-- so no word differs of a block that is not unlocked
action_keeps : (a : Action) (d : List Lock) (m : Meaning) (x : List ℕ) (n : ℕ) → Open (lock_at d) a → (b q w : ℕ) → is_unlocked (lock_at (locks_after n a d) b) ≡ false → (array_after x m a).word b q w ≡ m.word b q w
action_keeps a d m x n h b q w e = grind arith

-- the block states after an action, by the rules of protection
abbrev ruled : ℕ → Action → (ℕ → Lock) → ℕ → Lock
ruled n Fail t = t
ruled n Wait t = t
ruled n (LoadWord f i) t = t
ruled n (ProgramWord f i) t = t
ruled n (EraseBlock b) t = t
ruled n (VerifyPage b p) t = t
ruled n (SetLocks p) t = protected n p.lock p.first p.last t

action_ruled : (n : ℕ) (a : Action) (d : List Lock) → length d ≡ max_blocks → n ≤ max_blocks → ruled n a (lock_at d) ≡ lock_at (locks_after n a d)
action_ruled n a d h e = grind (arith, table)

-- a command's end makes of the block states what its action does
ended_ruled : (l : ℕ → Lock) (o : Operands) (n n' k : ℕ) (t : ℕ → Lock) (q : Cmd) → locks_ended n q o.first o.last t ≡ ruled n (action_of (planned l o n' q) k) t
ended_ruled l o n n' k t q = grind arith

-- a command of more than one tick leaves the block states, and so does a tick that fails
long_ruled : (n : ℕ) (p : Plan) (t : ℕ → Lock) (k : ℕ) → k + 1 < ticks_of p → t ≡ ruled n (action_of p k) t
long_ruled n p t k h = grind arith

failed_ruled : (n : ℕ) (a : Action) (m : Meaning) (t : ℕ → Lock) → succeeds m a ≡ false → ruled n a t ≡ t
failed_ruled n a m t h = grind arith

-- one word more is ANDed in
eqb_self : (a : ℕ) → eqb a a ≡ true
eqb_self a = eq-eqb a a refl

programmed_same : (m : Meaning) (b p w v : ℕ) → (programmed m b p w v).word b p w ≡ bit_and (m.word b p w) v
programmed_same m b p w v = cond-true (eqb b b && (eqb p p && eqb w w)) _ _ (and_from _ _ (eqb_self b) (and_from _ _ (eqb_self p) (eqb_self w)))

programmed_other : (m : Meaning) (b p w v x y z : ℕ) → (x ≡ b → y ≡ p → z ≡ w → ⊥) → (programmed m b p w v).word x y z ≡ m.word x y z
programmed_other m b p w v x y z h = grind (arith, and_parts, eqb-true)

module _ (old m : Meaning) (t : Transfer) (v : ℕ → ℕ) (k : ℕ) (l : k < words t) (h : Anded old t v k m) (x : ℕ) (e : x ≡ v k) where
  abbrev spot : ℕ → ℕ
  spot i = page_word t.part t.page i

  abbrev more : Meaning
  more = programmed m t.block (page_of t.page) (spot k) x

  spots_differ : (i : ℕ) → i < k → spot k ≡ spot i → ⊥
  spots_differ i q f = let z = page_word_same t.part t.buffer t.page k i l (omega arith) f in omega arith

  these_more : (i : ℕ) → i < k + 1 → more.word t.block (page_of t.page) (spot i) ≡ bit_and (old.word t.block (page_of t.page) (spot i)) (v i)
  these_more i q = ⊎_elim
      (λ (y : i ≡ k). subst (λ j. more.word t.block (page_of t.page) (spot j) ≡ bit_and (old.word t.block (page_of t.page) (spot j)) (v j)) (sym y)
      (programmed_same m t.block (page_of t.page) (spot k) x
      ∙ ap (λ y. bit_and y x) (h.others _ _ _ (λ j f _ _ g. spots_differ j f g))
      ∙ ap (bit_and (old.word t.block (page_of t.page) (spot k))) e))
      (λ (n : i ≡ k → ⊥). programmed_other m t.block (page_of t.page) (spot k) x t.block (page_of t.page) (spot i) (λ _ _ g. spots_differ i (omega arith) (sym g))
      ∙ h.these i (omega arith))
      (cases_eq i k)

  anded_more : Anded old t v (k + 1) more
  anded_more = record {
    these = these_more;
    others = λ b p w n. programmed_other m t.block (page_of t.page) (spot k) x b p w (n k (omega arith)) ∙ h.others b p w (λ i q. n i (omega arith));
  }

-- one word more is loaded
module _ (s : State) (t : Transfer) (k : ℕ) (z : length s.core.dataram ≡ 1056) (l : k < words t) where
  abbrev data_more : List ℕ
  data_more = data_after s.core.dataram s.array (LoadWord t k)

  loaded_here : data_word data_more t k ≡ array_word s.array t k
  loaded_here = get_or-set_same s.core.dataram (buffer_word t.part t.buffer k) _ 0 (let b = buffer_word_below t.part t.buffer k in omega arith)

  loaded_before : (i : ℕ) → i < k → data_word data_more t i ≡ data_word s.core.dataram t i
  loaded_before i q = get_or-set_other s.core.dataram (buffer_word t.part t.buffer k) (buffer_word t.part t.buffer i) _ 0
      (λ y. let e = buffer_word_same t.part t.buffer i k (omega arith) l y in omega arith)

  loaded_more : (v : ℕ → ℕ) → v k ≡ array_word s.array t k → ((i : ℕ) → i < k → data_word s.core.dataram t i ≡ v i) → (i : ℕ) → i < k + 1 → data_word data_more t i ≡ v i
  loaded_more v h e i f = grind (arith, loaded_here, loaded_before, cases_eq)

-- a copy-back loads a word, while the array is still the one that it began with, and later programs it
module _ (from s : State) (f t : Transfer) (k : ℕ) (r : Registers) (u : Running) (z : length s.core.dataram ≡ 1056) (h : CopiesSoFar from f t k s) where
  word_old : k < words f → array_word from.array f k ≡ array_word s.array f k
  word_old l = λ i. cond (ltb f.block (sym h.count i) && (ltb (page_of f.page) block_pages && ltb (page_word f.part f.page k) page_words))
      (sym (h.anded.others f.block (page_of f.page) (page_word f.part f.page k) (λ j q _ _ _. omega arith)) i) blank_word

  copy_loads : k < words f → CopiesSoFar from f t (k + 1) (acted s (LoadWord f k) r u)
  copy_loads l = record {
    unlocked = h.unlocked;
    part = h.part;
    buffer = h.buffer;
    count = h.count;
    loaded = λ i q q'. loaded_more s f k z l (array_word from.array f) (word_old l) (λ j p. h.loaded j p (omega arith)) i q;
    anded = subst (λ n. Anded from.array t (array_word from.array f) n s.array) (omega arith) h.anded;
  }

  words_same : words t ≡ words f
  words_same = λ i. words (record { block = t.block; page = t.page; buffer = h.buffer i; part = h.part i })

  word_copied : words f ≤ k → k < words f + words t → data_word s.core.dataram t (k - words f) ≡ array_word from.array f (k - words f)
  word_copied l l' = (λ i. get_or s.core.dataram (buffer_word (h.part i) (h.buffer i) (k - words f)) 0)
      ∙ h.loaded (k - words f) (let e = words_same in let g = (size_some f.part f.buffer).0 in omega arith) (let e = words_same in omega arith)

  copy_programs : words f ≤ k → k < words f + words t → CopiesSoFar from f t (k + 1) (acted s (ProgramWord t (k - words f)) r u)
  copy_programs l l' = record {
    unlocked = h.unlocked;
    part = h.part;
    buffer = h.buffer;
    count = h.count;
    loaded = λ i q q'. h.loaded i (omega arith) q';
    anded = subst (λ n. Anded from.array t (array_word from.array f) n (array_after s.core.dataram s.array (ProgramWord t (k - words f)))) (omega arith)
        (anded_more from.array s.array t (array_word from.array f) (k - words f) (omega arith) h.anded _ (word_copied l l'));
  }

-- an erase that goes on has not come to its last tick
abbrev pub Onward : Plan → ℕ → Type 0
Onward (Fails f d) k = Unit {0}
Onward (Loads t) k = Unit {0}
Onward (Programs t) k = Unit {0}
Onward (Copies f t) k = Unit {0}
Onward (Erases b) k = k + 1 < 64
Onward (Verifies b) k = Unit {0}
Onward (Protects p) k = Unit {0}
Onward (Resets r) k = Unit {0}

onward : (p : Plan) (k : ℕ) → k + 1 < ticks_of p → Onward p k
onward p k h = grind arith

-- what one tick more has done
pub progress_on : (p : Plan) (from s : State) (k : ℕ) (r : Registers) (u : Running) → length s.core.dataram ≡ 1056 → k < ticks_of p → Onward p k → succeeds s.array (action_of p k) ≡ true →
    Progress p from k s → Progress p from (k + 1) (acted s (action_of p k) r u)
progress_on (Fails f kd) from s k r u z i o e h = absurd (false≢true e)
progress_on (Loads t) from s k r u z i o e h = record { loaded = loaded_more s t k z i (array_word s.array t) refl h.loaded }
progress_on (Programs t) from s k r u z i o e h = record {
  unlocked = h.unlocked;
  rested = h.rested;
  buffer = h.buffer;
  anded = anded_more from.array s.array t (data_word from.core.dataram t) k i h.anded _ (h.buffer _ (buffer_word_chosen t.part t.buffer k i));
}
progress_on (Copies f t) from s k r u z i o e h = cond_both (ltb k (words f)) _ _ (λ a. CopiesSoFar from f t (k + 1) (acted s a r u))
    (λ q. copy_loads from s f t k r u z h (ltb-true k (words f) q))
    (λ q. copy_programs from s f t k r u z h (ltb-false k (words f) q) i)
progress_on (Erases b) from s k r u z i o e h = cond_both (ltb k 63) _ _ (λ a. Progress (Erases b) from (k + 1) (acted s a r u)) (λ _. h) (λ f. absurd (let g = ltb-false k 63 f in omega arith))
progress_on (Verifies b) from s k r u z i o e h = tt
progress_on (Protects p) from s k r u y i o e h = tt
progress_on (Resets x) from s k r u z i o e h = tt

-- a tick of a command: it goes on, it ends, or it fails
abbrev moment : State → (ℕ → Lock) → (ℕ → ℕ → ℕ → ℕ) → Underway → Moment
moment s l k u = record { chip = s; underway = u; lock = l; kept = k }

module _ (s : State) (lock : ℕ → Lock) (kept : ℕ → ℕ → ℕ → ℕ) (from : State) (c k : ℕ) (h : Sound (moment s lock kept (started from c k))) where
  abbrev here : Moment
  here = moment s lock kept (started from c k)

  abbrev plan : Plan
  plan = plan_for from c

  abbrev action : Action
  action = action_of plan k

  abbrev TickSound : State × Reply → Type 0
  TickSound y = Sound (after_call here Tick y)

  rules_here : ruled s.array.count action (lock_at s.core.locks) ≡ lock_at (locks_after s.array.count action s.core.locks)
  rules_here = action_ruled s.array.count action s.core.locks h.shape.states h.shape.few

  locks_here : (n : ℕ) → locks_by n (started from c k) lock ≡ ruled n action (lock_at s.core.locks)
  locks_here n = ended_ruled (lock_at from.core.locks) from.core.registers.operands n from.array.count k lock (command_of c) ∙ ap (ruled n action) h.locks

  keeps_here : (r : Registers) (u : Running) → Keeps s (acted s action r u)
  keeps_here r u = action_keeps action s.core.locks s.array s.core.dataram s.array.count (plan_open plan from k s h.under.progress)

  goes_on : succeeds s.array action ≡ true → k + 1 < ticks_of plan → TickSound (acted s action (registers_after s action) (Runs plan (k + 1)), tick 1)
  goes_on e l = sound_after here Tick (acted s action (registers_after s action) (Runs plan (k + 1)), tick 1) h (acted_shape s action _ _ h.shape)
      (h.locks ∙ long_ruled s.array.count plan (lock_at s.core.locks) k l ∙ rules_here)
      (keeps_here (registers_after s action) (Runs plan (k + 1)))
      (record { running = refl; early = l; progress = progress_on plan from s k _ _ h.shape.dataram h.under.early (onward plan k l) e h.under.progress })

  goes_out : (r : Registers) → TickSound (acted s action r Idle, tick 0)
  goes_out r = sound_after here Tick (acted s action r Idle, tick 0) h (acted_shape s action _ _ h.shape)
      (locks_here _ ∙ ap (λ n. ruled n action (lock_at s.core.locks)) (action_count s.array action s.core.dataram) ∙ rules_here)
      (keeps_here r Idle) refl

  goes_wrong : succeeds s.array action ≡ false → (r : Registers) → TickSound (state_with s r s.core.dataram s.core.locks Idle s.array, tick 0)
  goes_wrong e r = sound_after here Tick (state_with s r s.core.dataram s.core.locks Idle s.array, tick 0) h (record { dataram = h.shape.dataram; states = h.shape.states; few = h.shape.few })
      (locks_here _ ∙ failed_ruled s.array.count action s.array (lock_at s.core.locks) e) (λ b p w q. refl) refl

  ticks_sound : TickSound (ticked s (Runs plan k))
  ticks_sound = cond_both (succeeds s.array action) _ _ TickSound
      (λ e. cond_both (ltb (k + 1) (ticks_of plan)) _ _ TickSound (λ l. goes_on e (ltb-true (k + 1) (ticks_of plan) l)) (λ _. goes_out (closed plan (registers_after s action))))
      (λ e. goes_wrong e (failed plan s.core.registers))

tick_sound : (s : State) (l : ℕ → Lock) (w : ℕ → ℕ → ℕ → ℕ) (u : Underway) → Sound (moment s l w u) → Sound (next (moment s l w u) Tick)
tick_sound s l w none h = subst (λ r. Sound (after_call (moment s l w none) Tick (ticked s r))) (sym h.under)
    (sound_after (moment s l w none) Tick (s, refused 11) h h.shape h.locks (λ b p v e. refl) h.under)
tick_sound s l w (started from c k) h = subst (λ r. Sound (after_call (moment s l w (started from c k)) Tick (ticked s r))) (sym h.under.running)
    (ticks_sound s l w from c k h)

-- after a warm or cold reset every block is locked
all_locked_at : (λ (b : ℕ). Locked) ≡ lock_at all_locked
all_locked_at = fun_ext (λ b. ⊎_elim (λ (l : b < 256). sym (get_or-replicate 256 b Locked Locked l))
    (λ (l : 256 ≤ b). sym (get_or_past (replicate 256 Locked) b Locked (let e = length-replicate 256 Locked in omega arith))) (cases_lt b 256))

powered_shape : (d v : ℕ) (m : Meaning) → m.count ≤ max_blocks → Shaped (powered_up d v m)
powered_shape d v m h = record { dataram = length-replicate {A = ℕ} 1056 0xFFFF; states = length-replicate 256 Locked; few = h }

-- each call keeps the invariant, and so it holds all through a run
pub next_sound : (t : Moment) → Sound t → (c : Call) → Sound (next t c)
next_sound t h (Read a) = sound_after t (Read a) (t.chip, shown t.chip.core (place_of a)) h h.shape h.locks (λ b p w e. refl) h.under
next_sound t h (Write a w) = write_sound t h a w (place_of a) (command_place a)
next_sound t h Tick = tick_sound t.chip t.lock t.kept t.underway h
next_sound t h Warm = sound_after t Warm (step t.chip Warm) h (record { dataram = h.shape.dataram; states = length-replicate 256 Locked; few = h.shape.few }) all_locked_at (λ b p w e. refl) refl
next_sound t h Cold = sound_after t Cold (step t.chip Cold) h (powered_shape t.chip.core.device t.chip.core.version t.chip.array h.shape.few) all_locked_at (λ b p w e. refl) refl

pub begins_sound : (d v : ℕ) (m : Meaning) → m.count ≤ max_blocks → Sound (begins d v m)
begins_sound d v m h = record { shape = powered_shape d v m h; locks = all_locked_at; kept = λ b p w. refl; under = refl }

pub reaches_sound : (t : Moment) (cs : List Call) → Sound t → Sound (reaches t cs)
unfolding reaches
reaches_sound t [] h = h
reaches_sound t (c ∷ cs) h = reaches_sound (next t c) cs (next_sound t h c)
