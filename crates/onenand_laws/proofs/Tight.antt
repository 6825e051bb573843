-- Tight blocks stay tight, and the chip's table of block states follows the rules of protection for every block.
use Rattle.std.proofs.Common.{◌≡◌, ℕ, zero, suc, ◌+◌, ◌-◌, ◌<◌, ◌≤◌, Bool, true, false, cond, ◌&&◌, ltb, leb, ◌⊎◌, List, map, length, sym, refl, ap, ◌∙◌, ⊎_elim, arith}
use mathlib.Core.Path.{fun_ext}
use Rattle.std.specs.List.{range_with_len}
use Rattle.std.proofs.lemmas.Bool.{cond_both, cond-false, cases_lt, cases_eq, or_left, or_right, and_parts, leb-true, ltb-true, lt-leb, and_right, not-true, both_ways}
use Rattle.std.proofs.lemmas.List.{get_or_past}
use Rattle.std.proofs.lemmas.List.FromFn.{length-map-range_with_len, get_or-map-range_with_len}
use Rattle.flash.specs.Geometry.{max_blocks}
use Rattle.onenand_protection.specs.declared.Lock.{Lock}
use Rattle.onenand_protection.specs.declared.Lock.TheVariants.{Locked, Unlocked, Tight}
use Rattle.onenand_protection.specs.Protection.{is_tight, lock_at, in_range, tight_among, hindered, obeyed, locks_made, protected, table_made, table_after}
use Rattle.onenand_rules.specs.declared.calls.Call.{Call}
use Rattle.onenand_rules.specs.declared.calls.Call.TheVariants.{Warm, Cold}
use Rattle.onenand_rules.specs.declared.commands.Command.{Command}
use Rattle.onenand_rules.specs.declared.commands.Command.TheVariants.{Load, Program, CopyBack, Erase, Verify, Protect, Reset, Unknown}
use Rattle.onenand_rules.specs.Calls.{Reply}
use Rattle.onenand_laws.specs.Observer.{Underway, locks_ended, locks_by, locks_after_call, Moment, next}

-- a tight block among the k from a on is found
found : (t : ℕ → Lock) (b k a : ℕ) → t b ≡ Tight → a ≤ b → b < a + k → tight_among t a k ≡ true
unfolding tight_among
found t b zero a h l u = absurd (omega arith)
found t b (suc k) a h l u = ⊎_elim
    (λ (e : a ≡ b). or_left (is_tight (t a)) (tight_among t (a + 1) k) (ap (λ x. is_tight (t x)) e ∙ ap is_tight h))
    (λ (e : a ≡ b → ⊥). or_right (is_tight (t a)) (tight_among t (a + 1) k) (found t b k (a + 1) h (omega arith) (omega arith)))
    (cases_eq a b)

-- of a tight block b
module _ (n a z b : ℕ) (t : ℕ → Lock) (h : t b ≡ Tight) where
  in_the_way : in_range a z b ≡ true → tight_among t a (suc z - a) ≡ true
  in_the_way e =
      let q = and_parts (leb a b) (leb b z) e in
      let l : a ≤ b = leb-true a b q.0 in
      let r : b ≤ z = leb-true b z q.1 in
      found t b (suc z - a) a h l (omega arith)

  made_tight : (l : Lock) → hindered n l a z t ≡ false → locks_made l a z t b ≡ Tight
  made_tight Unlocked f = cond_both (in_range a z b) _ _ (λ x. x ≡ Tight) (λ e. absurd (both_ways _ f (in_the_way e))) (λ _. ap (λ x. cond (is_tight x) Tight Locked) h)
  made_tight Locked f = cond_both (in_range a z b) _ _ (λ x. x ≡ Tight) (λ e. absurd (both_ways _ f (in_the_way e))) (λ _. h)
  made_tight Tight f = cond_both (in_range a z b) _ _ (λ x. x ≡ Tight) (λ _. refl) (λ _. h)

  protected_tight : (l : Lock) → protected n l a z t b ≡ Tight
  protected_tight l = cond_both (obeyed n l a z t) (locks_made l a z t) t (λ f. f b ≡ Tight)
      (λ e. made_tight l (not-true _ (and_parts (leb a z && ltb z n) _ e).1))
      (λ _. h)

  ended_tight : (c : Command) → locks_ended n c a z t b ≡ Tight
  ended_tight (Load p) = h
  ended_tight (Program p) = h
  ended_tight CopyBack = h
  ended_tight Erase = h
  ended_tight Verify = h
  ended_tight (Protect l) = protected_tight l
  ended_tight (Reset r) = h
  ended_tight Unknown = h

by_tight : (n : ℕ) (u : Underway) (t : ℕ → Lock) (b : ℕ) → t b ≡ Tight → locks_by n u t b ≡ Tight
by_tight n u t b h = grind (arith, ended_tight)

call_tight : (n : ℕ) (u : Underway) (t : ℕ → Lock) (b : ℕ) → t b ≡ Tight → (c : Call) (r : Reply) → (locks_after_call n u t c r b ≡ Tight) ⊎ ((c ≡ Warm) ⊎ (c ≡ Cold))
call_tight n u t b h c r = grind (arith, by_tight)

-- a tight block stays tight until a warm or cold reset
pub stays_tight : (t : Moment) (c : Call) (b : ℕ) → t.lock b ≡ Tight → ((next t c).lock b ≡ Tight) ⊎ ((c ≡ Warm) ⊎ (c ≡ Cold))
stays_tight t c b h = call_tight _ t.underway t.lock b h c _

-- a block past the range that was locked is locked
made_past : (l : Lock) (a z b : ℕ) (t : ℕ → Lock) → z < b → t b ≡ Locked → locks_made l a z t b ≡ Locked
made_past l a z b t h e = go l (and_right (leb a b) (leb b z) (lt-leb b z h))
  where
    go : (l : Lock) → in_range a z b ≡ false → locks_made l a z t b ≡ Locked
    go Unlocked f = cond-false (in_range a z b) _ _ f ∙ ap (λ x. cond (is_tight x) Tight Locked) e
    go Locked f = cond-false (in_range a z b) _ _ f ∙ e
    go Tight f = cond-false (in_range a z b) _ _ f ∙ e

by_test : (q : Bool) (P : Bool → Type 0) → (q ≡ true → P true) → (q ≡ false → P false) → P q
by_test q P h e = grind arith

-- the table has a state for each of 256 blocks, and past them every block is locked
pub table : (n : ℕ) (l : Lock) (a z : ℕ) (d : List Lock) → length d ≡ max_blocks → n ≤ max_blocks → lock_at (table_after n l a z d) ≡ protected n l a z (lock_at d)
table n l a z d e h = by_test (obeyed n l a z (lock_at d)) (λ q. lock_at (cond q (table_made l a z d) d) ≡ cond q (locks_made l a z (lock_at d)) (lock_at d))
    (λ f. fun_ext (λ b. ⊎_elim
    (λ (k : b < 256). get_or-map-range_with_len (locks_made l a z (lock_at d)) 0 (length d) b b Locked (omega arith) (omega arith))
    (λ (k : 256 ≤ b).
    let u = length-map-range_with_len (locks_made l a z (lock_at d)) 0 (length d) in
    let y : z < n = ltb-true z n (and_parts (leb a z) (ltb z n) (and_parts _ _ f).0).1 in
    get_or_past (map (locks_made l a z (lock_at d)) (range_with_len 0 (length d))) b Locked (omega arith)
    ∙ sym (made_past l a z b (lock_at d) (omega arith) (get_or_past d b Locked (omega arith))))
    (cases_lt b 256)))
    (λ _. refl)
