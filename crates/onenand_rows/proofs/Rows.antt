-- The row that a tick begins suits what runs, and a row that suits it leads the ticks along it.
use Rattle.std.proofs.Common.{◌≡◌, ℕ, ◌+◌, ◌-◌, ◌*◌, ◌/◌, ◌%◌, ◌<◌, ◌≤◌, true, Some, None, Option, eqb, ltb, leb, sym, refl, ap, ◌∙◌, subst, arith}
use Rattle.std.proofs.lemmas.Bool.{cond_both, cond-true, cond-false, ltb-true, ltb-false, lt-ltb, le-ltb, and_parts, leb-true}
use Rattle.std.proofs.lemmas.Bool.Decides.{nat_tests}
use Rattle.onenand_registers.specs.Bits.{bit}
use Rattle.onenand_transfer.specs.declared.Part.{Part}
use Rattle.onenand_transfer.specs.declared.Part.TheVariants.{Whole, Spare}
use Rattle.onenand_transfer.specs.declared.Transfer.{Transfer}
use Rattle.onenand_transfer.specs.Transfers.{size, words, counted, sector_word, page_of, page_sector, buffer_sector, page_word, buffer_word}
use Rattle.onenand_rules.specs.declared.plans.Plan.{Plan}
use Rattle.onenand_rules.specs.declared.plans.Plan.TheVariants.{Fails, Loads, Programs, Copies, Erases, Verifies, Protects, Resets}
use Rattle.onenand_rules.specs.declared.plans.Running.TheVariants.{Runs}
use Rattle.onenand_rules.specs.declared.plans.Action.{Action}
use Rattle.onenand_rules.specs.declared.plans.Action.TheVariants.{Wait, LoadWord, ProgramWord, EraseBlock}
use Rattle.onenand_rules.specs.Plans.{ticks_of, action_of}
use Rattle.onenand_rows.specs.declared.Way.{Way}
use Rattle.onenand_rows.specs.declared.Way.TheVariants.{Load, Program}
use Rattle.onenand_rows.specs.declared.Row.{Row}
use Rattle.onenand_rows.specs.Rows.{left, row_length, row_from, row_at, row_by, row_of, is_along, Suits}

-- what moves word i of a transfer
abbrev pub moves : Way → Transfer → ℕ → Action
moves Load t i = LoadWord t i
moves Program t i = ProgramWord t i

-- word i of a transfer is word o of a row: it stands where the row says
pub record Stands (r : Row) (o : ℕ) (t : Transfer) (i : ℕ) : Type 0 where
  pub block : t.block ≡ r.block
  pub page : page_of t.page ≡ r.page
  pub word : page_word t.part t.page i ≡ r.word + o
  pub place : buffer_word t.part t.buffer i ≡ r.«data» + o

-- tick k of a plan moves word o of a row, and does not end the plan
pub record Leads (r : Row) (p : Plan) (k o : ℕ) : Type 0 where
  pub of : Transfer
  pub number : ℕ
  pub acts : action_of p k ≡ moves r.way of number
  pub stands : Stands r o of number
  pub goes_on : k + 1 < ticks_of p

-- along a row of whole sectors the sector stays
stays : (n i o : ℕ) → o < left Whole n i → (i < n) × (i % 264 + o < 256)
stays n i o = cond_both (ltb i n) (256 - i % 264) 0 (λ l. o < l → (i < n) × (i % 264 + o < 256))
    (λ e l. (ltb-true i n e, omega arith)) (λ e l. absurd (omega arith))

-- and the place goes up with the word
up : (n s x o : ℕ) → x + o < 256 → sector_word n s (x + o) ≡ sector_word n s x + o
up n s x o h = grind (arith, nat_tests)

-- of word i of those that move, where a list of n sectors has them, taken in the order of `sector`
abbrev placed : ℕ → (ℕ → ℕ) → Part → ℕ → ℕ
placed n sector part i = let c = counted part i in sector_word n (sector (c / 264)) (c % 264)

place_up : (part : Part) (n m i o : ℕ) (sector : ℕ → ℕ) → o < left part n i → placed m sector part (i + o) ≡ placed m sector part i + o
place_up Whole n m i o sector h =
    let k = (stays n i o h).1 in
    let q : (i + o) / 264 ≡ i / 264 = omega arith in
    let r : (i + o) % 264 ≡ i % 264 + o = omega arith in
    (λ j. sector_word m (sector (q j)) (r j)) ∙ up m (sector (i / 264)) (i % 264) o k
place_up Spare n m i o sector h = absurd (omega arith)

page_up : (part : Part) (n g i o : ℕ) → o < left part n i → page_word part g (i + o) ≡ page_word part g i + o
unfolding page_word
page_up part n g i o h = place_up part n 2 i o (page_sector g) h

data_up : (part : Part) (n f i o : ℕ) → o < left part n i → buffer_word part f (i + o) ≡ buffer_word part f i + o
unfolding buffer_word
data_up part n f i o h = place_up part n 4 i o (buffer_sector f) h

-- a row ends before its transfer does
before_end : (part : Part) (f i o : ℕ) → o < left part (size part f) i → (i + o) + 1 < size part f
unfolding size
before_end Whole f i o h = let k = stays (264 * (2 - bit 0 f)) i o h in omega arith
before_end Spare f i o h = absurd (omega arith)

-- the words of a row stand where it says
row_stands : (way : Way) (t : Transfer) (i k o : ℕ) → o < row_length t i → Stands (row_from way t i k) o t (i + o)
row_stands way t i k o h = record {
  block = refl;
  page = refl;
  word = page_up t.part (words t) t.page i o h;
  place = data_up t.part (words t) t.buffer i o h;
}

-- along a row of a plan, if there is one
abbrev Led : Option Row → Plan → Type 0
Led None p = Unit {0}
Led (Some r) p = (o : ℕ) → o < r.length → Leads r p (r.from + o) o

-- by what the ticks along it do
row_led : (p : Plan) (way : Way) (t : Transfer) (i k : ℕ)
    → ((o : ℕ) → o < row_length t i → action_of p (k + o) ≡ moves way t (i + o))
    → ((o : ℕ) → o < row_length t i → (k + o) + 1 < ticks_of p)
    → Led (row_at way t i k) p
row_led p way t i k a g = cond_both (eqb (row_length t i) 0) None (Some (row_from way t i k)) (λ (r : Option Row). Led r p) (λ e. tt)
    (λ e o h. record { of = t; number = i + o; acts = a o h; stands = row_stands way t i k o h; goes_on = g o h })

-- in the first half of a copy-back, and in the second
module _ (from to : Transfer) (k : ℕ) where
  loads : k < words from → Led (row_at Load from k k) (Copies from to)
  loads h = row_led (Copies from to) Load from k k
      (λ o l. let e = before_end from.part from.buffer k o l in cond-true _ _ _ (lt-ltb (k + o) (words from) (omega arith)))
      (λ o l. let e = before_end from.part from.buffer k o l in omega arith)

  programs : words from ≤ k → Led (row_at Program to (k - words from) k) (Copies from to)
  programs h = row_led (Copies from to) Program to (k - words from) k
      (λ o l. let e : (k + o) - words from ≡ (k - words from) + o = omega arith in
      cond-false _ _ _ (le-ltb (k + o) (words from) (omega arith)) ∙ ap (ProgramWord to) e)
      (λ o l. let e = before_end to.part to.buffer (k - words from) o l in omega arith)

begun : (p : Plan) (k : ℕ) → Led (row_of (Runs p k)) p
begun (Fails f d) k = tt
begun (Loads t) k = row_led (Loads t) Load t k k (λ o h. refl) (λ o h. before_end t.part t.buffer k o h)
begun (Programs t) k = row_led (Programs t) Program t k k (λ o h. refl) (λ o h. before_end t.part t.buffer k o h)
begun (Copies from to) k = cond_both (ltb k (words from)) (LoadWord from k) (ProgramWord to (k - words from)) (λ (a : Action). Led (row_by a k) (Copies from to))
    (λ e. loads from to k (ltb-true k (words from) e)) (λ e. programs from to k (ltb-false k (words from) e))
begun (Erases b) k = cond_both (ltb k 63) Wait (EraseBlock b) (λ (a : Action). Led (row_by a k) (Erases b)) (λ e. tt) (λ e. tt)
begun (Verifies b) k = tt
begun (Protects p) k = tt
begun (Resets r) k = tt

pub leads : (r : Row) (p : Plan) (k : ℕ) → Suits (Some r) (Runs p k) → is_along r k ≡ true → Leads r p k (k - r.from)
leads r p k suits along =
    let t = and_parts (leb r.from k) (ltb (k - r.from) r.length) along in
    let h = leb-true r.from k t.0 in
    let here : r.from + (k - r.from) ≡ k = omega arith in
    let led : Led (Some r) p = subst (λ (x : Option Row). Led x p) (sym suits) (begun p r.from) in
    subst (λ j. Leads r p j (k - r.from)) here (led (k - r.from) (ltb-true (k - r.from) r.length t.1))
