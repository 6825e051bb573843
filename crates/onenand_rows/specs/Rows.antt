-- Rows of a transfer's words, and when a row suits what runs.
use Rattle.std.specs.Prelude.{◌≡◌, ℕ, ◌+◌, ◌-◌, ◌%◌, Bool, cond, ◌&&◌, ◌==◌, Some, None, Option, nat_le, nat_lt}
use Rattle.flash.specs.declared.Location.{Location}
use Rattle.onenand_transfer.specs.declared.Part.{Part}
use Rattle.onenand_transfer.specs.declared.Part.TheVariants.{Whole, Spare}
use Rattle.onenand_transfer.specs.declared.Transfer.{Transfer}
use Rattle.onenand_transfer.specs.Transfers.{words, page_of, page_word, buffer_word}
use Rattle.onenand_rules.specs.declared.plans.Running.{Running}
use Rattle.onenand_rules.specs.declared.plans.Running.TheVariants.{Idle, Runs}
use Rattle.onenand_rules.specs.declared.plans.Action.{Action}
use Rattle.onenand_rules.specs.declared.plans.Action.TheVariants.{Fail, Wait, LoadWord, ProgramWord, EraseBlock, VerifyPage, SetLocks}
use Rattle.onenand_rules.specs.Plans.{action_of}
use Rattle.onenand_rows.specs.declared.Way.{Way}
use Rattle.onenand_rows.specs.declared.Way.TheVariants.{Load, Program}
use Rattle.onenand_rows.specs.declared.Row.{Row}

-- the main words that are left of the sector of word i, of n that move
abbrev pub left : Part → ℕ → ℕ → ℕ
left Whole n i = cond (nat_lt i n) (256 - i % 264) 0
left Spare n i = 0

-- how many words of a transfer stand in a row, from word i on
abbrev pub row_length : Transfer → ℕ → ℕ
row_length t i = left t.part (words t) i

-- the row that begins with word i of a transfer, which tick k moves, of any words or of none
abbrev pub row_from : Way → Transfer → ℕ → ℕ → Row
row_from way t i k = record {
  way = way;
  from = k;
  length = row_length t i;
  block = t.block;
  page = page_of t.page;
  word = page_word t.part t.page i;
  «data» = buffer_word t.part t.buffer i;
}

-- that row, where it is of any words
abbrev pub row_at : Way → Transfer → ℕ → ℕ → Option Row
row_at way t i k = cond (row_length t i == 0) None (Some (row_from way t i k))

-- the row that tick k begins, by what it does
abbrev pub row_by : Action → ℕ → Option Row
row_by Fail k = None
row_by Wait k = None
row_by (LoadWord t i) k = row_at Load t i k
row_by (ProgramWord t i) k = row_at Program t i k
row_by (EraseBlock b) k = None
row_by (VerifyPage b p) k = None
row_by (SetLocks p) k = None

-- the row that the next tick begins
abbrev pub row_of : Running → Option Row
row_of Idle = None
row_of (Runs p k) = row_by (action_of p k) k

-- tick k moves a word of the row
abbrev pub is_along : Row → ℕ → Bool
is_along r k = nat_le r.from k && nat_lt (k - r.from) r.length

-- where word o of a row stands in the array
abbrev pub location_of : Row → ℕ → Location
location_of r o = record { block = r.block; page = r.page; word = r.word + o }

-- what runs, as it was or will be at tick k
abbrev pub at_tick : Running → ℕ → Running
at_tick Idle k = Idle
at_tick (Runs p j) k = Runs p k

-- what ran as a row began: at the row's first tick, and where there is no row, now
abbrev pub began : Option Row → Running → Running
began None u = u
began (Some r) u = at_tick u r.from

-- a row suits what runs: it is what `row_of` gives for the same plan at the row's first tick; and there is none only where the
-- next tick begins none
abbrev pub Suits : Option Row → Running → Type 0
Suits r u = r ≡ row_of (began r u)
