-- The promise over runs: what holds of any list of calls put to a chip, refused ones included, over any array.
use Rattle.std.specs.Prelude.{◌≡◌, ℕ, ◌-◌, ◌<◌, ◌≤◌, Bool, true, false, cond, ◌&&◌, ◌||◌, ◌⊎◌, List, [], ◌∷◌, ◌++◌, take, replicate, ◌==◌, ◌≢◌, bit_and}
use Rattle.flash.specs.Geometry.{max_blocks, blank_word}
use Rattle.flash.specs.Meaning.{Meaning, word_at}
use Rattle.onenand_protection.specs.declared.Lock.TheVariants.{Tight}
use Rattle.onenand_protection.specs.Protection.{is_unlocked}
use Rattle.onenand_registers.specs.Addresses.{address_of}
use Rattle.onenand_transfer.specs.declared.Part.{Part}
use Rattle.onenand_transfer.specs.declared.Part.TheVariants.{Whole, Spare}
use Rattle.onenand_transfer.specs.Transfers.{page_of, size, page_word, buffer_word}
use Rattle.onenand_rules.specs.declared.calls.Call.{Call}
use Rattle.onenand_rules.specs.declared.calls.Call.TheVariants.{Read, Write, Tick, Warm, Cold}
use Rattle.onenand_rules.specs.State.{State}
use Rattle.onenand_rules.specs.Calls.{Reply, word, done, tick, refused}
use Rattle.onenand_rules.specs.Resets.{powered_up}
use Rattle.onenand_rules.specs.Steps.{step, after, replies}
use Rattle.onenand_laws.specs.Observer.{peek, none, started, Moment, begins, next, reaches, drops}

-- a read of an address, put next, answers a word
abbrev pub Reads : State → ℕ → ℕ → Type 0
Reads s a w = (step s (Read a)).1 ≡ word w

-- Error, bit 10 of F240h read next, is clear
abbrev pub Clear : State → Type 0
Clear s = bit_and (peek s 0xF240) 0x0400 ≡ 0

-- the code words of load and load spare, and of program and program spare
abbrev pub is_load : ℕ → Bool
is_load c = c == 0x0000 || c == 0x0013

abbrev pub is_program : ℕ → Bool
is_program c = c == 0x0080 || c == 0x001A

-- and of those that change the array
abbrev pub is_changing : ℕ → Bool
is_changing c = is_program c || (c == 0x001B || c == 0x0094)

-- what they move of a sector
abbrev pub part_of : ℕ → Part
part_of c = cond (c == 0x0013 || c == 0x001A) Spare Whole

-- the words of a load or a program are those that F100h, F107h and F200h choose at its start, in the order moved:
-- how many they are, their block and page, and for word i its place in the page and its buffer address
abbrev pub count : State → ℕ → ℕ
count from c = size (part_of c) (peek from 0xF200)

abbrev pub block : State → ℕ
block from = peek from 0xF100

abbrev pub page : State → ℕ
page from = page_of (peek from 0xF107)

abbrev pub place : State → ℕ → ℕ → ℕ
place from c i = page_word (part_of c) (peek from 0xF107) i

abbrev pub address : State → ℕ → ℕ → ℕ
address from c i = address_of (buffer_word (part_of c) (peek from 0xF200) i)

-- each buffer word of a load that started so holds its array word
abbrev pub Loaded : State → ℕ → State → Type 0
Loaded from c s = (i : ℕ) → i < count from c → Reads s (address from c i) (word_at s.array (block from) (page from) (place from c i))

-- the first k buffer words of a program that started so, as they were then, are ANDed in, and no other word differs
pub record Programmed (from : State) (c k : ℕ) (m : Meaning) : Type 0 where
  pub shown : (i : ℕ) → i < k → Reads from (address from c i) (peek from (address from c i))
  pub anded : (i : ℕ) → i < k → m.word (block from) (page from) (place from c i) ≡ bit_and (from.array.word (block from) (page from) (place from c i)) (peek from (address from c i))
  pub others : (b p w : ℕ) → ((i : ℕ) → i < k → b ≡ block from → p ≡ page from → w ≢ place from c i) → m.word b p w ≡ from.array.word b p w

-- the words of a copy-back: what word i was in its source, by F100h and F107h, and its place in the target, by F102h and F103h
abbrev pub source : State → ℕ → ℕ
source from i = word_at from.array (block from) (page from) (page_word Whole (peek from 0xF107) i)

abbrev pub copy_block : State → ℕ
copy_block from = peek from 0xF102

abbrev pub copy_page : State → ℕ
copy_page from = page_of (peek from 0xF103)

abbrev pub copy_place : State → ℕ → ℕ
copy_place from i = page_word Whole (peek from 0xF103) i

-- the first k source words of a copy-back that started so, as they were then, are ANDed into the target, and no other word differs
pub record Copied (from : State) (k : ℕ) (m : Meaning) : Type 0 where
  pub anded : (i : ℕ) → i < k → m.word (copy_block from) (copy_page from) (copy_place from i) ≡ bit_and (from.array.word (copy_block from) (copy_page from) (copy_place from i)) (source from i)
  pub others : (b p w : ℕ) → ((i : ℕ) → i < k → b ≡ copy_block from → p ≡ copy_page from → w ≢ copy_place from i) → m.word b p w ≡ from.array.word b p w

-- every word of the block is FFFFh, and no other word differs
pub record Erased (from : State) (m : Meaning) : Type 0 where
  pub blank : (p w : ℕ) → m.word (block from) p w ≡ blank_word
  pub others : (b p w : ℕ) → (b ≢ block from) → m.word b p w ≡ from.array.word b p w

-- what holds at a moment of a run, and of whatever call comes next
pub record Faithful (t : Moment) (c : Call) : Type 0 where
  -- a locked or tight block has the words of the last call that left it unlocked, or else of power-up
  pub protected : (b p w : ℕ) → is_unlocked (t.lock b) ≡ false → t.chip.array.word b p w ≡ t.kept b p w
  -- a tight block stays tight until a warm or cold reset
  pub tight : (b : ℕ) → t.lock b ≡ Tight → ((next t c).lock b ≡ Tight) ⊎ ((c ≡ Warm) ⊎ (c ≡ Cold))
  -- a load that the call ends with Error clear shows the array's words
  pub loads : (from : State) (code k : ℕ) → t.underway ≡ started from code k → is_load code ≡ true → (step t.chip c).1 ≡ tick 0 → Clear (next t c).chip → Loaded from code (next t c).chip
  -- a program that it ends with Error clear has ANDed exactly its words in
  pub programs : (from : State) (code k : ℕ) → t.underway ≡ started from code k → is_program code ≡ true → (step t.chip c).1 ≡ tick 0 → Clear (next t c).chip → Programmed from code (count from code) (next t c).chip.array
  -- a program that it ends with Error has ANDed exactly its first k words in
  pub stops : (from : State) (code k : ℕ) → t.underway ≡ started from code k → is_program code ≡ true → (step t.chip c).1 ≡ tick 0 → (Clear (next t c).chip → ⊥) → Programmed from code k (next t c).chip.array
  -- a program that it cuts after k ticks has ANDed exactly its first k words in
  pub cuts : (from : State) (code k : ℕ) → t.underway ≡ started from code k → is_program code ≡ true → drops c (step t.chip c).1 ≡ true → Programmed from code k (next t c).chip.array
  -- a copy-back that it ends with Error clear has ANDed exactly its words in
  pub copies : (from : State) (k : ℕ) → t.underway ≡ started from 0x001B k → (step t.chip c).1 ≡ tick 0 → Clear (next t c).chip → Copied from (count from 0x001B) (next t c).chip.array
  -- a copy-back that it ends with Error, or cuts, after k ticks has ANDed in exactly one word for each tick past those that loaded its words
  pub copy_stops : (from : State) (k : ℕ) → t.underway ≡ started from 0x001B k → (step t.chip c).1 ≡ tick 0 → (Clear (next t c).chip → ⊥) → Copied from (k - count from 0x001B) (next t c).chip.array
  pub copy_cuts : (from : State) (k : ℕ) → t.underway ≡ started from 0x001B k → drops c (step t.chip c).1 ≡ true → Copied from (k - count from 0x001B) (next t c).chip.array
  -- no reset changes an array word
  pub unmoved : drops c (step t.chip c).1 ≡ true → (b p w : ℕ) → (next t c).chip.array.word b p w ≡ t.chip.array.word b p w
  -- an erase that it ends with Error clear has blanked exactly its block
  pub erases : (from : State) (k : ℕ) → t.underway ≡ started from 0x0094 k → (step t.chip c).1 ≡ tick 0 → Clear (next t c).chip → Erased from (next t c).chip.array
  -- an erase that it ends with Error, or cuts, has changed no array word
  pub erase_stops : (from : State) (k : ℕ) → t.underway ≡ started from 0x0094 k → (step t.chip c).1 ≡ tick 0 → (Clear (next t c).chip → ⊥) → (b p w : ℕ) → (next t c).chip.array.word b p w ≡ from.array.word b p w
  pub erase_cuts : (from : State) (k : ℕ) → t.underway ≡ started from 0x0094 k → drops c (step t.chip c).1 ≡ true → (b p w : ℕ) → (next t c).chip.array.word b p w ≡ from.array.word b p w
  -- only a tick changes the array, and only with a program, a copy-back or an erase under way
  pub steady : (c ≢ Tick) → (next t c).chip.array ≡ t.chip.array
  pub harmless : (from : State) (code k : ℕ) → t.underway ≡ started from code k → is_changing code ≡ false → (next t c).chip.array ≡ t.chip.array
  -- with a command under way a tick answers 1 or 0, and with none it is refused with 11
  pub ticks : (from : State) (code k : ℕ) → t.underway ≡ started from code k → ((step t.chip Tick).1 ≡ tick 1) ⊎ ((step t.chip Tick).1 ≡ tick 0)
  pub quiet : t.underway ≡ none → (step t.chip Tick).1 ≡ refused 11
  -- with a command under way F220h takes no word but the resets 00F0h and 00F3h
  pub alone : (from : State) (code k w : ℕ) → t.underway ≡ started from code k → (step t.chip (Write 0xF220 w)).1 ≡ done → (w ≡ 0x00F0) ⊎ (w ≡ 0x00F3)
  -- a command under way has had fewer than 1,056 ticks: it takes at most so many
  pub short : (from : State) (code k : ℕ) → t.underway ≡ started from code k → k < 1056
  -- a refused call changes nothing
  pub refusals : (n : ℕ) → (step t.chip c).1 ≡ refused n → (next t c).chip ≡ t.chip
  -- nor does a read
  pub reads : (a : ℕ) → (next t (Read a)).chip ≡ t.chip

-- ticks alone bring any command to its end
abbrev pub Ends : Moment → Type 0
Ends t = (k : ℕ) × (k ≤ 1056) × ((reaches t (replicate k Tick)).underway ≡ none)

-- calls without a warm or cold reset
abbrev pub Calm : List Call → Type 0
Calm [] = Unit {0}
Calm (Read a ∷ cs) = Calm cs
Calm (Write a w ∷ cs) = Calm cs
Calm (Tick ∷ cs) = Calm cs
Calm (Warm ∷ cs) = ⊥
Calm (Cold ∷ cs) = ⊥

-- the words of a tight block stay through them
abbrev pub Still : Moment → Type 0
Still t = (cs : List Call) (b p w : ℕ) → t.lock b ≡ Tight → Calm cs → (reaches t cs).chip.array.word b p w ≡ t.chip.array.word b p w

-- two arrays are equal in count, dead pages, dead blocks and every word outside block b
pub record Apart (b : ℕ) (m m' : Meaning) : Type 0 where
  pub count : m.count ≡ m'.count
  pub dead_page : m.dead_page ≡ m'.dead_page
  pub dead_block : m.dead_block ≡ m'.dead_block
  pub word : (x p w : ℕ) → (x ≢ b) → m.word x p w ≡ m'.word x p w

-- a call starts a load, a copy-back or a verify
abbrev pub starts_reading : Call → Reply → Bool
starts_reading (Read a) r = false
starts_reading (Write a c) (word v) = false
starts_reading (Write a c) done = a == 0xF220 && (is_load c || (c == 0x001B || c == 0x0071))
starts_reading (Write a c) (tick n) = false
starts_reading (Write a c) (refused n) = false
starts_reading Tick r = false
starts_reading Warm r = false
starts_reading Cold r = false

-- one of the calls does so while F100h holds b
abbrev pub Looks : ℕ → State → List Call → Type 0
Looks b s [] = ⊥
Looks b s (c ∷ cs) = ((starts_reading c (step s c).1 ≡ true) × (peek s 0xF100 ≡ b)) ⊎ Looks b (step s c).0 cs

-- a block, not block 0, that is never read tells nothing: over arrays that differ in it alone,
-- all replies are the same, and so are all words outside it
pub record Blind (d v : ℕ) (m : Meaning) (cs : List Call) (m' : Meaning) (b : ℕ) : Type 0 where
  pub answers : replies (powered_up d v m) cs ≡ replies (powered_up d v m') cs
  pub words : Apart b (after (powered_up d v m) cs).array (after (powered_up d v m') cs).array

-- the whole, of a chip that is powered up with device word d and version word v over an array m, and a list of calls
pub record Promise (d v : ℕ) (m : Meaning) (cs : List Call) : Type 0 where
  pub faithful : (c : Call) → Faithful (reaches (begins d v m) cs) c
  pub ends : Ends (reaches (begins d v m) cs)
  pub still : Still (reaches (begins d v m) cs)
  pub blind : (m' : Meaning) (b : ℕ) → 0 < b → Apart b m m' → (Looks b (powered_up d v m) cs → ⊥) → Blind d v m cs m' b

-- it holds over every array: no array has more than 256 blocks
abbrev pub Promised : Type 0
Promised = (d v : ℕ) (m : Meaning) (cs : List Call) → m.count ≤ max_blocks → Promise d v m cs

-- a list of calls was put to a chip: if it stood where some calls had led from power-up, it now stands where those and these
-- lead, and the promise holds of both lists together
abbrev pub Played : State → List Call → State → Type 0
Played s cs s' = (d v : ℕ) (m : Meaning) (before : List Call) → m.count ≤ max_blocks → s ≡ after (powered_up d v m) before →
    (s' ≡ (reaches (begins d v m) (before ++ cs)).chip) × Promise d v m (before ++ cs)

-- of a list of calls the first few were put
abbrev pub Stopped : State → List Call → State → Type 0
Stopped s cs s' = (k : ℕ) × (s' ≡ after s (take k cs))
