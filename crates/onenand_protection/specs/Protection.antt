-- Block protection: the states of blocks, and what the three protection commands make of them.
-- n: how many blocks there are; l: the state that a command makes; a, z: the first and last block of its range;
-- t: the state of each block.
use Rattle.std.specs.Prelude.{ℕ, zero, suc, ◌+◌, ◌-◌, Bool, true, false, cond, not, ◌&&◌, ◌||◌, List, map, length, nat_le, nat_lt, slice_index_or}
use Rattle.std.specs.List.{range_with_len}
use Rattle.onenand_protection.specs.declared.Lock.{Lock}
use Rattle.onenand_protection.specs.declared.Lock.TheVariants.{Locked, Unlocked, Tight}

-- lock-tight: locked, and so until a warm or cold reset
abbrev pub is_tight : Lock → Bool
is_tight Locked = false
is_tight Unlocked = false
is_tight Tight = true

-- the block takes programs and erases
abbrev pub is_unlocked : Lock → Bool
is_unlocked Locked = false
is_unlocked Unlocked = true
is_unlocked Tight = false

-- the state of block b in a table, and locked past its end
abbrev pub lock_at : List Lock → ℕ → Lock
lock_at t b = slice_index_or t b Locked

-- block b is in the range from a to z
abbrev pub in_range : ℕ → ℕ → ℕ → Bool
in_range a z b = nat_le a b && nat_le b z

-- one of the k blocks from a on is tight
unfoldable pub tight_among : (ℕ → Lock) → ℕ → ℕ → Bool
tight_among t a zero = false
tight_among t a (suc k) = is_tight (t a) || tight_among t (a + 1) k

-- a tight block stands in the way: of unlock and lock one in the range, of lock-tight any of the n blocks
abbrev pub hindered : ℕ → Lock → ℕ → ℕ → (ℕ → Lock) → Bool
hindered n Unlocked a z t = tight_among t a (suc z - a)
hindered n Locked a z t = tight_among t a (suc z - a)
hindered n Tight a z t = tight_among t 0 n

-- the command that makes blocks l is obeyed: its range is one of n blocks, and no tight block stands in the way
abbrev pub obeyed : ℕ → Lock → ℕ → ℕ → (ℕ → Lock) → Bool
obeyed n l a z t = (nat_le a z && nat_lt z n) && not (hindered n l a z t)

-- what an obeyed command makes of block b that was in the state old
abbrev pub lock_made : Lock → ℕ → ℕ → ℕ → Lock → Lock
lock_made Unlocked a z b old = cond (in_range a z b) Unlocked (cond (is_tight old) Tight Locked)
lock_made Locked a z b old = cond (in_range a z b) Locked old
lock_made Tight a z b old = cond (in_range a z b) Tight old

-- the same of all blocks, by their states
abbrev pub locks_made : Lock → ℕ → ℕ → (ℕ → Lock) → ℕ → Lock
locks_made l a z t b = lock_made l a z b (t b)

-- all blocks after a protection command, obeyed or ignored
abbrev pub protected : ℕ → Lock → ℕ → ℕ → (ℕ → Lock) → ℕ → Lock
protected n l a z t = cond (obeyed n l a z t) (locks_made l a z t) t

-- the table after an obeyed command, and after an obeyed or ignored one
abbrev pub table_made : Lock → ℕ → ℕ → List Lock → List Lock
table_made l a z t = map (locks_made l a z (lock_at t)) (range_with_len 0 (length t))

abbrev pub table_after : ℕ → Lock → ℕ → ℕ → List Lock → List Lock
table_after n l a z t = cond (obeyed n l a z (lock_at t)) (table_made l a z t) t

-- what F24Eh shows once a command has made blocks l
abbrev pub protection_word : Lock → ℕ
protection_word Unlocked = 4
protection_word Locked = 2
protection_word Tight = 1
