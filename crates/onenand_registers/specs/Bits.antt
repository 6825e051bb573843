-- Bits of a word, bit 0 the lowest.
use Rattle.std.specs.Prelude.{ℕ, ◌/◌, ◌%◌, ◌^◌, Bool, ◌==◌}

-- bit k of a word, 0 or 1
abbrev pub bit : ℕ → ℕ → ℕ
bit k w = w / 2 ^ k % 2

-- it is 1
abbrev pub is_set : ℕ → ℕ → Bool
is_set k w = bit k w == 1
