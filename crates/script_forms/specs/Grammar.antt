-- What a line says: what its form asks, or the column at which no form can go on.
use Rattle.std.specs.Prelude.{ℕ, ◌+◌, ◌-◌, ◌*◌, ◌/◌, ◌%◌, cond, ◌&&◌, List, [], ◌∷◌, ◌++◌, take, drop, Ok, Err, codes, Result, nat_le, nat_lt, slice_index}
use Rattle.script_forms.specs.Shapes.{read_shape, write_shape, tick_shape, warm_shape, cold_shape, has_shape, begun}

-- what a form asks: a read of an address, a write of a word to an address, a number of ticks, a reset
pub data Asked : Type 0 where
  read : ℕ → Asked
  write : ℕ → ℕ → Asked
  tick : ℕ → Asked
  warm : Asked
  cold : Asked

-- what a digit is worth, and 0 for any other byte
abbrev pub digit_of : ℕ → ℕ
digit_of b = cond (nat_le 48 b && nat_le b 57) (b - 48) (cond (nat_le 65 b && nat_le b 70) (b - 55) 0)

-- what four digits are worth
abbrev pub worth : List ℕ → ℕ
worth bs = digit_of (slice_index bs 0) * 4096 + digit_of (slice_index bs 1) * 256 + digit_of (slice_index bs 2) * 16 + digit_of (slice_index bs 3)

-- what the four digits from place i of a line are worth
abbrev pub number_at : List ℕ → ℕ → ℕ
number_at line i = worth (take 4 (drop i line))

-- what a line asks, or else the column past the longest front of it that begins some form
abbrev pub form_of : List ℕ → Result Asked ℕ
form_of line =
    cond (has_shape read_shape line) (Ok (read (number_at line 7)))
    (cond (has_shape write_shape line) (Ok (write (number_at line 8) (number_at line 13)))
    (cond (has_shape tick_shape line) (Ok (tick (number_at line 7)))
    (cond (has_shape warm_shape line) (Ok warm)
    (cond (has_shape cold_shape line) (Ok cold)
    (Err (begun line + 1))))))

-- the digit that is worth d
abbrev pub digit_for : ℕ → ℕ
digit_for d = cond (nat_lt d 10) (48 + d) (55 + d)

-- a word as four digits
abbrev pub hex4 : ℕ → List ℕ
hex4 n = digit_for (n / 4096) ∷ digit_for (n / 256 % 16) ∷ digit_for (n / 16 % 16) ∷ digit_for (n % 16) ∷ []

-- the text of a form
abbrev pub spelt : Asked → List ℕ
spelt (read a) = codes "(read (" ++ (hex4 a ++ codes "))")
spelt (write a w) = codes "(write (" ++ (hex4 a ++ (codes " " ++ (hex4 w ++ codes "))")))
spelt (tick n) = codes "(tick (" ++ (hex4 n ++ codes "))")
spelt warm = codes "(warm)"
spelt cold = codes "(cold)"
