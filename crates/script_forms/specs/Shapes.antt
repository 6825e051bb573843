-- The shapes of the five forms, and how far a line agrees with one.
use Rattle.std.specs.Prelude.{ℕ, suc, max, Bool, cond, ◌&&◌, ◌||◌, List, [], ◌∷◌, length, codes, ◌==◌, nat_le}

-- the five shapes: a form's text, with # where a digit stands
abbrev pub read_shape : List ℕ
read_shape = codes "(read (####))"

abbrev pub write_shape : List ℕ
write_shape = codes "(write (#### ####))"

abbrev pub tick_shape : List ℕ
tick_shape = codes "(tick (####))"

abbrev pub warm_shape : List ℕ
warm_shape = codes "(warm)"

abbrev pub cold_shape : List ℕ
cold_shape = codes "(cold)"

-- 0 to 9 and A to F
abbrev pub is_digit : ℕ → Bool
is_digit b = (nat_le 48 b && nat_le b 57) || (nat_le 65 b && nat_le b 70)

-- a byte is as its shape has it
abbrev pub fits : ℕ → ℕ → Bool
fits s b = cond (s == 35) (is_digit b) (s == b)

-- how many bytes at the front of a line are as the shape has them
abbrev pub agreed : List ℕ → List ℕ → ℕ
agreed [] bs = 0
agreed (s ∷ ss) [] = 0
agreed (s ∷ ss) (b ∷ bs) = cond (fits s b) (suc (agreed ss bs)) 0

-- a line is of a shape, whole and with nothing after it
abbrev pub has_shape : List ℕ → List ℕ → Bool
has_shape shape line = length line == length shape && agreed shape line == length shape

-- how many bytes at the front of a line begin some form
abbrev pub begun : List ℕ → ℕ
begun line = max (agreed read_shape line) (max (agreed write_shape line) (max (agreed tick_shape line) (max (agreed warm_shape line) (agreed cold_shape line))))
