-- A script's lines. A line ends at a line feed or at the script's end, and after a last line feed none begins.
use Rattle.std.specs.Prelude.{ℕ, Bool, cond, List, [], ◌∷◌, ◌==◌}

-- a byte is a line feed
abbrev pub is_feed : ℕ → Bool
is_feed b = b == 10

-- lines with a byte more in front of the first
abbrev pub onto : ℕ → List (List ℕ) → List (List ℕ)
onto b [] = (b ∷ []) ∷ []
onto b (l ∷ ls) = (b ∷ l) ∷ ls

-- the lines of a script, without their line feeds
abbrev pub lines_of : List ℕ → List (List ℕ)
lines_of [] = []
lines_of (b ∷ bs) = cond (b == 10) ([] ∷ lines_of bs) (onto b (lines_of bs))
