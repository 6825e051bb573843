-- What lines, forms and columns are, in the words of the script alone.
use Rattle.std.specs.Prelude.{◌≡◌, ℕ, ◌+◌, ◌-◌, ◌<◌, ◌≤◌, false, ◌⊎◌, List, [], ◌∷◌, ◌++◌, length, take, Ok, Err, ◌==◌}
use Rattle.script_forms.specs.Lines.{lines_of}
use Rattle.script_forms.specs.Grammar.{Asked, read, write, tick, warm, cold, form_of, spelt}

-- lines, each with a line feed after it
abbrev pub ended : List (List ℕ) → List ℕ
ended [] = []
ended (l ∷ ls) = l ++ (10 ∷ ended ls)

-- no byte of a line is a line feed
abbrev pub NoFeed : List ℕ → Type 0
NoFeed [] = Unit {0}
NoFeed (b ∷ bs) = ((b == 10) ≡ false) × NoFeed bs

abbrev pub NoFeeds : List (List ℕ) → Type 0
NoFeeds [] = Unit {0}
NoFeeds (l ∷ ls) = NoFeed l × NoFeeds ls

-- the last line has bytes
abbrev pub LastSome : List (List ℕ) → Type 0
LastSome [] = ⊥
LastSome (l ∷ []) = 0 < length l
LastSome (l ∷ m ∷ ls) = LastSome (m ∷ ls)

-- no line holds a line feed, and the lines with theirs are the script, or the script and a line feed after its last bytes
abbrev pub LinesAreTheScript : Type 0
LinesAreTheScript = (script : List ℕ) →
    NoFeeds (lines_of script)
    × ((ended (lines_of script) ≡ script) ⊎ ((ended (lines_of script) ≡ script ++ 10 ∷ []) × LastSome (lines_of script)))

-- each number that is asked is a word
abbrev pub Words : Asked → Type 0
Words (read a) = a < 65536
Words (write a w) = (a < 65536) × (w < 65536)
Words (tick n) = n < 65536
Words warm = Unit {0}
Words cold = Unit {0}

-- a line is a form if and only if it is that form's text
abbrev pub FormIsItsText : Type 0
FormIsItsText =
    ((f : Asked) → Words f → form_of (spelt f) ≡ Ok f)
    × ((line : List ℕ) (f : Asked) → form_of line ≡ Ok f → Words f × (line ≡ spelt f))

abbrev pub IsForm : List ℕ → Type 0
IsForm line = (f : Asked) × (form_of line ≡ Ok f)

-- these bytes begin some form
abbrev pub Begins : List ℕ → Type 0
Begins front = (rest : List ℕ) × IsForm (front ++ rest)

-- what stands before the column begins some form, and with the column's byte none goes on
abbrev pub ColumnIsFirst : Type 0
ColumnIsFirst = (line : List ℕ) (c : ℕ) → form_of line ≡ Err c →
    (1 ≤ c) × (c ≤ length line + 1) × Begins (take (c - 1) line) × (c ≤ length line → Begins (take c line) → ⊥)
