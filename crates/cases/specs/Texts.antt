-- How a case is written.
use Rattle.std.specs.Prelude.{ℕ, ◌<◌, List, ◌∷◌, ◌++◌, length, ◌≢◌, slice_index}

-- a text of one line
abbrev pub OneLine : List ℕ → Type 0
OneLine xs = (i : ℕ) → i < length xs → slice_index xs i ≢ 10

-- its name and a line feed, its script, '=' and a line feed, and its transcript
abbrev pub case_text : List ℕ → List ℕ → List ℕ → List ℕ
case_text name script expected = name ++ (10 ∷ (script ++ (61 ∷ 10 ∷ expected)))
