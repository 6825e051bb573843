-- Lines, forms and numbers as the reader gives them: parts of the script's bytes, with their places.
use Rattle.std.specs.Prelude.{◌≡◌, ℕ, ◌+◌, ◌^◌, ◌<◌, List, [], ◌∷◌, take, drop, Ok, Err, Result, Option, MatchOption}
use Rattle.script_forms.specs.declared.reader.Reader.{Reader}
use Rattle.script_forms.specs.declared.parts.Place.{Place}
use Rattle.script_forms.specs.declared.parts.Part.{Part}
use Rattle.script_forms.specs.declared.parts.Line.{Line}
use Rattle.script_forms.specs.declared.parts.Form.{Form}
use Rattle.script_forms.specs.declared.parts.Kind.{Kind}
use Rattle.script_forms.specs.declared.parts.Kind.TheVariants.{Read, Write, Tick, Warm, Cold}
use Rattle.script_forms.specs.Lines.{lines_of}
use Rattle.script_forms.specs.Grammar.{Asked, read, write, tick, warm, cold, worth}

-- the lines that a reader has yet to give
abbrev pub left : Reader → List (List ℕ)
left r = lines_of r.rest.now

-- a call of a reader gave the next line with its number, or nothing where none is left, and the reader stays there; the number
-- is below 2^63, so that a caller may count on from it
abbrev pub GivesLine : Reader → Option Line → Reader → Type 0
GivesLine r given s = MatchOption given
    ((left r ≡ []) × (left s ≡ []) × (s.lines ≡ r.lines))
    (λ l. (left r ≡ l.bytes.now ∷ left s) × (l.number ≡ r.lines + 1) × (s.lines ≡ r.lines + 1) × (l.number < 2 ^ 63))

-- what a form of a kind asks, by the worth of its numbers
abbrev pub asked : Kind → Asked
asked (Read a) = read (worth a.bytes.now)
asked (Write a w) = write (worth a.bytes.now) (worth w.bytes.now)
asked (Tick n) = tick (worth n.bytes.now)
asked Warm = warm
asked Cold = cold

-- what was read of a line, in the terms of the grammar
abbrev pub meant : Result Form Place → Result Asked ℕ
meant (Ok f) = Ok (asked f.kind)
meant (Err p) = Err p.column

-- the place of a line's byte i
abbrev pub place_in : Line → ℕ → Place
place_in l i = record { line = l.number; column = i + 1 }

-- p is the four bytes from i of the line l
pub record Four (l : Line) (i : ℕ) (p : Part) : Type 0 where
  pub bytes : p.bytes.now ≡ take 4 (drop i l.bytes.now)
  pub place : p.place ≡ place_in l i

-- p is the line l from its first byte to its last
pub record Whole (l : Line) (p : Part) : Type 0 where
  pub bytes : p.bytes.now ≡ l.bytes.now
  pub place : p.place ≡ place_in l 0

-- the numbers of a form stand where its text has them
abbrev pub NumbersIn : Line → Kind → Type 0
NumbersIn l (Read a) = Four l 7 a
NumbersIn l (Write a w) = Four l 8 a × Four l 13 w
NumbersIn l (Tick n) = Four l 7 n
NumbersIn l Warm = Unit {0}
NumbersIn l Cold = Unit {0}

-- a form is its line, with its numbers in it; the place at which none can go on is in the line too
abbrev pub InPlace : Line → Result Form Place → Type 0
InPlace l (Ok f) = Whole l f.part × NumbersIn l f.kind
InPlace l (Err p) = p.line ≡ l.number
