-- The text of each line of a transcript.
use Rattle.std.specs.Prelude.{ℕ, List, [], ◌∷◌, ◌++◌, codes, decimal}
use Rattle.script_forms.specs.Grammar.{write, tick, warm, cold, hex4, spelt}
use Rattle.script_entries.specs.declared.entries.Entry.{Entry}
use Rattle.script_entries.specs.declared.entries.Entry.TheVariants.{Word, Written, Ticked, Warm, Cold, Refused}
use Rattle.script_entries.specs.Codes.{layer_text}

-- accepted writes, ticks and resets are forms again; a read shows its address and its word,
-- a refusal its layer, number, line and column
abbrev pub text : Entry → List ℕ
text (Word a w) = codes "(read (" ++ (hex4 a ++ (codes " " ++ (hex4 w ++ codes "))")))
text (Written a w) = spelt (write a w)
text (Ticked n) = spelt (tick n)
text Warm = spelt warm
text Cold = spelt cold
text (Refused c p) = codes "(refused (" ++ (layer_text c.layer ++ (codes " " ++ (decimal c.number ++ (codes " " ++ (decimal p.line ++ (codes " " ++ (decimal p.column ++ codes "))")))))))

-- an entry with its line feed
abbrev pub line_of : Entry → List ℕ
line_of e = text e ++ (10 ∷ [])
