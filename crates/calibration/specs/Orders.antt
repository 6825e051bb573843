-- What an upgrade is made of.
use Rattle.std.specs.Prelude.{ℕ, List, [], ◌∷◌, ◌++◌, replicate}
use Rattle.onenand_rules.specs.declared.calls.Call.{Call}
use Rattle.onenand_rules.specs.declared.calls.Call.TheVariants.{Read, Write, Tick}

-- a command: INT cleared, its word written, n ticks, and the status read
abbrev pub order : ℕ → ℕ → List Call
order c n = Write 0xF241 0x0000 ∷ Write 0xF220 c ∷ (replicate n Tick ++ (Read 0xF240 ∷ []))
