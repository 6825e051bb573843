-- One call, and a list of calls.
use Rattle.std.specs.Prelude.{List, [], ◌∷◌}
use Rattle.onenand_registers.specs.Addresses.{place_of}
use Rattle.onenand_rules.specs.declared.calls.Call.{Call}
use Rattle.onenand_rules.specs.declared.calls.Call.TheVariants.{Read, Write, Tick, Warm, Cold}
use Rattle.onenand_rules.specs.State.{State}
use Rattle.onenand_rules.specs.Calls.{Reply, done}
use Rattle.onenand_rules.specs.Reads.{shown}
use Rattle.onenand_rules.specs.Writes.{stored}
use Rattle.onenand_rules.specs.Ticks.{ticked}
use Rattle.onenand_rules.specs.Resets.{warmed, cooled}

-- the state after a call, and its reply
abbrev pub step : State → Call → State × Reply
step s (Read a) = (s, shown s.core (place_of a))
step s (Write a w) = stored s w (place_of a)
step s Tick = ticked s s.core.running
step s Warm = (warmed s, done)
step s Cold = (cooled s, done)

-- the state after a list of calls
abbrev pub after : State → List Call → State
after s [] = s
after s (c ∷ cs) = after (step s c).0 cs

-- all replies to a list of calls
abbrev pub replies : State → List Call → List Reply
replies s [] = []
replies s (c ∷ cs) = (step s c).1 ∷ replies (step s c).0 cs
