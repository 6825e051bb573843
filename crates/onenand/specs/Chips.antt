-- Where a chip stands.
use Rattle.flash.specs.declared.Array.{Ghosts}
use Rattle.onenand_rules.specs.State.{State, state_for}
use Rattle.onenand.specs.declared.chip.Chip.{Chip}

-- the state that the rules speak of: what the chip holds, beside what its array means
abbrev pub state_of : {D : Type 0} {flash : Ghosts D} → Chip D flash → State
state_of {flash = flash} chip = state_for chip.core (flash.meaning chip.array)
