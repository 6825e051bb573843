-- The layer and the number of each fault.
use Rattle.std.specs.Prelude.{ℕ, List, codes}
use Rattle.onenand_rules.specs.Calls.{number_of}
use Rattle.script_entries.specs.declared.faults.Fault.{Fault}
use Rattle.script_entries.specs.declared.faults.Fault.TheVariants.{Chip as by_chip, NoForm, TooLong}
use Rattle.script_entries.specs.declared.faults.Layer.{Layer}
use Rattle.script_entries.specs.declared.faults.Layer.TheVariants.{Chip, Script}
use Rattle.script_entries.specs.declared.faults.Code.{Code}

-- a refusal of the chip, by its number
abbrev pub chip_code : ℕ → Code
chip_code n = record { layer = Chip; number = n }

-- the layer and the number of each fault
abbrev pub code_of : Fault → Code
code_of (by_chip e) = chip_code (number_of e)
code_of NoForm = record { layer = Script; number = 12 }
code_of TooLong = record { layer = Script; number = 13 }

-- how a layer is written
abbrev pub layer_text : Layer → List ℕ
layer_text Chip = codes "chip"
layer_text Script = codes "script"
