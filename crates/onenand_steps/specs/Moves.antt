-- What moving one word does, by where it stands: word w of page p of block b, and word x of DataRAM.
use Rattle.std.specs.Prelude.{ℕ, Bool, true, List, slice_index, slice_set}
use Rattle.flash.specs.declared.Location.{Location}
use Rattle.flash.specs.Meaning.{Meaning, word_at, programmable, after_program}
use Rattle.onenand_transfer.specs.declared.Transfer.{Transfer}
use Rattle.onenand_transfer.specs.Transfers.{page_of, page_word}
use Rattle.onenand_rows.specs.declared.Way.{Way}
use Rattle.onenand_rows.specs.declared.Way.TheVariants.{Load, Program}

-- where word i of a transfer stands in the array
abbrev pub location_of : Transfer → ℕ → Location
location_of t i = record { block = t.block; page = page_of t.page; word = page_word t.part t.page i }

-- it goes well
abbrev pub moved_well : Meaning → ℕ → ℕ → ℕ → Way → Bool
moved_well m b p w Load = true
moved_well m b p w Program = programmable m b p w

-- DataRAM afterwards
abbrev pub moved_data : List ℕ → Meaning → ℕ → ℕ → ℕ → ℕ → Way → List ℕ
moved_data d m b p w x Load = slice_set d x (word_at m b p w)
moved_data d m b p w x Program = d

-- the array afterwards
abbrev pub moved_array : List ℕ → Meaning → ℕ → ℕ → ℕ → ℕ → Way → Meaning
moved_array d m b p w x Load = m
moved_array d m b p w x Program = after_program m b p w (slice_index d x)
