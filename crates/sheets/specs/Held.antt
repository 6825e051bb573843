-- What a sheet array means, by what it holds, and what it keeps over a call.
use Rattle.std.specs.Prelude.{◌≡◌}
use Rattle.flash.specs.Meaning.{Meaning}
use Rattle.sheets.specs.declared.Sheets.{Sheets}
use Rattle.sheets.specs.Contents.{sheet_meaning}

abbrev pub meant : Sheets → Meaning
meant s = sheet_meaning s.count s.sheets.now s.words.now

-- the count of blocks, and whose sheets and words it was lent
pub record Kept (old new : Sheets) : Type 0 where
  pub size : new.count ≡ old.count
  pub lender : new.sheets.ghost_name ≡ old.sheets.ghost_name
  pub owner : new.words.ghost_name ≡ old.words.ghost_name
