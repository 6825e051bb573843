-- What an image means, by what it holds, and what it keeps over a call.
use Rattle.std.specs.Prelude.{◌≡◌}
use Rattle.flash.specs.Meaning.{Meaning}
use Rattle.image.specs.declared.Image.{Image}
use Rattle.image.specs.Contents.{image_meaning}

-- by the words and the worn list that it was lent
abbrev pub meant : Image → Meaning
meant s = image_meaning s.words.now s.worn.now

-- the worn list, and whose words it was lent
pub record Kept (old new : Image) : Type 0 where
  pub worn : new.worn.now ≡ old.worn.now
  pub lender : new.words.ghost_name ≡ old.words.ghost_name
