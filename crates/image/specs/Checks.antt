-- What the check of an image answers.
use Rattle.std.specs.Prelude.{ℕ, ◌*◌, ◌/◌, ◌%◌, Bool, cond, ◌&&◌, List, length, Some, None, Option, ◌==◌, nat_le}
use Rattle.flash.specs.Geometry.{max_blocks, block_words}
use Rattle.image.specs.declared.ImageFault.{ImageFault}
use Rattle.image.specs.declared.ImageFault.TheVariants.{Words, Worn}

-- the number of each fault
abbrev pub number_of : ImageFault → ℕ
number_of Words = 1
number_of Worn = 2

-- the words are whole blocks, and no more than an array may have
abbrev pub whole_blocks : List ℕ → Bool
whole_blocks ws = length ws % block_words == 0 && nat_le (length ws) (max_blocks * block_words)

-- the worn list has one byte a block
abbrev pub byte_each : List ℕ → List ℕ → Bool
byte_each ws wn = length wn == length ws / block_words

-- the number of the first fault
abbrev pub image_check : List ℕ → List ℕ → Option ℕ
image_check ws wn = cond (whole_blocks ws) (cond (byte_each ws wn) None (Some 2)) (Some 1)
