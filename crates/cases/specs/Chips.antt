-- The chip that a case begins with.
use Rattle.std.specs.Prelude.{ℕ, List, [], ◌∷◌, replicate, slice_set}
use Rattle.flash.specs.Geometry.{blank_word}
use Rattle.image.specs.Contents.{image_meaning}
use Rattle.onenand_rules.specs.State.{State}
use Rattle.onenand_rules.specs.Resets.{powered_up}

-- the words with the first and last main and spare words of page 0 of block 0 put, and the first word of block 7
unfoldable pub marked : List ℕ → List ℕ
marked ws = slice_set (slice_set (slice_set (slice_set (slice_set ws 0 0xB000) 511 0xB1FF) 512 0xB200) 527 0xB20F) 236544 0x7000

-- eight blocks of blank words
unfoldable pub blanks : List ℕ
blanks = replicate 270336 blank_word

-- the device word 0004h and version word 0001h; block 7 is worn
unfoldable pub fresh : State
fresh = powered_up 0x0004 0x0001 (image_meaning (marked blanks) (0 ∷ 0 ∷ 0 ∷ 0 ∷ 0 ∷ 0 ∷ 0 ∷ 1 ∷ []))
