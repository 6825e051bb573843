-- Where the words of an image stand.
use Rattle.std.specs.Prelude.{ℕ, ◌+◌, ◌*◌}
use Rattle.flash.specs.Geometry.{page_words, block_words}

-- the place of a word in its block: page after page
abbrev pub in_block : ℕ → ℕ → ℕ
in_block p w = p * page_words + w

-- its place in the image: block after block
abbrev pub place : ℕ → ℕ → ℕ → ℕ
place b p w = b * block_words + in_block p w
