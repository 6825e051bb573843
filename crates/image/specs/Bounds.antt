-- Proofs that the trait's ghost members name; nothing to believe. What every array owes of itself: an image has at most 256 blocks, and its words have 16 bits.
use Rattle.std.specs.Prelude.{◌≡◌, ℕ, ◌*◌, ◌/◌, ◌%◌, ◌^◌, ◌<◌, ◌≤◌, true, ◌&&◌, List, length, ◌==◌, nat_le, nat_lt, slice_index_or}
use Rattle.std.proofs.Common.{arith}
use Rattle.std.proofs.lemmas.Nat.{mod_below}
use Rattle.std.proofs.lemmas.Bool.{cond_both, and_parts, leb-true, eqb-true}
use Rattle.flash.specs.Geometry.{max_blocks, block_pages, page_words, block_words, blank_word, bits16}
use Rattle.image.specs.Layout.{place}
use Rattle.image.specs.Checks.{whole_blocks, byte_each}
use Rattle.image.specs.Contents.{image_meaning}

-- lists that the check passes
pub record Whole (ws wn : List ℕ) : Type 0 where
  pub few : length wn ≤ max_blocks
  pub long : length ws ≡ length wn * block_words

pub whole : (ws wn : List ℕ) → (whole_blocks ws && byte_each ws wn) ≡ true → Whole ws wn
whole ws wn h =
    let t = and_parts (whole_blocks ws) (byte_each ws wn) h in
    let u = and_parts (length ws % block_words == 0) (nat_le (length ws) (max_blocks * block_words)) t.0 in
    let even = eqb-true (length ws % block_words) 0 u.0 in
    let most = leb-true (length ws) (max_blocks * block_words) u.1 in
    let each = eqb-true (length wn) (length ws / block_words) t.1 in
    record { few = omega arith; long = omega arith }

pub capped : (ws wn : List ℕ) → (image_meaning ws wn).count ≤ max_blocks
capped ws wn = cond_both (whole_blocks ws && byte_each ws wn) (length wn) 0 (λ n. n ≤ max_blocks) (λ t. (whole ws wn t).few) (λ t. omega arith)

pub narrow : (ws wn : List ℕ) (b p w : ℕ) → (image_meaning ws wn).word b p w < 2 ^ 16
narrow ws wn b p w =
    cond_both (nat_lt p block_pages && nat_lt w page_words) (bits16 (slice_index_or ws (place b p w) blank_word)) blank_word (λ x. x < 2 ^ 16)
    (λ t. mod_below (slice_index_or ws (place b p w) blank_word) (2 ^ 16) (omega arith))
    (λ t. omega arith)
