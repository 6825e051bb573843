-- What reads, programs and erases of the caller's words do to the image's meaning.
use Rattle.std.proofs.Common.{◌≡◌, ℕ, ◌+◌, ◌*◌, ◌/◌, ◌%◌, ◌^◌, ◌<◌, ◌≤◌, true, cond, ◌&&◌, eqb, leb, List, length, get_or, set, Some, refl, ap, arith}
use lib.Bits.{bit_and}
use Rattle.std.proofs.lemmas.List.{length-set, get_or-set_same, get_or-set_other, get_or_default}
use Rattle.std.proofs.lemmas.Bool.Decides.{nat_tests}
use Rattle.flash.specs.Geometry.{max_blocks, block_words, blank_word}
use Rattle.flash.specs.Meaning.{in_range, programmable, programmed, after_program, erasable, erased, after_erase}
use Rattle.flash.specs.Runs.{filled}
use Rattle.flash.proofs.Bits.{and_16}
use Rattle.flash.proofs.Meanings.{same_meaning}
use Rattle.flash.proofs.Runs.{length-filled, get_or-filled}
use Rattle.image.specs.Layout.{place}
use Rattle.image.specs.Contents.{blocks, image_meaning, place_of, words_erased}
use Rattle.image.specs.Bounds.{whole}

-- the count goes by how many words there are
blocks_same : (xs ws wn : List ℕ) → length xs ≡ length ws → blocks xs wn ≡ blocks ws wn
blocks_same xs ws wn e =
    ap (λ n. cond ((eqb (n % block_words) 0 && leb n (max_blocks * block_words)) && eqb (length wn) (n / block_words)) (length wn) 0) e

-- a block that counts lies whole within the caller's words
pub block_in : (ws wn : List ℕ) (b : ℕ) → b < blocks ws wn → b * block_words + block_words ≤ length ws
block_in ws wn b h = grind (arith, nat_tests, whole)

pub place_in : (ws wn : List ℕ) (b p w : ℕ) → in_range (image_meaning ws wn) b p w ≡ true → place b p w < length ws
place_in ws wn b p w t = grind (arith, nat_tests, block_in)

module _ (ws wn : List ℕ) (b p w v : ℕ) (h : v < 2 ^ 16) (t : programmable (image_meaning ws wn) b p w ≡ true) where
  abbrev at : ℕ
  at = place b p w

  abbrev x : ℕ
  x = bit_and (get_or ws at 0) v

  each : (b' p' w' : ℕ) → (image_meaning (set ws at x) wn).word b' p' w' ≡ (programmed (image_meaning ws wn) b p w v).word b' p' w'
  each b' p' w' =
      let kept = and_16 (get_or ws at 0) v h in
      grind (arith, nat_tests, get_or-set_same, get_or-set_other, get_or_default)

  program_done : image_meaning (set ws at x) wn ≡ programmed (image_meaning ws wn) b p w v
  program_done = same_meaning _ _ (blocks_same (set ws at x) ws wn (length-set ws at x)) each (λ b' p'. refl) (λ b'. refl)

pub programmed_is : (ws wn : List ℕ) (b p w v k : ℕ) → place_of ws wn b p w ≡ Some k → erasable (image_meaning ws wn) b ≡ true → v < 2 ^ 16
    → image_meaning (set ws k (bit_and (get_or ws k 0) v)) wn ≡ after_program (image_meaning ws wn) b p w v
programmed_is ws wn b p w v k e s h = grind (arith, nat_tests, program_done)

module _ (ws wn : List ℕ) (b : ℕ) (t : erasable (image_meaning ws wn) b ≡ true) where
  abbrev blank : List ℕ
  blank = filled blank_word (b * block_words) block_words ws

  inside : b * block_words + block_words ≤ length ws
  inside = grind (arith, nat_tests, block_in)

  each_word : (b' p' w' : ℕ) → (image_meaning blank wn).word b' p' w' ≡ (erased (image_meaning ws wn) b).word b' p' w'
  each_word b' p' w' = grind (arith, nat_tests, get_or-filled, inside)

  erase_done : image_meaning blank wn ≡ erased (image_meaning ws wn) b
  erase_done = same_meaning _ _ (blocks_same blank ws wn (length-filled blank_word (b * block_words) block_words ws inside)) each_word (λ b' p'. refl) (λ b'. refl)

pub erased_is : (ws wn xs : List ℕ) (b : ℕ) → xs ≡ words_erased ws wn b → image_meaning xs wn ≡ after_erase (image_meaning ws wn) b
erased_is ws wn xs b e = grind (arith, nat_tests, erase_done)
