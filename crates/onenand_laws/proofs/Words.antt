-- The places of a transfer's words: they are all different, in the page and in DataRAM, and those in DataRAM are taken.
use Rattle.std.proofs.Common.{◌≡◌, ℕ, ◌+◌, ◌/◌, ◌%◌, ◌<◌, ◌≤◌, true, ltb, ap, ◌∙◌, ⊎_elim, arith}
use Rattle.std.proofs.lemmas.Bool.{cond_both, ltb-true, ltb-false, eq-eqb, or_left, or_right, and_from, cases_lt}
use Rattle.std.proofs.lemmas.Bool.Decides.{nat_tests}
use Rattle.onenand_registers.specs.Bits.{bit}
use Rattle.onenand_registers.specs.Addresses.{place_of, address_of}
use Rattle.onenand_registers.specs.declared.address.Place.TheVariants.{Data}
use Rattle.onenand_transfer.specs.declared.Part.{Part}
use Rattle.onenand_transfer.specs.Transfers.{size, counted, sector_word, page_sector, buffer_sector, page_word, buffer_word, sector_of, chosen}

-- two words of n sectors that stand at one place are one word of one sector
module _ (n s s' o o' : ℕ) (l : s < n) (l' : s' < n) (h : o < 264) (h' : o' < 264) where
  sector_same : sector_word n s o ≡ sector_word n s' o' → s ≡ s'
  sector_same e = grind (arith, nat_tests)

  offset_same : sector_word n s o ≡ sector_word n s' o' → o ≡ o'
  offset_same e = let q : s ≡ s' = sector_same e in grind (arith, nat_tests)

-- at most two sectors move
counted_below : (part : Part) (f i : ℕ) → i < size part f → counted part i < 528
unfolding size
counted_below part f i h = grind arith

counted_same : (part : Part) (i k : ℕ) → counted part i ≡ counted part k → i ≡ k
counted_same part i k h = grind arith

-- the second sector is not the first
turned : (x j k : ℕ) → j < 528 → k < 528 → (x + j / 264) % 2 ≡ (x + k / 264) % 2 → j / 264 ≡ k / 264
turned x j k h h' e = omega arith

pub page_word_same : (part : Part) (f g i k : ℕ) → i < size part f → k < size part f → page_word part g i ≡ page_word part g k → i ≡ k
unfolding page_word
page_word_same part f g i k h h' e =
    let j = counted part i in let j' = counted part k in
    let b : j < 528 = counted_below part f i h in let b' : j' < 528 = counted_below part f k h' in
    let s = page_sector g (j / 264) in let s' = page_sector g (j' / 264) in
    let p : s ≡ s' = sector_same 2 s s' (j % 264) (j' % 264) (omega arith) (omega arith) (omega arith) (omega arith) e in
    let q : j % 264 ≡ j' % 264 = offset_same 2 s s' (j % 264) (j' % 264) (omega arith) (omega arith) (omega arith) (omega arith) e in
    let t = turned (bit 0 g) j j' b b' p in
    counted_same part i k (omega arith)

pub buffer_word_same : (part : Part) (f i k : ℕ) → i < size part f → k < size part f → buffer_word part f i ≡ buffer_word part f k → i ≡ k
unfolding buffer_word
buffer_word_same part f i k h h' e =
    let j = counted part i in let j' = counted part k in
    let b : j < 528 = counted_below part f i h in let b' : j' < 528 = counted_below part f k h' in
    let s = buffer_sector f (j / 264) in let s' = buffer_sector f (j' / 264) in
    let p : s ≡ s' = sector_same 4 s s' (j % 264) (j' % 264) (omega arith) (omega arith) (omega arith) (omega arith) e in
    let q : j % 264 ≡ j' % 264 = offset_same 4 s s' (j % 264) (j' % 264) (omega arith) (omega arith) (omega arith) (omega arith) e in
    let t = turned (bit 8 f) j j' b b' (omega arith) in
    counted_same part i k (omega arith)

pub buffer_word_below : (part : Part) (f i : ℕ) → buffer_word part f i < 1056
unfolding buffer_word
buffer_word_below part f i =
    let j = counted part i in let s = buffer_sector f (j / 264) in
    let k : s < 4 = omega arith in let o : j % 264 < 264 = omega arith in
    cond_both (ltb (j % 264) 256) _ _ (λ x. x < 1056) (λ e. let q = ltb-true (j % 264) 256 e in omega arith) (λ e. let q = ltb-false (j % 264) 256 e in omega arith)

sector_found : (s o : ℕ) → s < 4 → o < 264 → sector_of (sector_word 4 s o) ≡ s
sector_found s o h l = grind (arith, nat_tests)

-- a word of a second sector moves only where two sectors do
second : (part : Part) (f i : ℕ) → i < size part f → 264 ≤ counted part i → bit 0 f ≡ 0
unfolding size
second part f i h e = grind arith

-- a transfer has a word, and at most 528
pub size_some : (part : Part) (f : ℕ) → (0 < size part f) × (size part f ≤ 528)
unfolding size
size_some part f = grind arith

pub buffer_word_chosen : (part : Part) (f i : ℕ) → i < size part f → chosen f (buffer_word part f i) ≡ true
unfolding buffer_word chosen
buffer_word_chosen part f i h =
    let j = counted part i in
    let b : j < 528 = counted_below part f i h in
    let s = buffer_sector f (j / 264) in
    let e : sector_of (buffer_word part f i) ≡ s = sector_found s (j % 264) (omega arith) (omega arith) in
    ⊎_elim
    (λ (l : j < 264). or_left _ _ (eq-eqb _ _ (e ∙ ap (buffer_sector f) (omega arith))))
    (λ (l : 264 ≤ j). or_right _ _ (and_from _ _ (eq-eqb (bit 0 f) 0 (second part f i h l)) (eq-eqb _ _ (e ∙ ap (buffer_sector f) (omega arith)))))
    (cases_lt j 264)

-- the address of a DataRAM word leads to it
pub place_of_address : (x : ℕ) → x < 1056 → place_of (address_of x) ≡ Data x
place_of_address x h = grind (arith, nat_tests)
