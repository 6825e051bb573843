use Rattle.std.proofs.Common.{◌≡◌, ℕ, List, [], ◌∷◌, replicate, IfOk, string_bytes, ap, ◌∙◌, subst}
use Rattle.image.specs.Contents.{image_meaning}
use Rattle.onenand_rules.specs.Resets.{powered_up}
use Rattle.onenand.specs.Chips.{state_of}
use Rattle.script.specs.Transcript.{transcript}
use Rattle.cases.specs.Chips.{marked, blanks, fresh}
use Rattle.cases.proofs.chips.played.Goals as goal

-- the worn list
worn : List ℕ
worn = 0 ∷ 0 ∷ 0 ∷ 0 ∷ 0 ∷ 0 ∷ 0 ∷ 1 ∷ []

-- and over the words and the worn list of a case it is the chip that a case begins with
freshly : (ws wn : List ℕ) → ws ≡ marked blanks → wn ≡ worn → powered_up 0x0004 0x0001 (image_meaning ws wn) ≡ fresh
unfolding fresh worn
freshly ws wn e f = ap (λ x. powered_up 0x0004 0x0001 (image_meaning x wn)) e ∙ ap (λ x. powered_up 0x0004 0x0001 (image_meaning (marked blanks) x)) f

blank_words : (ws : List ℕ) → ws ≡ replicate 270336 65535 → ws ≡ blanks
unfolding blanks
blank_words ws e = e

pub returns : goal.returns
unfolding worn
returns c =
    let chip = c.power_up-chip in
    let words = c.new.ensures.words ∙ c.mark.ensures ∙ ap marked (c.as_mut_slice-words.ensures.value ∙ blank_words _ (c.in_ok-words.ensures.items_if_clones_equal (λ y e. e))) in
    let state = chip.ensures.state ∙ freshly _ _ words c.new.ensures.worn in
    let read = subst (λ xs. IfOk c.play_script.result (λ out. string_bytes out ≡ transcript xs (state_of chip.result))) c.as_bytes.ensures.value c.play_script.ensures.text in
    subst (λ s. IfOk c.play_script.result (λ out. string_bytes out ≡ transcript c.args.script.now s)) state read
