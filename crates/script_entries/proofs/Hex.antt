-- A word as four hexadecimal digits, in the words of the library's text.
use Rattle.std.proofs.Common.{◌≡◌, ℕ, ◌/◌, ◌%◌, ◌^◌, ◌-◌, ◌<◌, ◌≤◌, true, false, eqb, [], ◌∷◌, ⊎_elim, arith, eq-eqb, ne_eqb}
use Rattle.std.specs.Fmt.{digits, digit_glyph, char_count, padded_integral, format_spec}
use Rattle.std.proofs.lemmas.Fmt.{hex_one_digit, hex_two_digits}
use Rattle.std.proofs.lemmas.Bool.{cases_lt}
use Rattle.script_forms.specs.Grammar.{hex4}

-- a number of three digits, and one of four
three_digits : (n : ℕ) → 256 ≤ n → n < 4096 → digits 16 true n ≡ digit_glyph true (n / 256) ∷ digit_glyph true (n / 16 % 16) ∷ digit_glyph true (n % 16) ∷ []
unfolding digits
three_digits n large small =
    let one : eqb (n / 16) 0 ≡ false = ne_eqb _ _ (omega arith) in
    let two : eqb (n / 16 / 16) 0 ≡ false = ne_eqb _ _ (omega arith) in
    let three : eqb (n / 16 / 16 / 16) 0 ≡ true = eq-eqb _ _ (omega arith) in
    let first : n / 16 / 16 % 16 ≡ n / 256 = omega arith in
    rw (one, two, three, first)

four_digits : (n : ℕ) → 4096 ≤ n → n < 65536 → digits 16 true n ≡ digit_glyph true (n / 4096) ∷ digit_glyph true (n / 256 % 16) ∷ digit_glyph true (n / 16 % 16) ∷ digit_glyph true (n % 16) ∷ []
unfolding digits
four_digits n large small =
    let one : eqb (n / 16) 0 ≡ false = ne_eqb _ _ (omega arith) in
    let two : eqb (n / 16 / 16) 0 ≡ false = ne_eqb _ _ (omega arith) in
    let three : eqb (n / 16 / 16 / 16) 0 ≡ false = ne_eqb _ _ (omega arith) in
    let four : eqb (n / 16 / 16 / 16 / 16) 0 ≡ true = eq-eqb _ _ (omega arith) in
    let first : n / 16 / 16 / 16 % 16 ≡ n / 4096 = omega arith in
    let second : n / 16 / 16 % 16 ≡ n / 256 % 16 = omega arith in
    rw (one, two, three, four, first, second)

-- what `{:04X}` writes of a word
pub hex_word : (n : ℕ) → n < 65536 → padded_integral (format_spec 32 0 4 4 (2 ^ 64 - 1)) false [] (digits 16 true n) ≡ hex4 n
unfolding padded_integral char_count
hex_word n small = ⊎_elim
    (λ (low : n < 256). let a : n / 4096 ≡ 0 = omega arith in let b : n / 256 % 16 ≡ 0 = omega arith in ⊎_elim
    (λ one. let c : n / 16 % 16 ≡ 0 = omega arith in let d : n % 16 ≡ n = omega arith in rw (hex_one_digit true n one, a, b, c, d))
    (λ two. let c : n / 16 % 16 ≡ n / 16 = omega arith in rw (hex_two_digits true n two low, a, b, c))
    (cases_lt n 16))
    (λ (high : 256 ≤ n). ⊎_elim
    (λ three. let a : n / 4096 ≡ 0 = omega arith in let b : n / 256 % 16 ≡ n / 256 = omega arith in rw (three_digits n high three, a, b))
    (λ four. rw (four_digits n four small))
    (cases_lt n 4096))
    (cases_lt n 256)
