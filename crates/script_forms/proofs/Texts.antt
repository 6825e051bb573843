-- A form and its text.
use Rattle.std.proofs.Common.{◌≡◌, ℕ, suc, ◌+◌, ◌*◌, ◌/◌, ◌%◌, ◌<◌, Bool, true, false, cond, eqb, List, [], ◌∷◌, ◌++◌, length, get_or, take, drop, Ok, Err, Result, codes, sym, refl, ap, ◌∙◌, subst, arith, eqb-true}
use Rattle.std.proofs.lemmas.Bool.{and_parts, cond_both}
use Rattle.std.proofs.lemmas.Bool.Decides.{nat_tests}
use Rattle.script_forms.specs.Shapes.{read_shape, write_shape, tick_shape, warm_shape, cold_shape, is_digit, fits, agreed, has_shape}
use Rattle.script_forms.specs.Grammar.{Asked, read, write, tick, warm, cold, digit_of, worth, number_at, form_of, digit_for, hex4, spelt}
use Rattle.script_forms.specs.Laws.{Words, FormIsItsText}
use Rattle.script_forms.proofs.Choosing.{form_by}

-- digits and what they are worth
digit_is : (d : ℕ) → d < 16 → is_digit (digit_for d) ≡ true
digit_is d h = grind (arith, nat_tests)

digit_back : (d : ℕ) → d < 16 → digit_of (digit_for d) ≡ d
digit_back d h = grind (arith, nat_tests)

digit_forth : (b : ℕ) → is_digit b ≡ true → digit_for (digit_of b) ≡ b
digit_forth b h = grind (arith, nat_tests)

digit_small : (b : ℕ) → digit_of b < 16
digit_small b = grind (arith, nat_tests)

-- the digits of a word that four digits make, and the word again
places : (x y z w : ℕ) → x < 16 → y < 16 → z < 16 → w < 16 → let n = x * 4096 + y * 256 + z * 16 + w in
    (n / 4096 ≡ x) × (n / 256 % 16 ≡ y) × (n / 16 % 16 ≡ z) × (n % 16 ≡ w)
places x y z w p q r s = (omega arith, omega arith, omega arith, omega arith)

worth_small : (bs : List ℕ) → worth bs < 65536
worth_small bs = omega (arith, digit_small (get_or bs 0 0), digit_small (get_or bs 1 0), digit_small (get_or bs 2 0), digit_small (get_or bs 3 0))

-- words and their four digits
worth_hex4 : (n : ℕ) → n < 65536 → worth (hex4 n) ≡ n
worth_hex4 n h =
    let a = digit_back (n / 4096) (omega arith) in
    let b = digit_back (n / 256 % 16) (omega arith) in
    let c = digit_back (n / 16 % 16) (omega arith) in
    let d = digit_back (n % 16) (omega arith) in
    omega arith

hex4_worth : (a b c d : ℕ) → is_digit a ≡ true → is_digit b ≡ true → is_digit c ≡ true → is_digit d ≡ true → hex4 (worth (a ∷ b ∷ c ∷ d ∷ [])) ≡ a ∷ b ∷ c ∷ d ∷ []
hex4_worth a b c d ea eb ec ed =
    let n = places (digit_of a) (digit_of b) (digit_of c) (digit_of d) (digit_small a) (digit_small b) (digit_small c) (digit_small d) in
    λ i. (ap digit_for n.0 ∙ digit_forth a ea) i ∷ (ap digit_for n.1 ∙ digit_forth b eb) i ∷ (ap digit_for n.2 ∙ digit_forth c ec) i ∷ (ap digit_for n.3 ∙ digit_forth d ed) i ∷ []

-- from a form to its text: a text with digits in their places is of its shape
is_read : (x y z w : ℕ) → is_digit x ≡ true → is_digit y ≡ true → is_digit z ≡ true → is_digit w ≡ true → has_shape read_shape (codes "(read (" ++ (x ∷ y ∷ z ∷ w ∷ codes "))")) ≡ true
is_read x y z w p q r s = rw (p, q, r, s)

is_tick : (x y z w : ℕ) → is_digit x ≡ true → is_digit y ≡ true → is_digit z ≡ true → is_digit w ≡ true → has_shape tick_shape (codes "(tick (" ++ (x ∷ y ∷ z ∷ w ∷ codes "))")) ≡ true
is_tick x y z w p q r s = rw (p, q, r, s)

is_write : (x y z w x' y' z' w' : ℕ) → is_digit x ≡ true → is_digit y ≡ true → is_digit z ≡ true → is_digit w ≡ true → is_digit x' ≡ true → is_digit y' ≡ true → is_digit z' ≡ true → is_digit w' ≡ true → has_shape write_shape (codes "(write (" ++ (x ∷ y ∷ z ∷ w ∷ 32 ∷ x' ∷ y' ∷ z' ∷ w' ∷ codes "))")) ≡ true
is_write x y z w x' y' z' w' p q r s p' q' r' s' = rw (p, q, r, s, p', q', r', s')

-- the digits of a word are digits
are_digits : (n : ℕ) → n < 65536 → (is_digit (digit_for (n / 4096)) ≡ true) × (is_digit (digit_for (n / 256 % 16)) ≡ true) × (is_digit (digit_for (n / 16 % 16)) ≡ true) × (is_digit (digit_for (n % 16)) ≡ true)
are_digits n h = (digit_is (n / 4096) (omega arith), digit_is (n / 256 % 16) (omega arith), digit_is (n / 16 % 16) (omega arith), digit_is (n % 16) (omega arith))

spelt_reads : (f : Asked) → Words f → form_of (spelt f) ≡ Ok f
spelt_reads (read a) h = let d = are_digits a h in rw (is_read _ _ _ _ d.0 d.1 d.2 d.3) (ap (λ n. Ok (read n)) (worth_hex4 a h))
spelt_reads (write a w) h =
    let d = are_digits a h.0 in
    let e = are_digits w h.1 in
    rw (is_write _ _ _ _ _ _ _ _ d.0 d.1 d.2 d.3 e.0 e.1 e.2 e.3) (λ i. Ok (write (worth_hex4 a h.0 i) (worth_hex4 w h.1 i)))
spelt_reads (tick n) h = let d = are_digits n h in rw (is_tick _ _ _ _ d.0 d.1 d.2 d.3) (ap (λ k. Ok (tick k)) (worth_hex4 n h))
spelt_reads warm h = refl
spelt_reads cold h = refl

-- a line matches a shape byte for byte
abbrev Matches : List ℕ → List ℕ → Type 0
Matches [] [] = Unit {0}
Matches [] (b ∷ bs) = ⊥
Matches (s ∷ ss) [] = ⊥
Matches (s ∷ ss) (b ∷ bs) = (fits s b ≡ true) × Matches ss bs

matches : (ss bs : List ℕ) → length bs ≡ length ss → agreed ss bs ≡ length ss → Matches ss bs
matches [] [] l e = tt
matches [] (b ∷ bs) l e = omega arith
matches (s ∷ ss) [] l e = omega arith
matches (s ∷ ss) (b ∷ bs) l e =
    cond_both (fits s b) _ _ (λ n. n ≡ suc (length ss) → Matches (s ∷ ss) (b ∷ bs)) (λ p h. (p, matches ss bs (omega arith) (omega arith))) (λ _ h. absurd (omega arith)) e

is_matches : (ss bs : List ℕ) → has_shape ss bs ≡ true → Matches ss bs
is_matches ss bs e = let p = and_parts _ _ e in matches ss bs (eqb-true _ _ p.0) (eqb-true _ _ p.1)

-- a shape without digits is its own text
abbrev plain : List ℕ → Bool
plain [] = true
plain (s ∷ ss) = cond (eqb s 35) false (plain ss)

plain_rest : (s : ℕ) (p : Bool) → cond (eqb s 35) false p ≡ true → (eqb s 35 ≡ false) × (p ≡ true)
plain_rest s p h = grind (arith, nat_tests)

same : (s b : ℕ) → eqb s 35 ≡ false → fits s b ≡ true → b ≡ s
same s b p h = grind (arith, nat_tests)

-- a line of a shape that ends with no digits in it is its text
ends : (t line : List ℕ) → plain t ≡ true → Matches t line → line ≡ t
ends [] [] p m = refl
ends [] (b ∷ bs) p m = absurd m
ends (s ∷ t) [] p m = absurd m
ends (s ∷ t) (b ∷ bs) p m =
    let q = plain_rest s (plain t) p in
    let e = same s b q.0 m.0 in
    let r = ends t bs q.1 m.1 in
    λ i. e i ∷ r i

-- of a line of a shape with four digits after some text, the text, and the number that the digits spell
number_in : (t ss line : List ℕ) → plain t ≡ true → Matches (t ++ (35 ∷ 35 ∷ 35 ∷ 35 ∷ ss)) line →
    (rest : List ℕ) × (line ≡ t ++ (hex4 (number_at line (length t)) ++ rest)) × Matches ss rest
number_in [] ss [] p m = absurd m
number_in [] ss (a ∷ []) p m = absurd m.1
number_in [] ss (a ∷ b ∷ []) p m = absurd m.1.1
number_in [] ss (a ∷ b ∷ c ∷ []) p m = absurd m.1.1.1
number_in [] ss (a ∷ b ∷ c ∷ d ∷ rest) p m = (rest, ap (λ n. n ++ rest) (sym (hex4_worth a b c d m.0 m.1.0 m.1.1.0 m.1.1.1.0)), m.1.1.1.1)
number_in (s ∷ t) ss [] p m = absurd m
number_in (s ∷ t) ss (b ∷ bs) p m =
    let q = plain_rest s (plain t) p in
    let e = same s b q.0 m.0 in
    let r = number_in t ss bs q.1 m.1 in
    (r.0, (λ i. e i ∷ r.1 i), r.2)

-- a line of each shape that has numbers is the text of the form that it asks
read_line : (line : List ℕ) → Matches read_shape line → line ≡ spelt (read (number_at line 7))
read_line line m =
    let n = number_in (codes "(read (") (codes "))") line refl m in
    n.1 ∙ ap (λ r. codes "(read (" ++ (hex4 (number_at line 7) ++ r)) (ends (codes "))") n.0 refl n.2)

tick_line : (line : List ℕ) → Matches tick_shape line → line ≡ spelt (tick (number_at line 7))
tick_line line m =
    let n = number_in (codes "(tick (") (codes "))") line refl m in
    n.1 ∙ ap (λ r. codes "(tick (" ++ (hex4 (number_at line 7) ++ r)) (ends (codes "))") n.0 refl n.2)

write_line : (line : List ℕ) → Matches write_shape line → line ≡ spelt (write (number_at line 8) (number_at line 13))
write_line line m =
    let n = number_in (codes "(write (") (32 ∷ 35 ∷ 35 ∷ 35 ∷ 35 ∷ codes "))") line refl m in
    let k = number_in (codes " ") (codes "))") n.0 refl n.2 in
    let second : number_at n.0 1 ≡ number_at line 13 = sym (ap (λ l. number_at l 13) n.1) in
    n.1 ∙ ap (λ r. codes "(write (" ++ (hex4 (number_at line 8) ++ r)) (k.1 ∙ (λ i. codes " " ++ (hex4 (second i) ++ ends (codes "))") k.0 refl k.2 i)))

-- from a line that is a form to its text
abbrev IsSpelt : List ℕ → Result Asked ℕ → Type 0
IsSpelt line (Ok f) = Words f × (line ≡ spelt f)
IsSpelt line (Err c) = Unit {0}

reads_spelt : (line : List ℕ) (f : Asked) → form_of line ≡ Ok f → Words f × (line ≡ spelt f)
reads_spelt line f e = subst (IsSpelt line) e (form_by (IsSpelt line) line
    (λ h. (worth_small (take 4 (drop 7 line)), read_line line (is_matches read_shape line h)))
    (λ h. ((worth_small (take 4 (drop 8 line)), worth_small (take 4 (drop 13 line))), write_line line (is_matches write_shape line h)))
    (λ h. (worth_small (take 4 (drop 7 line)), tick_line line (is_matches tick_shape line h)))
    (λ h. (tt, ends warm_shape line refl (is_matches warm_shape line h)))
    (λ h. (tt, ends cold_shape line refl (is_matches cold_shape line h)))
    (λ _. tt))

pub form_is_its_text : FormIsItsText
form_is_its_text = (spelt_reads, reads_spelt)
