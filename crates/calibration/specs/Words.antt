-- Words in answers.
use Rattle.std.specs.Prelude.{ℕ, zero, suc, Bool, true, false, ◌&&◌, List, Ok, Err, Result, ◌==◌, slice_index_or}
use Rattle.onenand_rules.specs.declared.calls.Answer.{Answer}
use Rattle.onenand_rules.specs.declared.calls.Answer.TheVariants.{Word, Done, Ticked}
use Rattle.onenand_rules.specs.declared.calls.Refusal.{Refusal}

-- two calls answered the same word
abbrev pub is_same : Result Answer Refusal → Result Answer Refusal → Bool
is_same (Ok (Word v)) (Ok (Word w)) = v == w
is_same (Ok (Word v)) (Ok Done) = false
is_same (Ok (Word v)) (Ok (Ticked q)) = false
is_same (Ok (Word v)) (Err f) = false
is_same (Ok Done) b = false
is_same (Ok (Ticked p)) b = false
is_same (Err e) b = false

-- the first k calls of two lists answered the same words
unfoldable pub same_words : List (Result Answer Refusal) → List (Result Answer Refusal) → ℕ → Bool
same_words xs ys zero = true
same_words xs ys (suc k) = is_same (slice_index_or xs k (Ok (Word 0))) (slice_index_or ys k (Ok (Word 0))) && same_words xs ys k
