-- One step of storing a table, and its end.
use Rattle.std.proofs.Common.{◌≡◌, ℕ, ◌+◌, ◌<◌, ◌≤◌, List, length, get_or, drop, sym, ap, ◌∙◌}
use Rattle.std.proofs.lemmas.List.{at_drop_more, at_drop_all}
use Rattle.flash.specs.Meaning.{Meaning, after_program}
use Rattle.array_tour.specs.Tables.{stored}

pub store_more : (m n all : Meaning) (b p i : ℕ) (vs : List ℕ) → stored m b p i (drop i vs) ≡ all → i < length vs → n ≡ after_program m b p i (get_or vs i 0) → stored n b p (i + 1) (drop (i + 1) vs) ≡ all
unfolding stored
store_more m n all b p i vs e h f = ap (λ k. stored k b p (i + 1) (drop (i + 1) vs)) f ∙ sym (at_drop_more (stored m b p i) vs i 0 h) ∙ e

pub store_all : (m all : Meaning) (b p i : ℕ) (vs : List ℕ) → stored m b p i (drop i vs) ≡ all → length vs ≤ i → m ≡ all
unfolding stored
store_all m all b p i vs e h = sym (at_drop_all (stored m b p i) vs i h) ∙ e
