use Rattle.std.proofs.Common.{◌≡◌, ℕ, ◌<◌, get_or}
use Rattle.flash.specs.Meaning.{word_at}
use Rattle.onenand_steps.proofs.pages.boot_words.Given as goal

abbrev pub invariant-loop-word : goal.invariant-loop-word
invariant-loop-word g l =
    let m = g.D.Array.meaning in
    record {
      filled : (k : ℕ) → k < l.word → get_or l.shown-items k 0 ≡ word_at (m l.initial.array) 0 0 k;
      same : m l.array ≡ m l.initial.array;
    }
