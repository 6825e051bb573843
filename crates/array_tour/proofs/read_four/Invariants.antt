use Rattle.std.proofs.Common.{◌≡◌, ℕ, ◌<◌, length, get_or}
use Rattle.flash.specs.Meaning.{word_at}
use Rattle.array_tour.proofs.read_four.Given as goal

abbrev pub invariant-loop-i : goal.invariant-loop-i
invariant-loop-i g l = record {
  same : g.D.Array.meaning l.array ≡ g.D.Array.meaning l.initial.array;
  long : length l.w-items ≡ 4;
  done : (k : ℕ) → k < l.i → get_or l.w-items k 0 ≡ word_at (g.D.Array.meaning l.initial.array) l.page.block l.page.page k;
}
