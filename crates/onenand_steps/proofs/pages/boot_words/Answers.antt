use Rattle.std.proofs.Common.{arith}
use Rattle.std.proofs.lemmas.List.FromFn.{fill_by_all}
use Rattle.flash.specs.Geometry.{page_words}
use Rattle.flash.specs.Meaning.{word_at}
use Rattle.onenand_steps.proofs.pages.boot_words.Goals as goal

pub returns-clause-words : goal.returns-clause-words
returns-clause-words g c =
    fill_by_all (word_at (g.D.Array.meaning c.args.array.now) 0 0) c.loop-word.shown-items page_words 0 c.loop-word-test.array_long
    (λ k h. c.loop-word.invariant.filled k (omega arith))
