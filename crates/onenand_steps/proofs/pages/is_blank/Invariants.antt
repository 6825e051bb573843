use Rattle.std.proofs.Common.{◌≡◌, true}
use Rattle.onenand_rules.specs.Ticks.{blank}
use Rattle.onenand_steps.proofs.pages.is_blank.Given as goal

abbrev pub invariant-loop-word : goal.invariant-loop-word
invariant-loop-word g l =
    let m = g.D.Array.meaning in
    (blank (m l.initial.array) l.block l.page l.word ≡ true) × (m l.array ≡ m l.initial.array)
