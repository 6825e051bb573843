use Rattle.std.proofs.Common.{◌≡◌, ℕ, ap, ◌∙◌, arith}
use Rattle.std.proofs.lemmas.List.{get_or-set_other}
use Rattle.std.proofs.lemmas.List.Edits.{fill_by_more}
use Rattle.std.proofs.lemmas.List.FromFn.{fill_by_all}
use Rattle.onenand_protection.specs.declared.Lock.{Lock}
use Rattle.onenand_protection.specs.declared.Lock.TheVariants.{Locked}
use Rattle.onenand_protection.specs.Protection.{lock_at, lock_made, locks_made}
use Rattle.onenand_protection.proofs.Protection.make_table.Goals as goal

pub loop-b-preserved : goal.loop-b-preserved
loop-b-preserved c =
    let p = c.args.self in
    let b = c.loop-b.b in
    let f : ℕ → Lock = locks_made p.lock p.first p.last (lock_at c.args.locks.now) in
    let e : c.made.result ≡ f b = c.made.ensures ∙ ap (lock_made p.lock p.first p.last b) (c.loop-b.invariant.rest b (omega arith)) in
    record {
      made = λ k h. rw e (fill_by_more f c.loop-b.locks b Locked (omega arith) c.loop-b.invariant.made k h);
      rest = λ k h. get_or-set_other c.loop-b.locks b k c.made.result Locked (λ (at : k ≡ b). omega arith) ∙ c.loop-b.invariant.rest k (omega arith);
    }

pub returns : goal.returns
returns c =
    let p = c.args.self in
    fill_by_all (locks_made p.lock p.first p.last (lock_at c.args.locks.now)) _ _ Locked c.loop-b.auto.locks (λ k h. c.loop-b.invariant.made k (omega arith))
