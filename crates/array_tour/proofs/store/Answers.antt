use Rattle.std.proofs.Common.{rules}
use Rattle.array_tour.proofs.Storing.{store_more, store_all}
use Rattle.array_tour.proofs.store.Goals as goal

pub loop-i-preserved : goal.loop-i-preserved
loop-i-preserved g c =
    store_more (g.D.Array.meaning c.loop-i.array) (g.D.Array.meaning c.program.new.self) _ c.args.page.block c.args.page.page c.loop-i.i c.args.words.now c.loop-i.invariant c.loop-i-test.true (search rules)

pub returns : goal.returns
returns g c = store_all (g.D.Array.meaning c.loop-i.array) _ c.args.page.block c.args.page.page c.loop-i.i c.args.words.now c.loop-i.invariant c.loop-i-test.false
