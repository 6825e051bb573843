use Rattle.std.proofs.Common.{rules, ◌-◌, refl, ◌∙◌}
use Rattle.std.proofs.lemmas.Iterator.{YieldsList-from_range}
use Rattle.std.proofs.lemmas.Iterator.Search.{any_from_yields_List}
use Rattle.onenand_protection.specs.Protection.{lock_at, is_tight}
use Rattle.onenand_protection.proofs.Tables.{any_tight}
use Rattle.onenand_protection.proofs.tight_among.Goals as goal

pub returns : goal.returns
returns c =
    let t = lock_at c.args.locks.now in
    let n = c.args.e - c.args.a in
    any_from_yields_List (λ b. is_tight (t b)) _ _ _ c.any.ensures.ran
    (YieldsList-from_range c.args.a c.args.e n refl refl) (λ x b q k. search rules)
    ∙ any_tight t c.args.a n
