-- Where a chip stands.
use Rattle.std.proofs.Common.{◌≡◌}
use Rattle.flash.specs.Meaning.{Meaning}
use Rattle.onenand_rules.specs.declared.state.Core.{Core}
use Rattle.onenand_rules.specs.State.{state_for}

-- a state is its two parts
pub same_state : {c c' : Core} {m m' : Meaning} → c ≡ c' → m ≡ m' → state_for c m ≡ state_for c' m'
same_state p q = λ i. state_for (p i) (q i)
