-- Walks over the table of block states.
use Rattle.std.proofs.Common.{◌≡◌, ℕ, zero, suc, ◌+◌, ◌||◌, refl, ap}
use Rattle.std.specs.List.{list_any, range_with_len}
use Rattle.onenand_protection.specs.declared.Lock.{Lock}
use Rattle.onenand_protection.specs.Protection.{is_tight, tight_among}

-- a search of the range for a tight block
pub any_tight : (t : ℕ → Lock) (a k : ℕ) → list_any (λ b. is_tight (t b)) (range_with_len a k) ≡ tight_among t a k
unfolding tight_among
any_tight t a zero = refl
any_tight t a (suc k) = ap (λ q. is_tight (t a) || q) (any_tight t (a + 1) k)
