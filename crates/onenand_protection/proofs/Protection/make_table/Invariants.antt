use Rattle.std.proofs.Common.{◌≡◌, ℕ, ◌<◌, ◌≤◌}
use Rattle.onenand_protection.specs.Protection.{lock_at, locks_made}
use Rattle.onenand_protection.proofs.Protection.make_table.Given as goal

-- the table is made anew as far as block b
abbrev pub invariant-loop-b : goal.invariant-loop-b
invariant-loop-b l = record {
  made : (k : ℕ) → k < l.b → lock_at l.locks k ≡ locks_made l.self.lock l.self.first l.self.last (lock_at l.initial.locks) k;
  rest : (k : ℕ) → l.b ≤ k → lock_at l.locks k ≡ lock_at l.initial.locks k;
}
