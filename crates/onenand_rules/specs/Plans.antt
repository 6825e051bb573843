-- What an accepted command is going to do, tick by tick.
-- f: how it fails; t, from, to: transfers; b: a block; p: a plan, or a protection command; k: ticks had.
use Rattle.std.specs.Prelude.{ℕ, ◌+◌, ◌-◌, Bool, true, false, cond, not, ◌||◌, nat_lt}
use Rattle.onenand_transfer.specs.Transfers.{words, chosen}
use Rattle.onenand_rules.specs.declared.commands.ResetKind.TheVariants.{Core, Hot}
use Rattle.onenand_rules.specs.declared.commands.Command.{Command}
use Rattle.onenand_rules.specs.declared.commands.Kind.{Kind}
use Rattle.onenand_rules.specs.declared.commands.Kind.TheVariants.{Loading, Programming, Erasing, Verifying, Other, Resetting}
use Rattle.onenand_rules.specs.declared.commands.Fault.{Fault}
use Rattle.onenand_rules.specs.declared.commands.Fault.TheVariants.{Plain}
use Rattle.onenand_rules.specs.declared.plans.Plan.{Plan}
use Rattle.onenand_rules.specs.declared.plans.Plan.TheVariants.{Fails, Loads, Programs, Copies, Erases, Verifies, Protects, Resets}
use Rattle.onenand_rules.specs.declared.plans.Running.{Running}
use Rattle.onenand_rules.specs.declared.plans.Running.TheVariants.{Idle, Runs}
use Rattle.onenand_rules.specs.declared.plans.Action.{Action}
use Rattle.onenand_rules.specs.declared.plans.Action.TheVariants.{Fail, Wait, LoadWord, ProgramWord, EraseBlock, VerifyPage, SetLocks}
use Rattle.onenand_rules.specs.Commands.{is_reset}

-- how many ticks it takes at most; a verify looks at a page a tick
abbrev pub ticks_of : Plan → ℕ
ticks_of (Fails f k) = 1
ticks_of (Loads t) = words t
ticks_of (Programs t) = words t
ticks_of (Copies from to) = words from + words to
ticks_of (Erases b) = 64
ticks_of (Verifies b) = 64
ticks_of (Protects p) = 1
ticks_of (Resets r) = 1

-- what its tick number k, from 0, does
abbrev pub action_of : Plan → ℕ → Action
action_of (Fails f d) k = Fail
action_of (Loads t) k = LoadWord t k
action_of (Programs t) k = ProgramWord t k
action_of (Copies from to) k = cond (nat_lt k (words from)) (LoadWord from k) (ProgramWord to (k - words from))
action_of (Erases b) k = cond (nat_lt k 63) Wait (EraseBlock b)
action_of (Verifies b) k = VerifyPage b k
action_of (Protects p) k = SetLocks p
action_of (Resets r) k = Wait

-- what a plan counts as in F240h and F241h
abbrev pub plan_kind : Plan → Kind
plan_kind (Fails f k) = k
plan_kind (Loads t) = Loading
plan_kind (Programs t) = Programming
plan_kind (Copies from to) = Programming
plan_kind (Erases b) = Erasing
plan_kind (Verifies b) = Verifying
plan_kind (Protects p) = Other
plan_kind (Resets r) = Resetting

-- what an end with Error shows of it: Lock only where a check barred it
abbrev pub plan_fault : Plan → Fault
plan_fault (Fails f k) = f
plan_fault (Loads t) = Plain
plan_fault (Programs t) = Plain
plan_fault (Copies from to) = Plain
plan_fault (Erases b) = Plain
plan_fault (Verifies b) = Plain
plan_fault (Protects p) = Plain
plan_fault (Resets r) = Plain

-- its end gives the registers their start values
abbrev pub is_hot : Plan → Bool
is_hot (Fails f k) = false
is_hot (Loads t) = false
is_hot (Programs t) = false
is_hot (Copies from to) = false
is_hot (Erases b) = false
is_hot (Verifies b) = false
is_hot (Protects p) = false
is_hot (Resets Core) = false
is_hot (Resets Hot) = true

-- DataRAM word x is taken: it lies in a sector that a running transfer uses, and the host can neither read nor write it
abbrev pub taken_by : Plan → ℕ → Bool
taken_by (Fails f k) x = false
taken_by (Loads t) x = chosen t.buffer x
taken_by (Programs t) x = chosen t.buffer x
taken_by (Copies from to) x = chosen from.buffer x
taken_by (Erases b) x = false
taken_by (Verifies b) x = false
taken_by (Protects p) x = false
taken_by (Resets r) x = false

-- and so by what runs
abbrev pub taken : Running → ℕ → Bool
taken Idle x = false
taken (Runs p k) x = taken_by p x

-- not even a reset is accepted while it runs
abbrev pub holds_off : Plan → Bool
holds_off (Fails f k) = false
holds_off (Loads t) = false
holds_off (Programs t) = false
holds_off (Copies from to) = false
holds_off (Erases b) = false
holds_off (Verifies b) = false
holds_off (Protects p) = true
holds_off (Resets r) = true

-- a command meets a busy chip
abbrev pub busy : Running → Command → Bool
busy Idle q = false
busy (Runs p k) q = not (is_reset q) || holds_off p
