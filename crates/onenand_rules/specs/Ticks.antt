-- A tick: one action, by the running plan and how far it has come, and what it leaves.
use Rattle.std.specs.Prelude.{ℕ, zero, suc, ◌+◌, Bool, true, false, cond, ◌&&◌, List, ◌==◌, nat_lt, slice_index, slice_set}
use Rattle.flash.specs.Geometry.{page_words, blank_word}
use Rattle.flash.specs.Meaning.{Meaning, word_at, programmable, programmed, erasable, erased}
use Rattle.onenand_protection.specs.declared.Lock.{Lock}
use Rattle.onenand_protection.specs.Protection.{lock_at, obeyed, table_after, protection_word}
use Rattle.onenand_registers.specs.declared.registers.Registers.{Registers}
use Rattle.onenand_registers.specs.Registers.{with_protection, command_ended, reset}
use Rattle.onenand_transfer.specs.declared.Transfer.{Transfer}
use Rattle.onenand_transfer.specs.Transfers.{page_of, page_word, buffer_word}
use Rattle.onenand_rules.specs.declared.plans.Plan.{Plan}
use Rattle.onenand_rules.specs.declared.plans.Running.{Running}
use Rattle.onenand_rules.specs.declared.plans.Running.TheVariants.{Idle, Runs}
use Rattle.onenand_rules.specs.declared.plans.Action.{Action}
use Rattle.onenand_rules.specs.declared.plans.Action.TheVariants.{Fail, Wait, LoadWord, ProgramWord, EraseBlock, VerifyPage, SetLocks}
use Rattle.onenand_rules.specs.declared.state.Core.{Core}
use Rattle.onenand_rules.specs.Commands.{raised, error_status}
use Rattle.onenand_rules.specs.Plans.{ticks_of, action_of, plan_kind, plan_fault, is_hot}
use Rattle.onenand_rules.specs.State.{State, state_for, state_with}
use Rattle.onenand_rules.specs.Calls.{Reply, tick, refused}

-- the array word that word i of a transfer is
abbrev pub array_word : Meaning → Transfer → ℕ → ℕ
array_word m t i = word_at m t.block (page_of t.page) (page_word t.part t.page i)

-- the buffer word that it is
abbrev pub data_word : List ℕ → Transfer → ℕ → ℕ
data_word d t i = slice_index d (buffer_word t.part t.buffer i)

-- the first k words of a page are blank
unfoldable pub blank : Meaning → ℕ → ℕ → ℕ → Bool
blank m b p zero = true
blank m b p (suc k) = word_at m b p k == blank_word && blank m b p k

-- the action goes well, and does not end the command with Error
abbrev pub succeeds : Meaning → Action → Bool
succeeds m Fail = false
succeeds m Wait = true
succeeds m (LoadWord t i) = true
succeeds m (ProgramWord t i) = programmable m t.block (page_of t.page) (page_word t.part t.page i)
succeeds m (EraseBlock b) = erasable m b
succeeds m (VerifyPage b p) = blank m b p page_words
succeeds m (SetLocks p) = true

-- what it makes of DataRAM
abbrev pub data_after : List ℕ → Meaning → Action → List ℕ
data_after d m Fail = d
data_after d m Wait = d
data_after d m (LoadWord t i) = slice_set d (buffer_word t.part t.buffer i) (array_word m t i)
data_after d m (ProgramWord t i) = d
data_after d m (EraseBlock b) = d
data_after d m (VerifyPage b p) = d
data_after d m (SetLocks p) = d

-- what it makes of the block states
abbrev pub locks_after : ℕ → Action → List Lock → List Lock
locks_after n Fail t = t
locks_after n Wait t = t
locks_after n (LoadWord r i) t = t
locks_after n (ProgramWord r i) t = t
locks_after n (EraseBlock b) t = t
locks_after n (VerifyPage b p) t = t
locks_after n (SetLocks p) t = table_after n p.lock p.first p.last t

-- what it makes of F24Eh
abbrev pub protection_after : ℕ → Action → List Lock → ℕ → ℕ
protection_after n Fail t w = w
protection_after n Wait t w = w
protection_after n (LoadWord r i) t w = w
protection_after n (ProgramWord r i) t w = w
protection_after n (EraseBlock b) t w = w
protection_after n (VerifyPage b p) t w = w
protection_after n (SetLocks p) t w = cond (obeyed n p.lock p.first p.last (lock_at t)) (protection_word p.lock) w

-- what it makes of the array, where it goes well
abbrev pub array_after : List ℕ → Meaning → Action → Meaning
array_after d m Fail = m
array_after d m Wait = m
array_after d m (LoadWord t i) = m
array_after d m (ProgramWord t i) = programmed m t.block (page_of t.page) (page_word t.part t.page i) (data_word d t i)
array_after d m (EraseBlock b) = erased m b
array_after d m (VerifyPage b p) = m
array_after d m (SetLocks p) = m

-- the registers after it: F24Eh alone may differ
abbrev pub registers_after : State → Action → Registers
registers_after s a =
    with_protection s.core.registers (protection_after s.array.count a s.core.locks s.core.registers.protection)

-- the state after an action that went well, with these registers and this running command
abbrev pub acted : State → Action → Registers → Running → State
acted s a r u =
    state_with s r (data_after s.core.dataram s.array a) (locks_after s.array.count a s.core.locks) u
    (array_after s.core.dataram s.array a)

-- the registers at an end without Error: a hot reset's are made anew
abbrev pub closed : Plan → Registers → Registers
closed p r = cond (is_hot p) (reset r r.protection) (command_ended r 0x0000 (raised (plan_kind p)))

-- and at an end with Error
abbrev pub failed : Plan → Registers → Registers
failed p r = command_ended r (error_status (plan_fault p) (plan_kind p)) (raised (plan_kind p))

-- a tick, with what is running
abbrev pub ticked : State → Running → State × Reply
ticked s Idle = (s, refused 11)
ticked s (Runs p k) =
    cond (succeeds s.array (action_of p k))
    (cond (nat_lt (k + 1) (ticks_of p))
    (acted s (action_of p k) (registers_after s (action_of p k)) (Runs p (k + 1)), tick 1)
    (acted s (action_of p k) (closed p (registers_after s (action_of p k))) Idle, tick 0))
    (state_with s (failed p s.core.registers) s.core.dataram s.core.locks Idle s.array, tick 0)

-- the core and the array after one action alone
abbrev pub core_acted : Core → Meaning → Action → Core
core_acted c m a = (acted (state_for c m) a (registers_after (state_for c m) a) c.running).core

-- and the array, where it may have failed
abbrev pub array_acted : Core → Meaning → Action → Meaning
array_acted c m a = cond (succeeds m a) (array_after c.dataram m a) m
