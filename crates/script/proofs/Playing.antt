-- One line more of a script: what is printed, and which calls are put.
use Rattle.std.proofs.Common.{◌≡◌, ℕ, ◌+◌, List, ◌∷◌, ◌++◌, length, take, sym, ap, ◌∙◌, append_assoc, arith}
use Rattle.std.proofs.lemmas.List.{take-append-le, take_all}
use Rattle.onenand_rules.specs.declared.calls.Call.{Call}
use Rattle.onenand_rules.specs.State.{State}
use Rattle.onenand_rules.specs.Steps.{after}
use Rattle.onenand_laws.specs.Promise.{Stopped}
use Rattle.onenand_laws.proofs.Whole.{after_more}
use Rattle.script_forms.specs.Grammar.{form_of}
use Rattle.script_entries.specs.declared.entries.Entry.{Entry}
use Rattle.script_entries.specs.Texts.{line_of}
use Rattle.script.specs.Puts.{calls_of_line, calls_of_lines}
use Rattle.script.specs.Transcript.{entry_for, told}

-- the first of the lines that are left, number n, gives the entry e and takes the chip from s to s'
pub told_more : (n : ℕ) (l : List ℕ) (left more : List (List ℕ)) (s s' : State) (e : Entry) (out out' all : List ℕ) →
    left ≡ l ∷ more → e ≡ entry_for n s (form_of l) → s' ≡ after s (calls_of_line s (form_of l)) → out' ≡ out ++ line_of e →
    out ++ told n left s ≡ all → out' ++ told (n + 1) more s' ≡ all
told_more n l left more s s' e out out' all first gives goes wrote inv =
    ap (λ o. o ++ told (n + 1) more s') wrote
    ∙ append_assoc out (line_of e) (told (n + 1) more s')
    ∙ ap (λ x. out ++ (line_of x ++ told (n + 1) more s')) gives
    ∙ ap (λ x. out ++ (line_of (entry_for n s (form_of l)) ++ told (n + 1) more x)) goes
    ∙ sym (ap (λ ls. out ++ told n ls s) first)
    ∙ inv

-- some calls led from the start to s, and with those of the lines that are left they are all
abbrev pub Way : State → List (List ℕ) → State → List Call → Type 0
Way start left s all = (put : List Call) × (s ≡ after start put) × (put ++ calls_of_lines left s ≡ all)

-- the way goes on by the calls of a line
pub way_on : (start s s' : State) (l : List ℕ) (left more : List (List ℕ)) (all : List Call) →
    left ≡ l ∷ more → s' ≡ after s (calls_of_line s (form_of l)) → Way start left s all → Way start more s' all
way_on start s s' l left more all first goes (put, came, whole) =
    let calls = calls_of_line s (form_of l) in (
      put ++ calls,
      goes ∙ ap (λ x. after x calls) came ∙ sym (after_more start put calls),
      append_assoc put calls (calls_of_lines more s') ∙ ap (λ x. put ++ (calls ++ calls_of_lines more x)) goes ∙ sym (ap (λ ls. put ++ calls_of_lines ls s) first) ∙ whole,
    )

-- wherever it stops, some first calls have been put
pub way_stopped : (start s : State) (left : List (List ℕ)) (all : List Call) → Way start left s all → Stopped start all s
way_stopped start s left all (put, came, whole) =
    let front = take-append-le (length put) put (calls_of_lines left s) (omega arith) ∙ take_all (length put) put (omega arith) in
    (length put, came ∙ ap (after start) (sym front ∙ ap (take (length put)) whole))
