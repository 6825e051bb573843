-- One call more of a list: what is answered, and where the chip stands.
use Rattle.std.proofs.Common.{◌≡◌, ℕ, ◌+◌, ◌<◌, Result, List, [], ◌∷◌, ◌++◌, map, length, get_or, take, sym, refl, ap, ◌∙◌}
use Rattle.std.proofs.lemmas.List.{take_more, map_push}
use Rattle.onenand_rules.specs.declared.calls.Answer.{Answer}
use Rattle.onenand_rules.specs.declared.calls.Refusal.{Refusal}
use Rattle.onenand_rules.specs.declared.calls.Call.{Call}
use Rattle.onenand_rules.specs.State.{State}
use Rattle.onenand_rules.specs.Calls.{reply_of}
use Rattle.onenand_rules.specs.Steps.{step, after, replies}
use Rattle.onenand_laws.proofs.Whole.{after_more}

replies_push : (s : State) (cs : List Call) (c : Call) → replies s (cs ++ (c ∷ [])) ≡ replies s cs ++ ((step (after s cs) c).1 ∷ [])
replies_push s [] c = refl
replies_push s (d ∷ cs) c = ap (λ rs. (step s d).1 ∷ rs) (replies_push (step s d).0 cs c)

-- the first i calls of a list have led to the state s, and call i is put
module _ (start s : State) (calls : List Call) (i : ℕ) (none : Call) (within : i < length calls) (came : s ≡ after start (take i calls)) where
  abbrev put : List Call
  put = take i calls

  abbrev c : Call
  c = get_or calls i none

  one_more : put ++ (c ∷ []) ≡ take (i + 1) calls
  one_more = sym (take_more calls i none within)

  pub come_more : (s' : State) → s' ≡ (step s c).0 → s' ≡ after start (take (i + 1) calls)
  come_more s' led = led ∙ ap (λ (x : State). (step x c).0) came ∙ sym (after_more start put (c ∷ [])) ∙ ap (after start) one_more

  pub replies_more : (given more : List (Result Answer Refusal)) (a : Result Answer Refusal) →
      map reply_of given ≡ replies start put → reply_of a ≡ (step s c).1 → more ≡ given ++ (a ∷ []) → map reply_of more ≡ replies start (take (i + 1) calls)
  replies_more given more a told says pushed =
      ap (map reply_of) pushed
      ∙ map_push reply_of given a
      ∙ (λ j. told j ++ ((says ∙ ap (λ (x : State). (step x c).1) came) j ∷ []))
      ∙ sym (replies_push start put c)
      ∙ ap (replies start) one_more
