-- The promise as a whole, and what it says of a list of calls that was put to a chip on its way.
use Rattle.std.proofs.Common.{◌≡◌, List, [], ◌∷◌, ◌++◌, sym, refl, ap, ◌∙◌}
use Rattle.onenand_rules.specs.declared.calls.Call.{Call}
use Rattle.onenand_rules.specs.State.{State}
use Rattle.onenand_rules.specs.Resets.{powered_up}
use Rattle.onenand_rules.specs.Steps.{step, after}
use Rattle.onenand_laws.specs.Observer.{Moment, begins, next, reaches}
use Rattle.onenand_laws.specs.Promise.{Promised, Played}
use Rattle.onenand_laws.proofs.Moments.{begins_sound, reaches_sound}
use Rattle.onenand_laws.proofs.Faith.{faithful, ends, still}
use Rattle.onenand_laws.proofs.Blindness.{blind}

pub promised : Promised
promised d v m cs h =
    let s = reaches_sound (begins d v m) cs (begins_sound d v m h) in
    record { faithful = faithful _ s; ends = ends _ s _ refl; still = still _ s; blind = blind d v m cs }

-- a list of calls, and then another
pub after_more : (s : State) (xs ys : List Call) → after s (xs ++ ys) ≡ after (after s xs) ys
after_more s [] ys = refl
after_more s (x ∷ xs) ys = after_more (step s x).0 xs ys

reaches_after : (t : Moment) (cs : List Call) → (reaches t cs).chip ≡ after t.chip cs
unfolding reaches
reaches_after t [] = refl
reaches_after t (c ∷ cs) = reaches_after (next t c) cs

-- the promise holds of the calls before together with these
pub played : (s : State) (cs : List Call) (s' : State) → s' ≡ after s cs → Played s cs s'
played s cs s' e d v m before h q =
    (e ∙ ap (λ x. after x cs) q ∙ sym (after_more (powered_up d v m) before cs) ∙ sym (reaches_after (begins d v m) (before ++ cs)), promised d v m (before ++ cs) h)
