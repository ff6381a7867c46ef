-- The rule and the promise at calls whose case is known, as the code's states come out.
use Rattle.std.proofs.Common.{◌≡◌, ℕ, true, false, List, ◌++◌, take, drop, Some, None, Ok, Err, Result, sym, refl, ap, ◌∙◌}
use Rattle.faults.specs.declared.line.LineFault.{LineFault}
use Rattle.faults.specs.declared.line.LineFault.TheVariants.{Ended, NoFrame}
use Rattle.framing.specs.Laws.{Bytes}
use Rattle.receiver.specs.State.{State}
use Rattle.receiver.specs.Rule.{FollowsAny, comes, feeds, shows, passes, ends, taking, found_frame, feed_outcome, pass_outcome}
use Rattle.receiver.specs.Promise.{Leads}
use Rattle.receiver.proofs.Tails.{bytes_take}
use Rattle.receiver.proofs.Promises.{leads, leads_quiet}

pub shows_found : (s : State) (x : Result (List ℕ) LineFault) → x ≡ found_frame s.found s.held → Leads s (shows x) s
shows_found s x e = leads_quiet s s (shows x) refl (λ J. ap (λ y. comes (shows y) s) (sym e))

pub passes_some : (s : State) (n : ℕ) (ys : List ℕ) → s.found ≡ Some n → ys ≡ drop n s.held → Leads s (passes (Ok n)) (record { held = ys; found = None; ended = s.ended })
passes_some s n ys e f =
    leads_quiet s _ (passes (Ok n)) refl (λ J. ap (λ o. pass_outcome o s) e ∙ ap (λ zs. comes (passes (Ok n)) (record { held = zs; found = None; ended = s.ended })) (sym f))

pub passes_none : (s : State) → s.found ≡ None → Leads s (passes (Err NoFrame)) (record { held = s.held; found = None; ended = s.ended })
passes_none s e = leads_quiet s _ (passes (Err NoFrame)) refl (λ J. ap (λ o. pass_outcome o s) e ∙ (λ i. comes (passes (Err NoFrame)) (record { held = s.held; found = e i; ended = s.ended })))

pub feeds_ended : (s : State) (bs : List ℕ) → s.ended ≡ true → Leads s (feeds bs (Err Ended)) s
feeds_ended s bs e = leads_quiet s s (feeds bs (Err Ended)) refl (λ J. ap (λ b. feed_outcome b s bs) e)

-- a feed goes by the rule, whatever it is given
pub feeds_by : (s : State) (bs : List ℕ) (n : ℕ) (t : State) → s.ended ≡ false → n ≡ taking s.held bs → t.held ≡ s.held ++ take n bs → t.found ≡ s.found → t.ended ≡ s.ended
    → FollowsAny s (feeds bs (Ok n)) t
feeds_by s bs n t e same held found ended J =
    ap (λ b. feed_outcome b s bs) e ∙ ap (λ k. comes (feeds bs (Ok k)) (record { held = s.held ++ take k bs; found = s.found; ended = s.ended })) (sym same)
    ∙ (λ i. comes (feeds bs (Ok n)) (record { held = sym held i; found = sym found i; ended = sym ended i }))

pub feeds_open : (s : State) (bs : List ℕ) (n : ℕ) (t : State) → Bytes bs → s.ended ≡ false → n ≡ taking s.held bs → t.held ≡ s.held ++ take n bs → t.found ≡ s.found → t.ended ≡ s.ended
    → Leads s (feeds bs (Ok n)) t
feeds_open s bs n t octets e same held found ended =
    leads s t (feeds bs (Ok n)) (bytes_take n bs octets) (feeds_by s bs n t e same held found ended)

-- an end, whatever was set before
pub ends_always : (s : State) → Leads s ends (record { held = s.held; found = s.found; ended = true })
ends_always s = leads_quiet s _ ends refl (λ J. refl)
