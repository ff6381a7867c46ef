-- Each ensemble that is found and let go leaves fewer.
use Rattle.std.proofs.Common.{◌≡◌, ℕ, ◌<◌, ◌≤◌, List, length, take, drop, Some, None, Result, inl, inr, sym, ap, subst, arith}
use Rattle.std.proofs.lemmas.List.{length-drop, length-take}
use Rattle.faults.specs.declared.line.LineFault.{LineFault}
use Rattle.pd0.specs.Ensembles.{IsEnsemble}
use Rattle.pd0.specs.Verdicts.{judged_run}
use Rattle.pd0.specs.Sounds.{exactly_ensembles}
use Rattle.receiver.specs.declared.answer.Answer.TheVariants.{Frame}
use Rattle.receiver.specs.declared.answer.Finding.{Finding}
use Rattle.receiver.specs.Rule.{Outcome, FollowsAny, StopsFirst, Says, passes, comes, pass_outcome}
use Rattle.receiver.specs.State.{State}
use Rattle.station.specs.Left.{left}

-- what is held behind a frame that was let go, and that none is found then
passed : (t u : State) (n : ℕ) (p : Result ℕ LineFault) → FollowsAny t (passes p) u → t.found ≡ Some n → (drop n t.held ≡ u.held) × (None ≡ u.found)
passed t u n p by e =
    let f = subst (λ o. pass_outcome o t ≡ comes (passes p) u) e (by judged_run) in
    (ap (λ (o : Outcome). o.state.held) f, ap (λ (o : Outcome). o.state.found) f)

-- an ensemble has a byte or more
some_byte : (n : ℕ) (xs : List ℕ) → IsEnsemble (take n xs) → 1 ≤ n
some_byte n xs s = omega (arith, s.whole, length-take n xs)

pub fewer :
    (s t u : State) (r : Finding) (n : ℕ) (p : Result ℕ LineFault) → StopsFirst judged_run s r t → r.answer ≡ Frame n → FollowsAny t (passes p) u
    → left u < left s
fewer s t u r n p first e by = by_cases (subst (Says judged_run s t) e first.says)
  where
    rest : length t.held ≤ length s.held
    rest = rw first.rest (simp length-drop (omega arith))

    by_cases : Says judged_run s t (Frame n) → left u < left s
    by_cases (f, inl g) =
        let q = passed t u n p by f in
        let h : length u.held ≤ length t.held = rw (sym q.0) (simp length-drop (omega arith)) in
        rw (sym q.1, g) (omega (arith, h, rest))
    by_cases (f, inr (g, some, sound)) =
        let q = passed t u n p by f in
        let one = some_byte n t.held ((exactly_ensembles t.held n).0 sound).1 in
        let h : length u.held < length t.held = rw (sym q.0) (simp length-drop (omega (arith, one, some))) in
        rw (sym q.1, g) (omega (arith, h, rest))
