-- The turns of find's search.
use Rattle.std.proofs.Common.{◌≡◌, ℕ, ◌+◌, ◌<◌, Bool, true, false, cond, leb, ◌⊎◌, List, [], ◌∷◌, length, drop, Some, None, Option, sym, refl, ap, ◌∙◌, inl, inr, add-zero, arith}
use Rattle.framing.specs.declared.verdict.Verdict.{Verdict}
use Rattle.framing.specs.declared.verdict.Verdict.TheVariants.{Sound, Short, Unfit}
use Rattle.receiver.specs.declared.answer.Answer.{Answer}
use Rattle.receiver.specs.declared.receiver.find.Turn.{Turn}
use Rattle.receiver.specs.declared.receiver.find.Turn.TheVariants.{Keep, Wait, Over, Drop}
use Rattle.receiver.specs.State.{State, capacity}
use Rattle.receiver.specs.Rule.{Search, seek, seek_from, consulted, turn_by, turn_of, follow, stop, behind, comes, find_outcome, finds, Follows}
use Rattle.receiver.proofs.Stopping.{turn_held}

-- what a find comes to from this state
abbrev pub find_at : (List ℕ → Verdict) → State → Search
find_at J s = seek_from J s.found s.ended s.held

-- one turn
step : (J : List ℕ → Verdict) (o : Option ℕ) (ended : Bool) (xs : List ℕ) → seek_from J o ended xs ≡ follow (turn_by o ended (consulted J o xs)) xs (seek J ended (drop 1 xs))
step J (Some n) ended xs = refl
step J None true [] = refl
step J None false [] = refl
step J None ended (b ∷ bs) = refl

by_turn : (J : List ℕ → Verdict) (s : State) (w : Turn) → turn_of J s ≡ w → find_at J s ≡ follow w s.held (seek J s.ended (drop 1 s.held))
by_turn J s w e = step J s.found s.ended s.held ∙ ap (λ v. follow v s.held (seek J s.ended (drop 1 s.held))) e

-- no frame is found where the turn is another than to keep one
none_waits : (o : Option ℕ) (ended : Bool) (v : Option Verdict) (m : ℕ) → turn_by o ended v ≡ Wait m → o ≡ None
none_waits None ended v m e = refl
none_waits (Some n) ended v m e = cc

none_over : (o : Option ℕ) (ended : Bool) (v : Option Verdict) → turn_by o ended v ≡ Over → o ≡ None
none_over None ended v e = refl
none_over (Some n) ended v e = cc

-- a frame that is kept was found before, or is sound
pub kept_sound : (J : List ℕ → Verdict) (o : Option ℕ) (ended : Bool) (xs : List ℕ) (n : ℕ) → turn_by o ended (consulted J o xs) ≡ Keep n → (o ≡ Some n) ⊎ (J xs ≡ Sound n)
kept_sound J (Some k) ended xs n e = inl (cc)
kept_sound J None true [] n e = cc
kept_sound J None false [] n e = cc
kept_sound J None ended (b ∷ bs) n e = by ended (J (b ∷ bs)) refl (sym (turn_held J ended (b ∷ bs) (omega arith)) ∙ e)
  where
    by : (ended : Bool) (v : Verdict) → J (b ∷ bs) ≡ v → turn_by None ended (Some v) ≡ Keep n → (◌≡◌ {A = Option ℕ} None (Some n)) ⊎ (J (b ∷ bs) ≡ Sound n)
    by true (Sound k) q f = inr (cc)
    by false (Sound k) q f = inr (cc)
    by true Unfit q f = cc
    by false Unfit q f = cc
    by true (Short m) q f = cc
    by false (Short m) q f = short (leb m capacity) f
      where
        short : (t : Bool) → cond t (Wait m) (Drop 1) ≡ Keep n → (◌≡◌ {A = Option ℕ} None (Some n)) ⊎ (J (b ∷ bs) ≡ Sound n)
        short true g = cc
        short false g = cc

-- what is dropped is one byte, which is held, and no frame is found
pub dropped_one : (J : List ℕ → Verdict) (o : Option ℕ) (ended : Bool) (xs : List ℕ) (k : ℕ) → turn_by o ended (consulted J o xs) ≡ Drop k → (o ≡ None) × (k ≡ 1) × (0 < length xs)
dropped_one J (Some n) ended xs k e = cc
dropped_one J None true [] k e = cc
dropped_one J None false [] k e = cc
dropped_one J None ended (b ∷ bs) k e = (refl, by ended (J (b ∷ bs)) (sym (turn_held J ended (b ∷ bs) (omega arith)) ∙ e), omega arith)
  where
    by : (ended : Bool) (v : Verdict) → turn_by None ended (Some v) ≡ Drop k → k ≡ 1
    by true (Sound n) f = cc
    by false (Sound n) f = cc
    by true Unfit f = cc
    by false Unfit f = cc
    by true (Short m) f = cc
    by false (Short m) f = short (leb m capacity) f
      where
        short : (t : Bool) → cond t (Wait m) (Drop 1) ≡ Drop k → k ≡ 1
        short true g = cc
        short false g = cc

-- after d drops a find that began at the first state has come to the second
pub record Ahead (J : List ℕ → Verdict) (s : State) (d : ℕ) (t : State) : Type 0 where
  pub rest : find_at J s ≡ behind d (find_at J t)
  pub ended : t.ended ≡ s.ended

-- at first none is dropped
pub ahead_start : (J : List ℕ → Verdict) (s : State) (d : ℕ) → d ≡ 0 → Ahead J s d s
ahead_start J s d e = record { rest = (λ i. record { answer = (find_at J s).answer; dropped = none i; held = (find_at J s).held; found = (find_at J s).found }); ended = refl }
  where
    none : (find_at J s).dropped ≡ d + (find_at J s).dropped
    none = omega arith

module _ (J : List ℕ → Verdict) (s t : State) (d : ℕ) (a : Ahead J s d t) where
  stops : (u : State) (r : Answer) → find_at J t ≡ stop r u.held u.found → u.ended ≡ t.ended → Follows J s (finds (record { answer = r; dropped = d })) u
  stops u r e f =
      ap (λ x. find_outcome x s.ended) (a.rest ∙ ap (behind d) e)
      ∙ (λ i. comes (finds (record { answer = r; dropped = add-zero d i })) (record { held = u.held; found = u.found; ended = sym (f ∙ a.ended) i }))

  pub at_keep : (n : ℕ) → turn_of J t ≡ Keep n → Follows J s (finds (record { answer = Answer.Frame n; dropped = d })) (record { held = t.held; found = Some n; ended = t.ended })
  at_keep n e = stops _ (Answer.Frame n) (by_turn J t (Keep n) e) refl

  pub at_wait : (m : ℕ) → turn_of J t ≡ Wait m → Follows J s (finds (record { answer = Answer.Wanting m; dropped = d })) t
  at_wait m e = stops t (Answer.Wanting m) (by_turn J t (Wait m) e ∙ ap (stop (Answer.Wanting m) t.held) (sym (none_waits t.found t.ended _ m e))) refl

  pub at_over : turn_of J t ≡ Over → Follows J s (finds (record { answer = Answer.Over; dropped = d })) t
  at_over e = stops t Answer.Over (by_turn J t Over e ∙ ap (stop Answer.Over t.held) (sym (none_over t.found t.ended _ e))) refl

  pub at_drop : (k e' : ℕ) (u : State) → turn_of J t ≡ Drop k → e' ≡ d + 1 → u.held ≡ drop 1 t.held → u.found ≡ t.found → u.ended ≡ t.ended → Ahead J s e' u
  at_drop k e' u e count held found ended = record { rest = a.rest ∙ ap (behind d) goes ∙ counted; ended = ended ∙ a.ended }
    where
      one : (t.found ≡ None) × (k ≡ 1) × (0 < length t.held)
      one = dropped_one J t.found t.ended t.held k e

      goes : find_at J t ≡ behind 1 (find_at J u)
      goes = by_turn J t (Drop k) e ∙ ap (λ n. behind n (seek J t.ended (drop 1 t.held))) one.1
          ∙ (λ i. behind 1 (seek J (sym ended i) (sym held i))) ∙ (λ i. behind 1 (seek_from J (sym (found ∙ one.0) i) u.ended u.held))

      counted : behind d (behind 1 (find_at J u)) ≡ behind e' (find_at J u)
      counted = λ i. record { answer = (find_at J u).answer; dropped = sums i; held = (find_at J u).held; found = (find_at J u).found }
        where
          sums : d + (1 + (find_at J u).dropped) ≡ e' + (find_at J u).dropped
          sums = omega arith
