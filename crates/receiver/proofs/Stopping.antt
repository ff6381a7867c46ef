-- What a find comes to, with no repetition in it.
use Rattle.std.proofs.Common.{◌≡◌, ℕ, zero, suc, ◌+◌, ◌<◌, ◌≤◌, Bool, true, false, cond, leb, List, [], ◌∷◌, length, drop, Some, None, Option, sym, refl, ap, ◌∙◌, subst, inl, inr, one-add, arith}
use Rattle.std.proofs.lemmas.Bool.{ne_eqb, leb-true, leb-false}
use Rattle.framing.specs.declared.verdict.Verdict.{Verdict}
use Rattle.framing.specs.declared.verdict.Verdict.TheVariants.{Sound, Short, Unfit}
use Rattle.receiver.specs.declared.answer.Answer.{Answer}
use Rattle.receiver.specs.declared.answer.Answer.TheVariants.{Wanting, Frame}
use Rattle.receiver.specs.declared.answer.Finding.{Finding}
use Rattle.receiver.specs.declared.receiver.find.Turn.TheVariants.{Wait, Drop}
use Rattle.receiver.specs.State.{State, capacity}
use Rattle.receiver.specs.Rule.{Search, seek, seek_from, turn_by, turn_at, follow, stop, behind, Outcome, Event, finds, Follows, NoStart, Says, StopsFirst}

-- with a byte held, the turn goes by the verdict
pub turn_held : (J : List ℕ → Verdict) (ended : Bool) (xs : List ℕ) → 0 < length xs → turn_at J ended xs ≡ turn_by None ended (Some (J xs))
turn_held J ended xs h = ap (λ t. turn_by None ended (cond t None (Some (J xs)))) (ne_eqb (length xs) 0 (λ e. omega arith))

module _ (J : List ℕ → Verdict) where
  -- what an answer says, by the parts of the two states
  abbrev pub SaysBy : Option ℕ → Bool → List ℕ → Option ℕ → Answer → Type 0
  SaysBy o ended xs p a = Says J (record { held = []; found = o; ended = ended }) (record { held = xs; found = p; ended = ended }) a

  -- the same of a search
  pub record Stopped (o : Option ℕ) (ended : Bool) (xs : List ℕ) (f : Search) : Type 0 where
    pub within : f.dropped ≤ length xs
    pub rest : f.held ≡ drop f.dropped xs
    pub dropped : (i : ℕ) → i < f.dropped → NoStart J ended (drop i xs)
    pub says : SaysBy o ended f.held f.found f.answer

  here : (o : Option ℕ) (ended : Bool) (xs : List ℕ) (a : Answer) (p : Option ℕ) → SaysBy o ended xs p a → Stopped o ended xs (stop a xs p)
  here o ended xs a p h = record { within = omega arith; rest = refl; dropped = λ i lt. absurd (omega arith); says = h }

  one_more : (ended : Bool) (b : ℕ) (bs : List ℕ) (f : Search) → NoStart J ended (b ∷ bs) → Stopped None ended bs f → Stopped None ended (b ∷ bs) (behind 1 f)
  one_more ended b bs f none s = record { within = omega (arith, s.within); rest = rw one-add s.rest; dropped = dropped; says = s.says }
    where
      dropped : (i : ℕ) → i < 1 + f.dropped → NoStart J ended (drop i (b ∷ bs))
      dropped zero h = none
      dropped (suc i) h = s.dropped i (omega arith)

  stopped : (ended : Bool) (xs : List ℕ) → Stopped None ended xs (seek J ended xs)
  stopped true [] = here None true [] Answer.Over None (refl, refl, refl, refl)
  stopped false [] = here None false [] (Wanting 1) None (refl, refl, refl, omega arith, inl (refl, refl))
  stopped ended (b ∷ bs) =
      subst (λ t. Stopped None ended (b ∷ bs) (follow t (b ∷ bs) (seek J ended bs))) (sym (turn_held J ended (b ∷ bs) (omega arith)))
      (by (J (b ∷ bs)) ended refl (stopped ended bs))
    where
      some : 0 < length (b ∷ bs)
      some = omega arith

      by : (v : Verdict) (ended : Bool) → J (b ∷ bs) ≡ v → Stopped None ended bs (seek J ended bs) → Stopped None ended (b ∷ bs) (follow (turn_by None ended (Some v)) (b ∷ bs) (seek J ended bs))
      by (Sound n) true e s = here None true (b ∷ bs) (Frame n) (Some n) (refl, inr (refl, some, e))
      by (Sound n) false e s = here None false (b ∷ bs) (Frame n) (Some n) (refl, inr (refl, some, e))
      by Unfit true e s = one_more true b bs (seek J true bs) (inl e) s
      by Unfit false e s = one_more false b bs (seek J false bs) (inl e) s
      by (Short m) true e s = one_more true b bs (seek J true bs) (inr (m, (e, inl refl))) s
      by (Short m) false e s = short (leb m capacity) refl
        where
          short : (t : Bool) → leb m capacity ≡ t → Stopped None false (b ∷ bs) (follow (cond t (Wait m) (Drop 1)) (b ∷ bs) (seek J false bs))
          short true q = here None false (b ∷ bs) (Wanting m) None (refl, refl, refl, leb-true m capacity q, inr (some, e))
          short false q = one_more false b bs (seek J false bs) (inr (m, (e, inr (leb-false m capacity q)))) s

  pub stopped_from : (o : Option ℕ) (ended : Bool) (xs : List ℕ) → Stopped o ended xs (seek_from J o ended xs)
  stopped_from None ended xs = stopped ended xs
  stopped_from (Some n) ended xs = here (Some n) ended xs (Frame n) (Some n) (refl, inl refl)

  pub none_dropped : (o : Option ℕ) (ended : Bool) (xs : List ℕ) (n : ℕ) → o ≡ Some n → (seek_from J o ended xs).dropped ≡ 0
  none_dropped None ended xs n e = cc
  none_dropped (Some m) ended xs n e = refl

  retold : (s t : State) (a : Answer) → SaysBy s.found s.ended t.held t.found a → Says J s t a
  retold s t (Frame n) h = h
  retold s t (Wanting m) h = h
  retold s t Answer.Over h = h

  -- an event that is a find, and its state
  abbrev Came : State → Event → State → Type 0
  Came s (Event.feeds bs x) u = Unit {0}
  Came s (Event.finds x) u = StopsFirst J s x u
  Came s (Event.shows x) u = Unit {0}
  Came s (Event.passes x) u = Unit {0}
  Came s Event.ends u = Unit {0}

  -- by the rule
  pub stops_first : (s : State) (r : Finding) (t : State) → Follows J s (finds r) t → StopsFirst J s r t
  stops_first s r t by =
      subst (λ (o : Outcome). Came s o.event o.state) by (record {
        within = f.within;
        rest = f.rest;
        ended = refl;
        kept = none_dropped s.found s.ended s.held;
        dropped = f.dropped;
        says = retold s (record { held = g.held; found = g.found; ended = s.ended }) g.answer f.says;
      })
    where
      g : Search
      g = seek_from J s.found s.ended s.held

      f : Stopped s.found s.ended s.held (seek_from J s.found s.ended s.held)
      f = stopped_from s.found s.ended s.held

  -- a frame that a find has found, and that was not found before, is sound
  pub found_sound : (s : State) (r : Finding) (t : State) (n : ℕ) → StopsFirst J s r t → s.found ≡ None → t.found ≡ Some n → J t.held ≡ Sound n
  found_sound s r t n f none some = by r.answer f.says
    where
      by : (a : Answer) → Says J s t a → J t.held ≡ Sound n
      by (Frame m) (e, inl q) = cc
      by (Frame m) (e, inr (o, l, q)) = let same : m ≡ n = cc in q ∙ ap Sound same
      by (Wanting m) h = let g = h.1 in cc
      by Answer.Over h = let g = h.1 in cc
