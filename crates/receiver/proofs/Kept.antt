-- What every record that the rule led keeps.
use Rattle.std.proofs.Common.{◌≡◌, ℕ, ◌+◌, ◌-◌, ◌<◌, ◌≤◌, Bool, true, false, ◌⊎◌, List, [], ◌∷◌, ◌++◌, length, take, drop, Some, None, Ok, Err, Option, Result, sym, refl, ap, ◌∙◌, subst, inl, inr, ⊎_elim, arith}
use Rattle.std.proofs.lemmas.List.{length-append, length-drop, length-take, drop-append-le, drop-drop, append-nil}
use Rattle.std.proofs.lemmas.Bool.{cases_lt, both_ways}
use Rattle.faults.specs.declared.line.LineFault.{LineFault}
use Rattle.framing.specs.Laws.{Lawful, Run}
use Rattle.framing.specs.declared.verdict.Verdict.{Verdict}
use Rattle.framing.specs.declared.verdict.Verdict.TheVariants.{Sound}
use Rattle.receiver.specs.State.{State, fresh, capacity}
use Rattle.receiver.specs.Rule.{Search, seek_from, feeds, finds, shows, passes, ends, taking, feed_outcome, pass_outcome}
use Rattle.receiver.specs.Record.{Record, Span, span_at, replay, calls_of, Answered, taken, taken_by, passed, dropped, place, frames}
use Rattle.receiver.specs.Promise.{SoundAt, Among, Holds, NoByteInTwo}
use Rattle.receiver.proofs.Tails.{Clear, run_drop, run_front, sound_more, unfit_more}
use Rattle.receiver.proofs.Searched.{Searched, find_searched}
use Rattle.receiver.proofs.Spans.{apart_none, apart_more}

-- the byte at q lies in one of the frames
abbrev pub Inside : List Span → ℕ → Type 0
Inside fs q = (f : Span) × (Among f fs × Holds f q)

-- Over what a record comes to: the bytes taken, the place, and the frames passed.
pub record Keeps (J : List ℕ → Verdict) (xs : List ℕ) (at : ℕ) (fs : List Span) (s : State) : Type 0 where
  pub within : at ≤ length xs
  pub held : s.held ≡ drop at xs
  pub few : length s.held ≤ capacity
  -- each byte before the place lies in a passed frame, or begins none, whatever is still taken
  pub clear : (q : ℕ) → q < at → Inside fs q ⊎ Clear J s.ended (drop q xs)
  pub sound : (a n : ℕ) → Among (span_at a n) fs → SoundAt J xs a n
  pub before : (f : Span) → Among f fs → f.start + f.size ≤ at
  pub apart : NoByteInTwo fs
  pub found : (n : ℕ) → s.found ≡ Some n → J s.held ≡ Sound n

keeps_fresh : (J : List ℕ → Verdict) → Keeps J [] 0 [] fresh
keeps_fresh J = record {
  within = omega arith;
  held = refl;
  few = omega arith;
  clear = λ q h. absurd (omega arith);
  sound = λ a n p. absurd p;
  before = λ f p. absurd p;
  apart = apart_none;
  found = λ n e. cc;
}

-- the same under other names
renamed : {J : List ℕ → Verdict} {xs ys : List ℕ} {a b : ℕ} {fs : List Span} {s t : State} → xs ≡ ys → a ≡ b → s ≡ t → Keeps J xs a fs s → Keeps J ys b fs t
renamed {J = J} {ys = ys} {a = a} {b = b} {fs = fs} {s = s} e f g k =
    subst (λ u. Keeps J ys b fs u) g (subst (λ n. Keeps J ys n fs s) f (subst (λ zs. Keeps J zs a fs s) e k))

module _ {J : List ℕ → Verdict} {L : ℕ} (law : Lawful J L) (small : L ≤ capacity) where
  held_run : (xs : List ℕ) (at : ℕ) (fs : List Span) (s : State) → Run xs → Keeps J xs at fs s → Run s.held
  held_run xs at fs s r k = rw k.held (run_drop at xs r)

  pub held_length : (xs : List ℕ) (at : ℕ) (fs : List Span) (s : State) → Keeps J xs at fs s → length xs ≡ at + length s.held
  held_length xs at fs s k = let e = ap length k.held ∙ length-drop at xs in omega (arith, k.within)

  keeps_fed : (xs ys : List ℕ) (at : ℕ) (fs : List Span) (s : State) → Run (xs ++ ys) → s.ended ≡ false → length (s.held ++ ys) ≤ capacity → Keeps J xs at fs s
      → Keeps J (xs ++ ys) at fs (record { held = s.held ++ ys; found = s.found; ended = s.ended })
  keeps_fed xs ys at fs s r live few k = record {
    within = omega (arith, length-append xs ys, k.within);
    held = ap (λ zs. zs ++ ys) k.held ∙ sym (drop-append-le at xs ys k.within);
    few = few;
    clear = λ q h. ⊎_elim inl (λ c. inr (still q h c)) (k.clear q h);
    sound = λ a n p. sound_more law xs ys a n r (k.sound a n p);
    before = k.before;
    apart = k.apart;
    found = λ n e. law.sound_stays s.held ys n run (k.found n e);
  }
    where
      run : Run (s.held ++ ys)
      run = rw k.held (rw (drop-append-le at xs ys k.within) at (run_drop at (xs ++ ys) r))

      still : (q : ℕ) → q < at → Clear J s.ended (drop q xs) → Clear J s.ended (drop q (xs ++ ys))
      still q h (inl u) = inl (unfit_more law xs ys q (omega (arith, k.within)) r u)
      still q h (inr c) = absurd (both_ways s.ended live c.0)

  -- a find from this state
  abbrev pub finding : State → Search
  finding s = seek_from J s.found s.ended s.held

  pub find_comes : (xs : List ℕ) (at : ℕ) (fs : List Span) (s : State) → Run xs → Keeps J xs at fs s → Searched J L s.ended s.held (finding s)
  find_comes xs at fs s r k = find_searched law small s.found s.ended s.held (held_run xs at fs s r k) k.found

  keeps_found : (xs : List ℕ) (at : ℕ) (fs : List Span) (s : State) → Run xs → Keeps J xs at fs s
      → Keeps J xs (at + (finding s).dropped) fs (record { held = (finding s).held; found = (finding s).found; ended = s.ended })
  keeps_found xs at fs s r k = record {
    within = omega (arith, f.within, held_length xs at fs s k);
    held = f.held ∙ rest (finding s).dropped;
    few = omega (arith, k.few, f.within, ap length f.held, length-drop (finding s).dropped s.held);
    clear = λ q h. ⊎_elim (k.clear q) (λ le. inr (here q h le)) (cases_lt q at);
    sound = k.sound;
    before = λ g p. omega (arith, k.before g p);
    apart = k.apart;
    found = f.found;
  }
    where
      f : Searched J L s.ended s.held (finding s)
      f = find_comes xs at fs s r k

      rest : (i : ℕ) → drop i s.held ≡ drop (at + i) xs
      rest i = ap (drop i) k.held ∙ drop-drop i at xs

      here : (q : ℕ) → q < at + (finding s).dropped → at ≤ q → Clear J s.ended (drop q xs)
      here q h le = subst (λ (x : ℕ). Clear J s.ended (drop x xs)) (omega arith) (rw (rest (q - at)) at (f.clear (q - at) (omega arith)))

  keeps_passed : (xs : List ℕ) (at n : ℕ) (fs : List Span) (s : State) → Run xs → s.found ≡ Some n → Keeps J xs at fs s
      → Keeps J xs (at + n) (span_at at n ∷ fs) (record { held = drop n s.held; found = None; ended = s.ended })
  keeps_passed xs at n fs s r e k = record {
    within = omega (arith, long, size);
    held = ap (drop n) k.held ∙ drop-drop n at xs;
    few = omega (arith, k.few, length-drop n s.held);
    clear = λ q h. ⊎_elim (λ lt. ⊎_elim (λ i. inl (i.0, (inr i.1.0, i.1.1))) inr (k.clear q lt)) (λ le. inl (span_at at n, (inl refl, (le, h)))) (cases_lt q at);
    sound = sound;
    before = before;
    apart = apart_more at n fs k.before k.apart;
    found = λ i q. cc;
  }
    where
      long : length xs ≡ at + length s.held
      long = held_length xs at fs s k

      size : (1 ≤ n) × (n ≤ length s.held) × (n ≤ L)
      size = law.size s.held n (held_run xs at fs s r k) (k.found n e)

      sound : (a i : ℕ) → Among (span_at a i) (span_at at n ∷ fs) → SoundAt J xs a i
      sound a i (inl h) =
          let p : a ≡ at = ap (λ (f : Span). f.start) h in
          let q : i ≡ n = ap (λ (f : Span). f.size) h in
          (omega (arith, long, size), subst (λ x. J x ≡ Sound i) (k.held ∙ ap (λ x. drop x xs) (sym p)) (k.found n e ∙ ap Sound (sym q)))
      sound a i (inr h) = k.sound a i h

      before : (f : Span) → Among f (span_at at n ∷ fs) → f.start + f.size ≤ at + n
      before f (inl h) = omega (arith, ap (λ (f : Span). f.start) h, ap (λ (f : Span). f.size) h)
      before f (inr h) = omega (arith, k.before f h)

  keeps_ended : (xs : List ℕ) (at : ℕ) (fs : List Span) (s : State) → Keeps J xs at fs s → Keeps J xs at fs (record { held = s.held; found = s.found; ended = true })
  keeps_ended xs at fs s k = record {
    within = k.within;
    held = k.held;
    few = k.few;
    clear = λ q h. ⊎_elim inl (λ c. inr (late q c)) (k.clear q h);
    sound = k.sound;
    before = k.before;
    apart = k.apart;
    found = k.found;
  }
    where
      late : (q : ℕ) → Clear J s.ended (drop q xs) → Clear J true (drop q xs)
      late q (inl u) = inl u
      late q (inr c) = inr (refl, c.1)

  abbrev Kept : Record → State → Type 0
  Kept es s = Keeps J (taken es) (place es) (frames es) s

  -- a call that takes, drops and passes nothing
  kept_quiet : (es : Record) (p s : State) → p ≡ s → Kept es p → Keeps J (taken es ++ []) ((passed es + 0) + (dropped es + 0)) (frames es) s
  kept_quiet es p s e k = renamed (sym (append-nil (taken es))) (omega arith) e k

  kept_fed : (es : Record) (p s : State) (bs : List ℕ) (x : Result ℕ LineFault) (b : Bool) → p.ended ≡ b → (feed_outcome b p bs).event ≡ feeds bs x → (feed_outcome b p bs).state ≡ s
      → Run (taken (feeds bs x ∷ es)) → Kept es p → Kept (feeds bs x ∷ es) s
  kept_fed es p s bs (Ok n) true c e f r k = cc
  kept_fed es p s bs (Err x) true c e f r k = kept_quiet es p s f k
  kept_fed es p s bs (Err x) false c e f r k = cc
  kept_fed es p s bs (Ok n) false c e f r k =
      renamed refl (omega arith) (ap (λ m. record { held = p.held ++ take m bs; found = p.found; ended = p.ended }) same ∙ f)
      (keeps_fed (taken es) (take n bs) (place es) (frames es) p r c few k)
    where
      same : n ≡ taking p.held bs
      same = let a = e in cc

      few : length (p.held ++ take n bs) ≤ capacity
      few = omega (arith, length-append p.held (take n bs), length-take n bs, same, k.few)

  kept_passed : (es : Record) (p s : State) (x : Result ℕ LineFault) (o : Option ℕ) → p.found ≡ o → (pass_outcome o p).event ≡ passes x → (pass_outcome o p).state ≡ s
      → Run (taken es) → Kept es p → Kept (passes x ∷ es) s
  kept_passed es p s (Ok n) None c e f r k = cc
  kept_passed es p s (Err x) None c e f r k = kept_quiet es p s f k
  kept_passed es p s (Err x) (Some m) c e f r k = cc
  kept_passed es p s (Ok n) (Some m) c e f r k =
      renamed (sym (append-nil (taken es))) (omega arith) (ap (λ i. record { held = drop i p.held; found = None; ended = p.ended }) same ∙ f)
      (keeps_passed (taken es) (place es) n (frames es) p r (c ∙ ap Some (sym same)) k)
    where
      same : n ≡ m
      same = let a = e in cc

  pub kept : (es : Record) → Answered J es → Run (taken es) → Keeps J (taken es) (place es) (frames es) (replay J (calls_of es))
  kept [] a r = keeps_fresh J
  kept (feeds bs x ∷ es) a r =
      let p = replay J (calls_of es) in
      kept_fed es p _ bs x p.ended refl a.0 refl r (kept es a.1 (run_front (taken es) (taken_by (feeds bs x)) r))
  kept (finds x ∷ es) a r =
      let p = replay J (calls_of es) in
      let run = run_front (taken es) [] r in
      let told : x.dropped ≡ (finding p).dropped = let e = a.0 in cc in
      renamed (sym (append-nil (taken es))) (omega (arith, told)) refl (keeps_found (taken es) (place es) (frames es) p run (kept es a.1 run))
  kept (shows x ∷ es) a r =
      let p = replay J (calls_of es) in
      kept_quiet es p _ refl (kept es a.1 (run_front (taken es) [] r))
  kept (passes x ∷ es) a r =
      let p = replay J (calls_of es) in
      let run = run_front (taken es) [] r in
      kept_passed es p _ x p.found refl a.0 refl run (kept es a.1 run)
  kept (ends ∷ es) a r =
      let p = replay J (calls_of es) in
      renamed (sym (append-nil (taken es))) (omega arith) refl (keeps_ended (taken es) (place es) (frames es) p (kept es a.1 (run_front (taken es) [] r)))
