-- The promise, from what every record keeps.
use Rattle.std.proofs.Common.{◌≡◌, ℕ, ◌+◌, ◌<◌, ◌≤◌, Bool, ◌⊎◌, List, [], ◌∷◌, ◌++◌, length, get_or, take, drop, sym, refl, ap, ◌∙◌, subst, inl, inr, ⊎_elim, arith}
use Rattle.std.proofs.lemmas.List.{length-drop, length-take-le, take-append-drop, get_or-drop, get_or-take, ext_get_or}
use Rattle.std.proofs.lemmas.Bool.{cases_lt}
use Rattle.framing.specs.Laws.{Lawful, Run, Bytes}
use Rattle.framing.specs.declared.verdict.Verdict.{Verdict}
use Rattle.framing.specs.declared.verdict.Verdict.TheVariants.{Sound, Short, Unfit}
use Rattle.receiver.specs.declared.answer.Answer.{Answer}
use Rattle.receiver.specs.declared.answer.Finding.{Finding}
use Rattle.receiver.specs.State.{State, capacity}
use Rattle.receiver.specs.Rule.{Search, Outcome, Event, feeds, finds, shows, passes, ends, call_of, rule, Follows, FollowsAny}
use Rattle.receiver.specs.Record.{Record, replay, calls_of, Answered, taken, taken_by, place, frames, Led}
use Rattle.receiver.specs.Promise.{SoundAt, PassedAt, NoneInside, Agree, Latest, IsWanting, IsOver, Balance, BothPassed, AllPassed, Promise, Promised, Leads, FindLeads}
use Rattle.receiver.proofs.Tails.{Clear, bytes_append, run_drop, run_front, clear_unsound}
use Rattle.receiver.proofs.Stopping.{stops_first}
use Rattle.receiver.proofs.Kept.{Inside, Keeps, kept, held_length, finding, find_comes}
use Rattle.receiver.proofs.Searched.{Searched}

-- two lists that agree as far as both reach: the longer begins with the shorter
begins : (xs ys : List ℕ) → length xs ≤ length ys → ((i : ℕ) → i < length xs → get_or xs i 0 ≡ get_or ys i 0) → ys ≡ xs ++ drop (length xs) ys
begins xs ys le same =
    sym (take-append-drop (length xs) ys) ∙ ap (λ z. z ++ drop (length xs) ys) (ext_get_or 0 (take (length xs) ys) xs long at)
  where
    long : length (take (length xs) ys) ≡ length xs
    long = length-take-le (length xs) ys le

    at : (i : ℕ) → i < length (take (length xs) ys) → get_or (take (length xs) ys) i 0 ≡ get_or xs i 0
    at i h = let lt : i < length xs = omega (arith, long) in get_or-take (length xs) ys i 0 lt ∙ sym (same i lt)

module _ {J : List ℕ → Verdict} {L : ℕ} (law : Lawful J L) (small : L ≤ capacity) where
  -- lists that agree, the second long enough to tell: what is sound for the first is sound for the second
  same_verdict : (xs ys : List ℕ) (n : ℕ) → Run xs → Run ys → L ≤ length ys → ((i : ℕ) → i < length xs → i < length ys → get_or xs i 0 ≡ get_or ys i 0) → J xs ≡ Sound n → J ys ≡ Sound n
  same_verdict xs ys n rx ry ly same s = ⊎_elim (λ h. longer (omega arith)) (λ h. shorter h (J ys) refl) (cases_lt (length xs) (length ys))
    where
      longer : length xs ≤ length ys → J ys ≡ Sound n
      longer le =
          let e = begins xs ys le (λ i h. same i h (omega arith)) in
          subst (λ z. J z ≡ Sound n) (sym e) (law.sound_stays xs (drop (length xs) ys) n (subst Run e ry) s)

      shorter : length ys ≤ length xs → (v : Verdict) → J ys ≡ v → J ys ≡ Sound n
      shorter le (Sound k) q =
          let e = begins ys xs le (λ i h. sym (same i (omega arith) h)) in
          let a = law.sound_stays ys (drop (length ys) xs) k (subst Run e rx) q in
          let b : J xs ≡ Sound k = ap J e ∙ a in cc
      shorter le Unfit q =
          let e = begins ys xs le (λ i h. sym (same i (omega arith) h)) in
          let a = law.unfit_stays ys (drop (length ys) xs) (subst Run e rx) q in
          let b : J xs ≡ Unfit = ap J e ∙ a in cc
      shorter le (Short m) q = let w = law.waiting ys m ry q in absurd (omega arith)

  -- a sound frame of one receiver is one of the other, equally far behind its joint, if that has taken enough to tell
  carried : (xs ys : List ℕ) (j k d n : ℕ) → Run xs → Run ys → Agree xs j ys k → k + d + L ≤ length ys → SoundAt J xs (j + d) n → SoundAt J ys (k + d) n
  carried xs ys j k d n rx ry agree long s =
      (omega (arith, law.range), same_verdict (drop (j + d) xs) (drop (k + d) ys) n (run_drop (j + d) xs rx) (run_drop (k + d) ys ry) (omega (arith, length-drop (k + d) ys)) same s.1)
    where
      same : (i : ℕ) → i < length (drop (j + d) xs) → i < length (drop (k + d) ys) → get_or (drop (j + d) xs) i 0 ≡ get_or (drop (k + d) ys) i 0
      same i a b =
          get_or-drop (j + d) xs i 0 ∙ ap (λ z. get_or xs z 0) (omega arith) ∙ agree (d + i) (omega (arith, length-drop (j + d) xs)) (omega (arith, length-drop (k + d) ys))
          ∙ ap (λ z. get_or ys z 0) (omega arith) ∙ sym (get_or-drop (k + d) ys i 0)

  module _ (es : Record) (answered : Answered J es) (run : Run (taken es)) where
    keeps : Keeps J (taken es) (place es) (frames es) (replay J (calls_of es))
    keeps = kept law small es answered run

    -- A sound frame far enough behind the joint, and before the receiver's place, was passed: else a passed frame lies around
    -- its first byte, and either starts behind the joint, which is excluded, or is longer than the longest.
    was_passed : (j d n : ℕ) → NoneInside J (taken es) j → L ≤ d + 1 → SoundAt J (taken es) (j + d) n → j + d < place es → PassedAt es (j + d) n
    was_passed j d n none far sound lt = by (keeps.clear (j + d) lt)
      where
        by : Inside (frames es) (j + d) ⊎ Clear J (replay J (calls_of es)).ended (drop (j + d) (taken es)) → PassedAt es (j + d) n
        by (inr c) = absurd (clear_unsound law (replay J (calls_of es)).ended (drop (j + d) (taken es)) n c sound.1)
        by (inl (f, (p, (le, gt)))) = ⊎_elim (λ h. absurd (before h (cases_lt f.start j))) here (cases_lt f.start (j + d))
          where
            stood : SoundAt J (taken es) f.start f.size
            stood = keeps.sound f.start f.size p

            before : f.start < j + d → (f.start < j) ⊎ (j ≤ f.start) → ⊥
            before h (inl q) = let z = law.size (drop f.start (taken es)) f.size (run_drop f.start (taken es) run) stood.1 in omega arith
            before h (inr q) = none f.start f.size (j + d) n q (omega arith) stood sound (h, gt)

            here : j + d ≤ f.start → PassedAt es (j + d) n
            here h =
                let e : f.start ≡ j + d = omega arith in
                let t : J (drop (j + d) (taken es)) ≡ Sound f.size = subst (λ x. J (drop x (taken es)) ≡ Sound f.size) e stood.1 in
                let u = sound.1 in
                let m : f.size ≡ n = cc in
                subst (λ x. PassedAt es (j + d) x) m (subst (λ x. PassedAt es x f.size) e p)

    balanced : Balance J es
    balanced = record { sums = held_length law small (taken es) (place es) (frames es) (replay J (calls_of es)) keeps; rest = keeps.held; few = keeps.few; sound = keeps.sound; apart = keeps.apart }

  -- what a latest find went by
  latest_find : (P : Answer → Type 0) (es : Record) → Answered J es → Run (taken es) → Latest P es
      → (ended : Bool) × (xs : List ℕ) × (f : Search) × Searched J L ended xs f × P f.answer × ((replay J (calls_of es)).held ≡ f.held)
  latest_find P [] a r w = absurd w
  latest_find P (feeds bs x ∷ es) a r w = absurd w
  latest_find P (finds x ∷ es) a r w =
      let p = replay J (calls_of es) in
      let run = run_front (taken es) [] r in
      let told : x.answer ≡ (finding law small p).answer = let e = a.0 in cc in
      (p.ended, p.held, finding law small p, find_comes law small (taken es) (place es) (frames es) p run (kept law small es a.1 run), subst P told w, refl)
  latest_find P (shows x ∷ es) a r w = absurd w
  latest_find P (passes x ∷ es) a r w = absurd w
  latest_find P (ends ∷ es) a r w = absurd w

  -- what its answer tells of the held bytes
  held_wanting : (es : Record) → Answered J es → Run (taken es) → Latest IsWanting es → length (replay J (calls_of es)).held < L
  held_wanting es a r w = let (ended, xs, f, s, v, e) = latest_find IsWanting es a r w in rw e (s.wanting v.0 v.1)

  held_over : (es : Record) → Answered J es → Run (taken es) → Latest IsOver es → length (replay J (calls_of es)).held ≡ 0
  held_over es a r w = let (ended, xs, f, s, v, e) = latest_find IsOver es a r w in rw e (s.over v)

  all_passed : (es : Record) → Answered J es → Run (taken es) → AllPassed J L es
  all_passed es a r j none over d n far sound =
      was_passed es a r j d n none far sound (omega (arith, (balanced es a r).sums, held_over es a r over, sound.0))

  both_passed : (es fs : Record) → Answered J es → Run (taken es) → Answered J fs → Run (taken fs) → BothPassed J L es fs
  both_passed es fs ae re af rf j k agree ne nf we wf d n far le lf sound = (
    was_passed es ae re j d n ne far sounds.0 (omega (arith, (balanced es ae re).sums, held_wanting es ae re we)),
    was_passed fs af rf k d n nf far sounds.1 (omega (arith, (balanced fs af rf).sums, held_wanting fs af rf wf)),
  )
    where
      sounds : SoundAt J (taken es) (j + d) n × SoundAt J (taken fs) (k + d) n
      sounds = ⊎_elim
          (λ h. (h, carried (taken es) (taken fs) j k d n re rf agree lf h))
          (λ h. (carried (taken fs) (taken es) k j d n rf re (λ i a b. sym (agree i b a)) le h, h)) sound

  -- a record that the rule led has the promise
  pub has_promise : (es : Record) (s : State) → Led J es s → Promise J L es s
  has_promise es s l = record {
    led = l;
    balance = balanced es l.answered l.run;
    over = all_passed es l.answered l.run;
    space = held_wanting es l.answered l.run;
    wanting = λ fs t q. both_passed es fs l.answered l.run q.answered q.run;
  }

  -- one call more, by the rule
  pub promised : (s t : State) (e : Event) → Follows J s e t → Bytes (taken_by e) → Promised J L s e t
  promised s t e by octets es l few = has_promise (e ∷ es) t (record {
    answered = (ap (λ (p : State). (rule J p (call_of e)).event) l.left ∙ ap (λ (o : Outcome). o.event) by, l.answered);
    left = ap (λ (p : State). (rule J p (call_of e)).state) l.left ∙ ap (λ (o : Outcome). o.state) by;
    run = (bytes_append (taken es) (taken_by e) l.run.0 octets, few);
  })

pub leads : (s t : State) (e : Event) → Bytes (taken_by e) → FollowsAny s e t → Leads s e t
leads s t e octets by = record { rule = by; promise = λ J L law small. promised law small s t e (by J) octets }

-- a call that takes nothing
pub leads_quiet : (s t : State) (e : Event) → taken_by e ≡ [] → FollowsAny s e t → Leads s e t
leads_quiet s t e none by = leads s t e (rw none no_bytes) by
  where
    no_bytes : Bytes []
    no_bytes k = omega arith

pub find_leads : {J : List ℕ → Verdict} {L : ℕ} (law : Lawful J L) (s t : State) (r : Finding) → Follows J s (finds r) t → FindLeads J L s r t
find_leads {J = J} law s t r by = record { rule = by; first = stops_first J s r t by; promise = λ small. promised law small s t (finds r) by (λ k. omega arith) }
