-- The reading rule: what each call answers, and what is held then. `judged` is the meaning of the framing that find names.
use Rattle.std.specs.Prelude.{◌≡◌, ℕ, ◌+◌, ◌-◌, ◌<◌, ◌≤◌, min, Bool, true, false, cond, ◌⊎◌, List, [], ◌∷◌, ◌++◌, length, take, drop, Some, None, Ok, Err, Option, Result, ◌==◌, nat_le}
use Rattle.faults.specs.declared.line.LineFault.{LineFault}
use Rattle.faults.specs.declared.line.LineFault.TheVariants.{Ended, NoFrame}
use Rattle.framing.specs.declared.verdict.Verdict.{Verdict}
use Rattle.framing.specs.declared.verdict.Verdict.TheVariants.{Sound, Short, Unfit}
use Rattle.receiver.specs.declared.answer.Answer.{Answer}
use Rattle.receiver.specs.declared.answer.Answer.TheVariants.{Wanting, Frame}
use Rattle.receiver.specs.declared.answer.Answer.TheVariants as answers
use Rattle.receiver.specs.declared.answer.Finding.{Finding}
use Rattle.receiver.specs.declared.receiver.find.Turn.{Turn}
use Rattle.receiver.specs.declared.receiver.find.Turn.TheVariants as turns
use Rattle.receiver.specs.State.{State, capacity}

-- the five calls with their arguments; find's framing is the same in all of them
pub data Call : Type 0 where
  call_feed : List ℕ → Call
  call_find : Call
  call_frame : Call
  call_pass : Call
  call_end : Call

-- a call with its argument and its answer
pub data Event : Type 0 where
  feeds : List ℕ → Result ℕ LineFault → Event
  finds : Finding → Event
  shows : Result (List ℕ) LineFault → Event
  passes : Result ℕ LineFault → Event
  ends : Event

-- the call alone
abbrev pub call_of : Event → Call
call_of (feeds bs r) = call_feed bs
call_of (finds r) = call_find
call_of (shows r) = call_frame
call_of (passes r) = call_pass
call_of ends = call_end

-- what a call comes to: it with its answer, and what the receiver holds then
pub record Outcome : Type 0 where
  pub event : Event
  pub state : State

abbrev pub comes : Event → State → Outcome
comes e s = record { event = e; state = s }

-- The verdict that find goes by. None is asked for where a frame is found already, or where nothing is held.
abbrev pub consulted : (List ℕ → Verdict) → Option ℕ → List ℕ → Option Verdict
consulted judged (Some n) held = None
consulted judged None held = cond (length held == 0) None (Some (judged held))

-- Keep, drop or wait, by found, ended and the verdict together:
-- a frame is kept; with nothing held there is a wait for one byte, or it is over; a run that is short is waited for, where
-- bytes may still come and the wanted number can be held; any other front byte is dropped, and that byte alone.
abbrev pub turn_by : Option ℕ → Bool → Option Verdict → Turn
turn_by (Some n) ended verdict = turns.Keep n
turn_by None true None = turns.Over
turn_by None false None = turns.Wait 1
turn_by None ended (Some (Sound n)) = turns.Keep n
turn_by None ended (Some Unfit) = turns.Drop 1
turn_by None true (Some (Short m)) = turns.Drop 1
turn_by None false (Some (Short m)) = cond (nat_le m capacity) (turns.Wait m) (turns.Drop 1)

-- the turn at this state
abbrev pub turn_of : (List ℕ → Verdict) → State → Turn
turn_of judged s = turn_by s.found s.ended (consulted judged s.found s.held)

-- what find comes to: the answer, how many bytes it drops, what is held then, and the frame found there
pub record Search : Type 0 where
  pub answer : Answer
  pub dropped : ℕ
  pub held : List ℕ
  pub found : Option ℕ

abbrev pub stop : Answer → List ℕ → Option ℕ → Search
stop a held found = record { answer = a; dropped = 0; held = held; found = found }

-- a search that goes on behind k dropped bytes
abbrev pub behind : ℕ → Search → Search
behind k s = record { answer = s.answer; dropped = k + s.dropped; held = s.held; found = s.found }

-- by the turn at the held bytes; `rest` is what the search comes to behind the front byte, the one that a turn drops
abbrev pub follow : Turn → List ℕ → Search → Search
follow (turns.Keep n) held rest = stop (Frame n) held (Some n)
follow (turns.Wait m) held rest = stop (Wanting m) held None
follow turns.Over held rest = stop answers.Over held None
follow (turns.Drop k) held rest = behind k rest

-- the turn at these bytes, with no frame found yet
abbrev pub turn_at : (List ℕ → Verdict) → Bool → List ℕ → Turn
turn_at judged ended held = turn_by None ended (consulted judged None held)

-- turn by turn, from the front on
abbrev pub seek : (List ℕ → Verdict) → Bool → List ℕ → Search
seek judged ended [] = follow (turn_at judged ended []) [] (stop answers.Over [] None)
seek judged ended (b ∷ bs) = follow (turn_at judged ended (b ∷ bs)) (b ∷ bs) (seek judged ended bs)

-- a frame that is found already is answered again
abbrev pub seek_from : (List ℕ → Verdict) → Option ℕ → Bool → List ℕ → Search
seek_from judged (Some n) ended held = stop (Frame n) held (Some n)
seek_from judged None ended held = seek judged ended held

-- how many leading bytes a feed takes: those for which there is space
abbrev pub taking : List ℕ → List ℕ → ℕ
taking held bs = min (length bs) (capacity - length held)

abbrev pub feed_outcome : Bool → State → List ℕ → Outcome
feed_outcome true s bs = comes (feeds bs (Err Ended)) s
feed_outcome false s bs =
    comes (feeds bs (Ok (taking s.held bs)))
    (record { held = s.held ++ take (taking s.held bs) bs; found = s.found; ended = s.ended })

abbrev pub find_outcome : Search → Bool → Outcome
find_outcome f ended =
    comes (finds (record { answer = f.answer; dropped = f.dropped })) (record { held = f.held; found = f.found; ended = ended })

-- the found frame of these held bytes
abbrev pub found_frame : Option ℕ → List ℕ → Result (List ℕ) LineFault
found_frame None held = Err NoFrame
found_frame (Some n) held = Ok (take n held)

abbrev pub pass_outcome : Option ℕ → State → Outcome
pass_outcome None s = comes (passes (Err NoFrame)) s
pass_outcome (Some n) s = comes (passes (Ok n)) (record { held = drop n s.held; found = None; ended = s.ended })

-- The rule, call by call.
abbrev pub rule : (List ℕ → Verdict) → State → Call → Outcome
rule judged s (call_feed bs) = feed_outcome s.ended s bs
rule judged s call_find = find_outcome (seek_from judged s.found s.ended s.held) s.ended
rule judged s call_frame = comes (shows (found_frame s.found s.held)) s
rule judged s call_pass = pass_outcome s.found s
rule judged s call_end = comes ends (record { held = s.held; found = s.found; ended = true })

-- The call of this event takes a receiver from the first state to the second, with the event's answer, by the rule.
abbrev pub Follows : (List ℕ → Verdict) → State → Event → State → Type 0
Follows judged s e t = rule judged s (call_of e) ≡ comes e t

-- the same of a call that asks no framing: whatever framing the finds name
abbrev pub FollowsAny : State → Event → State → Type 0
FollowsAny s e t = (judged : List ℕ → Verdict) → Follows judged s e t

-- No frame can come of these bytes: they are unfit, or short where nothing more comes or too much is wanted.
abbrev pub NoStart : (List ℕ → Verdict) → Bool → List ℕ → Type 0
NoStart judged ended xs =
    (judged xs ≡ Unfit) ⊎ ((m : ℕ) × ((judged xs ≡ Short m) × ((ended ≡ true) ⊎ (capacity < m))))

-- What each answer of a find says, of the state before it and the state after it:
-- frame n: that frame is found; it was found before, or the held bytes are sound with it;
-- wanting m: bytes may still come; nothing is held and one byte is wanted, or the held bytes are short m, which can be held;
-- over: no more bytes come, and nothing is held.
abbrev pub Says : (List ℕ → Verdict) → State → State → Answer → Type 0
Says judged s t (Frame n) =
    (t.found ≡ Some n) × ((s.found ≡ Some n) ⊎ ((s.found ≡ None) × (0 < length t.held) × (judged t.held ≡ Sound n)))
Says judged s t (Wanting m) =
    (s.found ≡ None) × (t.found ≡ None) × (s.ended ≡ false) × (m ≤ capacity)
    × (((length t.held ≡ 0) × (m ≡ 1)) ⊎ ((0 < length t.held) × (judged t.held ≡ Short m)))
Says judged s t answers.Over = (s.found ≡ None) × (t.found ≡ None) × (s.ended ≡ true) × (length t.held ≡ 0)

-- What a find comes to, with no repetition in it: it drops bytes of which no frame can come, each judged with all held bytes
-- behind it, keeps the others, and its answer says what is so then.
pub record StopsFirst (judged : List ℕ → Verdict) (s : State) (r : Finding) (t : State) : Type 0 where
  pub within : r.dropped ≤ length s.held
  pub rest : t.held ≡ drop r.dropped s.held
  pub ended : t.ended ≡ s.ended
  -- with a frame found nothing is dropped
  pub kept : (n : ℕ) → s.found ≡ Some n → r.dropped ≡ 0
  pub dropped : (i : ℕ) → i < r.dropped → NoStart judged s.ended (drop i s.held)
  pub says : Says judged s t r.answer
