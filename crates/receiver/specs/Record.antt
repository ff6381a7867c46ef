-- A receiver's record: its calls with their arguments and answers, refused ones too; and what follows from that alone.
use Rattle.std.specs.Prelude.{◌≡◌, ℕ, ◌+◌, List, [], ◌∷◌, ◌++◌, map, take, Ok, Err}
use Rattle.framing.specs.Laws.{Run}
use Rattle.framing.specs.declared.verdict.Verdict.{Verdict}
use Rattle.receiver.specs.State.{State, fresh}
use Rattle.receiver.specs.Rule.{Call, Event, feeds, finds, shows, passes, ends, call_of, rule}

-- the newest call first
abbrev pub Record : Type 0
Record = List Event

-- the calls alone
abbrev pub calls_of : Record → List Call
calls_of es = map call_of es

-- what the rule leaves when it is carried out on the calls' arguments, from a new receiver on
abbrev pub replay : (List ℕ → Verdict) → List Call → State
replay judged [] = fresh
replay judged (c ∷ cs) = (rule judged (replay judged cs) c).state

-- the bytes that the rule leaves held
abbrev pub held : (List ℕ → Verdict) → Record → List ℕ
held judged es = (replay judged (calls_of es)).held

-- each call was answered as the rule answers it on the same calls
abbrev pub Answered : (List ℕ → Verdict) → Record → Type 0
Answered judged [] = Unit {0}
Answered judged (e ∷ es) = ((rule judged (replay judged (calls_of es)) (call_of e)).event ≡ e) × Answered judged es

-- the bytes that a call took: the leading ones that a feed answered for
abbrev pub taken_by : Event → List ℕ
taken_by (feeds bs (Ok n)) = take n bs
taken_by (feeds bs (Err f)) = []
taken_by (finds r) = []
taken_by (shows r) = []
taken_by (passes r) = []
taken_by ends = []

-- how many bytes a call dropped: what a find told
abbrev pub dropped_by : Event → ℕ
dropped_by (feeds bs r) = 0
dropped_by (finds r) = r.dropped
dropped_by (shows r) = 0
dropped_by (passes r) = 0
dropped_by ends = 0

-- how many bytes a call passed: what a pass answered
abbrev pub passed_by : Event → ℕ
passed_by (feeds bs r) = 0
passed_by (finds r) = 0
passed_by (shows r) = 0
passed_by (passes (Ok n)) = n
passed_by (passes (Err f)) = 0
passed_by ends = 0

abbrev pub taken : Record → List ℕ
taken [] = []
taken (e ∷ es) = taken es ++ taken_by e

abbrev pub dropped : Record → ℕ
dropped [] = 0
dropped (e ∷ es) = dropped es + dropped_by e

abbrev pub passed : Record → ℕ
passed [] = 0
passed (e ∷ es) = passed es + passed_by e

-- how many taken bytes have left, passed or dropped: the next one to leave stands here
abbrev pub place : Record → ℕ
place es = passed es + dropped es

-- some of the taken bytes: `size` of them from `start` on
pub record Span : Type 0 where
  pub start : ℕ
  pub size : ℕ

abbrev pub span_at : ℕ → ℕ → Span
span_at start size = record { start = start; size = size }

-- the frame that a call passed, at this place: the bytes that follow all those passed and dropped before
abbrev pub frames_by : ℕ → Event → List Span
frames_by at (feeds bs r) = []
frames_by at (finds r) = []
frames_by at (shows r) = []
frames_by at (passes (Ok n)) = span_at at n ∷ []
frames_by at (passes (Err f)) = []
frames_by at ends = []

-- the passed frames, by where they stand in the taken bytes, the latest first
abbrev pub frames : Record → List Span
frames [] = []
frames (e ∷ es) = frames_by (place es) e ++ frames es

-- The record led from a new receiver to this state: its calls were answered by the rule, which leaves that state; and it took
-- bytes, fewer than 2 ^ 63.
pub record Led (judged : List ℕ → Verdict) (es : Record) (s : State) : Type 0 where
  pub answered : Answered judged es
  pub left : replay judged (calls_of es) ≡ s
  pub run : Run (taken es)
