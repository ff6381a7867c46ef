-- What is promised of a receiver, over whole records: no byte is lost or counted twice, and damage dies out.
use Rattle.std.specs.Prelude.{◌≡◌, ℕ, ◌+◌, ◌^◌, ◌<◌, ◌≤◌, ◌⊎◌, List, [], ◌∷◌, length, drop, slice_index, slice_index_or}
use Rattle.framing.specs.Laws.{Lawful}
use Rattle.framing.specs.declared.verdict.Verdict.{Verdict}
use Rattle.framing.specs.declared.verdict.Verdict.TheVariants.{Sound}
use Rattle.receiver.specs.declared.answer.Answer.{Answer}
use Rattle.receiver.specs.declared.answer.Answer.TheVariants.{Wanting, Over}
use Rattle.receiver.specs.declared.answer.Finding.{Finding}
use Rattle.receiver.specs.State.{State, capacity}
use Rattle.receiver.specs.Rule.{Event, feeds, finds, shows, passes, ends, Follows, FollowsAny, StopsFirst}
use Rattle.receiver.specs.Record.{Record, Span, span_at, taken, dropped, passed, held, frames, Led}

-- A sound frame of n bytes starts at this taken byte: the verdict on all bytes taken from there on is sound n.
abbrev pub SoundAt : (List ℕ → Verdict) → List ℕ → ℕ → ℕ → Type 0
SoundAt judged bytes at n = (at < length bytes) × (judged (drop at bytes) ≡ Sound n)

-- the frame is one of these
abbrev pub Among : Span → List Span → Type 0
Among f [] = ⊥
Among f (g ∷ gs) = (f ≡ g) ⊎ Among f gs

-- n bytes from this place on were passed as a frame
abbrev pub PassedAt : Record → ℕ → ℕ → Type 0
PassedAt es at n = Among (span_at at n) (frames es)

-- the byte at k lies in the frame
abbrev pub Holds : Span → ℕ → Type 0
Holds f k = (f.start ≤ k) × (k < f.start + f.size)

-- no byte lies in two of the frames, by their numbers in the list
abbrev pub NoByteInTwo : List Span → Type 0
NoByteInTwo fs = (i j k : ℕ) → i < j → j < length fs → Holds (slice_index_or fs i (span_at 0 0)) k → Holds (slice_index_or fs j (span_at 0 0)) k → ⊥

-- What holds of a record at every moment.
pub record Balance (judged : List ℕ → Verdict) (es : Record) : Type 0 where
  -- taken = passed + dropped + held
  pub sums : length (taken es) ≡ passed es + dropped es + length (held judged es)
  -- what is held are the taken bytes behind those that have left
  pub rest : held judged es ≡ drop (passed es + dropped es) (taken es)
  -- no more is held than can be
  pub few : length (held judged es) ≤ capacity
  -- each passed frame is sound where it stands: it was when it was passed, at which moment this held, too
  pub sound : (at n : ℕ) → PassedAt es at n → SoundAt judged (taken es) at n
  pub apart : NoByteInTwo (frames es)

-- One frame starts inside another, of n bytes from s on: its first byte is a later byte of the other.
abbrev pub StartsInside : ℕ → ℕ → ℕ → Type 0
StartsInside t s n = (s < t) × (t < s + n)

-- Behind the joint no sound frame starts inside another there. A joint is a number of taken bytes: the byte after it stands 0
-- bytes behind it.
abbrev pub NoneInside : (List ℕ → Verdict) → List ℕ → ℕ → Type 0
NoneInside judged bytes joint =
    (s n t m : ℕ) → joint ≤ s → joint ≤ t → SoundAt judged bytes s n → SoundAt judged bytes t m → StartsInside t s n → ⊥

-- the bytes equally far behind the two joints are equal, as far as both reach
abbrev pub Agree : List ℕ → ℕ → List ℕ → ℕ → Type 0
Agree xs j ys k = (d : ℕ) → j + d < length xs → k + d < length ys → slice_index xs (j + d) ≡ slice_index ys (k + d)

-- the latest call is a find, and its answer is such a one
abbrev pub Latest : (Answer → Type 0) → Record → Type 0
Latest P [] = ⊥
Latest P (feeds bs r ∷ es) = ⊥
Latest P (finds r ∷ es) = P r.answer
Latest P (shows r ∷ es) = ⊥
Latest P (passes r ∷ es) = ⊥
Latest P (ends ∷ es) = ⊥

abbrev pub IsWanting : Answer → Type 0
IsWanting a = (m : ℕ) × (a ≡ Wanting m)

abbrev pub IsOver : Answer → Type 0
IsOver a = a ≡ Over

-- d bytes behind the joint is far enough: at least longest - 1
abbrev pub Far : ℕ → ℕ → Type 0
Far longest d = longest ≤ d + 1

-- Two receivers, the latest call of each a find that wants more, have both passed every sound frame of either that starts far
-- enough behind the joint, if both have taken longest bytes from its start: each has passed one of that length, equally far
-- behind its joint.
abbrev pub BothPassed : (List ℕ → Verdict) → ℕ → Record → Record → Type 0
BothPassed judged longest es fs =
    (j k : ℕ) → Agree (taken es) j (taken fs) k → NoneInside judged (taken es) j → NoneInside judged (taken fs) k
    → Latest IsWanting es → Latest IsWanting fs
    → (d n : ℕ) → Far longest d → j + d + longest ≤ length (taken es) → k + d + longest ≤ length (taken fs)
    → SoundAt judged (taken es) (j + d) n ⊎ SoundAt judged (taken fs) (k + d) n
    → PassedAt es (j + d) n × PassedAt fs (k + d) n

-- A receiver whose latest call is a find that says that it is over has passed every sound frame of its own that starts far
-- enough behind the joint.
abbrev pub AllPassed : (List ℕ → Verdict) → ℕ → Record → Type 0
AllPassed judged longest es =
    (j : ℕ) → NoneInside judged (taken es) j → Latest IsOver es
    → (d n : ℕ) → Far longest d → SoundAt judged (taken es) (j + d) n → PassedAt es (j + d) n

-- The whole promise of a record: alone, and beside any other record under the same framing.
pub record Promise (judged : List ℕ → Verdict) (longest : ℕ) (es : Record) (s : State) : Type 0 where
  -- each call was answered as the rule answers it on the same calls, and the rule leaves this state
  pub led : Led judged es s
  pub balance : Balance judged es
  -- of a receiver that is over
  pub over : AllPassed judged longest es
  -- of a receiver that wants more: it has space, for it holds fewer bytes than longest
  pub space : Latest IsWanting es → length (held judged es) < longest
  -- and beside any other
  pub wanting : (fs : Record) (t : State) → Led judged fs t → BothPassed judged longest es fs

-- A call that takes a receiver from the first state to the second: for every record that led to the first, the record with
-- this call added leads to the second and has the promise, if fewer than 2 ^ 63 bytes were taken.
abbrev pub Promised : (List ℕ → Verdict) → ℕ → State → Event → State → Type 0
Promised judged longest s e t =
    (es : Record) → Led judged es s → length (taken (e ∷ es)) < 2 ^ 63 → Promise judged longest (e ∷ es) t

-- the same of a call that asks no framing: whatever lawful framing the finds name, with a longest that can be held
abbrev pub PromisedAny : State → Event → State → Type 0
PromisedAny s e t =
    (judged : List ℕ → Verdict) (longest : ℕ) → Lawful judged longest → longest ≤ capacity → Promised judged longest s e t

-- A call that asks no framing leads from the first state to the second: by the rule, and with the promise.
pub record Leads (s : State) (e : Event) (t : State) : Type 0 where
  pub rule : FollowsAny s e t
  pub promise : PromisedAny s e t

-- A find by this framing leads from the first state to the second: by the rule, as told with no repetition, and with the
-- promise where a longest frame can be held.
pub record FindLeads (judged : List ℕ → Verdict) (longest : ℕ) (s : State) (r : Finding) (t : State) : Type 0 where
  pub rule : Follows judged s (finds r) t
  pub first : StopsFirst judged s r t
  pub promise : longest ≤ capacity → Promised judged longest s (finds r) t

-- a new receiver: the record with no call
abbrev pub PromisedNew : State → Type 0
PromisedNew s =
    (judged : List ℕ → Verdict) (longest : ℕ) → Lawful judged longest → longest ≤ capacity → Promise judged longest [] s
