-- All that the promise of a receiver asks for, with a name for each premise.
use Rattle.std.specs.Prelude.{ℕ, ◌+◌, ◌≤◌, ◌⊎◌, List, length}
use Rattle.framing.specs.Laws.{Lawful}
use Rattle.framing.specs.declared.verdict.Verdict.{Verdict}
use Rattle.receiver.specs.State.{State, capacity}
use Rattle.receiver.specs.Record.{Record, taken, Led}
use Rattle.receiver.specs.Promise.{SoundAt, PassedAt, NoneInside, Agree, Latest, IsWanting, IsOver, Far, Promise}

-- of two receivers that want more, with joints j and k, for a frame of n bytes that starts d bytes behind the joints
pub record BothPremises (judged : List ℕ → Verdict) (longest : ℕ) (es : Record) (s : State) (fs : Record) (t : State) (j k d n : ℕ) : Type 0 where
  pub lawful : Lawful judged longest
  pub small : longest ≤ capacity
  pub first_led : Led judged es s
  pub second_led : Led judged fs t
  pub agree : Agree (taken es) j (taken fs) k
  pub first_none : NoneInside judged (taken es) j
  pub second_none : NoneInside judged (taken fs) k
  pub first_wanting : Latest IsWanting es
  pub second_wanting : Latest IsWanting fs
  pub far : Far longest d
  pub first_long : j + d + longest ≤ length (taken es)
  pub second_long : k + d + longest ≤ length (taken fs)
  pub sound : SoundAt judged (taken es) (j + d) n ⊎ SoundAt judged (taken fs) (k + d) n

-- of a receiver that is over, with joint j
pub record OverPremises (judged : List ℕ → Verdict) (longest : ℕ) (es : Record) (s : State) (j d n : ℕ) : Type 0 where
  pub lawful : Lawful judged longest
  pub small : longest ≤ capacity
  pub led : Led judged es s
  pub none : NoneInside judged (taken es) j
  pub over : Latest IsOver es
  pub far : Far longest d
  pub sound : SoundAt judged (taken es) (j + d) n

-- No premise is left out: with them a record has the promise, and by that the frame was passed.
abbrev pub BothEnough : Type 0
BothEnough =
    (judged : List ℕ → Verdict) (longest : ℕ) (es : Record) (s : State) (fs : Record) (t : State) (j k d n : ℕ)
    → BothPremises judged longest es s fs t j k d n
    → Promise judged longest es s × (Promise judged longest es s → PassedAt es (j + d) n × PassedAt fs (k + d) n)

abbrev pub OverEnough : Type 0
OverEnough =
    (judged : List ℕ → Verdict) (longest : ℕ) (es : Record) (s : State) (j d n : ℕ)
    → OverPremises judged longest es s j d n
    → Promise judged longest es s × (Promise judged longest es s → PassedAt es (j + d) n)
