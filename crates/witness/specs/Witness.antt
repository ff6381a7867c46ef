-- The premises at records over PD0 ensembles.
use Rattle.std.specs.Prelude.{ℕ, ◌+◌, true, [], None}
use Rattle.pd0.specs.Questions.{longest_size}
use Rattle.pd0.specs.Verdicts.{judged_run}
use Rattle.receiver.specs.State.{State, fresh}
use Rattle.receiver.specs.Record.{Record}
use Rattle.receiver.specs.Promise.{PassedAt}
use Rattle.witness.specs.Premises.{BothPremises, OverPremises}
use Rattle.witness.specs.Records.{first_record, second_record, third_record, ended_record, first_joint, second_joint, third_joint}

-- holds nothing, and has ended
abbrev pub drained : State
drained = record { held = []; found = None; ended = true }

-- they all hold at once of the first record and another, for a longest ensemble d bytes behind the joints
abbrev pub BothWith : Record → ℕ → ℕ → Type 0
BothWith fs k d = BothPremises judged_run longest_size first_record fresh fs fresh first_joint k d longest_size

-- with a false start before the joint, and with a frame across it
abbrev pub BothMet : ℕ → Type 0
BothMet d = BothWith second_record second_joint d × BothWith third_record third_joint d

-- and of the ended one
abbrev pub OverMet : ℕ → Type 0
OverMet d = OverPremises judged_run longest_size ended_record drained first_joint d longest_size

-- the ensemble was passed in each record
abbrev pub AllHavePassed : ℕ → Type 0
AllHavePassed d =
    PassedAt first_record (first_joint + d) longest_size × PassedAt second_record (second_joint + d) longest_size
    × PassedAt third_record (third_joint + d) longest_size × PassedAt ended_record (first_joint + d) longest_size

-- The ensemble right behind the joint was not: the frame across the joint costs the third receiver that one.
abbrev pub OverlapCosts : Type 0
OverlapCosts =
    PassedAt first_record first_joint longest_size × PassedAt third_record 0 202 × (PassedAt third_record third_joint longest_size → ⊥)
