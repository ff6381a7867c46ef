-- The premises, mostly by computing.
use Rattle.std.proofs.Common.{◌≡◌, ℕ, ◌+◌, ◌≤◌, [], ◌∷◌, length, drop, refl, ap, inl, inr, arith}
use Rattle.framing.specs.Laws.{Lawful, Run}
use Rattle.pd0.specs.Questions.{longest_size, questions}
use Rattle.pd0.specs.Verdicts.{judged_run, fit, whole}
use Rattle.receiver.specs.State.{fresh}
use Rattle.receiver.specs.Record.{Record, Span, taken, Led}
use Rattle.receiver.specs.Promise.{NoneInside, PassedAt, Latest, IsWanting}
use Rattle.receiver.proofs.Promises.{has_promise}
use Rattle.witness.specs.Premises.{BothEnough, OverEnough}
use Rattle.witness.specs.Records.{first_record, second_record, third_record, ended_record, first_joint, second_joint, third_joint}
use Rattle.witness.specs.Witness.{drained, BothWith, BothMet, OverMet, OverlapCosts}
use Rattle.witness.proofs.Marks.{bytes_from, agree_from, marks_from, none_inside}

first_run : Run (taken first_record)
first_run = (bytes_from (taken first_record) refl, omega arith)

first_led : Led judged_run first_record fresh
unfolding fit whole questions
first_led = record { answered = (refl, (refl, (refl, (refl, (refl, (refl, (refl, (refl, tt)))))))); left = refl; run = first_run }

second_led : Led judged_run second_record fresh
unfolding fit whole questions
second_led = record {
  answered = (refl, (refl, (refl, (refl, (refl, (refl, (refl, (refl, tt))))))));
  left = refl;
  run = (bytes_from (taken second_record) refl, omega arith);
}

third_led : Led judged_run third_record fresh
unfolding fit whole questions
third_led = record {
  answered = (refl, (refl, (refl, (refl, (refl, (refl, (refl, (refl, (refl, tt)))))))));
  left = refl;
  run = (bytes_from (taken third_record) refl, omega arith);
}

ended_led : Led judged_run ended_record drained
unfolding fit whole questions
ended_led = record { answered = (refl, (refl, (refl, first_led.answered))); left = refl; run = first_run }

first_none : NoneInside judged_run (taken first_record) first_joint
first_none = none_inside (taken first_record) first_joint refl

-- what is left to see of a record beside the first
both_with : (fs : Record) (k : ℕ) → Lawful judged_run longest_size → Led judged_run fs fresh → drop 0 (taken first_record) ≡ drop k (taken fs)
    → marks_from k (drop k (taken fs)) ≡ k ∷ (k + longest_size) ∷ [] → Latest IsWanting fs → k + 4096 + longest_size ≤ length (taken fs) → BothWith fs k 4096
unfolding fit whole questions
both_with fs k law led same two wanting long = record {
  lawful = law;
  small = omega arith;
  first_led = first_led;
  second_led = led;
  agree = agree_from (taken first_record) (taken fs) first_joint k same;
  first_none = first_none;
  second_none = none_inside (taken fs) k two;
  first_wanting = (1, refl);
  second_wanting = wanting;
  far = omega arith;
  first_long = omega arith;
  second_long = long;
  sound = inl (omega arith, refl);
}

pub both_met : Lawful judged_run longest_size → BothMet 4096
both_met law = (
  both_with second_record second_joint law second_led refl refl (1, refl) (omega arith),
  both_with third_record third_joint law third_led refl refl (1, refl) (omega arith),
)

pub over_met : Lawful judged_run longest_size → OverMet 4096
unfolding fit whole questions
over_met law = record {
  lawful = law;
  small = omega arith;
  led = ended_led;
  none = first_none;
  over = refl;
  far = omega arith;
  sound = (omega arith, refl);
}

pub overlap_costs : OverlapCosts
overlap_costs = (inr (inl refl), inr (inl refl), lost)
  where
    lost : PassedAt third_record third_joint longest_size → ⊥
    lost (inl e) = omega (arith, ap (λ (f : Span). f.start) e)
    lost (inr (inl e)) = omega (arith, ap (λ (f : Span). f.start) e)
    lost (inr (inr e)) = e

pub both_enough : BothEnough
both_enough judged longest es s fs t j k d n p = (
  has_promise p.lawful p.small es s p.first_led,
  λ q.
      q.wanting fs t p.second_led j k p.agree p.first_none p.second_none p.first_wanting p.second_wanting d n
      p.far p.first_long p.second_long p.sound,
)

pub over_enough : OverEnough
over_enough judged longest es s j d n p = (
  has_promise p.lawful p.small es s p.led,
  λ q. q.over j p.none p.over d n p.far p.sound,
)
