-- The header of an ensemble is seen in its six bytes, and tells at most the longest size.
use Rattle.std.specs.Prelude.{◌≡◌, ℕ, ◌+◌, ◌<◌, ◌≤◌, true, false, List, ◌++◌, map, length, take, drop, Some, ◌==◌, nat_eq, nat_le}
use Rattle.std.proofs.Common.{sym, ap, subst, ◌∙◌, arith}
use Rattle.std.proofs.lemmas.Bool.{le-leb, ne_eqb}
use Rattle.std.proofs.lemmas.Bool.Decides.{nat_tests}
use Rattle.std.proofs.lemmas.List.{get_or_append_left, length-append, length-take-le, take-append-drop}
use Rattle.faults.proofs.Asked.{refused_at}
use Rattle.faults.specs.declared.frame.FrameFault.TheVariants.{Length}
use Rattle.faults.specs.declared.section.SectionFault.TheVariants.{InFrame}
use Rattle.faults.specs.Least.{or_else}
use Rattle.faults.specs.Questions.{ask, first_fault, all_yes, answered, DecidedBeyond}
use Rattle.pd0.specs.Layout.{size_of}
use Rattle.pd0.specs.Questions.{head_questions, in_frame, questions, opened, longest_size}
use Rattle.pd0.specs.Verdicts.{fit, whole_size}

pub sized : (xs : List ℕ) → 6 ≤ length xs → fit xs ≡ true → (1 ≤ whole_size xs) × (whole_size xs ≤ longest_size)
unfolding fit
sized xs h e = (omega arith, grind (arith, nat_tests))

head_seen : (xs more : List ℕ) → 6 ≤ length xs → head_questions (xs ++ more) ≡ head_questions xs
head_seen xs more h =
    let l = length-append xs more in
    let t : nat_le 6 (length (xs ++ more)) ≡ nat_le 6 (length xs) =
    le-leb 6 (length (xs ++ more)) (omega arith) ∙ sym (le-leb 6 (length xs) h) in
    rw (
      t,
      get_or_append_left xs more 0 0 (omega arith),
      get_or_append_left xs more 0 1 (omega arith),
      get_or_append_left xs more 0 2 (omega arith),
      get_or_append_left xs more 0 3 (omega arith),
      get_or_append_left xs more 0 5 (omega arith),
    )

pub seen : (xs more : List ℕ) → 6 ≤ length xs → (fit (xs ++ more) ≡ fit xs) × (whole_size (xs ++ more) ≡ whole_size xs)
unfolding fit
seen xs more h = (
  ap (λ os. all_yes (first_fault os)) (head_seen xs more h),
  rw (get_or_append_left xs more 0 2 (omega arith), get_or_append_left xs more 0 3 (omega arith)),
)

-- a run that is longer than any ensemble has a length that is not the told one
too_long :
    (xs : List ℕ) → longest_size < length xs
    → opened xs ≡ answered (or_else (first_fault (map in_frame (head_questions xs))) (Some (InFrame Length))) tt
unfolding questions
too_long xs h =
    ap (λ o. answered o tt)
    (refused_at (map in_frame (head_questions xs)) (drop 6 (questions xs)) (in_frame (ask (length xs == size_of xs + 2) Length))
    (InFrame Length)
    (λ e. let n : size_of xs + 2 ≤ longest_size = grind (arith, nat_tests) in
    let ne : nat_eq (length xs) (size_of xs + 2) ≡ false = ne_eqb _ _ (λ (q : length xs ≡ size_of xs + 2). omega arith) in
    rw ne))

pub decided : (bs : List ℕ) → DecidedBeyond longest_size opened bs
decided bs m l h =
    let k : length (take m bs) ≡ m = length-take-le m bs h in
    let s : head_questions bs ≡ head_questions (take m bs) =
    subst (λ (ys : List ℕ). head_questions ys ≡ head_questions (take m bs)) (take-append-drop m bs)
    (head_seen (take m bs) (drop m bs) (omega arith)) in
    too_long (take m bs) (omega arith)
    ∙ ap (λ os. answered (or_else (first_fault (map in_frame os)) (Some (InFrame Length))) tt) (sym s)
    ∙ sym (too_long bs (omega arith))
