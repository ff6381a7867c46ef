-- The head of a structure is seen in its four bytes, and tells a size of at most 42.
use Rattle.std.specs.Prelude.{◌≡◌, ℕ, ◌<◌, ◌≤◌, true, false, List, [], ◌∷◌, ◌++◌, length, take, drop, Some, ◌==◌, nat_eq, nat_le}
use Rattle.std.proofs.Common.{sym, ap, subst, ◌∙◌, arith}
use Rattle.std.proofs.lemmas.Bool.{le-leb, ne_eqb}
use Rattle.std.proofs.lemmas.Bool.Decides.{nat_tests}
use Rattle.std.proofs.lemmas.List.{get_or_append_left, length-append, length-take-le, take-append-drop}
use Rattle.faults.proofs.Asked.{refused_at}
use Rattle.faults.specs.declared.frame.FrameFault.TheVariants.{StructureLength, StructureChecksum}
use Rattle.faults.specs.Least.{or_else}
use Rattle.faults.specs.Questions.{ask, first_fault, all_yes, answered, DecidedBeyond}
use Rattle.aquadopp.specs.Structures.{head_questions, opened, id_of, is_sealed, size_told, longest_size}
use Rattle.aquadopp.specs.Verdicts.{fit}

pub sized : (xs : List ℕ) → 4 ≤ length xs → fit xs ≡ true → (1 ≤ size_told xs) × (size_told xs ≤ longest_size)
unfolding fit
sized xs h e = (grind (arith, nat_tests), grind (arith, nat_tests))

head_seen : (xs more : List ℕ) → 4 ≤ length xs → head_questions (xs ++ more) ≡ head_questions xs
head_seen xs more h =
    let l = length-append xs more in
    let t : nat_le 4 (length (xs ++ more)) ≡ nat_le 4 (length xs) =
    le-leb 4 (length (xs ++ more)) (omega arith) ∙ sym (le-leb 4 (length xs) h) in
    rw (
      t,
      get_or_append_left xs more 0 0 (omega arith),
      get_or_append_left xs more 0 1 (omega arith),
      get_or_append_left xs more 0 2 (omega arith),
      get_or_append_left xs more 0 3 (omega arith),
    )

pub seen : (xs more : List ℕ) → 4 ≤ length xs → (fit (xs ++ more) ≡ fit xs) × (size_told (xs ++ more) ≡ size_told xs)
unfolding fit
seen xs more h = (
  ap (λ os. all_yes (first_fault os)) (head_seen xs more h),
  rw (get_or_append_left xs more 0 2 (omega arith), get_or_append_left xs more 0 3 (omega arith)),
)

-- a run that is longer than any structure has a length that is not the told one
too_long : (xs : List ℕ) → longest_size < length xs → opened xs ≡ answered (or_else (first_fault (head_questions xs)) (Some StructureLength)) (id_of xs)
too_long xs h =
    ap (λ o. answered o (id_of xs))
    (refused_at (head_questions xs) (ask (is_sealed xs) StructureChecksum ∷ []) (ask (length xs == size_told xs) StructureLength) StructureLength
    (λ e. let n : size_told xs ≤ longest_size = grind (arith, nat_tests) in
    let ne : nat_eq (length xs) (size_told xs) ≡ false = ne_eqb _ _ (λ (q : length xs ≡ size_told xs). omega arith) in
    rw ne))

pub decided : (bs : List ℕ) → DecidedBeyond longest_size opened bs
decided bs m l h =
    let k : length (take m bs) ≡ m = length-take-le m bs h in
    let w : take m bs ++ drop m bs ≡ bs = take-append-drop m bs in
    let s : head_questions bs ≡ head_questions (take m bs) =
    subst (λ (ys : List ℕ). head_questions ys ≡ head_questions (take m bs)) w (head_seen (take m bs) (drop m bs) (omega arith)) in
    let i : id_of bs ≡ id_of (take m bs) =
    subst (λ (ys : List ℕ). id_of ys ≡ id_of (take m bs)) w (get_or_append_left (take m bs) (drop m bs) 0 1 (omega arith)) in
    too_long (take m bs) (omega arith)
    ∙ ap (λ os. answered (or_else (first_fault os) (Some StructureLength)) (id_of (take m bs))) (sym s)
    ∙ ap (λ n. answered (or_else (first_fault (head_questions bs)) (Some StructureLength)) n) (sym i)
    ∙ sym (too_long bs (omega arith))
