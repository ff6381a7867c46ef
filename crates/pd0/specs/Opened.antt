-- Just the ensembles open: the questions, in their order, ask for nothing less and nothing more.
use Rattle.std.proofs.Common.{◌≡◌, ℕ, zero, suc, ◌+◌, ◌-◌, ◌<◌, ◌≤◌, Bool, true, false, cond, not, ◌&&◌, eqb, ltb, List, length, is_some, Some, None, Ok, Option, sym, refl, ap, ◌∙◌, subst, arith}
use Rattle.std.proofs.lemmas.Bool.{le-ltb, eq-eqb, eqb-true, le-leb, and_from, or_from, not-false, not_from_true}
use Rattle.std.proofs.lemmas.Bool.Decides.{nat_tests}
use Rattle.faults.proofs.Asked.{in_order}
use Rattle.faults.proofs.Leasts.{least_none, none_least, least_some, any, is_least}
use Rattle.faults.specs.Least.{least}
use Rattle.pd0.specs.Headers.{decided}
use Rattle.pd0.specs.Tables.{table_first, table_apart, table_last, sizes_from}
use Rattle.pd0.specs.declared.kind.Kind.{Kind}
use Rattle.pd0.specs.declared.kind.Kind.TheVariants.{FixedLeader, VariableLeader, Unnamed}
use Rattle.pd0.specs.Ensembles.{IsEnsemble, OpeningLaws}
use Rattle.pd0.specs.Kinds.{kind_of, least_size, is_named, leader_size, fixed_leader_id, variable_leader_id}
use Rattle.pd0.specs.Layout.{header_size, table_end, size_of, count_of, offset, ident, section_size, cells_of}
use Rattle.pd0.specs.Questions.{wrong_offset, wrong_order, wrong_size, has_ident, questions, opened, most_sections}

-- one kind has no name
pub unnamed : (K : Kind) → is_named K ≡ false → K ≡ Unnamed
unnamed K e = grind arith

-- a kind K that has a name stands behind no section with the same identification
named_once :
    (K : Kind) (p : ℕ → Bool) (k j : ℕ) → (is_named K && is_some (least p k)) ≡ false → j < k → p j ≡ true → K ≡ Unnamed
named_once K p k j w l t = let f = any p k j l t (least p k) refl in grind arith

-- and the other way round
once_right :
    (K : Kind) (p : ℕ → Bool) (k : ℕ) (o : Option ℕ) → least p k ≡ o → ((j : ℕ) → j < k → p j ≡ true → K ≡ Unnamed)
    → (is_named K && is_some o) ≡ false
once_right K p k None e h = grind arith
once_right K p k (Some j) e h = let f = least_some p k j e in let u = h j f.0 f.1 in grind arith

fixed_id : (i : ℕ) → kind_of i ≡ FixedLeader → i ≡ fixed_leader_id
fixed_id i e = grind (arith, nat_tests)

variable_id : (i : ℕ) → kind_of i ≡ VariableLeader → i ≡ variable_leader_id
variable_id i e = grind (arith, nat_tests)

-- behind the two leaders
later : (bs : List ℕ) (k : ℕ) → 2 ≤ k → wrong_order bs k ≡ (is_named (kind_of (ident bs k)) && is_some (least (has_ident bs (ident bs k)) k))
later bs k h = grind (arith, nat_tests)

module _ (bs : List ℕ) (e : opened bs ≡ Ok tt) where
  -- what each of the questions comes to
  sections : (2 ≤ count_of bs) × (count_of bs ≤ most_sections)
  unfolding questions
  sections = grind (arith, nat_tests)

  table : least (wrong_offset bs (count_of bs) (size_of bs)) (count_of bs) ≡ None
  unfolding questions
  table = grind arith

  order : least (wrong_order bs) (count_of bs) ≡ None
  unfolding questions
  order = grind arith

  sizes : least (wrong_size bs (count_of bs) (size_of bs)) (count_of bs) ≡ None
  unfolding questions
  sizes = grind arith

  right_order : (k : ℕ) → k < count_of bs → wrong_order bs k ≡ false
  right_order k h = least_none (wrong_order bs) (count_of bs) k order h

  fixed : ident bs 0 ≡ fixed_leader_id
  fixed = eqb-true _ _ (not-false _ (right_order 0 (omega (arith, sections))))

  variable : ident bs 1 ≡ variable_leader_id
  variable = eqb-true _ _ (not-false _ (right_order 1 (omega (arith, sections))))

  once : (j k : ℕ) → j < k → k < count_of bs → ident bs j ≡ ident bs k → kind_of (ident bs k) ≡ Unnamed
  once j zero l h e = absurd (omega arith)
  once zero (suc zero) l h e = absurd (omega (arith, e, fixed, variable))
  once (suc j) (suc zero) l h e = absurd (omega arith)
  once j (suc (suc k)) l h e =
      named_once (kind_of (ident bs (suc (suc k)))) (has_ident bs (ident bs (suc (suc k)))) (suc (suc k)) j
      (sym (later bs (suc (suc k)) (omega arith)) ∙ right_order (suc (suc k)) h) l (eq-eqb _ _ e)

  is_ensemble : IsEnsemble bs
  unfolding questions
  is_ensemble =
      let d : 0 < count_of bs = omega (arith, sections) in
      record {
        marked = (grind (arith, nat_tests), grind (arith, nat_tests));
        sections = sections;
        size = (grind (arith, nat_tests), grind (arith, nat_tests));
        whole = grind (arith, nat_tests);
        sum = grind (arith, nat_tests);
        first = table_first bs _ _ table d;
        apart = table_apart bs _ _ table;
        last = table_last bs _ _ table d;
        leaders = (ap kind_of fixed, ap kind_of variable);
        once = once;
        cells = (grind (arith, nat_tests), grind (arith, nat_tests));
        sizes = sizes_from bs _ _ sizes;
      }

module _ (bs : List ℕ) (s : IsEnsemble bs) where
  spaced :
      (k : ℕ) → k < count_of bs
      → cond (eqb k 0) (not (eqb (offset bs 0) (table_end (count_of bs)))) (ltb (offset bs k) (offset bs (k - 1) + 2)) ≡ false
  spaced zero h = rw (eq-eqb _ _ s.first)
  spaced (suc k) h = let a = s.apart k (omega arith) in grind (arith, nat_tests)

  ends : (k : ℕ) → k < count_of bs → (eqb (k + 1) (count_of bs) && ltb (size_of bs) (offset bs k + 4)) ≡ false
  ends k h = let l = s.last in grind (arith, nat_tests)

  right_kind : (k : ℕ) → k < count_of bs → wrong_order bs k ≡ false
  right_kind zero h = not_from_true _ (eq-eqb _ _ (fixed_id _ s.leaders.0))
  right_kind (suc zero) h = not_from_true _ (eq-eqb _ _ (variable_id _ s.leaders.1))
  right_kind (suc (suc k)) h =
      let here = suc (suc k) in
      later bs (suc (suc k)) (omega arith)
      ∙ once_right (kind_of (ident bs here)) (has_ident bs (ident bs here)) here (least (has_ident bs (ident bs here)) here) refl
      (λ j l t. s.once j here l h (eqb-true _ _ t))

  pub leader_size_is : leader_size ≤ section_size bs (count_of bs) (size_of bs) 0
  leader_size_is =
      subst (λ (K : Kind). least_size K (cells_of bs) ≤ section_size bs (count_of bs) (size_of bs) 0) s.leaders.0
      (s.sizes 0 (omega (arith, s.sections)))

  opens : opened bs ≡ Ok tt
  unfolding questions
  opens =
      rw (
        le-leb header_size (length bs) (omega (arith, s.whole, s.size)),
        eq-eqb _ _ s.marked.0,
        eq-eqb _ _ s.marked.1,
        and_from _ _ (le-leb _ _ s.sections.0) (le-leb _ _ s.sections.1),
        and_from _ _ (le-leb _ _ s.size.0) (le-leb _ _ s.size.1),
        eq-eqb _ _ s.whole,
        eq-eqb _ _ s.sum,
        none_least (wrong_offset bs (count_of bs) (size_of bs)) (count_of bs) (λ k h. or_from _ _ (spaced k h) (ends k h)),
        none_least (wrong_order bs) (count_of bs) right_kind,
        and_from _ _ (le-leb _ _ leader_size_is) (and_from _ _ (le-leb _ _ s.cells.0) (le-leb _ _ s.cells.1)),
        none_least (wrong_size bs (count_of bs) (size_of bs)) (count_of bs) (λ k h. le-ltb _ _ (s.sizes k h)),
      )

pub opening_laws : (bs : List ℕ) → OpeningLaws bs
opening_laws bs =
    record {
      opens = is_ensemble bs;
      ensembles = opens bs;
      order = in_order (questions bs) tt;
      firsts = is_least;
      beyond = decided bs;
    }
