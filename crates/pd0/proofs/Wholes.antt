-- An ensemble is a right header, right sections and a right checksum.
use Rattle.std.proofs.Common.{◌≡◌, ◌≢◌, ℕ, ◌+◌, ◌-◌, ◌<◌, ◌≤◌, true, false, eqb, List, length, get_or, take, Ok, Err, Decides, sym, refl, ap, ◌∙◌, arith}
use Rattle.std.proofs.lemmas.Bool.{both_ways}
use Rattle.std.proofs.lemmas.Bool.Decides.{nat_tests, same_from_decides, Decides-eqb, Decides-like}
use Rattle.faults.proofs.Asked.{yes_parts, no_part}
use Rattle.faults.specs.declared.frame.FrameFault.{FrameFault}
use Rattle.faults.specs.Questions.{answered, first_fault}
use Rattle.framing.specs.Stored.{word, checksum_from}
use Rattle.pd0.specs.declared.header.Header.{Header}
use Rattle.pd0.specs.Ensembles.{IsEnsemble}
use Rattle.pd0.specs.Kinds.{kind_of, leader_size}
use Rattle.pd0.specs.Layout.{mark, table_end, count_of, size_of, ident, offset, cells_of}
use Rattle.pd0.specs.Questions.{head_questions, header_of, most_sections, most_counted}
use Rattle.pd0.specs.Verdicts.{fit, whole}
use Rattle.pd0.specs.Whole.{Headed, Sectioned}
use Rattle.pd0.specs.Opened.{opening_laws, leader_size_is}
use Rattle.pd0.proofs.KindsApart.{least_two}
use Rattle.pd0.proofs.Places.{inside}
use Rattle.pd0.specs.Sounds.{opens, is_whole, is_fit}
use Rattle.pd0.proofs.Walks.{ending_next, ending_last, refuted}

pub whole_decides : (bs : List ℕ) → Decides (whole bs) (IsEnsemble bs)
whole_decides bs = ((λ e. (opening_laws bs).opens (opens bs e)), (λ s. is_whole bs ((opening_laws bs).ensembles s)))

-- where the second section of an ensemble begins
second : (bs : List ℕ) → IsEnsemble bs → (offset bs 0 + leader_size ≤ offset bs 1) × (offset bs 1 + 2 ≤ size_of bs)
second bs s =
    let e = ending_next bs (count_of bs) (size_of bs) 0 (omega (arith, s.sections)) in
    let i = inside bs s 1 (omega (arith, s.sections)) in
    let l = leader_size_is bs s in
    (omega arith, omega arith)

pub sectioned_from : (bs : List ℕ) → IsEnsemble bs → Sectioned bs (count_of bs) (size_of bs)
sectioned_from bs s =
    record {
      led = record { first = s.first; second = second bs s; leaders = s.leaders; cells = s.cells };
      room = λ k l. let r = s.sizes k l in let t = least_two (kind_of (ident bs k)) (cells_of bs) in omega arith;
      inside = λ k l. let i = inside bs s (k + 1) in let z = s.size in grind (arith, nat_tests);
      once = s.once;
    }

-- what a right header says
pub fit_parts :
    (bs : List ℕ) → fit bs ≡ true
    → (get_or bs 0 0 ≡ mark) × (get_or bs 1 0 ≡ mark) × (2 ≤ count_of bs) × (count_of bs ≤ most_sections)
    × (table_end (count_of bs) + 2 ≤ size_of bs) × (size_of bs ≤ most_counted)
unfolding fit
fit_parts bs e =
    (grind (arith, nat_tests), grind (arith, nat_tests), grind (arith, nat_tests), grind (arith, nat_tests), grind (arith, nat_tests), grind (arith, nat_tests))

-- and it is that of bytes that are as many as it tells
pub headed_from : (bs : List ℕ) → fit bs ≡ true → length bs ≡ size_of bs + 2 → Headed bs (count_of bs) (size_of bs)
headed_from bs e w =
    let p = fit_parts bs e in
    record { marked = (p.0, p.1); count = refl; size = refl; some = p.2; few = p.3; room = p.4; short = p.5; whole = w }

-- a wrong header is no ensemble's
pub wrong_header : (bs : List ℕ) → fit bs ≡ false → false ≡ whole bs
wrong_header bs wrong = same_from_decides false (whole bs) (refuted (λ (s : IsEnsemble bs). both_ways _ wrong (is_fit bs s))) (whole_decides bs)

-- nor are more or fewer bytes than a header tells
pub wrong_length :
    (bs : List ℕ) (h : Header) → Ok h ≡ answered (first_fault (head_questions bs)) (header_of bs) → length bs ≢ h.size + 2
    → false ≡ whole bs
wrong_length bs h told wrong =
    let is = (yes_parts (first_fault (head_questions bs)) (header_of bs) h told).1 in
    same_from_decides false (whole bs)
    (refuted (λ (s : IsEnsemble bs). wrong (s.whole ∙ ap (λ (x : Header). x.size + 2) (sym is)))) (whole_decides bs)

-- with a right header, sections and checksum decide
module _ (bs : List ℕ) (d n : ℕ) (h : Headed bs d n) where
  to_sectioned : IsEnsemble bs → Sectioned bs d n
  to_sectioned s = rw (h.count, h.size) (sectioned_from bs s)

  pub ensemble_from : Sectioned bs d n → checksum_from 0 (take n bs) ≡ word bs n → IsEnsemble bs
  ensemble_from s c =
      record {
        marked = h.marked;
        sections = rw (← h.count) (h.some, h.few);
        size = rw (← h.count, ← h.size) (h.room, h.short);
        whole = rw (← h.size) h.whole;
        sum = rw (← h.size) c;
        first = rw (← h.count) s.led.first;
        apart = λ k l.
            let l : k + 1 < d = rw h.count l in
            let r = s.room k (omega arith) in
            let t = least_two (kind_of (ident bs k)) (cells_of bs) in
            let q = ending_next bs d n k l in
            omega arith;
        last =
            let r = s.room (d - 1) (omega (arith, h.some)) in
            let t = least_two (kind_of (ident bs (d - 1))) (cells_of bs) in
            let q = ending_last bs d n (d - 1) (omega (arith, h.some)) in
            rw (← h.count, ← h.size) (omega arith);
        leaders = s.led.leaders;
        once = rw (← h.count) s.once;
        cells = s.led.cells;
        sizes = rw (← h.count, ← h.size) (λ k l. let r = s.room k l in omega arith);
      }

  pub wrong_sections : (Sectioned bs d n → ⊥) → false ≡ whole bs
  wrong_sections wrong = same_from_decides false (whole bs) (refuted (λ (s : IsEnsemble bs). wrong (to_sectioned s))) (whole_decides bs)

  -- all but the checksum is right
  pub by_checksum : Sectioned bs d n → eqb (checksum_from 0 (take n bs)) (word bs n) ≡ whole bs
  by_checksum s =
      same_from_decides _ (whole bs)
      (Decides-like _ (ensemble_from s) (λ (i : IsEnsemble bs). rw h.size i.sum) (Decides-eqb _ _))
      (whole_decides bs)

-- without a right header there is no ensemble
pub no_ensemble : {f : FrameFault} (bs : List ℕ) → Err f ≡ answered (first_fault (head_questions bs)) (header_of bs) → false ≡ whole bs
unfolding fit
no_ensemble bs e = wrong_header bs (no_part (first_fault (head_questions bs)) (header_of bs) _ e)
