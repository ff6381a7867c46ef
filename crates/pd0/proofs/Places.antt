-- Bytes of which every question is answered by yes fit a place for an ensemble.
use Rattle.std.proofs.Common.{◌≡◌, ℕ, ◌+◌, ◌-◌, ◌<◌, ◌≤◌, true, List, length, Ok, refl, ap, arith}
use Rattle.std.proofs.lemmas.Bool.Decides.{nat_tests}
use Rattle.faults.proofs.Asked.{yes_parts, yes_answer}
use Rattle.faults.specs.Questions.{all_yes, answered, first_fault}
use Rattle.pd0.specs.declared.header.Header.{Header}
use Rattle.pd0.specs.Ensembles.{IsEnsemble}
use Rattle.pd0.specs.Invariant.{Bare, Opens, Whole, Behind, Inside, Celled}
use Rattle.pd0.specs.Kinds.{leader_size}
use Rattle.pd0.specs.Layout.{count_of, size_of, offset}
use Rattle.pd0.specs.Questions.{header_of, questions}
use Rattle.pd0.specs.Opened.{opening_laws, leader_size_is}
use Rattle.pd0.specs.Tables.{above, under}
use Rattle.pd0.specs.Table.{Tabled}
use Rattle.pd0.specs.Whole.{Headed}

-- the bytes, and what their header says
module _ (bs : List ℕ) (h : Header) (answer : Ok h ≡ answered (first_fault (questions bs)) (header_of bs)) where
  pub opens : all_yes (first_fault (questions bs)) ≡ true
  opens = (yes_parts (first_fault (questions bs)) (header_of bs) h answer).0

  pub counted : h.count ≡ count_of bs
  counted = ap (λ (x : Header). x.count) (yes_parts (first_fault (questions bs)) (header_of bs) h answer).1

  pub ensemble : IsEnsemble bs
  ensemble = (opening_laws bs).opens (yes_answer (first_fault (questions bs)) tt opens)

-- what the type keeps, of an ensemble
module _ (bs : List ℕ) (s : IsEnsemble bs) where
  pub bare : Bare bs (count_of bs)
  bare e = absurd (omega (arith, e, s.sections))

  pub whole : Whole bs (count_of bs)
  whole _ = s.whole

  -- an ensemble has a right header
  pub headed : Headed bs (count_of bs) (size_of bs)
  headed =
      record {
        marked = s.marked;
        count = refl;
        size = refl;
        some = s.sections.0;
        few = s.sections.1;
        room = s.size.0;
        short = s.size.1;
        whole = s.whole;
      }

  pub behind : Behind bs (count_of bs)
  behind k l = let a = above bs (count_of bs) s.apart k l in omega (arith, s.first)

  pub inside : Inside bs (count_of bs)
  inside k l =
      let u = under bs (count_of bs) s.apart (count_of bs - 1 - k) k (omega arith) in omega (arith, s.last)

  pub celled : Celled bs (count_of bs)
  celled _ =
      let i = inside 1 (omega (arith, s.sections)) in
      let l = leader_size_is bs s in
      let e : offset bs 0 + leader_size ≤ offset bs 1 = grind (arith, nat_tests) in
      (s.cells.0, s.cells.1, omega arith)

-- in a place that holds sections the counted bytes are all but the checksum
pub sized : (bs : List ℕ) (d : ℕ) → Whole bs d → 0 < d → length bs - 2 ≡ size_of bs
sized bs d whole some = omega (arith, whole some)

-- the place again, as bytes with a right header and a right table of offsets
module _ (bs : List ℕ) (d n : ℕ) (counted : d ≡ count_of bs) (sized : n ≡ size_of bs) (opens : Opens bs d) (some : 0 < d) where
  held_ensemble : IsEnsemble bs
  held_ensemble = (opening_laws bs).opens (yes_answer (first_fault (questions bs)) tt (opens some))

  pub headed_place : Headed bs d n
  headed_place = rw (counted, sized) (headed bs held_ensemble)

  pub tabled_place : Tabled bs d n
  tabled_place =
      let s = held_ensemble in
      rw (counted, sized) (record { first = s.first; apart = s.apart; behind = behind bs s; inside = inside bs s })
