-- Aquadopp's verdict is sound exactly where a structure stands.
use Rattle.std.proofs.Common.{◌≡◌, ℕ, ◌≤◌, true, List, length, Ok, sym, refl, arith}
use Rattle.std.proofs.lemmas.Bool.Decides.{nat_tests}
use Rattle.faults.proofs.Asked.{yes_answer, answer_yes}
use Rattle.faults.specs.Questions.{first_fault}
use Rattle.framing.specs.Headed.{HeadedLaws, SoundExactly}
use Rattle.framing.specs.Headers.{lawful_by, headed_exactly}
use Rattle.framing.specs.Laws.{Lawful}
use Rattle.aquadopp.specs.Structures.{questions, opened, id_of, size_told, longest_size, IsStructure}
use Rattle.aquadopp.specs.Verdicts.{fit, whole, judged_run}
use Rattle.aquadopp.specs.Heads.{sized, seen}
use Rattle.aquadopp.specs.Opened.{opening_laws}

opens : (bs : List ℕ) → whole bs ≡ true → opened bs ≡ Ok (id_of bs)
unfolding whole
opens bs w = yes_answer (first_fault (questions bs)) (id_of bs) w

is_whole : (bs : List ℕ) → opened bs ≡ Ok (id_of bs) → whole bs ≡ true
unfolding whole
is_whole bs e = answer_yes (first_fault (questions bs)) (id_of bs) e

is_fit : (bs : List ℕ) → opened bs ≡ Ok (id_of bs) → (4 ≤ length bs) × (fit bs ≡ true)
unfolding fit
is_fit bs e = (grind (arith, nat_tests), grind (arith, nat_tests))

-- Aquadopp structures are a format by a header
pub structure_laws : HeadedLaws 4 longest_size fit size_told whole IsStructure
structure_laws =
    record {
      range = (omega arith, omega arith, omega arith);
      sized = sized;
      seen = seen;
      frames = λ ys w. (opening_laws ys).opens (opens ys w);
      wholes = λ ys s.
          let e = (opening_laws ys).structures s in
          (is_whole ys e, (is_fit ys e).0, (is_fit ys e).1, sym s.whole);
    }

-- so they are a framing that keeps the laws, and whose verdict is sound exactly where a structure stands: as the trait says
-- of every such format, here by name
pub aquadopp_lawful : Lawful judged_run longest_size
aquadopp_lawful = lawful_by structure_laws refl

pub exactly_structures : (run : List ℕ) → SoundExactly judged_run IsStructure run
exactly_structures = headed_exactly structure_laws
