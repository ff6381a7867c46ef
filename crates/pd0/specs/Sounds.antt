-- PD0's verdict is sound exactly where an ensemble stands.
use Rattle.std.proofs.Common.{◌≡◌, ℕ, ◌≤◌, true, List, length, Ok, sym, refl, arith}
use Rattle.std.proofs.lemmas.Bool.Decides.{nat_tests}
use Rattle.faults.proofs.Asked.{yes_answer, answer_yes}
use Rattle.faults.specs.Questions.{first_fault}
use Rattle.framing.specs.Headed.{HeadedLaws, SoundExactly}
use Rattle.framing.specs.Headers.{lawful_by, headed_exactly}
use Rattle.framing.specs.Laws.{Lawful}
use Rattle.pd0.specs.Ensembles.{IsEnsemble}
use Rattle.pd0.specs.Layout.{header_size}
use Rattle.pd0.specs.Questions.{questions, opened, longest_size}
use Rattle.pd0.specs.Verdicts.{fit, whole_size, whole, judged_run}
use Rattle.pd0.specs.Opened.{opening_laws}
use Rattle.pd0.specs.Headers.{sized, seen}

pub opens : (bs : List ℕ) → whole bs ≡ true → opened bs ≡ Ok tt
unfolding whole
opens bs w = yes_answer (first_fault (questions bs)) tt w

pub is_whole : (bs : List ℕ) → opened bs ≡ Ok tt → whole bs ≡ true
unfolding whole
is_whole bs e = answer_yes (first_fault (questions bs)) tt e

six : (bs : List ℕ) → IsEnsemble bs → header_size ≤ length bs
six bs s = omega (arith, s.whole, s.size)

pub is_fit : (bs : List ℕ) → IsEnsemble bs → fit bs ≡ true
unfolding fit
is_fit bs s = let l = six bs s in let c = s.sections in let z = s.size in let m = s.marked in grind (arith, nat_tests)

-- PD0's ensembles are a format by a header
pub ensemble_laws : HeadedLaws header_size longest_size fit whole_size whole IsEnsemble
ensemble_laws =
    record {
      range = (omega arith, omega arith, omega arith);
      sized = sized;
      seen = seen;
      frames = λ ys w. (opening_laws ys).opens (opens ys w);
      wholes = λ ys s. (is_whole ys ((opening_laws ys).ensembles s), six ys s, is_fit ys s, sym s.whole);
    }

-- so they are a framing that keeps the laws, and whose verdict is sound exactly where an ensemble stands: as the trait says of
-- every such format, here by name
pub pd0_lawful : Lawful judged_run longest_size
pd0_lawful = lawful_by ensemble_laws refl

pub exactly_ensembles : (run : List ℕ) → SoundExactly judged_run IsEnsemble run
exactly_ensembles = headed_exactly ensemble_laws
