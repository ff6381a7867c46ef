-- Exactly the structures open.
use Rattle.std.proofs.Common.{◌≡◌, ℕ, ◌≤◌, true, List, length, Ok, arith}
use Rattle.std.proofs.lemmas.Bool.{eqb-true, eq-eqb, le-leb}
use Rattle.std.proofs.lemmas.Bool.Decides.{nat_tests}
use Rattle.faults.proofs.Asked.{in_order}
use Rattle.aquadopp.specs.Structures.{id_of, is_sealed, questions, opened, IsStructure, OpeningLaws}
use Rattle.aquadopp.specs.Heads.{decided}

sealed_yes : (bs : List ℕ) → opened bs ≡ Ok (id_of bs) → is_sealed bs ≡ true
sealed_yes bs e = grind (arith, nat_tests)

opens : (bs : List ℕ) → opened bs ≡ Ok (id_of bs) → IsStructure bs
unfolding is_sealed
opens bs e =
    record {
      first = grind (arith, nat_tests);
      size = grind (arith, nat_tests);
      whole = grind (arith, nat_tests);
      sum = eqb-true _ _ (sealed_yes bs e);
    }

room : (bs : List ℕ) → IsStructure bs → 4 ≤ length bs
room bs s = let w = s.whole in let a = s.size in grind (arith, nat_tests)

structures : (bs : List ℕ) → IsStructure bs → opened bs ≡ Ok (id_of bs)
unfolding is_sealed
structures bs s =
    rw (le-leb 4 (length bs) (room bs s), eq-eqb _ _ s.first, s.size, eq-eqb _ _ s.whole, eq-eqb _ _ s.sum)

pub opening_laws : (bs : List ℕ) → OpeningLaws bs
opening_laws bs =
    record { opens = opens bs; structures = structures bs; order = in_order (questions bs) (id_of bs); beyond = decided bs }
