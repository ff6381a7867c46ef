-- What tells kinds apart, and how small and large a section of a kind has to be.
use Rattle.std.proofs.Common.{◌≡◌, ℕ, ◌+◌, ◌*◌, ◌<◌, ◌≤◌, true, arith}
use Rattle.std.proofs.lemmas.Bool.Decides.{nat_tests}
use Rattle.pd0.specs.declared.kind.Kind.{Kind}
use Rattle.pd0.specs.Kinds.{kind_of, kind_number, kinds, least_size, is_named}

-- a named kind has one identification
pub same_ident : (K : Kind) (i j : ℕ) → kind_of i ≡ K → kind_of j ≡ K → is_named K ≡ true → i ≡ j
same_ident K i j e f n = grind (arith, nat_tests)

pub number_below : (K : Kind) → kind_number K < kinds
number_below K = grind arith

-- no two kinds have one number
pub same_number : (K L : Kind) → kind_number K ≡ kind_number L → K ≡ L
same_number K L e = grind arith

-- every section has room for its identification
pub least_two : (K : Kind) (c : ℕ) → 2 ≤ least_size K c
least_two K c = grind arith

-- and no kind asks for more than this
pub least_most : (K : Kind) (c : ℕ) → least_size K c ≤ 81 + 8 * c
least_most K c = grind arith
