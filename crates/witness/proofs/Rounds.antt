-- How many bytes a record takes.
use Rattle.std.specs.Result.{result_unwrap_or}
use Rattle.std.proofs.Common.{ℕ, ◌+◌, ◌≤◌, List, [], ◌∷◌, length, Ok, Err, Result, arith}
use Rattle.std.proofs.lemmas.List.{length-append, length-take}
use Rattle.faults.specs.declared.line.LineFault.{LineFault}
use Rattle.receiver.specs.Rule.{feeds, finds, passes}
use Rattle.receiver.specs.Record.{Record, taken, taken_by}
use Rattle.receiver.specs.declared.answer.Finding.{Finding}
use Rattle.witness.specs.declared.Round.{Round}
use Rattle.witness.specs.Session.{with_round}

pub fed_few : (bs : List ℕ) (x : Result ℕ LineFault) → (length (taken_by (feeds bs x)) ≤ result_unwrap_or x 0) × (length (taken_by (feeds bs x)) ≤ length bs)
fed_few bs (Ok n) = (omega (arith, length-take n bs), omega (arith, length-take n bs))
fed_few bs (Err f) = (omega arith, omega arith)

-- a feed takes no more than it is given
pub fed_more : (es : Record) (bs : List ℕ) (x : Result ℕ LineFault) → (length (taken (feeds bs x ∷ es)) ≤ length (taken es) + result_unwrap_or x 0) × (length (taken (feeds bs x ∷ es)) ≤ length (taken es) + length bs)
fed_more es bs x =
    let e = length-append (taken es) (taken_by (feeds bs x)) in
    (omega (arith, e, (fed_few bs x).0), omega (arith, e, (fed_few bs x).1))

-- the rest of a round takes nothing
pub found_more : (es : Record) (r : Finding) → length (taken (finds r ∷ es)) ≤ length (taken es)
found_more es r = omega (arith, length-append (taken es) [])

pub passed_more : (es : Record) (x : Result ℕ LineFault) → length (taken (passes x ∷ es)) ≤ length (taken es)
passed_more es (Ok n) = omega (arith, length-append (taken es) [])
passed_more es (Err f) = omega (arith, length-append (taken es) [])

pub round_more : (es : Record) (bs : List ℕ) (r : Round) → length (taken (with_round bs r es)) ≤ length (taken es) + result_unwrap_or r.fed 0
round_more es bs r =
    let fs = feeds bs r.fed ∷ es in
    omega (arith, (fed_more es bs r.fed).0, found_more fs r.found, passed_more (finds r.found ∷ fs) r.passed)
