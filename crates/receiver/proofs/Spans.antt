-- Lists of passed frames.
use Rattle.std.proofs.Common.{ℕ, zero, suc, ◌+◌, ◌<◌, ◌≤◌, List, [], ◌∷◌, length, get_or, refl, inl, inr, arith}
use Rattle.receiver.specs.Record.{Span, span_at}
use Rattle.receiver.specs.Promise.{Among, NoByteInTwo}

at_number : (fs : List Span) (i : ℕ) → i < length fs → Among (get_or fs i (span_at 0 0)) fs
at_number [] i h = absurd (omega arith)
at_number (f ∷ fs) zero h = inl refl
at_number (f ∷ fs) (suc i) h = inr (at_number fs i (omega arith))

pub apart_none : NoByteInTwo []
apart_none i j k lt h a b = absurd (omega arith)

-- a frame that stands behind all others
pub apart_more : (at n : ℕ) (fs : List Span) → ((f : Span) → Among f fs → f.start + f.size ≤ at) → NoByteInTwo fs → NoByteInTwo (span_at at n ∷ fs)
apart_more at n fs before apart i zero k lt h a b = absurd (omega arith)
apart_more at n fs before apart zero (suc j) k lt h a b =
    let le = before (get_or fs j (span_at 0 0)) (at_number fs j (omega arith)) in absurd (omega (arith, le, a.0, b.1))
apart_more at n fs before apart (suc i) (suc j) k lt h a b = apart i j k (omega arith) (omega arith) a b
