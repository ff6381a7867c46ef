-- Sums modulo 65,536, byte by byte and block by block.
use Rattle.std.proofs.Common.{◌≡◌, ℕ, zero, suc, ◌+◌, ◌*◌, ◌%◌, List, [], ◌∷◌, take, drop, sum, arith}
use Rattle.std.proofs.lemmas.List.{drop-drop}
use Rattle.std.proofs.lemmas.List.Sums.{sum_by-take-drop}
use Rattle.std.specs.List.{fold}
use Rattle.std.specs.Simd.{first_chunks}

-- one byte more
abbrev pub wrapped : ℕ → ℕ → ℕ
wrapped t b = (t + b) % 65536

pub wrapped_sum : (xs : List ℕ) (a s : ℕ) → a ≡ s % 65536 → fold wrapped a xs ≡ fold ◌+◌ s xs % 65536
wrapped_sum [] a s e = e
wrapped_sum (x ∷ xs) a s e = wrapped_sum xs (wrapped a x) (s + x) (omega arith)

-- one block more
abbrev pub blocked : ℕ → List ℕ → ℕ
blocked t bs = (t + sum bs % 65536) % 65536

-- k blocks of n bytes, and what is left behind them
pub blocked_sum :
    (n k : ℕ) (xs : List ℕ) (a s : ℕ) → a ≡ s % 65536
    → (fold blocked a (first_chunks n k xs) + sum (drop (k * n) xs)) % 65536 ≡ (s + sum xs) % 65536
blocked_sum n zero xs a s e = let z : 0 * n ≡ 0 = omega arith in rw z (omega arith)
blocked_sum n (suc k) xs a s e =
    let b = sum_by-take-drop (λ x. x) xs n in
    let t = blocked_sum n k (drop n xs) (blocked a (take n xs)) (s + sum (take n xs)) (omega arith) in
    let m : suc k * n ≡ n + k * n = grind arith in
    rw (m, ← drop-drop (k * n) n xs) (omega arith)
