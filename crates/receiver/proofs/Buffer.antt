-- The held bytes as a part of the buffer.
use Rattle.std.proofs.Common.{◌≡◌, ℕ, ◌+◌, ◌-◌, ◌≤◌, List, ◌++◌, length, slice_range, take, drop, sym, ap, ◌∙◌, arith}
use borrow.Rule.Slice.PartMut.{put_mid}
use Rattle.std.proofs.lemmas.List.{length-take, drop-append-le, drop-drop, drop-take}
use Rattle.std.proofs.lemmas.Slice.{between_is, take-put_mid}

-- what is left behind the first k
pub drop-slice_range : (xs : List ℕ) (i j k : ℕ) → i + k ≤ j → drop k (slice_range xs i j) ≡ slice_range xs (i + k) j
drop-slice_range xs i j k le =
    ap (λ n. drop k (take n (drop i xs))) (omega arith) ∙ drop-take k (j - (i + k)) (drop i xs) ∙ ap (take (j - (i + k))) (drop-drop k i xs)

-- after ys was written from a on: the bytes from i up to a have ys behind them
pub slice_range-put_mid : (xs ys : List ℕ) (a k i j : ℕ) → j ≡ a + length ys → a ≤ length xs → i ≤ a → slice_range (put_mid a k xs ys) i j ≡ slice_range xs i a ++ ys
slice_range-put_mid xs ys a k i j e le h =
    between_is (put_mid a k xs ys) i j ∙ ap (drop i) (take-put_mid a k xs ys j e le)
    ∙ drop-append-le i (take a xs) ys (rw (length-take a xs) (omega arith)) ∙ ap (λ z. z ++ ys) (sym (between_is xs i a))
