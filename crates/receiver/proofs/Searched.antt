-- What find's search comes to, under a lawful framing.
use Rattle.std.proofs.Common.{◌≡◌, ℕ, zero, suc, ◌+◌, ◌<◌, ◌≤◌, Bool, List, ◌∷◌, length, drop, Some, Option, refl, ap, ◌∙◌, subst, inl, inr, one-add, arith}
use Rattle.framing.specs.Laws.{Lawful, Run}
use Rattle.framing.specs.declared.verdict.Verdict.{Verdict}
use Rattle.framing.specs.declared.verdict.Verdict.TheVariants.{Sound}
use Rattle.receiver.specs.declared.answer.Answer.{Answer}
use Rattle.receiver.specs.declared.answer.Answer.TheVariants.{Wanting, Frame, Over}
use Rattle.receiver.specs.State.{capacity}
use Rattle.receiver.specs.Rule.{Search, seek_from, stop, behind, NoStart}
use Rattle.receiver.proofs.Tails.{Clear, run_drop}
use Rattle.receiver.proofs.Stopping.{SaysBy, Stopped, stopped_from, none_dropped}

pub record Searched (J : List ℕ → Verdict) (L : ℕ) (ended : Bool) (xs : List ℕ) (f : Search) : Type 0 where
  pub within : f.dropped ≤ length xs
  pub held : f.held ≡ drop f.dropped xs
  pub clear : (i : ℕ) → i < f.dropped → Clear J ended (drop i xs)
  pub found : (n : ℕ) → f.found ≡ Some n → J f.held ≡ Sound n
  pub wanting : (m : ℕ) → f.answer ≡ Wanting m → length f.held < L
  pub over : f.answer ≡ Over → length f.held ≡ 0

module _ {J : List ℕ → Verdict} {L : ℕ} (law : Lawful J L) (small : L ≤ capacity) where
  -- one byte more that is dropped, and a stop
  one_dropped : (ended : Bool) (b : ℕ) (bs : List ℕ) (f : Search) → Clear J ended (b ∷ bs) → Searched J L ended bs f → Searched J L ended (b ∷ bs) (behind 1 f)
  one_dropped ended b bs f c s = record {
    within = omega (arith, s.within);
    held = rw one-add s.held;
    clear = clear;
    found = s.found;
    wanting = s.wanting;
    over = s.over;
  }
    where
      clear : (i : ℕ) → i < 1 + f.dropped → Clear J ended (drop i (b ∷ bs))
      clear zero h = c
      clear (suc i) h = s.clear i (omega arith)

  stopped : (ended : Bool) (xs : List ℕ) (a : Answer) (o : Option ℕ) → ((n : ℕ) → o ≡ Some n → J xs ≡ Sound n) → ((m : ℕ) → a ≡ Wanting m → length xs < L) → (a ≡ Over → length xs ≡ 0) → Searched J L ended xs (stop a xs o)
  stopped ended xs a o f w v = record { within = omega arith; held = refl; clear = λ i h. absurd (omega arith); found = f; wanting = w; over = v }

  clear_of : (ended : Bool) (xs : List ℕ) → Run xs → NoStart J ended xs → Clear J ended xs
  clear_of ended xs r (inl u) = inl u
  clear_of ended xs r (inr (m, (e, inl late))) = inr (late, λ n q. cc)
  clear_of ended xs r (inr (m, (e, inr much))) = absurd (omega (arith, (law.waiting xs m r e).1))

  -- a find, with a frame found already or not
  pub find_searched : (o : Option ℕ) (ended : Bool) (xs : List ℕ) → Run xs → ((n : ℕ) → o ≡ Some n → J xs ≡ Sound n) → Searched J L ended xs (seek_from J o ended xs)
  find_searched o ended xs r before = record {
    within = s.within;
    held = s.rest;
    clear = λ i h. clear_of ended (drop i xs) (run_drop i xs r) (s.dropped i h);
    found = λ n e. found n e f.answer s.says;
    wanting = λ m e. wanting m (subst (SaysBy J o ended f.held f.found) e s.says);
    over = λ e. (subst (SaysBy J o ended f.held f.found) e s.says).3;
  }
    where
      f : Search
      f = seek_from J o ended xs

      s : Stopped J o ended xs f
      s = stopped_from J o ended xs

      found : (n : ℕ) → f.found ≡ Some n → (a : Answer) → SaysBy J o ended f.held f.found a → J f.held ≡ Sound n
      found n e (Frame m) (g, inl q) = let same : m ≡ n = cc in rw (s.rest, none_dropped J o ended xs m q) (before m q ∙ ap Sound same)
      found n e (Frame m) (g, inr (q, some, sound)) = let same : m ≡ n = cc in sound ∙ ap Sound same
      found n e (Wanting m) says = let none = says.1 in cc
      found n e Over says = let none = says.1 in cc

      wanting : (m : ℕ) → SaysBy J o ended f.held f.found (Wanting m) → length f.held < L
      wanting m (q, g, live, fits, inl none) = omega (arith, law.range)
      wanting m (q, g, live, fits, inr (some, short)) = omega (arith, law.waiting f.held m (rw s.rest (run_drop f.dropped xs r)) short)
