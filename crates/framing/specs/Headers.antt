-- A framing by a header is lawful, if the header is seen in its own bytes and tells a size up to the longest.
use Rattle.std.specs.Prelude.{◌≡◌, ℕ, ◌^◌, ◌<◌, ◌≤◌, Bool, true, false, List, ◌++◌, length, take, drop, refl}
use Rattle.std.proofs.Common.{sym, ap, ◌∙◌, subst, arith}
use Rattle.std.proofs.lemmas.Bool.{le-ltb, false≢true}
use Rattle.std.proofs.lemmas.Bool.Decides.{nat_tests}
use Rattle.std.proofs.lemmas.List.{take-append-le, length-append, length-take-le, take-append-drop}
use Rattle.framing.specs.Laws.{Lawful}
use Rattle.framing.specs.Headed.{headed_by, headed, HeadedLaws, SoundExactly}
use Rattle.framing.specs.declared.verdict.Verdict.{Verdict}
use Rattle.framing.specs.declared.verdict.Verdict.TheVariants.{Sound, Short, Unfit}

sound_parts :
    (h len : ℕ) (fit : Bool) (size : ℕ) (whole : Bool) (n : ℕ) → headed_by h len fit size whole ≡ Sound n
    → (h ≤ len) × (fit ≡ true) × (n ≡ size) × (size ≤ len)
sound_parts h len true size true n e = (grind (arith, nat_tests), refl, grind (arith, nat_tests), grind (arith, nat_tests))
sound_parts h len true size false n e = absurd (grind (arith, nat_tests))
sound_parts h len false size whole n e = absurd (grind (arith, nat_tests))

short_parts :
    (h len : ℕ) (fit : Bool) (size : ℕ) (whole : Bool) (m a : ℕ) → headed_by h len fit size whole ≡ Short m
    → h ≤ a → (h ≤ len → fit ≡ true → size ≤ a) → (len < m) × (m ≤ a)
short_parts h len true size true m a e r s = (grind (arith, nat_tests), grind (arith, nat_tests))
short_parts h len true size false m a e r s = (grind (arith, nat_tests), grind (arith, nat_tests))
short_parts h len false size whole m a e r s = (grind (arith, nat_tests), grind (arith, nat_tests))

unfit_parts :
    (h len : ℕ) (fit : Bool) (size : ℕ) (whole : Bool) → headed_by h len fit size whole ≡ Unfit
    → (h ≤ len) × (fit ≡ true → size ≤ len)
unfit_parts h len true size true e = absurd (grind (arith, nat_tests))
unfit_parts h len true size false e = (grind (arith, nat_tests), λ _. grind (arith, nat_tests))
unfit_parts h len false size whole e = (grind (arith, nat_tests), λ t. absurd (false≢true t))

same :
    (h l l' : ℕ) (fit : Bool) (size : ℕ) (whole whole' : Bool) → h ≤ l → l ≤ l' → (fit ≡ true → (size ≤ l) × (whole' ≡ whole))
    → headed_by h l' fit size whole' ≡ headed_by h l fit size whole
same h l l' true size whole whole' a b e =
    let p = e refl in
    rw (p.1, le-ltb l h a, le-ltb l' h (omega arith), le-ltb l size p.0, le-ltb l' size (omega (arith, p.0)))
same h l l' false size whole whole' a b e = rw (le-ltb l h a, le-ltb l' h (omega arith))

is_whole :
    (h len : ℕ) (fit : Bool) (size : ℕ) (whole : Bool) (n : ℕ) → headed_by h len fit size whole ≡ Sound n → whole ≡ true
is_whole h len true size true n e = refl
is_whole h len true size false n e = absurd (grind (arith, nat_tests))
is_whole h len false size whole n e = absurd (grind (arith, nat_tests))

module _
    (header : ℕ) (fit : List ℕ → Bool) (size : List ℕ → ℕ) (whole : List ℕ → Bool) (reach : ℕ)
    (range : (1 ≤ header) × (header ≤ reach) × (reach < 2 ^ 64))
    (sized : (xs : List ℕ) → header ≤ length xs → fit xs ≡ true → (1 ≤ size xs) × (size xs ≤ reach))
    (seen : (xs more : List ℕ) → header ≤ length xs → (fit (xs ++ more) ≡ fit xs) × (size (xs ++ more) ≡ size xs)) where
  stays :
      (xs more : List ℕ) → header ≤ length xs → (fit xs ≡ true → size xs ≤ length xs)
      → headed header fit size whole (xs ++ more) ≡ headed header fit size whole xs
  stays xs more h p =
      let s = seen xs more h in
      let l = length-append xs more in
      rw (s.0, s.1)
      (same header (length xs) (length (xs ++ more)) (fit xs) (size xs) (whole (take (size xs) xs)) (whole (take (size xs) (xs ++ more)))
      h (omega arith) (λ t. (p t, ap whole (take-append-le (size xs) xs more (p t)))))

  pub headed_lawful : Lawful (headed header fit size whole) reach
  headed_lawful =
      record {
        range = (omega (arith, range), omega (arith, range));
        size = λ xs n r e.
            let p = sound_parts header (length xs) (fit xs) (size xs) (whole (take (size xs) xs)) n e in
            let s = sized xs p.0 p.1 in
            (omega (arith, p.2), omega (arith, p.2, p.3), omega (arith, p.2));
        waiting = λ xs m r e.
            short_parts header (length xs) (fit xs) (size xs) (whole (take (size xs) xs)) m reach e range.1 (λ h t. (sized xs h t).1);
        sound_stays = λ xs more n r e.
            let p = sound_parts header (length xs) (fit xs) (size xs) (whole (take (size xs) xs)) n e in
            stays xs more p.0 (λ _. p.3) ∙ e;
        unfit_stays = λ xs more r e.
            let p = unfit_parts header (length xs) (fit xs) (size xs) (whole (take (size xs) xs)) e in
            stays xs more p.0 p.1 ∙ e;
      }

module _ {header reach : ℕ} {fit : List ℕ → Bool} {size : List ℕ → ℕ} {whole : List ℕ → Bool} {IsFrame : List ℕ → Type 0}
    (laws : HeadedLaws header reach fit size whole IsFrame) where
  -- sound exactly where a frame stands
  pub headed_exactly : (xs : List ℕ) → SoundExactly (headed header fit size whole) IsFrame xs
  headed_exactly xs n = (
    (λ e.
        let p = sound_parts header (length xs) (fit xs) (size xs) (whole (take (size xs) xs)) n e in
        let w = is_whole header (length xs) (fit xs) (size xs) (whole (take (size xs) xs)) n e in
        (omega (arith, p.2, p.3), laws.frames (take n xs) (subst (λ (k : ℕ). whole (take k xs) ≡ true) (sym p.2) w))),
    (λ h f.
        let k : length (take n xs) ≡ n = length-take-le n xs h in
        let p = laws.wholes (take n xs) f in
        let s = laws.seen (take n xs) (drop n xs) p.1 in
        let w : take n xs ++ drop n xs ≡ xs = take-append-drop n xs in
        let fits : fit xs ≡ true = subst (λ (zs : List ℕ). fit zs ≡ true) w (s.0 ∙ p.2) in
        let sizes : size xs ≡ n = subst (λ (zs : List ℕ). size zs ≡ n) w (s.1 ∙ p.3 ∙ k) in
        rw (sizes, fits, p.0, le-ltb (length xs) header (omega (arith, p.1)), le-ltb (length xs) n h)),
  )

  pub lawful_by : {judged : List ℕ → Verdict} → judged ≡ headed header fit size whole → Lawful judged reach
  lawful_by e = subst (λ (j : List ℕ → Verdict). Lawful j reach) (sym e) (headed_lawful header fit size whole reach laws.range laws.sized laws.seen)

  pub exactly_by : {judged : List ℕ → Verdict} → judged ≡ headed header fit size whole → (xs : List ℕ) → SoundExactly judged IsFrame xs
  exactly_by e xs = subst (λ (j : List ℕ → Verdict). SoundExactly j IsFrame xs) (sym e) (headed_exactly xs)
