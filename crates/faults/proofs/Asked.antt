-- Laws of questions that are asked in order.
use Rattle.std.proofs.Common.{◌≡◌, ℕ, zero, suc, ◌<◌, true, false, List, [], ◌∷◌, ◌++◌, length, get_or, Some, None, Ok, Err, Option, refl, arith}
use Rattle.std.proofs.lemmas.Bool.{false≢true}
use Rattle.faults.specs.Least.{or_else}
use Rattle.faults.specs.Questions.{first_fault, answered, all_yes, FirstNo, EachYes, InOrder}

module _ {F : Type 0} where
  -- a refusal stays, whatever is asked behind it
  pub refused_append :
      {X : Type 0} (a b : List (Option F)) (x : X) (f : F) → answered (first_fault a) x ≡ Err f → answered (first_fault (a ++ b)) x ≡ Err f
  refused_append [] b x f e = absurd (let z : ◌≡◌ {A = ℕ} 0 1 = cc in omega arith)
  refused_append (None ∷ a) b x f e = refused_append a b x f e
  refused_append (Some g ∷ a) b x f e = e

  -- a question that is answered by no wherever those before it are answered by yes
  pub refused_at :
      (hs rest : List (Option F)) (q : Option F) (f : F) → (first_fault hs ≡ None → q ≡ Some f)
      → first_fault (hs ++ q ∷ rest) ≡ or_else (first_fault hs) (Some f)
  refused_at [] rest q f e = rw (e refl)
  refused_at (None ∷ hs) rest q f e = refused_at hs rest q f e
  refused_at (Some g ∷ hs) rest q f e = refl

  -- what holds of each question behind the first, and of the first
  shifted :
      (o : Option F) (os : List (Option F)) (i : ℕ) → o ≡ None → ((k : ℕ) → k < i → get_or os k None ≡ None)
      → (k : ℕ) → k < suc i → get_or (o ∷ os) k None ≡ None
  shifted o os i e h zero l = e
  shifted o os i e h (suc k) l = h k (omega arith)

  first_no : (os : List (Option F)) (f : F) → first_fault os ≡ Some f → FirstNo os f
  first_no [] f e = absurd (let z : ◌≡◌ {A = ℕ} 0 1 = cc in omega arith)
  first_no (Some g ∷ os) f e = (0, omega arith, e, λ k h. absurd (omega arith))
  first_no (None ∷ os) f e =
      let r = first_no os f e in (suc r.0, omega (arith, r.1), r.2, shifted None os r.0 refl r.3)

  each_yes : (os : List (Option F)) → first_fault os ≡ None → EachYes os
  each_yes [] e = λ k h. absurd (omega arith)
  each_yes (Some g ∷ os) e = absurd (let z : ◌≡◌ {A = ℕ} 0 1 = cc in omega arith)
  each_yes (None ∷ os) e = shifted None os (length os) refl (each_yes os e)

  by_first : {X : Type 0} (os : List (Option F)) (o : Option F) (x : X) → first_fault os ≡ o → InOrder os (answered o x)
  by_first os None x e = each_yes os e
  by_first os (Some f) x e = first_no os f e

  -- the first no decides
  pub in_order : {X : Type 0} (os : List (Option F)) (x : X) → InOrder os (answered (first_fault os) x)
  in_order os x = by_first os (first_fault os) x refl

  pub yes_answer : {X : Type 0} (o : Option F) (x : X) → all_yes o ≡ true → answered o x ≡ Ok x
  yes_answer None x e = refl
  yes_answer (Some f) x e = absurd (false≢true e)

  pub answer_yes : {X : Type 0} (o : Option F) (x : X) → answered o x ≡ Ok x → all_yes o ≡ true
  answer_yes None x e = refl
  answer_yes (Some f) x e = absurd (let z : ◌≡◌ {A = ℕ} 0 1 = cc in omega arith)

  pub yes_parts : {X : Type 0} (o : Option F) (x y : X) → Ok y ≡ answered o x → (all_yes o ≡ true) × (y ≡ x)
  yes_parts None x y e = (refl, cc)
  yes_parts (Some f) x y e = absurd (let z : ◌≡◌ {A = ℕ} 0 1 = cc in omega arith)

  pub no_part : {X : Type 0} (o : Option F) (x : X) (f : F) → Err f ≡ answered o x → all_yes o ≡ false
  no_part None x f e = absurd (let z : ◌≡◌ {A = ℕ} 0 1 = cc in omega arith)
  no_part (Some g) x f e = refl
