-- The walk over the sections: what is known behind those that were right, and what a wrong one contradicts.
use Rattle.std.proofs.Common.{◌≡◌, ℕ, ◌+◌, ◌-◌, ◌<◌, ◌≤◌, Bool, true, false, List, length, get_or, set, replicate, Decides, sym, refl, ap, ◌∙◌, subst, ⊎_elim, arith, below_more}
use Rattle.std.proofs.lemmas.List.{get_or-replicate, get_or-set_same, get_or-set_other, length-set}
use Rattle.std.proofs.lemmas.Bool.{cases_eq, both_ways, false≢true}
use Rattle.std.proofs.lemmas.Bool.Decides.{nat_tests}
use Rattle.pd0.specs.declared.kind.Kind.{Kind}
use Rattle.pd0.specs.declared.kind.Kind.TheVariants.{FixedLeader, Unnamed}
use Rattle.pd0.specs.Kinds.{kind_of, kind_number, kinds, least_size, is_named}
use Rattle.pd0.specs.Layout.{offset, ident, ending, cells_of}
use Rattle.pd0.specs.Whole.{Headed, Led, Sectioned}
use Rattle.pd0.specs.Opened.{unnamed}
use Rattle.pd0.proofs.KindsApart.{same_ident, same_number, number_below}

pub ending_next : (bs : List ℕ) (d n k : ℕ) → k + 1 < d → ending bs d n k ≡ offset bs (k + 1)
ending_next bs d n k h = grind (arith, nat_tests)

pub ending_last : (bs : List ℕ) (d n k : ℕ) → k + 1 ≡ d → ending bs d n k ≡ n - 2
ending_last bs d n k h = grind (arith, nat_tests)

-- a test that says no, where the fact does not hold
pub refuted : {P : Type 0} → (P → ⊥) → Decides false P
refuted wrong = ((λ e. absurd (false≢true e)), (λ p. absurd (wrong p)))

-- and one that says yes, where it holds
pub confirmed : {P : Type 0} → P → Decides true P
confirmed p = ((λ _. p), (λ _. refl))

-- among kinds that were met is K
abbrev met_at : List Bool → Kind → Bool
met_at met K = get_or met (kind_number K) false

-- and with K, if it has a name
abbrev with_kind : List Bool → Kind → List Bool
with_kind met K = set met (kind_number K) (is_named K)

-- Behind the first k of d sections in n counted bytes: the next has room for an identification, and just the named kinds
-- among them were met.
pub record Walked (bs : List ℕ) (d n k : ℕ) (met : List Bool) : Type 0 where
  pub inner : k < d → offset bs k + 2 ≤ n
  pub long : length met ≡ kinds
  pub room : (j : ℕ) → j < k → offset bs j + least_size (kind_of (ident bs j)) (cells_of bs) ≤ ending bs d n j
  pub inside : (j : ℕ) → j < k → ending bs d n j + 2 ≤ n
  pub once : (j : ℕ) → j < k → (i : ℕ) → i < j → ident bs i ≡ ident bs j → kind_of (ident bs j) ≡ Unnamed
  pub all : (j : ℕ) → j < k → is_named (kind_of (ident bs j)) ≡ true → met_at met (kind_of (ident bs j)) ≡ true
  pub only : (K : Kind) → met_at met K ≡ true → (j : ℕ) × (j < k) × (kind_of (ident bs j) ≡ K) × (is_named K ≡ true)

module _ (bs : List ℕ) (d n : ℕ) where
  module _ (k : ℕ) (met : List Bool) (w : Walked bs d n k met) (K : Kind) (kind : K ≡ kind_of (ident bs k)) where
    -- a section of a kind that was not met
    module _ (unmet : met_at met K ≡ false) where
      new : (i : ℕ) → i < k → ident bs i ≡ ident bs k → kind_of (ident bs k) ≡ Unnamed
      new i l e = let a = w.all i l in grind (arith, unnamed)

      -- what a place for kinds holds, once K has its own
      other : (L : Kind) → (kind_number L ≡ kind_number K → ⊥) → met_at (with_kind met K) L ≡ met_at met L
      other L ne = get_or-set_other met (kind_number K) (kind_number L) (is_named K) false ne

      own : met_at (with_kind met K) K ≡ is_named K
      own = get_or-set_same met (kind_number K) (is_named K) false (subst (λ (m : ℕ). kind_number K < m) (sym w.long) (number_below K))

      own_of : (L : Kind) → kind_number L ≡ kind_number K → met_at (with_kind met K) L ≡ is_named L
      own_of L e = subst (λ (M : Kind). met_at (with_kind met K) M ≡ is_named M) (sym (same_number L K e)) own

      all_more : (j : ℕ) → j < k → is_named (kind_of (ident bs j)) ≡ true → met_at (with_kind met K) (kind_of (ident bs j)) ≡ true
      all_more j l t = let a = w.all j l t in grind (arith, own_of, other)

      only_more :
          (L : Kind) → met_at (with_kind met K) L ≡ true
          → (j : ℕ) × (j < k + 1) × (kind_of (ident bs j) ≡ L) × (is_named L ≡ true)
      only_more L t =
          ⊎_elim
          (λ (e : kind_number L ≡ kind_number K). (k, omega arith, cc (same_number L K e), cc (own_of L e)))
          (λ (ne : kind_number L ≡ kind_number K → ⊥).
          let f = w.only L (sym (other L ne) ∙ t) in (f.0, omega (arith, f.1), f.2, f.3))
          (cases_eq (kind_number L) (kind_number K))

      -- one section more
      pub walked_more :
          k < d → ending bs d n k + 2 ≤ n → offset bs k + least_size K (cells_of bs) ≤ ending bs d n k
          → Walked bs d n (k + 1) (with_kind met K)
      walked_more l i r =
          record {
            inner = λ q. let e = ending_next bs d n k q in omega arith;
            long = length-set met (kind_number K) (is_named K) ∙ w.long;
            room =
                below_more _ k w.room
                (subst (λ (M : Kind). offset bs k + least_size M (cells_of bs) ≤ ending bs d n k) kind r);
            inside = below_more _ k w.inside i;
            once = below_more _ k w.once new;
            all = below_more _ k all_more (λ t. subst (λ (M : Kind). met_at (with_kind met K) M ≡ true) kind (own ∙ ap is_named kind ∙ t));
            only = only_more;
          }

    -- a named kind that was met stands there already
    pub met_before : met_at met K ≡ true → k < d → Sectioned bs d n → ⊥
    met_before t l s =
        let f = w.only K t in
        let u : kind_of (ident bs k) ≡ Unnamed = s.once f.0 k f.1 l (same_ident K _ _ f.2 (sym kind) f.3) in
        both_ways _ (ap is_named (kind ∙ u)) f.3

  -- the walk begins, is right behind the Fixed Leader, and ends
  walked_none : Headed bs d n → Led bs d n → Walked bs d n 0 (replicate kinds false)
  walked_none h l =
      record {
        inner = λ _. omega (arith, h.room, l.first);
        long = refl;
        room = λ j q. absurd (omega arith);
        inside = λ j q. absurd (omega arith);
        once = λ j q. absurd (omega arith);
        all = λ j q. absurd (omega arith);
        only = λ K e. absurd (both_ways _ (get_or-replicate kinds (kind_number K) false false (number_below K)) e);
      }

  pub walked_first : Headed bs d n → Led bs d n → Walked bs d n 1 (set (replicate kinds false) 0 true)
  walked_first h l =
      let e = ending_next bs d n 0 (omega (arith, h.some)) in
      walked_more 0 (replicate kinds false) (walked_none h l) FixedLeader (sym l.leaders.0) refl (omega (arith, h.some))
      (omega (arith, e, l.second.1)) (omega (arith, e, l.second.0))

  pub walked_all : (met : List Bool) → Walked bs d n d met → Led bs d n → Sectioned bs d n
  walked_all met w l = record { led = l; room = w.room; inside = w.inside; once = λ i j p q. w.once j q i p }
