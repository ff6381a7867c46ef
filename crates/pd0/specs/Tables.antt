-- What a table of offsets without a wrong one says.
use Rattle.std.proofs.Common.{◌≡◌, ℕ, zero, suc, ◌+◌, ◌-◌, ◌<◌, ◌≤◌, List, None, subst, add-one, arith}
use Rattle.std.proofs.lemmas.Bool.{ltb-false}
use Rattle.std.proofs.lemmas.Bool.Decides.{nat_tests}
use Rattle.faults.proofs.Leasts.{least_none}
use Rattle.faults.specs.Least.{least}
use Rattle.pd0.specs.Kinds.{kind_of, least_size}
use Rattle.pd0.specs.Layout.{table_end, offset, ident, section_size, cells_of}
use Rattle.pd0.specs.Questions.{wrong_offset, wrong_size}
use Rattle.pd0.specs.Table.{Tabled}
use Rattle.pd0.specs.Whole.{Headed}

pub table_first : (bs : List ℕ) (d n : ℕ) → least (wrong_offset bs d n) d ≡ None → 0 < d → offset bs 0 ≡ table_end d
table_first bs d n e h = let w = least_none (wrong_offset bs d n) d 0 e h in grind (arith, nat_tests)

pub table_apart : (bs : List ℕ) (d n : ℕ) → least (wrong_offset bs d n) d ≡ None → (k : ℕ) → k + 1 < d → offset bs k + 2 ≤ offset bs (k + 1)
table_apart bs d n e k h = let w = least_none (wrong_offset bs d n) d (k + 1) e h in grind (arith, nat_tests)

pub table_last : (bs : List ℕ) (d n : ℕ) → least (wrong_offset bs d n) d ≡ None → 0 < d → offset bs (d - 1) + 4 ≤ n
table_last bs d n e h = let w = least_none (wrong_offset bs d n) d (d - 1) e (omega arith) in grind (arith, nat_tests)

module _ (bs : List ℕ) (d : ℕ) (up : (k : ℕ) → k + 1 < d → offset bs k + 2 ≤ offset bs (k + 1)) where
  -- an ascending table has nothing below its first offset
  pub above : (k : ℕ) → k < d → offset bs 0 ≤ offset bs k
  above zero h = omega arith
  above (suc k) h =
      let i = above k (omega arith) in
      let s = subst (λ (j : ℕ). offset bs k + 2 ≤ offset bs j) (add-one k) (up k (omega arith)) in
      omega arith

  -- nor above its last
  pub under : (j k : ℕ) → k + j + 1 ≡ d → offset bs k ≤ offset bs (d - 1)
  under zero k e = let s : k ≡ d - 1 = omega arith in rw s (omega arith)
  under (suc j) k e =
      let i = under j (k + 1) (omega arith) in
      let s = up k (omega arith) in
      omega arith

-- of any numbers, right or wrong
pub tabled_by : (bs : List ℕ) (d n : ℕ) → 0 < d → least (wrong_offset bs d n) d ≡ None → Tabled bs d n
tabled_by bs d n some e =
    let first = table_first bs d n e (omega arith) in
    let apart = table_apart bs d n e in
    let last = table_last bs d n e (omega arith) in
    record {
      first = first;
      apart = apart;
      behind = λ k l. let i = above bs d apart k l in omega arith;
      inside = λ k l. let i = under bs d apart (d - 1 - k) k (omega arith) in omega arith;
    }

pub tabled_from : (bs : List ℕ) (d n : ℕ) → Headed bs d n → least (wrong_offset bs d n) d ≡ None → Tabled bs d n
tabled_from bs d n h e = tabled_by bs d n (omega (arith, h.some)) e

pub sizes_from :
    (bs : List ℕ) (d n : ℕ) → least (wrong_size bs d n) d ≡ None
    → (k : ℕ) → k < d → least_size (kind_of (ident bs k)) (cells_of bs) ≤ section_size bs d n k
sizes_from bs d n e k h = ltb-false _ _ (least_none (wrong_size bs d n) d k e h)
