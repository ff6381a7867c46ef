-- A fault of the frame goes through to the layer above.
use Rattle.std.proofs.Common.{◌≡◌, ℕ, Bool, true, false, List, [], ◌∷◌, ◌++◌, map, Some, None, Err, Option, refl, arith}
use Rattle.faults.specs.declared.frame.FrameFault.{FrameFault}
use Rattle.faults.specs.declared.section.SectionFault.{SectionFault}
use Rattle.faults.specs.declared.section.SectionFault.TheVariants.{InFrame}
use Rattle.faults.specs.Least.{or_else}
use Rattle.faults.specs.Questions.{ask, ask_each, first_fault, answered}
use Rattle.pd0.specs.Questions.{in_frame}

-- whatever is asked of the sections behind it
pub frame_refused :
    {X : Type 0} (os : List (Option FrameFault)) (more : List (Option SectionFault)) (x : X) (f : FrameFault)
    → Err f ≡ answered (first_fault os) x → Err (InFrame f) ≡ answered (first_fault (map in_frame os ++ more)) x
frame_refused [] more x f e = absurd (let z : ◌≡◌ {A = ℕ} 0 1 = cc in omega arith)
frame_refused (None ∷ os) more x f e = frame_refused os more x f e
frame_refused (Some g ∷ os) more x f e = cc

-- where no fault is told, none was there
both_none : {X : Type 0} (o p : Option X) → or_else o p ≡ None → (o ≡ None) × (p ≡ None)
both_none None p e = (refl, e)
both_none (Some x) p e = absurd (let z : ◌≡◌ {A = ℕ} 0 1 = cc in omega arith)

ask_yes : {F : Type 0} (b : Bool) (f : F) → ask b f ≡ None → b ≡ true
ask_yes true f e = refl
ask_yes false f e = absurd (let z : ◌≡◌ {A = ℕ} 0 1 = cc in omega arith)

each_none : {F : Type 0} (o : Option ℕ) (f : ℕ → F) → ask_each o f ≡ None → o ≡ None
each_none None f e = refl
each_none (Some k) f e = absurd (let z : ◌≡◌ {A = ℕ} 0 1 = cc in omega arith)

below_none : (o : Option FrameFault) → in_frame o ≡ None → o ≡ None
below_none None e = refl
below_none (Some f) e = absurd (let z : ◌≡◌ {A = ℕ} 0 1 = cc in omega arith)
