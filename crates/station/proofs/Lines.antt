-- The line of an ensemble, and of what is none.
use Rattle.std.proofs.Common.{◌≡◌, ℕ, ◌+◌, ◌*◌, ◌<◌, ◌≤◌, Bool, true, false, cond, leb, List, [], ◌∷◌, ◌++◌, map, length, get_or, take, drop, Some, None, Ok, Err, Option, Result, is_some, is_err, Bor, refl, ap, subst, ◌∙◌, arith}
use Rattle.std.proofs.lemmas.List.{get_or-take}
use Rattle.faults.proofs.Asked.{refused_append}
use Rattle.faults.specs.Questions.{ask, first_fault, answered, all_yes}
use Rattle.faults.specs.declared.line.LineFault.{LineFault}
use Rattle.faults.specs.declared.line.LineFault.TheVariants.{NoFrame, InSection}
use Rattle.faults.specs.declared.section.SectionFault.{SectionFault}
use Rattle.faults.specs.declared.section.SectionFault.TheVariants.{Space}
use Rattle.framing.specs.Stored.{word}
use Rattle.pd0.specs.Ensembles.{IsEnsemble}
use Rattle.pd0.specs.Layout.{count_of, size_of, offset, section_size}
use Rattle.pd0.specs.Questions.{questions, opened}
use Rattle.pd0.specs.Verdicts.{judged_run}
use Rattle.pd0.specs.Opened.{opening_laws}
use Rattle.pd0.proofs.Wholes.{sectioned_from}
use Rattle.pd0.specs.Sounds.{exactly_ensembles}
use Rattle.receiver.specs.declared.answer.Finding.{Finding}
use Rattle.receiver.specs.Rule.{StopsFirst, found_frame}
use Rattle.receiver.specs.State.{State, length_of}
use Rattle.receiver.specs.View.{shown}
use Rattle.receiver.proofs.Stopping.{found_sound}
use Rattle.station.specs.Lines.{variable_leader, ensemble_number, line_text, written, spaced, spaced_buffer}
use Rattle.station.specs.Listed.{frame_questions, frame_lined, frame_buffer, in_section, lined, lined_buffer, FoundEnsemble}

module _ (bs : List ℕ) (s : IsEnsemble bs) where
  leader_size : 65 ≤ section_size bs (count_of bs) (size_of bs) 1
  leader_size = rw s.leaders.1 at (s.sizes 1 (omega (arith, s.sections.0)))

  -- an ensemble has its header, the offsets of two sections, and its Variable Leader
  pub leader_room : (12 ≤ length bs) × (offset bs 1 + 65 ≤ length bs)
  leader_room =
      let i = (sectioned_from bs s).inside 1 (omega (arith, s.sections)) in
      (omega (arith, s.size, s.sections, s.whole), omega (arith, i, leader_size, s.whole))

  -- a byte of the Variable Leader
  leader_byte : (i : ℕ) → i < 65 → get_or (variable_leader bs) i 0 ≡ get_or (drop (offset bs 1) bs) i 0
  leader_byte i lt = get_or-take _ (drop (offset bs 1) bs) i 0 (omega (arith, leader_size))

  -- the number, by bytes that are read from where the Variable Leader begins
  pub number_at : word (drop (offset bs 1) bs) 2 + 65536 * get_or (drop (offset bs 1) bs) 11 0 ≡ ensemble_number bs
  number_at = rw (leader_byte 2 (omega arith), leader_byte 3 (omega arith), leader_byte 11 (omega arith)) refl

-- what is asked behind other questions counts where those are answered by yes
module _ {F : Type 0} where
  last : (os : List (Option F)) (q : Option F) → first_fault os ≡ None → first_fault (os ++ q ∷ []) ≡ q
  last [] None e = refl
  last [] (Some f) e = refl
  last (None ∷ os) q e = last os q e
  last (Some f ∷ os) q e = cc

  none_asked : {X : Type 0} (o : Option F) (x : X) → answered o x ≡ Ok x → o ≡ None
  none_asked None x e = refl
  none_asked (Some f) x e = cc

  one_asked : {X : Type 0} (o : Option F) (x : X) (f : F) → answered o x ≡ Err f → o ≡ Some f
  one_asked None x f e = cc
  one_asked (Some g) x f e = cc

module _ (bs out : List ℕ) where
  -- of an ensemble only space is asked
  spaced_only : IsEnsemble bs → first_fault (frame_questions bs out) ≡ ask (leb (length (line_text bs)) (length out)) Space
  spaced_only s = last (questions bs) _ (none_asked (first_fault (questions bs)) tt ((opening_laws bs).ensembles s))

  by_space : (t : Bool) (n : ℕ) → answered {F = SectionFault} (ask t Space) n ≡ cond t (Ok n) (Err Space)
  by_space true n = refl
  by_space false n = refl

  by_space_too : (t : Bool) (text : List ℕ) → cond (all_yes (ask {F = SectionFault} t Space)) (written text out) out ≡ cond t (written text out) out
  by_space_too true text = refl
  by_space_too false text = refl

  pub ensemble_lined : IsEnsemble bs → frame_lined bs out ≡ spaced (line_text bs) out
  ensemble_lined s = ap (λ o. answered o (length (line_text bs))) (spaced_only s) ∙ by_space _ (length (line_text bs))

  pub ensemble_buffer : IsEnsemble bs → frame_buffer bs out ≡ spaced_buffer (line_text bs) out
  ensemble_buffer s = ap (λ o. cond (all_yes o) (written (line_text bs) out) out) (spaced_only s) ∙ by_space_too _ (line_text bs)

  -- what does not open is refused as opening refuses it
  refused_first : (f : SectionFault) → opened bs ≡ Err f → first_fault (frame_questions bs out) ≡ Some f
  refused_first f e = one_asked (first_fault (frame_questions bs out)) tt f (refused_append (questions bs) _ tt f e)

  pub refused_lined : (f : SectionFault) → opened bs ≡ Err f → frame_lined bs out ≡ Err f
  refused_lined f e = ap (λ o. answered o (length (line_text bs))) (refused_first f e)

  pub refused_buffer : (f : SectionFault) → opened bs ≡ Err f → frame_buffer bs out ≡ out
  refused_buffer f e = ap (λ o. cond (all_yes o) (written (line_text bs) out) out) (refused_first f e)

-- a fault below, as one of the line
abbrev pub raised : Result ℕ SectionFault → Result ℕ LineFault
raised (Ok n) = Ok n
raised (Err f) = Err (InSection f)

first_raised : (os : List (Option SectionFault)) → first_fault (map in_section os) ≡ in_section (first_fault os)
first_raised [] = refl
first_raised (None ∷ os) = first_raised os
first_raised (Some f ∷ os) = refl

raised_answer : (o : Option SectionFault) (n : ℕ) → answered (in_section o) n ≡ raised (answered o n)
raised_answer None n = refl
raised_answer (Some f) n = refl

raised_yes : (o : Option SectionFault) → all_yes (in_section o) ≡ all_yes o
raised_yes None = refl
raised_yes (Some f) = refl

-- where no frame is found there is no line
module _ (s : State) (out : List ℕ) where
  pub none_lined : s.found ≡ None → (lined s out ≡ Err NoFrame) × (lined_buffer s out ≡ out)
  none_lined e = (
    ap (λ o. answered {F = LineFault} (first_fault (ask (is_some o) NoFrame ∷ map in_section (frame_questions (take (length_of o) s.held) out))) (length (line_text (take (length_of o) s.held)))) e,
    ap (λ o. cond (all_yes (first_fault (ask {F = LineFault} (is_some o) NoFrame ∷ map in_section (frame_questions (take (length_of o) s.held) out)))) (written (line_text (take (length_of o) s.held)) out) out) e,
  )

-- a frame was found only where one is shown
pub none_found : (o : Option ℕ) (held : List ℕ) (x : Result (Bor (List ℕ)) LineFault) → shown x ≡ found_frame o held → is_err x ≡ true → o ≡ None
none_found None held x e f = refl
none_found (Some n) held (Ok r) e f = cc
none_found (Some n) held (Err g) e f = cc

-- a frame that is shown was found
pub some_found : (o : Option ℕ) (held frame : List ℕ) → Ok frame ≡ found_frame o held → (n : ℕ) × ((o ≡ Some n) × (frame ≡ take n held))
some_found None held frame e = cc
some_found (Some n) held frame e = (n, (refl, cc))

-- a shown frame that opens is an ensemble
pub opened_found : (s : State) (frame : List ℕ) → Ok frame ≡ found_frame s.found s.held → opened frame ≡ Ok tt → FoundEnsemble s
opened_found s frame e opens n some =
    let f = some_found s.found s.held frame e in
    let same : f.0 ≡ n = let g = f.1.0 in cc in
    subst IsEnsemble (f.1.1 ∙ ap (λ k. take k s.held) same) ((opening_laws frame).opens opens)

-- what the line of a shown frame comes to: the line is written, or its fault goes up whole
module _ (out frame : List ℕ) where
  abbrev Comes : State → List ℕ → Type 0
  Comes s xs = (lined s out ≡ raised (frame_lined xs out)) × (lined_buffer s out ≡ frame_buffer xs out)

  comes : (held : List ℕ) (ended : Bool) (n : ℕ) → Comes (record { held = held; found = Some n; ended = ended }) (take n held)
  comes held ended n =
      let os = frame_questions (take n held) out in
      let text = line_text (take n held) in
      let first = first_raised os in (
        ap (λ o. answered o (length text)) first ∙ raised_answer (first_fault os) (length text),
        ap (λ o. cond (all_yes o) (written text out) out) first ∙ ap (λ t. cond t (written text out) out) (raised_yes (first_fault os)),
      )

  by_found : (o : Option ℕ) (held : List ℕ) (ended : Bool) → Ok frame ≡ found_frame o held → Comes (record { held = held; found = o; ended = ended }) frame
  by_found None held ended e = cc
  by_found (Some n) held ended e =
      let same : take n held ≡ frame = cc in
      subst (Comes (record { held = held; found = Some n; ended = ended })) same (comes held ended n)

  pub shown_lined : (s : State) → Ok frame ≡ found_frame s.found s.held → (lined s out ≡ raised (frame_lined frame out)) × (lined_buffer s out ≡ frame_buffer frame out)
  shown_lined s e = by_found s.found s.held s.ended e

-- what a find finds where no frame was found is an ensemble
pub new_ensemble : (s t : State) (r : Finding) → StopsFirst judged_run s r t → s.found ≡ None → FoundEnsemble t
new_ensemble s t r first none n some = ((exactly_ensembles t.held n).0 (found_sound judged_run s r t n first none some)).1
