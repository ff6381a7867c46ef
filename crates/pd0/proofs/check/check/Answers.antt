use Rattle.std.proofs.Common.{Ok, sym, ap, ◌∙◌}
use Rattle.faults.proofs.Asked.{yes_parts, yes_answer}
use Rattle.faults.specs.Questions.{first_fault}
use Rattle.pd0.specs.Questions.{head_questions, questions, header_of}
use Rattle.pd0.specs.Verdicts.{whole}
use Rattle.pd0.specs.Opened.{opening_laws}
use Rattle.pd0.proofs.check.check.Goals as goal

pub returns-in-Ok : goal.returns-in-Ok
unfolding whole
returns-in-Ok c =
    let bs = c.args.bytes.now in
    let p = yes_parts (first_fault (head_questions bs)) (header_of bs) c.in-Ok.header c.in-Ok.ensures.value in
    record {
      value = ap Ok p.1 ∙ sym (yes_answer (first_fault (questions bs)) (header_of bs) (sym c.if-is_whole.ensures));
      laws = opening_laws bs;
    }

pub returns-in_default-clause-laws : goal.returns-in_default-clause-laws
returns-in_default-clause-laws c = opening_laws c.args.bytes.now
