use Rattle.std.proofs.Common.{◌≡◌, drop, sym, ap, ◌∙◌, rules}
use Rattle.station.specs.Lines.{line_text, spaced, spaced_buffer}
use Rattle.station.proofs.Lines.{ensemble_lined, ensemble_buffer}
use Rattle.station.proofs.line.Known.write_line.Goals as goal

pub returns : goal.returns
returns c =
    let bs = c.args.self.now.bytes.now in
    let out = c.args.out.now in
    let line = c.put_column-3.new.self in
    let text : drop line.start line.bytes ≡ line_text bs = search rules in
    record {
      value = c.write.ensures.value ∙ ap (λ xs. spaced xs out) text ∙ sym (ensemble_lined bs out c.args.self.now.ensemble);
      buffer = c.write.ensures.buffer ∙ ap (λ xs. spaced_buffer xs out) text ∙ sym (ensemble_buffer bs out c.args.self.now.ensemble);
      bound = c.write.ensures.bound;
    }
