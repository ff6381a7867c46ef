use Rattle.std.proofs.Common.{◌≤◌, length, decimal, arith, rules}
use Rattle.std.proofs.lemmas.Fmt.{length-decimal-le}
use Rattle.station.specs.Lines.{most_digits}
use Rattle.station.proofs.line.Text.put_column.Goals as goal

pub write_digits-self-requires : goal.write_digits-self-requires
write_digits-self-requires c = search (rules, length-decimal-le most_digits)

pub returns-clause-room : goal.returns-clause-room
returns-clause-room c =
    let few : length (decimal c.args.number) ≤ most_digits = search (rules, length-decimal-le most_digits) in
    omega (arith, few)
