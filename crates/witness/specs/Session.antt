-- The records of the caller: rounds of feed, find and pass.
use Rattle.std.specs.Result.{result_unwrap_or}
use Rattle.std.specs.Prelude.{ℕ, ◌+◌, ◌^◌, ◌<◌, List, [], ◌∷◌, length, drop}
use Rattle.framing.specs.declared.verdict.Verdict.{Verdict}
use Rattle.receiver.specs.State.{State}
use Rattle.receiver.specs.Rule.{feeds, finds, passes}
use Rattle.receiver.specs.Record.{Record, taken, Led}
use Rattle.receiver.specs.Promise.{Promise}
use Rattle.witness.specs.declared.Heard.{Heard}
use Rattle.witness.specs.declared.Round.{Round}

-- a record with a round more, in which these bytes were fed
abbrev pub with_round : List ℕ → Round → Record → Record
with_round fed r es = passes r.passed ∷ finds r.found ∷ feeds fed r.fed ∷ es

-- what is promised of a round, as of each of its calls
abbrev pub PromisedRound : (List ℕ → Verdict) → ℕ → State → List ℕ → Round → State → Type 0
PromisedRound judged longest s fed r t =
    (es : Record) → Led judged es s → length (taken es) + length fed < 2 ^ 63 → Promise judged longest (with_round fed r es) t

-- the record of two rounds, the second with what the first did not take, and of a find
abbrev pub record_of : List ℕ → Heard → Record
record_of line h = finds h.last ∷ with_round (drop (result_unwrap_or h.first.fed 0) line) h.second (with_round line h.first [])
