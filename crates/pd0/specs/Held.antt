-- What a place for an ensemble holds.
use Rattle.std.specs.Prelude.{ℕ, List}
use Rattle.pd0.specs.declared.ensemble.Ensemble.{Ensemble}

-- the bytes that were opened, and none in a new place
abbrev pub held : Ensemble → List ℕ
held e = e.bytes.now
