-- What is known where the reader stands is known.
use Rattle.records.specs.program.Reader.{Reading}
use Rattle.records.proofs.layout.find_records.Given as goal

abbrev pub invariant-loop-k : goal.invariant-loop-k
invariant-loop-k l = Reading l.sheet l.k l.reader l.places
