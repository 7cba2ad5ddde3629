use Rattle.std.proofs.Common.{◌≡◌, take, Some}
use Rattle.reading.specs.Workspace.{workspace_of, run, blank}
use Rattle.reading.proofs.reader.Reader.read.Given as goal

-- What was read so far leads here.
abbrev pub invariant-loop-instruction : goal.invariant-loop-instruction
invariant-loop-instruction l = run (take l.instruction-index l.front) (blank l.inputs) ≡ Some (workspace_of l.self)
