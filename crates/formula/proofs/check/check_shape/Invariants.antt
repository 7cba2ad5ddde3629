use Rattle.std.proofs.Common.{◌≡◌, ◌+◌, ◌≤◌, drop}
use Rattle.semantics.specs.Counting.{count}
use Rattle.formula.proofs.check.check_shape.Given as goal

-- Counting goes on here with the terms still owed; each record adds at most two to them.
abbrev pub invariant-loop-place : goal.invariant-loop-place
invariant-loop-place l = (count l.owed (drop l.place l.listing) ≡ count 1 l.listing) × (l.owed ≤ 1 + (l.place + l.place))
