use Rattle.std.proofs.Common.{◌≡◌, ◌+◌, ◌*◌, ◌≤◌, [], ◌∷◌, length, drop}
use Rattle.formula.specs.Check.{scoped}
use Rattle.formula.proofs.Turns.{with_inputs}
use Rattle.formula.proofs.scope.Walk.check_scopes.Given as goal

-- The records from here on, with the scopes of the terms owed, have the answer of them all.
abbrev pub invariant-loop-place : goal.invariant-loop-place
invariant-loop-place l = record {
  answer : scoped l.place (with_inputs l.names l.self.owed) (drop l.place l.listing) ≡ scoped 0 (l.names ∷ []) l.listing;
  deep : length l.self.here ≤ l.place;
  owed : length l.self.owed ≤ 1 + 3 * l.place;
  capacities : l.self.capacities ≡ l.initial.self.capacities;
}
