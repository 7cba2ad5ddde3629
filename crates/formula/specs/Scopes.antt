-- How the check keeps scopes: the binders on the path to a node, and for each term owed how deep it stands.
use Rattle.std.specs.Prelude.{ℕ, ◌≤◌, List, [], ◌∷◌, ◌++◌, reverse, take}
use Rattle.std.specs.Option.{option_to_list}
use Rattle.formula.specs.declared.scope.Owed.{Owed}

-- The most terms that are owed at a time: one, and three for each record.
abbrev pub most_owed : ℕ
most_owed = 1537

-- Where a walk stands: the binders that the node at hand is under, and those of each term owed, the next term first. The
-- innermost binder comes first. Its vectors, for terms owed and for the path, have these capacities.
pub record Walked : Type 0 where
  pub here : List ℕ
  pub owed : List (List ℕ)
  pub capacities : ℕ × ℕ

-- The binders of a term owed: its own, if it has one, before those of the path to its depth. The path has its outermost first.
abbrev pub binders_of : List ℕ → Owed → List ℕ
binders_of path o = option_to_list o.binder ++ reverse (take o.depth path)

-- No term stands deeper than those owed before it, nor than the path goes. So what the path has beyond the depth of
-- the next one is needed no more.
abbrev pub Falling : ℕ → List Owed → Type 0
Falling depth [] = Unit {0}
Falling depth (o ∷ os) = (o.depth ≤ depth) × Falling o.depth os
