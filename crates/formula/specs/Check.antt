-- The checks of a listing, in their order, and what they decide.
use Rattle.std.specs.Prelude.{◌≡◌, ℕ, zero, suc, ◌+◌, ◌-◌, ◌≤◌, Bool, true, false, cond, ◌&&◌, List, [], ◌∷◌, length, is_some, Some, None, Ok, Err, Option, Result, ◌==◌, nat_le, nat_lt}
use Rattle.domain.specs.Meaning.{Meaning}
use Rattle.semantics.specs.declared.layout.Node.{Node}
use Rattle.semantics.specs.declared.layout.Label.{Label}
use Rattle.semantics.specs.declared.layout.Label.TheVariants.{Num, Truth, Var, Binop, Eq, App, Lam, Let, If}
use Rattle.semantics.specs.Terms.{Term}
use Rattle.semantics.specs.Listing.{kind_num, listing}
use Rattle.semantics.specs.Counting.{Counted, too_early, over, count}
use Rattle.semantics.specs.Sizes.{most_records, most_names}
use Rattle.semantics.specs.WellFormed.{WellFormed}
use Rattle.formula.specs.declared.refusal.Refusal.{Refusal}
use Rattle.formula.specs.declared.refusal.Refusal.TheVariants.{Size, OutsideTable, Unlawful, EndsEarly, RecordsOver, OutOfScope}
use Rattle.semantics.specs.Label.{label_of}

-- What a check answers: that a listing passes, or why it is refused.
abbrev pub Checked : Type 0
Checked = Result (Unit {0}) Refusal

-- Two checks, one after the other: the first refusal is given.
abbrev pub and_then : Checked → Checked → Checked
and_then (Ok p) second = second
and_then (Err e) second = Err e

-- There are records, not too many, and not too many names.
abbrev pub sized : List ℕ → List Node → Checked
sized names ns = cond (nat_lt 0 (length ns) && nat_le (length ns) most_records && nat_le (length names) most_names) (Ok tt) (Err Size)

-- Every record passes a test; the places count from p.
abbrev pub each_passes : (Node → Bool) → (ℕ → Refusal) → ℕ → List Node → Checked
each_passes test refusal p [] = Ok tt
each_passes test refusal p (n ∷ ns) = cond (test n) (each_passes test refusal (p + 1) ns) (Err (refusal p))

-- The tests of one record: it is in the table; its number, if it is one, is lawful.
abbrev pub has_label : Node → Bool
has_label n = is_some (label_of n)

abbrev pub lawful_number : Meaning → Node → Bool
lawful_number 𝓜 n = cond (n.kind == kind_num) (𝓜.lawful n.number) true

-- Counting finds neither that the listing, so many records long, ends too early, nor that records are over.
abbrev pub exact : ℕ → Counted → Checked
exact len too_early = Err (EndsEarly len)
exact len (over []) = Ok tt
exact len (over (n ∷ ns)) = Err (RecordsOver (len - length (n ∷ ns)))

-- Past i names of a scope, one comes that is x. A scope has its innermost name first.
abbrev pub bears : List ℕ → ℕ → ℕ → Bool
bears [] i x = false
bears (y ∷ Γ) zero x = y == x
bears (y ∷ Γ) (suc i) x = bears Γ i x

-- A record is in scope: a variable's index points to something, and it bears its name.
abbrev pub label_in_scope : Label → List ℕ → Bool
label_in_scope (Num c) Γ = true
label_in_scope (Truth b) Γ = true
label_in_scope (Var x i) Γ = bears Γ i x
label_in_scope (Binop o) Γ = true
label_in_scope Eq Γ = true
label_in_scope App Γ = true
label_in_scope (Lam x) Γ = true
label_in_scope (Let x) Γ = true
label_in_scope If Γ = true

-- The scopes of a node's children, in order, before those of the other terms owed.
abbrev pub scopes_below : Label → List ℕ → List (List ℕ) → List (List ℕ)
scopes_below (Num c) Γ Γs = Γs
scopes_below (Truth b) Γ Γs = Γs
scopes_below (Var x i) Γ Γs = Γs
scopes_below (Binop o) Γ Γs = Γ ∷ Γ ∷ Γs
scopes_below Eq Γ Γs = Γ ∷ Γ ∷ Γs
scopes_below App Γ Γs = Γ ∷ Γ ∷ Γs
scopes_below (Lam x) Γ Γs = (x ∷ Γ) ∷ Γs
scopes_below (Let x) Γ Γs = Γ ∷ (x ∷ Γ) ∷ Γs
scopes_below If Γ Γs = Γ ∷ Γ ∷ Γ ∷ Γs

-- The same of what a record says, if it says something.
abbrev pub in_scope : Option Label → List ℕ → Bool
in_scope None Γ = false
in_scope (Some l) Γ = label_in_scope l Γ

abbrev pub scopes_after : Option Label → List ℕ → List (List ℕ) → List (List ℕ)
scopes_after None Γ Γs = Γs
scopes_after (Some l) Γ Γs = scopes_below l Γ Γs

-- Every record is in scope, where the terms still owed have these scopes; the places count from p.
abbrev pub scoped : ℕ → List (List ℕ) → List Node → Checked
scoped p Γs [] = Ok tt
scoped p [] (n ∷ ns) = Ok tt
scoped p (Γ ∷ Γs) (n ∷ ns) = cond (in_scope (label_of n) Γ) (scoped (p + 1) (scopes_after (label_of n) Γ Γs) ns) (Err (OutOfScope p))

-- All checks of a listing with these names of inputs.
abbrev pub checked : Meaning → List ℕ → List Node → Checked
checked 𝓜 names ns =
    and_then (sized names ns)
    (and_then (each_passes has_label OutsideTable 0 ns)
    (and_then (each_passes (lawful_number 𝓜) Unlawful 0 ns)
    (and_then (exact (length ns) (count 1 ns))
    (scoped 0 (names ∷ []) ns))))

-- A row of records is the listing of a well-formed term, and is not too long, nor are its names too many.
pub record ListingOf (𝓜 : Meaning) (names : List ℕ) (ns : List Node) (t : Term) : Type 0 where
  pub is_listing : listing t ≡ ns
  pub well_formed : WellFormed 𝓜 names t
  pub few_records : length ns ≤ most_records
  pub few_names : length names ≤ most_names

-- A listing passes exactly when it is that of some well-formed term.
pub record CheckDecides : Type 0 where
  pub sound : (𝓜 : Meaning) (names : List ℕ) (ns : List Node) → checked 𝓜 names ns ≡ Ok tt → (t : Term) × ListingOf 𝓜 names ns t
  pub complete : (𝓜 : Meaning) (names : List ℕ) (ns : List Node) (t : Term) → ListingOf 𝓜 names ns t → checked 𝓜 names ns ≡ Ok tt
