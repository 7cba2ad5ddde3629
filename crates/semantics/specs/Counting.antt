-- Counting the children still owed: when a row of records is a listing.
use Rattle.std.specs.Prelude.{◌≡◌, ℕ, zero, suc, cond, ◌||◌, List, [], ◌∷◌, ◌++◌, ◌==◌}
use Rattle.semantics.specs.declared.layout.Node.{Node}
use Rattle.semantics.specs.declared.layout.Label.{Label}
use Rattle.semantics.specs.Terms.{Term}
use Rattle.semantics.specs.Listing.{kind_binop, kind_eq, kind_app, kind_lam, kind_let, kind_if, record_of, listing_before, listing}

-- How many terms are owed after a record of kind k, where m are owed besides it: one more for each of its children.
abbrev pub owed_after : ℕ → ℕ → ℕ
owed_after k m =
    cond (k == kind_if) (suc (suc (suc m)))
    (cond (k == kind_lam) (suc m)
    (cond (k == kind_binop || k == kind_eq || k == kind_app || k == kind_let) (suc (suc m)) m))

-- What counting finds in a row: it ends too early, or these records are over.
pub data Counted : Type 0 where
  too_early : Counted
  over : List Node → Counted

-- Take records off the front of a row while terms are owed.
abbrev pub count : ℕ → List Node → Counted
count zero ns = over ns
count (suc owed) [] = too_early
count (suc owed) (n ∷ ns) = count (owed_after n.kind owed) ns

-- A record in the table: its kind is known, and its fields are as the kind has them.
pub data InTable : Node → Type 0 where
  in_table : (l : Label) → InTable (record_of l)

abbrev pub AllInTable : List Node → Type 0
AllInTable [] = Unit {0}
AllInTable (n ∷ ns) = InTable n × AllInTable ns

-- Counting from one term owed decides what a row of records in the table is: a listing and the records over
-- (none, when it is complete), or a row that ends before some listing does.
pub record CountingDecides : Type 0 where
  pub counts : (t : Term) (ns : List Node) → count 1 (listing_before t ns) ≡ over ns
  pub complete : (row ns : List Node) → AllInTable row → count 1 row ≡ over ns → (t : Term) × (listing_before t ns ≡ row)
  pub begun : (row : List Node) → AllInTable row → count 1 row ≡ too_early →
      (t : Term) × (n : Node) × (ns : List Node) × (listing t ≡ row ++ (n ∷ ns))
