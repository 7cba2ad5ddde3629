-- Listings: a term as a row of records, each node before its children.
use Rattle.std.specs.Prelude.{ℕ, suc, Bool, true, false, List, [], ◌∷◌}
use Rattle.domain.specs.Numbers.{op_number}
use Rattle.semantics.specs.declared.layout.Node.{Node}
use Rattle.semantics.specs.declared.layout.Label.{Label}
use Rattle.semantics.specs.declared.layout.Label.TheVariants.{Num, Truth, Var, Binop, Eq, App, Lam, Let, If}
use Rattle.semantics.specs.Terms.{Term, num, truth, var, binop, eq, app, lam, let_in, if_then}

-- A boolean as a number.
abbrev pub bit : Bool → ℕ
bit false = 0
bit true = 1

-- The kinds of nodes.
abbrev pub kind_num : ℕ
kind_num = 1

abbrev pub kind_truth : ℕ
kind_truth = 2

abbrev pub kind_var : ℕ
kind_var = 3

abbrev pub kind_binop : ℕ
kind_binop = 4

abbrev pub kind_eq : ℕ
kind_eq = 5

abbrev pub kind_app : ℕ
kind_app = 6

abbrev pub kind_lam : ℕ
kind_lam = 7

abbrev pub kind_let : ℕ
kind_let = 8

abbrev pub kind_if : ℕ
kind_if = 9

-- The table of records: kind, name and number, and 0 in the fields that a kind does not have. A variable's number
-- is its index: 1 is the innermost binder.
abbrev pub record_of : Label → Node
record_of (Num c) = record { kind = kind_num; name = 0; number = c }
record_of (Truth b) = record { kind = kind_truth; name = 0; number = bit b }
record_of (Var x i) = record { kind = kind_var; name = x; number = suc i }
record_of (Binop o) = record { kind = kind_binop; name = 0; number = op_number o }
record_of Eq = record { kind = kind_eq; name = 0; number = 0 }
record_of App = record { kind = kind_app; name = 0; number = 0 }
record_of (Lam x) = record { kind = kind_lam; name = x; number = 0 }
record_of (Let x) = record { kind = kind_let; name = x; number = 0 }
record_of If = record { kind = kind_if; name = 0; number = 0 }

-- The listing of a term, and behind it the records given.
abbrev pub listing_before : Term → List Node → List Node
listing_before (num c) ns = record_of (Num c) ∷ ns
listing_before (truth b) ns = record_of (Truth b) ∷ ns
listing_before (var x i) ns = record_of (Var x i) ∷ ns
listing_before (binop o l r) ns = record_of (Binop o) ∷ listing_before l (listing_before r ns)
listing_before (eq l r) ns = record_of Eq ∷ listing_before l (listing_before r ns)
listing_before (app f a) ns = record_of App ∷ listing_before f (listing_before a ns)
listing_before (lam x b) ns = record_of (Lam x) ∷ listing_before b ns
listing_before (let_in x a b) ns = record_of (Let x) ∷ listing_before a (listing_before b ns)
listing_before (if_then c t e) ns = record_of If ∷ listing_before c (listing_before t (listing_before e ns))

-- The listing of a term.
abbrev pub listing : Term → List Node
listing t = listing_before t []
