-- The arena: what its nodes stand for. Nodes are newest first, and a node's place is the number of older ones.
use Rattle.std.specs.Prelude.{ℕ, ◌<◌, cond, List, [], ◌∷◌, length, Some, None, Option, ◌==◌}
use Rattle.std.specs.List.{AllByRecursion}
use Rattle.semantics.specs.declared.layout.Node.{Node}
use Rattle.semantics.specs.declared.layout.Label.TheVariants as L
use Rattle.semantics.specs.Terms.{Term, num, truth, var, binop, eq, app, lam, let_in, if_then}
use Rattle.semantics.specs.Listing.{record_of, listing_before, kind_var}
use Rattle.semantics.specs.ReadingBack.{index_back}
use Rattle.reading.specs.declared.reader.Tree.{Tree}
use Rattle.reading.specs.declared.reader.Tree.TheVariants.{Num, Truth, Var, Binop, Eq, App, Lam, Let, If}

-- A node, given what older nodes stand for.
abbrev pub over : (ℕ → Term) → Tree → Term
over f (Num c) = num c
over f (Truth b) = truth b
over f (Var x i) = var x (index_back i)
over f (Binop o l r) = binop o (f l) (f r)
over f (Eq l r) = eq (f l) (f r)
over f (App g a) = app (f g) (f a)
over f (Lam x b) = lam x (f b)
over f (Let x a b) = let_in x (f a) (f b)
over f (If q t e) = if_then (f q) (f t) (f e)

-- The term that the node at a place stands for. (The answer for a place that no node has is arbitrary.)
abbrev pub term : List Tree → ℕ → Term
term [] i = num 0
term (t ∷ older) i = cond (i == length older) (over (term older) t) (term older i)

-- A node with n older ones has its children among them; an index is from 1.
abbrev pub Below : ℕ → Tree → Type 0
Below n (Num c) = Unit {0}
Below n (Truth b) = Unit {0}
Below n (Var x i) = 0 < i
Below n (Binop o l r) = (l < n) × (r < n)
Below n (Eq l r) = (l < n) × (r < n)
Below n (App g a) = (g < n) × (a < n)
Below n (Lam x b) = b < n
Below n (Let x a b) = (a < n) × (b < n)
Below n (If q t e) = (q < n) × (t < n) × (e < n)

-- Every node of an arena has its children among the older ones.
abbrev pub Falls : List Tree → Type 0
Falls [] = Unit {0}
Falls (t ∷ older) = Below (length older) t × Falls older

-- Every number of a list is below n.
abbrev pub AllBelow : ℕ → List ℕ → Type 0
AllBelow n s = AllByRecursion (λ x. x < n) s

-- A place that was answered is one of the arena's.
abbrev pub InArena : List Tree → Option ℕ → Type 0
InArena ns None = Unit {0}
InArena ns (Some r) = Falls ns × (r < length ns)

-- A node's own record.
abbrev pub own_record : Tree → Node
own_record (Num c) = record_of (L.Num c)
own_record (Truth b) = record_of (L.Truth b)
own_record (Var x i) = record { kind = kind_var; name = x; number = i }
own_record (Binop o l r) = record_of (L.Binop o)
own_record (Eq l r) = record_of L.Eq
own_record (App g a) = record_of L.App
own_record (Lam x b) = record_of (L.Lam x)
own_record (Let x a b) = record_of (L.Let x)
own_record (If q t e) = record_of L.If

-- A node's children, in the order of the listing.
abbrev pub children : Tree → List ℕ
children (Num c) = []
children (Truth b) = []
children (Var x i) = []
children (Binop o l r) = l ∷ r ∷ []
children (Eq l r) = l ∷ r ∷ []
children (App g a) = g ∷ a ∷ []
children (Lam x b) = b ∷ []
children (Let x a b) = a ∷ b ∷ []
children (If q t e) = q ∷ t ∷ e ∷ []

-- The listings of several nodes, one after the other.
abbrev pub listings : (ℕ → Term) → List ℕ → List Node
listings f [] = []
listings f (i ∷ s) = listing_before (f i) (listings f s)
