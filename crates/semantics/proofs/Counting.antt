-- Counting decides what a row of records is.
use Rattle.std.proofs.Common.{◌≡◌, ℕ, zero, suc, List, [], ◌∷◌, ◌++◌, refl, ◌∙◌}
use Rattle.semantics.specs.declared.layout.Node.{Node}
use Rattle.semantics.specs.declared.layout.Label.TheVariants.{Num, Truth, Var, Binop, Eq, App, Lam, Let, If}
use Rattle.semantics.specs.Terms.{Term, num, truth, var, binop, eq, app, lam, let_in, if_then}
use Rattle.semantics.specs.Listing.{record_of, listing_before}
use Rattle.semantics.specs.Counting.{owed_after, too_early, over, count, InTable, in_table, AllInTable, CountingDecides}

-- Counting takes a listing off the front, and one term is owed less.
count-listing : (t : Term) (m : ℕ) (ns : List Node) → count (suc m) (listing_before t ns) ≡ count m ns
count-listing (binop o l r) m ns = count-listing l (suc m) (listing_before r ns) ∙ count-listing r m ns
count-listing (eq l r) m ns = count-listing l (suc m) (listing_before r ns) ∙ count-listing r m ns
count-listing (app l r) m ns = count-listing l (suc m) (listing_before r ns) ∙ count-listing r m ns
count-listing (lam x b) m ns = count-listing b m ns
count-listing (let_in x a b) m ns = count-listing a (suc m) (listing_before b ns) ∙ count-listing b m ns
count-listing (if_then c t e) m ns =
    count-listing c (suc (suc m)) (listing_before t (listing_before e ns)) ∙ count-listing t (suc m) (listing_before e ns) ∙ count-listing e m ns
count-listing t m ns = refl

-- A row that begins with m listings, and behind them ns.
data Forest (ns : List Node) : ℕ → List Node → Type 0 where
  no_tree : Forest ns zero ns
  tree : (t : Term) {m : ℕ} {row : List Node} → Forest ns m row → Forest ns (suc m) (listing_before t row)

-- A record in front of its children's listings makes one listing of them.
two_children : (f : Term → Term → Term) (n : Node) {ns : List Node} {m : ℕ} {row : List Node} →
    ((l r : Term) (row : List Node) → listing_before (f l r) row ≡ n ∷ listing_before l (listing_before r row)) →
    Forest ns (suc (suc m)) row → Forest ns (suc m) (n ∷ row)
two_children f n {ns = ns} {m = m} is (tree l (tree r {row = row} F)) = rw (is l r row) at (tree (f l r) F)

-- The record of any kind in front of its children makes one listing of them.
root : {n : Node} {ns : List Node} (m : ℕ) (row : List Node) → InTable n → Forest ns (owed_after n.kind m) row → Forest ns (suc m) (n ∷ row)
root m row (in_table (Num c)) F = tree (num c) F
root m row (in_table (Truth b)) F = tree (truth b) F
root m row (in_table (Var x i)) F = tree (var x i) F
root m row (in_table (Binop o)) F = two_children (binop o) (record_of (Binop o)) (λ l r row. refl) F
root m row (in_table Eq) F = two_children eq (record_of Eq) (λ l r row. refl) F
root m row (in_table App) F = two_children app (record_of App) (λ l r row. refl) F
root m row (in_table (Lam x)) (tree b F) = tree (lam x b) F
root m row (in_table (Let x)) F = two_children (let_in x) (record_of (Let x)) (λ l r row. refl) F
root m row (in_table If) (tree c (tree t (tree e F))) = tree (if_then c t e) F

-- A row with records over after m terms begins with m listings.
forest_of : (row : List Node) (m : ℕ) (ns : List Node) → AllInTable row → count m row ≡ over ns → Forest ns m row
forest_of row zero ns h e = let q : row ≡ ns = cc in rw q no_tree
forest_of [] (suc m) ns h e = cc
forest_of (n ∷ row) (suc m) ns h e = root m row h.0 (forest_of row (owed_after n.kind m) ns h.1 e)

-- m Nums.
zeros : ℕ → List Node
zeros zero = []
zeros (suc m) = record_of (Num 0) ∷ zeros m

zeros_forest : (m : ℕ) → Forest [] m (zeros m)
unfolding zeros
zeros_forest zero = no_tree
zeros_forest (suc m) = tree (num 0) (zeros_forest m)

-- A row that ends too early can be completed, with at least one record.
completed : (row : List Node) (m : ℕ) → AllInTable row → count m row ≡ too_early → (n : Node) × (ns : List Node) × Forest [] m (row ++ (n ∷ ns))
completed row zero h e = cc
completed [] (suc m) h e = (record_of (Num 0), zeros m, tree (num 0) (zeros_forest m))
completed (x ∷ row) (suc m) h e =
    let (n, ns, F) = completed row (owed_after x.kind m) h.1 e in (n, ns, root m (row ++ (n ∷ ns)) h.0 F)

-- A row that begins with one listing is that of a term.
one_tree : {ns row : List Node} → Forest ns 1 row → (t : Term) × (listing_before t ns ≡ row)
one_tree (tree t no_tree) = (t, refl)

pub counting_decides : CountingDecides
counting_decides = record {
  counts = λ t ns. count-listing t 0 ns;
  complete = λ row ns h e. one_tree (forest_of row 1 ns h e);
  begun = λ row h e. let (n, ns, F) = completed row 1 h e in let (t, is) = one_tree F in (t, n, ns, is);
}
