-- A listing is read from its last record to its first, over a stack of terms.
use Rattle.std.proofs.Common.{◌≡◌, cond, eqb, List, [], ◌∷◌, sym, refl, ap, ◌∙◌}
use Rattle.semantics.specs.declared.layout.Node.{Node}
use Rattle.semantics.specs.declared.layout.Label.TheVariants.{Num, Truth, Var, Binop, Eq, App, Lam, Let, If}
use Rattle.semantics.specs.Terms.{Term, num, truth, var, binop, eq, app, lam, let_in, if_then}
use Rattle.semantics.specs.Listing.{kind_num, kind_truth, kind_var, kind_binop, kind_eq, kind_app, kind_lam, kind_let, record_of, listing_before}
use Rattle.semantics.specs.Injective.{ListingIsInjective}
use Rattle.semantics.specs.Showing.{top, rest}
use Rattle.semantics.specs.ReadingBack.{bit_back, op_back, index_back}
use Rattle.semantics.proofs.ReadingBack.{bit_again, op_again}

-- The stack once a record is read: its children stand on top, the first uppermost.
abbrev build : Node → List Term → List Term
build n s =
    cond (eqb n.kind kind_num) (num n.number ∷ s)
    (cond (eqb n.kind kind_truth) (truth (bit_back n.number) ∷ s)
    (cond (eqb n.kind kind_var) (var n.name (index_back n.number) ∷ s)
    (cond (eqb n.kind kind_binop) (binop (op_back n.number) (top s) (top (rest s)) ∷ rest (rest s))
    (cond (eqb n.kind kind_eq) (eq (top s) (top (rest s)) ∷ rest (rest s))
    (cond (eqb n.kind kind_app) (app (top s) (top (rest s)) ∷ rest (rest s))
    (cond (eqb n.kind kind_lam) (lam n.name (top s) ∷ rest s)
    (cond (eqb n.kind kind_let) (let_in n.name (top s) (top (rest s)) ∷ rest (rest s))
    (if_then (top s) (top (rest s)) (top (rest (rest s))) ∷ rest (rest (rest s))))))))))

-- The terms that a row of records is read as.
abbrev parse : List Node → List Term
parse [] = []
parse (n ∷ ns) = build n (parse ns)

-- A listing is read as its term, upon what the records behind it are read as.
parse-listing : (t : Term) (ns : List Node) {s : List Term} → parse ns ≡ s → parse (listing_before t ns) ≡ t ∷ s
parse-listing (num c) ns e = ap (build (record_of (Num c))) e
parse-listing (truth b) ns {s = s} e = ap (build (record_of (Truth b))) e ∙ ap (λ z. truth z ∷ s) (bit_again b)
parse-listing (var x i) ns e = ap (build (record_of (Var x i))) e
parse-listing (binop o l r) ns {s = s} e =
    ap (build (record_of (Binop o))) (parse-listing l _ (parse-listing r ns e)) ∙ ap (λ z. binop z l r ∷ s) (op_again o)
parse-listing (eq l r) ns e = ap (build (record_of Eq)) (parse-listing l _ (parse-listing r ns e))
parse-listing (app f a) ns e = ap (build (record_of App)) (parse-listing f _ (parse-listing a ns e))
parse-listing (lam x b) ns e = ap (build (record_of (Lam x))) (parse-listing b ns e)
parse-listing (let_in x a b) ns e = ap (build (record_of (Let x))) (parse-listing a _ (parse-listing b ns e))
parse-listing (if_then c t f) ns e = ap (build (record_of If)) (parse-listing c _ (parse-listing t _ (parse-listing f ns e)))

pub listing_is_injective : ListingIsInjective
listing_is_injective t t' e = ap top (sym (parse-listing t [] refl) ∙ ap parse e ∙ parse-listing t' [] refl)
