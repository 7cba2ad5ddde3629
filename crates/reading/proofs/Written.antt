-- Records in prefix order.
use Rattle.std.proofs.Common.{◌≡◌, ℕ, zero, suc, ◌+◌, ◌<◌, ◌≤◌, List, [], ◌∷◌, ◌++◌, length, sym, refl, ap, ◌∙◌, ap₂, arith}
use Rattle.std.proofs.lemmas.List.{append_assoc, length-append}
use Rattle.semantics.specs.declared.layout.Node.{Node}
use Rattle.semantics.specs.Terms.{Term, num, truth, var, binop, eq, app, lam, let_in, if_then}
use Rattle.semantics.specs.Listing.{listing_before}
use Rattle.reading.specs.declared.reader.Tree.{Tree}
use Rattle.reading.specs.declared.reader.Tree.TheVariants.{Num, Truth, Var, Binop, Eq, App, Lam, Let, If}
use Rattle.reading.specs.Arena.{over, Below, own_record, children, listings}

-- The listing of a node is its own record and then its children's listings.
own_record_first : (f : ℕ → Term) (n : ℕ) (t : Tree) (s : List ℕ) → Below n t → listing_before (over f t) (listings f s) ≡ own_record t ∷ listings f (children t ++ s)
own_record_first f n (Num c) s h = refl
own_record_first f n (Truth b) s h = refl
own_record_first f n (Var x zero) s h = absurd (omega (arith, h))
own_record_first f n (Var x (suc i)) s h = refl
own_record_first f n (Binop o l r) s h = refl
own_record_first f n (Eq l r) s h = refl
own_record_first f n (App g a) s h = refl
own_record_first f n (Lam x b) s h = refl
own_record_first f n (Let x a b) s h = refl
own_record_first f n (If q t e) s h = refl

-- Writing one record keeps the sum of what is written and what is still to be.
pub one_record_more : (f : ℕ → Term) (n i : ℕ) (t : Tree) (b b' : List Node) (w w' w'' : List ℕ) (z : List Node) (r : Node) →
    Below n t → b ++ listings f w ≡ z → w ≡ i ∷ w' → f i ≡ over f t → b' ≡ b ++ r ∷ [] → r ≡ own_record t → w'' ≡ children t ++ w' → b' ++ listings f w'' ≡ z
one_record_more f n i t b b' w w' w'' z r low inv top at out is more =
    ap₂ (λ x y. x ++ listings f y) out more
    ∙ append_assoc b (r ∷ []) (listings f (children t ++ w'))
    ∙ ap (λ x. b ++ (x ∷ listings f (children t ++ w'))) is
    ∙ ap (λ x. b ++ x) (sym (own_record_first f n t w' low))
    ∙ ap (λ x. b ++ listing_before x (listings f w')) (sym at)
    ∙ ap (λ x. b ++ listings f x) (sym top)
    ∙ inv

-- A term has a record at least.
listing_longer : (t : Term) (ns : List Node) → suc (length ns) ≤ length (listing_before t ns)
listing_longer (num c) ns = omega arith
listing_longer (truth b) ns = omega arith
listing_longer (var x i) ns = omega arith
listing_longer (binop o l r) ns = omega (arith, listing_longer l (listing_before r ns), listing_longer r ns)
listing_longer (eq l r) ns = omega (arith, listing_longer l (listing_before r ns), listing_longer r ns)
listing_longer (app f a) ns = omega (arith, listing_longer f (listing_before a ns), listing_longer a ns)
listing_longer (lam x b) ns = omega (arith, listing_longer b ns)
listing_longer (let_in x a b) ns = omega (arith, listing_longer a (listing_before b ns), listing_longer b ns)
listing_longer (if_then q t e) ns = omega (arith, listing_longer q (listing_before t (listing_before e ns)), listing_longer t (listing_before e ns), listing_longer e ns)

-- Several have at least as many as they are.
listings_longer : (f : ℕ → Term) (s : List ℕ) → length s ≤ length (listings f s)
listings_longer f [] = omega arith
listings_longer f (i ∷ s) = omega (arith, listings_longer f s, listing_longer (f i) (listings f s))

-- Where as many nodes wait as there is room for, the listings do not fit.
pub no_room_left : (f : ℕ → Term) (i l : ℕ) (a b : List Node) (w w' : List ℕ) (x : List Node) → b ++ listings f w ≡ a ++ x → w ≡ i ∷ w' → l ≤ length b + length w' → l < length a + length x
no_room_left f i l a b w w' x inv top h =
    omega (arith, length-append b (listings f w), length-append a x, ap length inv, ap (λ s. length (listings f s)) top, listing_longer (f i) (listings f w'), listings_longer f w')
