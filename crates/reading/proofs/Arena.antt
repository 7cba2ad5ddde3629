-- What the nodes of an arena stand for does not change as it grows.
use Rattle.std.proofs.Common.{◌≡◌, ℕ, suc, ◌-◌, ◌<◌, List, [], ◌∷◌, ◌++◌, map, reverse, length, get_or, sym, refl, ap, ◌∙◌, subst, ap₂, ⊎_elim, arith}
use Rattle.std.proofs.lemmas.List.{length-reverse, get_or-reverse}
use Rattle.std.proofs.lemmas.Bool.{eq-eqb, ne_eqb, cases_eq}
use Rattle.std.specs.List.{AllByRecursion}
use Rattle.semantics.specs.Terms.{Term, binop, eq, app, lam, let_in, if_then}
use Rattle.reading.specs.declared.reader.Tree.{Tree}
use Rattle.reading.specs.declared.reader.Tree.TheVariants.{Num, Truth, Var, Binop, Eq, App, Lam, Let, If}
use Rattle.reading.specs.Arena.{over, term, Below, Falls, AllBelow, children}

-- The newest node is read over the older ones.
pub term_new : (t : Tree) (ns : List Tree) → term (t ∷ ns) (length ns) ≡ over (term ns) t
term_new t ns = rw (eq-eqb (length ns) (length ns) refl) refl

-- An older node stands for what it stood for.
pub term_old : (t : Tree) (ns : List Tree) (i : ℕ) → i < length ns → term (t ∷ ns) i ≡ term ns i
term_old t ns i h = rw (ne_eqb i (length ns) (omega arith)) refl

-- What holds of each item may be weakened, and functions that agree on each map a list alike.
pub each_weaker : {A : Type 0} (P Q : A → Type 0) → ((x : A) → P x → Q x) → (xs : List A) → AllByRecursion P xs → AllByRecursion Q xs
each_weaker P Q f [] h = tt
each_weaker P Q f (x ∷ xs) h = (f x h.0, each_weaker P Q f xs h.1)

pub map_alike : {A B : Type 0} (f g : A → B) (P : A → Type 0) → ((x : A) → P x → f x ≡ g x) → (xs : List A) → AllByRecursion P xs → map f xs ≡ map g xs
map_alike f g P e [] h = refl
map_alike f g P e (x ∷ xs) h = ap₂ ◌∷◌ (e x h.0) (map_alike f g P e xs h.1)

-- Children that are older stay so.
below_more : (n : ℕ) (t : Tree) → Below n t → Below (suc n) t
below_more n (Num c) h = tt
below_more n (Truth b) h = tt
below_more n (Var x i) h = h
below_more n (Binop o l r) h = (omega (arith, h.0), omega (arith, h.1))
below_more n (Eq l r) h = (omega (arith, h.0), omega (arith, h.1))
below_more n (App g a) h = (omega (arith, h.0), omega (arith, h.1))
below_more n (Lam x b) h = omega arith
below_more n (Let x a b) h = (omega (arith, h.0), omega (arith, h.1))
below_more n (If q t e) h = (omega (arith, h.0), omega (arith, h.1), omega (arith, h.2))

-- Children of a node below n are below n.
pub children_below : (n : ℕ) (t : Tree) (s : List ℕ) → Below n t → AllBelow n s → AllBelow n (children t ++ s)
children_below n (Num c) s h a = a
children_below n (Truth b) s h a = a
children_below n (Var x i) s h a = a
children_below n (Binop o l r) s h a = (h.0, (h.1, a))
children_below n (Eq l r) s h a = (h.0, (h.1, a))
children_below n (App g b) s h a = (h.0, (h.1, a))
children_below n (Lam x b) s h a = (h, a)
children_below n (Let x v b) s h a = (h.0, (h.1, a))
children_below n (If q t e) s h a = (h.0, (h.1, (h.2, a)))

-- A node is read off its children alone.
over-same : (f g : ℕ → Term) (n : ℕ) (t : Tree) → ((i : ℕ) → i < n → f i ≡ g i) → Below n t → over f t ≡ over g t
over-same f g n (Num c) e h = refl
over-same f g n (Truth b) e h = refl
over-same f g n (Var x i) e h = refl
over-same f g n (Binop o l r) e h = ap₂ (binop o) (e l h.0) (e r h.1)
over-same f g n (Eq l r) e h = ap₂ eq (e l h.0) (e r h.1)
over-same f g n (App k a) e h = ap₂ app (e k h.0) (e a h.1)
over-same f g n (Lam x b) e h = ap (lam x) (e b h)
over-same f g n (Let x a b) e h = ap₂ (let_in x) (e a h.0) (e b h.1)
over-same f g n (If q t s) e h = λ i. if_then (e q h.0 i) (e t h.1 i) (e s h.2 i)

-- The node at a place, read over the whole arena.
term_at : (ns : List Tree) (i : ℕ) (t : Tree) → Falls ns → i < length ns → t ≡ get_or ns (length ns - 1 - i) t → (term ns i ≡ over (term ns) t) × Below (length ns) t
term_at [] i t f h e = absurd (omega arith)
term_at (a ∷ ns) i t f h e =
    let grown : Below (length ns) t → over (term ns) t ≡ over (term (a ∷ ns)) t = over-same (term ns) (term (a ∷ ns)) (length ns) t (λ j h. sym (term_old a ns j h)) in
    ⊎_elim
    (λ q. let z : suc (length ns) - 1 - i ≡ 0 = omega arith in
    let newest : t ≡ a = e ∙ ap (λ n. get_or (a ∷ ns) n t) z in
    let low : Below (length ns) t = subst (λ x. Below (length ns) x) (sym newest) f.0 in
    (rw (eq-eqb i (length ns) q) (ap (over (term ns)) (sym newest) ∙ grown low), below_more (length ns) t low))
    (λ q. let z : suc (length ns) - 1 - i ≡ suc (length ns - 1 - i) = omega arith in
    let r = term_at ns i t f.1 (omega arith) (e ∙ ap (λ n. get_or (a ∷ ns) n t) z) in
    (rw (ne_eqb i (length ns) q) (r.0 ∙ grown r.1), below_more (length ns) t r.1))
    (cases_eq i (length ns))

-- The same of an arena that is kept newest last.
pub term_in_order : (xs : List Tree) (i : ℕ) (t : Tree) → Falls (reverse xs) → i < length xs → t ≡ get_or xs i t → (term (reverse xs) i ≡ over (term (reverse xs)) t) × Below (length xs) t
term_in_order xs i t f h e =
    let n : length (reverse xs) ≡ length xs = length-reverse xs in
    let k : length xs - 1 - (length (reverse xs) - 1 - i) ≡ i = omega arith in
    let r = term_at (reverse xs) i t f (omega arith) (e ∙ ap (λ j. get_or xs j t) (sym k) ∙ sym (get_or-reverse xs (length (reverse xs) - 1 - i) t (omega arith))) in
    (r.0, subst (λ m. Below m t) n r.1)
