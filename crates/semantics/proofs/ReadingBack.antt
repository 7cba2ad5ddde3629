-- Reading code gives back the term that was translated.
use Rattle.std.proofs.Common.{◌≡◌, ℕ, zero, suc, ◌+◌, ◌<◌, Bool, true, false, List, [], ◌∷◌, map, length, sym, refl, ap, ◌∙◌, ap₂, arith}
use Rattle.domain.specs.declared.Op.{Op}
use Rattle.domain.specs.declared.Op.TheVariants.{Add, Sub, Mul, Div}
use Rattle.semantics.specs.declared.layout.Instruction.{Instruction}
use Rattle.semantics.specs.declared.layout.Instruction.TheVariants.{End, PushNum, PushTruth, Access, PushClosure, PushThunk, Operate, Compare, Bind, Unbind, Apply, Return, Choose}
use Rattle.semantics.specs.Terms.{Term, num, truth, var, binop, eq, app, lam, let_in, if_then, size}
use Rattle.semantics.specs.Scope.{Bears, InScope}
use Rattle.domain.specs.Numbers.{op_number}
use Rattle.semantics.specs.Listing.{bit}
use Rattle.semantics.specs.Substitution.{fill_var, fill}
use Rattle.semantics.specs.Instructions.{encode}
use Rattle.semantics.specs.Translation.{emit, translate}
use Rattle.semantics.specs.Showing.{Mark, in_lambda, in_thunk, in_let, holding, top, rest, read}
use Rattle.semantics.specs.ReadingBack.{ReadsBack, bit_back, op_back, decode, read_code, AtMostOneTermHasACode}

-- To read a term's code is to push the term, its outer variables replaced.
pub read-emit : (p : ℕ) (t : Term) (c : List Instruction) (k : ℕ) (σ : List Term) (ms : List Mark) (s : List Term) →
    read (emit p t c) k σ ms s ≡ read c k σ ms (fill (holding k ms) σ t ∷ s)
read-emit p (num n) c k σ ms s = refl
read-emit p (truth b) c k σ ms s = refl
read-emit p (var x i) c k σ ms s = refl
read-emit p (binop o l r) c k σ ms s = read-emit (suc p) l _ k σ ms s ∙ read-emit (suc p + size l) r _ k σ ms _
read-emit p (eq l r) c k σ ms s = read-emit (suc p) l _ k σ ms s ∙ read-emit (suc p + size l) r _ k σ ms _
read-emit p (app l r) c k σ ms s = read-emit (suc p) l _ k σ ms s ∙ read-emit (suc p + size l) r _ k σ ms _
read-emit p (lam x b) c k σ ms s = read-emit (suc p) b _ k σ (in_lambda x ∷ ms) s
read-emit p (let_in x a b) c k σ ms s =
    read-emit (suc p) a _ k σ ms s ∙ read-emit (suc p + size a) b _ k σ (in_let x (fill (holding k ms) σ a) ∷ ms) s
read-emit p (if_then q t e) c k σ ms s =
    read-emit (suc p + size q) t _ k σ (in_thunk ∷ ms) s ∙ read-emit (suc p + size q + size t) e _ k σ (in_thunk ∷ ms) _
    ∙ read-emit (suc p) q _ k σ ms _

-- A variable that a binder ahead holds is kept.
pub fill_var_held : (k i : ℕ) (σ : List Term) (kept : Term) → i < k → fill_var k σ kept i ≡ kept
fill_var_held zero i σ kept h = absurd (omega (arith, h))
fill_var_held (suc k) zero σ kept h = refl
fill_var_held (suc k) (suc i) σ kept h = fill_var_held k i σ kept (omega (arith, h))

-- What bears a name is within the names.
pub bears_below : (names : List ℕ) (i x : ℕ) → Bears names i x → i < length names
bears_below [] i x h = absurd h
bears_below (y ∷ names) zero x h = omega arith
bears_below (y ∷ names) (suc i) x h = omega (arith, bears_below names i x h)

-- Filling leaves a term in scope as it is.
fill-in_scope : (names : List ℕ) (σ : List Term) (t : Term) → InScope names t → fill (length names) σ t ≡ t
fill-in_scope names σ (num c) h = refl
fill-in_scope names σ (truth b) h = refl
fill-in_scope names σ (var x i) h = fill_var_held (length names) i σ (var x i) (bears_below names i x h)
fill-in_scope names σ (binop o l r) h = ap₂ (binop o) (fill-in_scope names σ l h.0) (fill-in_scope names σ r h.1)
fill-in_scope names σ (eq l r) h = ap₂ eq (fill-in_scope names σ l h.0) (fill-in_scope names σ r h.1)
fill-in_scope names σ (app l r) h = ap₂ app (fill-in_scope names σ l h.0) (fill-in_scope names σ r h.1)
fill-in_scope names σ (lam x b) h = ap (lam x) (fill-in_scope (x ∷ names) σ b h)
fill-in_scope names σ (let_in x a b) h = ap₂ (let_in x) (fill-in_scope names σ a h.0) (fill-in_scope (x ∷ names) σ b h.1)
fill-in_scope names σ (if_then c t e) h =
    λ i. if_then (fill-in_scope names σ c h.0 i) (fill-in_scope names σ t h.1 i) (fill-in_scope names σ e h.2 i)

pub reads_back : ReadsBack
reads_back names t h = read-emit 0 t (End ∷ []) (length names) [] [] [] ∙ fill-in_scope names [] t h

-- What a number stands for is what it was made of.
pub bit_again : (b : Bool) → bit_back (bit b) ≡ b
bit_again true = refl
bit_again false = refl

pub op_again : (o : Op) → op_back (op_number o) ≡ o
op_again Add = refl
op_again Sub = refl
op_again Mul = refl
op_again Div = refl

-- Reading does not look at the places of nodes.
read_again : (c : List Instruction) (k : ℕ) (σ : List Term) (ms : List Mark) (s : List Term) →
    read (map decode (map encode c)) k σ ms s ≡ read c k σ ms s
read_again [] k σ ms s = refl
read_again (End ∷ c) k σ ms s = refl
read_again (PushNum n ∷ c) k σ ms s = read_again c k σ ms _
read_again (PushTruth b ∷ c) k σ ms s =
    ap (λ z. read (map decode (map encode c)) k σ ms (truth z ∷ s)) (bit_again b) ∙ read_again c k σ ms (truth b ∷ s)
read_again (Access x i ∷ c) k σ ms s = read_again c k σ ms _
read_again (PushClosure x n ∷ c) k σ ms s = read_again c k σ _ s
read_again (PushThunk n ∷ c) k σ ms s = read_again c k σ _ s
read_again (Operate o p ∷ c) k σ ms s =
    ap (λ z. read (map decode (map encode c)) k σ ms (binop z (top (rest s)) (top s) ∷ rest (rest s))) (op_again o) ∙ read_again c k σ ms _
read_again (Compare p ∷ c) k σ ms s = read_again c k σ ms _
read_again (Bind x ∷ c) k σ ms s = read_again c k σ _ _
read_again (Unbind ∷ c) k σ [] s = read_again c k _ [] s
read_again (Unbind ∷ c) k σ (in_lambda x ∷ ms) s = refl
read_again (Unbind ∷ c) k σ (in_thunk ∷ ms) s = refl
read_again (Unbind ∷ c) k σ (in_let x a ∷ ms) s = read_again c k σ ms _
read_again (Apply p ∷ c) k σ ms s = read_again c k σ ms _
read_again (Return ∷ c) k σ [] s = refl
read_again (Return ∷ c) k σ (in_lambda x ∷ ms) s = read_again c k σ ms _
read_again (Return ∷ c) k σ (in_thunk ∷ ms) s = read_again c k σ ms s
read_again (Return ∷ c) k σ (in_let x a ∷ ms) s = refl
read_again (Choose p ∷ c) k σ ms s = read_again c k σ ms _

pub at_most_one_term_has_a_code : AtMostOneTermHasACode
at_most_one_term_has_a_code names t code h is =
    ap (read_code (length names)) (sym is) ∙ read_again (translate t) (length names) [] [] [] ∙ reads_back names t h
