-- Where code can be read, it reads as reading reads it, and translations can be.
use Rattle.std.proofs.Common.{◌≡◌, ℕ, suc, ◌+◌, ◌<◌, Bool, true, false, cond, ltb, List, [], ◌∷◌, map, length, Some, None, Option, sym, refl, ap, ◌∙◌, subst, ap₂}
use Rattle.std.proofs.lemmas.Bool.{ltb-true, lt-ltb}
use Rattle.semantics.specs.declared.layout.Instruction.{Instruction}
use Rattle.semantics.specs.declared.layout.Instruction.TheVariants.{End, PushNum, PushTruth, Access, PushClosure, PushThunk, Operate, Compare, Bind, Unbind, Apply, Return, Choose}
use Rattle.semantics.specs.Terms.{Term, num, truth, var, binop, eq, app, lam, let_in, if_then, size}
use Rattle.semantics.specs.Scope.{InScope}
use Rattle.semantics.specs.Substitution.{fill_var, fill}
use Rattle.semantics.specs.Instructions.{encode}
use Rattle.semantics.specs.Translation.{emit, translate}
use Rattle.semantics.specs.Machine.{HeldEnv, Cell, val, thunk, return_to, State, at}
use Rattle.semantics.specs.Showing.{Mark, in_lambda, in_thunk, in_let, holding, top, rest, read, show_held, show_env, own_cells, through_frames, show}
use Rattle.semantics.specs.ReadingBack.{decode}
use Rattle.semantics.specs.PartialReading.{on_one, on_two, on_three, on_let, on_body, alone, Outer, variable, with_term, without_front_value, finished, returned, attempt, attempt_in, on_top, with_terms, attempt_own, attempt_frames, attempt_show, ReadsAsShown}
use Rattle.semantics.proofs.Clash.{clash}
use Rattle.semantics.proofs.ReadingBack.{fill_var_held, bears_below, bit_again, op_again}

-- What goes on with the terms on top of a stack finds them there.
one_shown : (s : List Term) (go : Term → List Term → Option Term) (shown : Term → List Term → Term) (t : Term) →
    ((a : Term) (s : List Term) → go a s ≡ Some t → shown a s ≡ t) → on_one s go ≡ Some t → shown (top s) (rest s) ≡ t
one_shown [] go shown t each e = clash cc
one_shown (a ∷ s) go shown t each e = each a s e

two_shown : (s : List Term) (go : Term → Term → List Term → Option Term) (shown : Term → Term → List Term → Term) (t : Term) →
    ((a b : Term) (s : List Term) → go a b s ≡ Some t → shown a b s ≡ t) → on_two s go ≡ Some t → shown (top (rest s)) (top s) (rest (rest s)) ≡ t
two_shown [] go shown t each e = clash cc
two_shown (b ∷ []) go shown t each e = clash cc
two_shown (b ∷ a ∷ s) go shown t each e = each a b s e

three_shown : (s : List Term) (go : Term → Term → Term → List Term → Option Term) (shown : Term → Term → Term → List Term → Term) (t : Term) →
    ((a b c : Term) (s : List Term) → go a b c s ≡ Some t → shown a b c s ≡ t) → on_three s go ≡ Some t →
    shown (top (rest (rest s))) (top (rest s)) (top s) (rest (rest (rest s))) ≡ t
three_shown [] go shown t each e = clash cc
three_shown (c ∷ []) go shown t each e = clash cc
three_shown (c ∷ b ∷ []) go shown t each e = clash cc
three_shown (c ∷ b ∷ a ∷ s) go shown t each e = each a b c s e

-- What goes on with nothing comes to nothing.
never : {A : Type 0} (s : List Term) (t : Term) → on_one s (λ a s. None) ≡ Some t → A
never [] t e = clash cc
never (a ∷ s) t e = clash cc

-- What goes on with a term found one.
term_found : (o : Option Term) (go : Term → Option Term) (t : Term) → with_term o go ≡ Some t → (u : Term) × (o ≡ Some u) × (go u ≡ Some t)
term_found None go t e = clash cc
term_found (Some u) go t e = (u, refl, e)

terms_found : (o : Option (List Term)) (go : List Term → Option Term) (t : Term) → with_terms o go ≡ Some t →
    (u : List Term) × (o ≡ Some u) × (go u ≡ Some t)
terms_found None go t e = clash cc
terms_found (Some u) go t e = (u, refl, e)

-- A term that is left alone is on top.
alone_on_top : (ms : List Mark) (s : List Term) (t : Term) → alone ms s ≡ Some t → top s ≡ t
alone_on_top ms [] t e = clash cc
alone_on_top [] (u ∷ []) t e = cc
alone_on_top (m ∷ ms) (u ∷ []) t e = clash cc
alone_on_top ms (u ∷ v ∷ s) t e = clash cc

finished_on_top : (o : Outer) (c : List Instruction) (ms : List Mark) (s : List Term) (t : Term) → finished o c ms s ≡ Some t → top s ≡ t
finished_on_top None [] ms s t e = alone_on_top ms s t e
finished_on_top None (i ∷ c) ms s t e = clash cc
finished_on_top (Some σ) c ms s t e = alone_on_top ms s t e

returned-on_top : (o : Outer) (s : List Term) (t : Term) → returned o s ≡ Some t → top s ≡ t
returned-on_top None s t e = clash cc
returned-on_top (Some σ) s t e = alone_on_top [] s t e

-- The terms that stand for outer variables: none, where nothing stands for them.
abbrev outer_terms : Outer → List Term
outer_terms None = []
outer_terms (Some σ) = σ

-- What is answered under a test is answered where the test holds.
under_test : (b : Bool) (o : Option Term) (t : Term) → cond b o None ≡ Some t → (b ≡ true) × (o ≡ Some t)
under_test true o t e = (refl, e)
under_test false o t e = clash cc

-- The term that is answered for a variable is the one that is filled in.
variable_filled : (o : Outer) (h x i : ℕ) (t : Term) → variable o h x i ≡ Some t → fill h (outer_terms o) (var x i) ≡ t
variable_filled None h x i t e =
    let (below, is) = under_test (ltb i h) (Some (var x i)) t e in
    let kept : fill_var h [] (var x i) i ≡ var x i = fill_var_held h i [] (var x i) (ltb-true i h below) in
    cc
variable_filled (Some σ) h x i t e = cc

-- What an attempt answers, from any stack and whatever is open, is what reading reads.
shown : (c : List Instruction) (k : ℕ) (o : Outer) (ms : List Mark) (s : List Term) (t : Term) → attempt c k o ms s ≡ Some t →
    read c k (outer_terms o) ms s ≡ t
shown [] k o ms s t e = clash cc
shown (End ∷ c) k o ms s t e = finished_on_top o c ms s t e
shown (PushNum n ∷ c) k o ms s t e = shown c k o ms (num n ∷ s) t e
shown (PushTruth b ∷ c) k o ms s t e = shown c k o ms (truth b ∷ s) t e
shown (Access x i ∷ c) k o ms s t e =
    let (u, is, e') = term_found (variable o (holding k ms) x i) (λ u. attempt c k o ms (u ∷ s)) t e in
    ap (λ u. read c k (outer_terms o) ms (u ∷ s)) (variable_filled o (holding k ms) x i u is) ∙ shown c k o ms (u ∷ s) t e'
shown (PushClosure x n ∷ c) k o ms s t e = shown c k o (in_lambda x ∷ ms) s t e
shown (PushThunk n ∷ c) k o ms s t e = shown c k o (in_thunk ∷ ms) s t e
shown (Operate f p ∷ c) k o ms s t e =
    two_shown s _ (λ l r s. read c k (outer_terms o) ms (binop f l r ∷ s)) t (λ l r s. shown c k o ms (binop f l r ∷ s) t) e
shown (Compare p ∷ c) k o ms s t e =
    two_shown s _ (λ l r s. read c k (outer_terms o) ms (eq l r ∷ s)) t (λ l r s. shown c k o ms (eq l r ∷ s) t) e
shown (Bind x ∷ c) k o ms s t e =
    one_shown s _ (λ a s. read c k (outer_terms o) (in_let x a ∷ ms) s) t (λ a s. shown c k o (in_let x a ∷ ms) s t) e
shown (Unbind ∷ c) k o [] [] t e = clash cc
shown (Unbind ∷ c) k None [] (b ∷ s) t e = clash cc
shown (Unbind ∷ c) k (Some σ) [] (b ∷ s) t e = shown c k (Some (rest σ)) [] (b ∷ s) t e
shown (Unbind ∷ c) k o (in_lambda x ∷ ms) s t e = never s t e
shown (Unbind ∷ c) k o (in_thunk ∷ ms) s t e = never s t e
shown (Unbind ∷ c) k o (in_let x a ∷ ms) s t e =
    one_shown s _ (λ b s. read c k (outer_terms o) ms (let_in x a b ∷ s)) t (λ b s. shown c k o ms (let_in x a b ∷ s) t) e
shown (Apply p ∷ c) k o ms s t e =
    two_shown s _ (λ f a s. read c k (outer_terms o) ms (app f a ∷ s)) t (λ f a s. shown c k o ms (app f a ∷ s) t) e
shown (Return ∷ c) k o ms [] t e = clash cc
shown (Return ∷ c) k o [] (b ∷ s) t e = returned-on_top o (b ∷ s) t e
shown (Return ∷ c) k o (in_lambda x ∷ ms) (b ∷ s) t e = shown c k o ms (lam x b ∷ s) t e
shown (Return ∷ c) k o (in_thunk ∷ ms) (b ∷ s) t e = shown c k o ms (b ∷ s) t e
shown (Return ∷ c) k o (in_let x a ∷ ms) (b ∷ s) t e = clash cc
shown (Choose p ∷ c) k o ms s t e =
    three_shown s _ (λ y n q s. read c k (outer_terms o) ms (if_then q y n ∷ s)) t (λ y n q s. shown c k o ms (if_then q y n ∷ s) t) e

-- A term stands on top of others where both were answered.
both_found : (o : Option Term) (os : Option (List Term)) (u : List Term) → on_top o os ≡ Some u →
    (t : Term) × (ts : List Term) × (o ≡ Some t) × (os ≡ Some ts) × (u ≡ t ∷ ts)
both_found None os u e = clash cc
both_found (Some t) None u e = clash cc
both_found (Some t) (Some ts) u e = (t, ts, refl, refl, cc)

-- The terms that are answered for a frame's own cells are those that it shows.
own_shown : (s : List Cell) (u : List Term) → attempt_own s ≡ Some u → own_cells s ≡ u
own_shown [] u e = cc
own_shown (val v ∷ s) u e =
    let (t, ts, p, q, is) = both_found (Some (show_held v)) (attempt_own s) u e in
    let own : own_cells s ≡ ts = own_shown s ts q in
    cc
own_shown (thunk k ρ ∷ s) u e =
    let (t, ts, p, q, is) = both_found (attempt_in 0 ρ k []) (attempt_own s) u e in
    ap₂ ◌∷◌ (shown k 0 (Some (show_env ρ)) [] [] t p) (own_shown s ts q) ∙ sym is
own_shown (return_to k ρ ∷ s) u e = cc

-- What is answered for a frame, and through those below it, shows so, where what is under the frame does.
frame_shown : (k : List Instruction) (ρ : HeldEnv) (over : List Term → List Term) (s : List Cell) (u : Term) →
    ((t : Term) → attempt_frames t s ≡ Some u → through_frames t s ≡ u) →
    with_terms (attempt_own s) (λ ts. with_term (attempt_in 0 ρ k (over ts)) (λ t. attempt_frames t s)) ≡ Some u →
    through_frames (read k 0 (show_env ρ) [] (over (own_cells s))) s ≡ u
frame_shown k ρ over s u below e =
    let (ts, own, e') = terms_found (attempt_own s) (λ ts. with_term (attempt_in 0 ρ k (over ts)) (λ t. attempt_frames t s)) u e in
    let (t, here, e'') = term_found (attempt_in 0 ρ k (over ts)) (λ t. attempt_frames t s) u e' in
    ap (λ z. through_frames (read k 0 (show_env ρ) [] (over z)) s) (own_shown s ts own)
    ∙ ap (λ z. through_frames z s) (shown k 0 (Some (show_env ρ)) [] (over ts) t here) ∙ below t e''

-- What is answered through the frames is what shows through them.
frames_shown : (s : List Cell) (u t : Term) → attempt_frames t s ≡ Some u → through_frames t s ≡ u
frames_shown [] u t e = cc
frames_shown (val v ∷ s) u t e = frames_shown s u t e
frames_shown (thunk k ρ ∷ s) u t e = frames_shown s u t e
frames_shown (return_to k ρ ∷ s) u t e = frame_shown k ρ (◌∷◌ t) s u (frames_shown s u) e

-- What is answered for a state is what it shows.
state_shown : (x : State) (t : Term) → attempt_show x ≡ Some t → show x ≡ t
state_shown (at k ρ s m) t e = frame_shown k ρ (λ ts. ts) s t (frames_shown s t) e

pub reads_as_shown : ReadsAsShown
reads_as_shown =
    record { code = λ c k σ ms s t e. shown c k (Some σ) ms s t e; back = λ c k t e. shown c k None [] [] t e; state = state_shown }

-- To read a term's code in a frame is to push the term, its outer variables replaced.
pub attempt-emit : (p : ℕ) (t : Term) (c : List Instruction) (k : ℕ) (σ : List Term) (ms : List Mark) (s : List Term) →
    attempt (emit p t c) k (Some σ) ms s ≡ attempt c k (Some σ) ms (fill (holding k ms) σ t ∷ s)
attempt-emit p (num n) c k σ ms s = refl
attempt-emit p (truth b) c k σ ms s = refl
attempt-emit p (var x i) c k σ ms s = refl
attempt-emit p (binop o l r) c k σ ms s = attempt-emit (suc p) l _ k σ ms s ∙ attempt-emit (suc p + size l) r _ k σ ms _
attempt-emit p (eq l r) c k σ ms s = attempt-emit (suc p) l _ k σ ms s ∙ attempt-emit (suc p + size l) r _ k σ ms _
attempt-emit p (app l r) c k σ ms s = attempt-emit (suc p) l _ k σ ms s ∙ attempt-emit (suc p + size l) r _ k σ ms _
attempt-emit p (lam x b) c k σ ms s = attempt-emit (suc p) b _ k σ (in_lambda x ∷ ms) s
attempt-emit p (let_in x a b) c k σ ms s =
    attempt-emit (suc p) a _ k σ ms s ∙ attempt-emit (suc p + size a) b _ k σ (in_let x (fill (holding k ms) σ a) ∷ ms) s
attempt-emit p (if_then q t e) c k σ ms s =
    attempt-emit (suc p + size q) t _ k σ (in_thunk ∷ ms) s ∙ attempt-emit (suc p + size q + size t) e _ k σ (in_thunk ∷ ms) _
    ∙ attempt-emit (suc p) q _ k σ ms _

-- To read a term's code back is to push the term, where it is in scope of as many names as are held.
pub attempt_emit_back : (p : ℕ) (t : Term) (c : List Instruction) (k : ℕ) (ms : List Mark) (s : List Term) (names : List ℕ) →
    holding k ms ≡ length names → InScope names t → attempt (emit p t c) k None ms s ≡ attempt c k None ms (t ∷ s)
attempt_emit_back p (num n) c k ms s names e h = refl
attempt_emit_back p (truth b) c k ms s names e h = refl
attempt_emit_back p (var x i) c k ms s names e h =
    ap (λ b. with_term (cond b (Some (var x i)) None) (λ t. attempt c k None ms (t ∷ s)))
    (lt-ltb i (holding k ms) (subst (λ n. i < n) (sym e) (bears_below names i x h)))
attempt_emit_back p (binop o l r) c k ms s names e h =
    attempt_emit_back (suc p) l _ k ms s names e h.0 ∙ attempt_emit_back (suc p + size l) r _ k ms _ names e h.1
attempt_emit_back p (eq l r) c k ms s names e h =
    attempt_emit_back (suc p) l _ k ms s names e h.0 ∙ attempt_emit_back (suc p + size l) r _ k ms _ names e h.1
attempt_emit_back p (app l r) c k ms s names e h =
    attempt_emit_back (suc p) l _ k ms s names e h.0 ∙ attempt_emit_back (suc p + size l) r _ k ms _ names e h.1
attempt_emit_back p (lam x b) c k ms s names e h = attempt_emit_back (suc p) b _ k (in_lambda x ∷ ms) s (x ∷ names) (ap suc e) h
attempt_emit_back p (let_in x a b) c k ms s names e h =
    attempt_emit_back (suc p) a _ k ms s names e h.0
    ∙ attempt_emit_back (suc p + size a) b _ k (in_let x a ∷ ms) s (x ∷ names) (ap suc e) h.1
attempt_emit_back p (if_then q t u) c k ms s names e h =
    attempt_emit_back (suc p + size q) t _ k (in_thunk ∷ ms) s names e h.1
    ∙ attempt_emit_back (suc p + size q + size t) u _ k (in_thunk ∷ ms) _ names e h.2 ∙ attempt_emit_back (suc p) q _ k ms _ names e h.0

-- The translation of a term in scope reads back as that term.
pub reads_translations : (names : List ℕ) (t : Term) → InScope names t → attempt (translate t) (length names) None [] [] ≡ Some t
reads_translations names t h = attempt_emit_back 0 t (End ∷ []) (length names) [] [] names refl h

-- END closes a code's layout as it closes the code.
finished_again : (o : Outer) (c : List Instruction) (ms : List Mark) (s : List Term) → finished o (map decode (map encode c)) ms s ≡ finished o c ms s
finished_again None [] ms s = refl
finished_again None (i ∷ c) ms s = refl
finished_again (Some σ) c ms s = refl

-- Reading does not look at the places of nodes, which the caller's layout of code does not have.
pub attempt_again : (c : List Instruction) (k : ℕ) (o : Outer) (ms : List Mark) (s : List Term) →
    attempt (map decode (map encode c)) k o ms s ≡ attempt c k o ms s
attempt_again [] k o ms s = refl
attempt_again (End ∷ c) k o ms s = finished_again o c ms s
attempt_again (PushNum n ∷ c) k o ms s = attempt_again c k o ms (num n ∷ s)
attempt_again (PushTruth b ∷ c) k o ms s = λ i. attempt_again c k o ms (truth (bit_again b i) ∷ s) i
attempt_again (Access x n ∷ c) k o ms s = λ i. with_term (variable o (holding k ms) x n) (λ t. attempt_again c k o ms (t ∷ s) i)
attempt_again (PushClosure x n ∷ c) k o ms s = attempt_again c k o (in_lambda x ∷ ms) s
attempt_again (PushThunk n ∷ c) k o ms s = attempt_again c k o (in_thunk ∷ ms) s
attempt_again (Operate f p ∷ c) k o ms s = λ i. on_two s (λ l r s. attempt_again c k o ms (binop (op_again f i) l r ∷ s) i)
attempt_again (Compare p ∷ c) k o ms s = λ i. on_two s (λ l r s. attempt_again c k o ms (eq l r ∷ s) i)
attempt_again (Bind x ∷ c) k o ms s = λ i. on_one s (λ a s. attempt_again c k o (in_let x a ∷ ms) s i)
attempt_again (Unbind ∷ c) k o ms s =
    λ i. on_one s (λ b s. on_let ms (λ x a ms. attempt_again c k o ms (let_in x a b ∷ s) i) (without_front_value o (λ o. attempt_again c k o [] (b ∷ s) i)))
attempt_again (Apply p ∷ c) k o ms s = λ i. on_two s (λ f a s. attempt_again c k o ms (app f a ∷ s) i)
attempt_again (Return ∷ c) k o ms s =
    λ i. on_one s (λ b s. on_body ms (λ x ms. attempt_again c k o ms (lam x b ∷ s) i) (λ ms. attempt_again c k o ms (b ∷ s) i) (returned o (b ∷ s)))
attempt_again (Choose p ∷ c) k o ms s = λ i. on_three s (λ t e q s. attempt_again c k o ms (if_then q t e ∷ s) i)
