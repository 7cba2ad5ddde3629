-- One instruction over an arena does what it does over terms.
use Rattle.std.proofs.Common.{◌≡◌, ℕ, suc, ◌+◌, ◌-◌, ◌<◌, Bool, true, false, cond, ltb, List, [], ◌∷◌, map, length, Some, None, Option, sym, refl, ap, ◌∙◌, ap₂, add-one, arith}
use Rattle.std.specs.List.{AllByRecursion}
use Rattle.semantics.specs.declared.layout.Instruction.{Instruction}
use Rattle.semantics.specs.declared.layout.Instruction.TheVariants.{End, PushNum, PushTruth, Access, PushClosure, PushThunk, Operate, Compare, Bind, Unbind, Apply, Return, Choose}
use Rattle.semantics.specs.Terms.{Term, var, binop, eq, app}
use Rattle.semantics.specs.ReadingBack.{index_back}
use Rattle.semantics.specs.Showing as S
use Rattle.reading.specs.declared.reader.Tree.{Tree}
use Rattle.reading.specs.declared.reader.Tree.TheVariants as T
use Rattle.reading.specs.declared.reader.Mark.{Mark}
use Rattle.reading.specs.declared.reader.Mark.TheVariants as M
use Rattle.semantics.specs.PartialReading.{on_two, with_term, finished}
use Rattle.reading.specs.Reading.{attempt}
use Rattle.reading.specs.Arena.{over, term, Below, Falls, AllBelow}
use Rattle.reading.specs.Workspace.{Workspace, workspace, put, of_two, performed, is_end}
use Rattle.reading.proofs.Arena.{term_new, term_old, each_weaker, map_alike}

-- A mark, given what nodes stand for.
abbrev pub mark_of : (ℕ → Term) → Mark → S.Mark
mark_of f (M.Lambda x) = S.in_lambda x
mark_of f M.Thunk = S.in_thunk
mark_of f (M.Let x a) = S.in_let x (f a)

-- The node that a mark holds is below n; and so for several.
abbrev pub MarkBelow : ℕ → Mark → Type 0
MarkBelow n (M.Lambda x) = Unit {0}
MarkBelow n M.Thunk = Unit {0}
MarkBelow n (M.Let x a) = a < n

abbrev pub MarksBelow : ℕ → List Mark → Type 0
MarksBelow n ms = AllByRecursion (MarkBelow n) ms

-- The marks and the terms that a workspace stands for.
abbrev pub marks_of : Workspace → List S.Mark
marks_of w = map (mark_of (term w.nodes)) w.marks

abbrev pub terms_of : Workspace → List Term
terms_of w = map (term w.nodes) w.stack

-- A workspace whose nodes all point to older ones, and that counts what is in scope rightly.
pub record Sound (k : ℕ) (w : Workspace) : Type 0 where
  pub falls : Falls w.nodes
  pub stack : AllBelow (length w.nodes) w.stack
  pub marks : MarksBelow (length w.nodes) w.marks
  pub scope : w.scope ≡ S.holding k (marks_of w)

-- What reading over terms makes of code, from what a workspace stands for.
abbrev pub tries : List Instruction → ℕ → Workspace → Option Term
tries c k w = attempt c k (marks_of w) (terms_of w)

-- What marks stand for does not change as the arena grows, and their nodes stay older.
mark_old : (t : Tree) (ns : List Tree) (m : Mark) → MarkBelow (length ns) m → mark_of (term (t ∷ ns)) m ≡ mark_of (term ns) m
mark_old t ns (M.Lambda x) h = refl
mark_old t ns M.Thunk h = refl
mark_old t ns (M.Let x a) h = ap (S.in_let x) (term_old t ns a h)

mark_below_more : (n : ℕ) (m : Mark) → MarkBelow n m → MarkBelow (suc n) m
mark_below_more n (M.Lambda x) h = tt
mark_below_more n M.Thunk h = tt
mark_below_more n (M.Let x a) h = omega arith

-- What reading over terms does with an instruction, where over an arena it does not fit, or leads to a workspace. END ends it.
abbrev pub Follows : ℕ → Instruction → Workspace → Bool → Option Workspace → Type 0
Follows k i w true o = (o ≡ None) × ((c : List Instruction) → tries (i ∷ c) k w ≡ finished None c (marks_of w) (terms_of w))
Follows k i w false None = (c : List Instruction) → tries (i ∷ c) k w ≡ None
Follows k i w false (Some w') = Sound k w' × ((c : List Instruction) → tries (i ∷ c) k w ≡ tries c k w')

-- To put a node in front is to push its term.
put_follows : (k : ℕ) (t : Tree) (ns : List Tree) (s : List ℕ) (ms : List Mark) (h : ℕ) → Below (length ns) t → Sound k (workspace ns s ms h) →
    Sound k (workspace (t ∷ ns) (length ns ∷ s) ms h)
    × ((c : List Instruction) → attempt c k (map (mark_of (term ns)) ms) (over (term ns) t ∷ map (term ns) s) ≡ tries c k (workspace (t ∷ ns) (length ns ∷ s) ms h))
put_follows k t ns s ms h low ok =
    let older : map (mark_of (term ns)) ms ≡ map (mark_of (term (t ∷ ns))) ms = sym (map_alike _ _ (MarkBelow (length ns)) (mark_old t ns) ms ok.marks) in (
      record { falls = (low, ok.falls); stack = (omega arith, each_weaker (λ x. x < length ns) (λ x. x < suc (length ns)) (λ x h. omega arith) s ok.stack); marks = each_weaker (MarkBelow (length ns)) (MarkBelow (suc (length ns))) (mark_below_more (length ns)) ms ok.marks; scope = ok.scope ∙ ap (S.holding k) older },
      λ c. ap₂ (attempt c k) older (ap₂ ◌∷◌ (sym (term_new t ns)) (sym (map_alike _ _ (λ x. x < length ns) (term_old t ns) s ok.stack))),
    )

-- Other nodes of the arena on the stack keep a workspace sound.
on_stack : {k : ℕ} {ns : List Tree} {s s' : List ℕ} {ms : List Mark} {h : ℕ} → Sound k (workspace ns s ms h) → AllBelow (length ns) s' → Sound k (workspace ns s' ms h)
on_stack ok low = record { falls = ok.falls; stack = low; marks = ok.marks; scope = ok.scope }

-- An instruction that makes a node of two.
two_follows : (k : ℕ) (i : Instruction) (f : ℕ → ℕ → Tree) (g : Term → Term → Term) →
    ((c : List Instruction) (ms : List S.Mark) (s : List Term) → attempt (i ∷ c) k ms s ≡ on_two s (λ l r s'. attempt c k ms (g l r ∷ s'))) →
    ((h : ℕ → Term) (l r : ℕ) → over h (f l r) ≡ g (h l) (h r)) → ((n l r : ℕ) → l < n → r < n → Below n (f l r)) →
    (ns : List Tree) (s : List ℕ) (ms : List Mark) (h : ℕ) → Sound k (workspace ns s ms h) →
    Follows k i (workspace ns s ms h) false (of_two f s (workspace ns s ms h))
two_follows k i f g reads is low ns [] ms h ok = λ c. reads c _ _
two_follows k i f g reads is low ns (r ∷ []) ms h ok = λ c. reads c _ _
two_follows k i f g reads is low ns (r ∷ l ∷ s) ms h ok =
    let put = put_follows k (f l r) ns s ms h (low (length ns) l r ok.stack.1.0 ok.stack.0) (on_stack ok ok.stack.1.1) in
    (put.0, λ c. reads c _ _ ∙ ap (λ t. attempt c k (map (mark_of (term ns)) ms) (t ∷ map (term ns) s)) (sym (is (term ns) l r)) ∙ put.1 c)

-- ACCESS pushes a variable, where it is in scope.
access_follows : (k x i : ℕ) (ns : List Tree) (s : List ℕ) (ms : List Mark) (h : ℕ) (b : Bool) → ltb i h ≡ b → Sound k (workspace ns s ms h) →
    Follows k (Access x i) (workspace ns s ms h) false (cond b (Some (put (T.Var x (i + 1)) (workspace ns s ms h))) None)
access_follows k x i ns s ms h true e ok =
    let put = put_follows k (T.Var x (i + 1)) ns s ms h (omega arith) ok in
    let w = workspace ns s ms h in (
      put.0,
      λ c. ap (λ b. with_term (cond b (Some (var x i)) None) (λ t. attempt c k (marks_of w) (t ∷ terms_of w))) (ap (ltb i) (sym ok.scope) ∙ e)
          ∙ ap (λ n. attempt c k (marks_of w) (var x (index_back n) ∷ terms_of w)) (sym (add-one i)) ∙ put.1 c,
    )
access_follows k x i ns s ms h false e ok =
    let w = workspace ns s ms h in
    λ c. ap (λ b. with_term (cond b (Some (var x i)) None) (λ t. attempt c k (marks_of w) (t ∷ terms_of w))) (ap (ltb i) (sym ok.scope) ∙ e)

-- An instruction over an arena does what it does over terms.
pub step_follows : (k : ℕ) (i : Instruction) (ns : List Tree) (s : List ℕ) (ms : List Mark) (h : ℕ) → Sound k (workspace ns s ms h) →
    Follows k i (workspace ns s ms h) (is_end i) (performed i (workspace ns s ms h))
step_follows k End ns s ms h ok = (refl, λ c. refl)
step_follows k (PushNum n) ns s ms h ok = put_follows k (T.Num n) ns s ms h tt ok
step_follows k (PushTruth b) ns s ms h ok = put_follows k (T.Truth b) ns s ms h tt ok
step_follows k (Access x i) ns s ms h ok = access_follows k x i ns s ms h (ltb i h) refl ok
step_follows k (PushClosure x n) ns s ms h ok = (record { falls = ok.falls; stack = ok.stack; marks = (tt, ok.marks); scope = add-one h ∙ ap suc ok.scope }, λ c. refl)
step_follows k (PushThunk n) ns s ms h ok = (record { falls = ok.falls; stack = ok.stack; marks = (tt, ok.marks); scope = ok.scope }, λ c. refl)
step_follows k (Operate o p) ns s ms h ok = two_follows k (Operate o p) (T.Binop o) (binop o) (λ c ms s. refl) (λ f l r. refl) (λ n l r a b. (a, b)) ns s ms h ok
step_follows k (Compare p) ns s ms h ok = two_follows k (Compare p) T.Eq eq (λ c ms s. refl) (λ f l r. refl) (λ n l r a b. (a, b)) ns s ms h ok
step_follows k (Apply p) ns s ms h ok = two_follows k (Apply p) T.App app (λ c ms s. refl) (λ f l r. refl) (λ n l r a b. (a, b)) ns s ms h ok
step_follows k (Bind x) ns [] ms h ok = λ c. refl
step_follows k (Bind x) ns (a ∷ s) ms h ok = (record { falls = ok.falls; stack = ok.stack.1; marks = (ok.stack.0, ok.marks); scope = add-one h ∙ ap suc ok.scope }, λ c. refl)
step_follows k Unbind ns [] ms h ok = λ c. refl
step_follows k Unbind ns (b ∷ s) [] h ok = λ c. refl
step_follows k Unbind ns (b ∷ s) (M.Lambda x ∷ ms) h ok = λ c. refl
step_follows k Unbind ns (b ∷ s) (M.Thunk ∷ ms) h ok = λ c. refl
step_follows k Unbind ns (b ∷ s) (M.Let x a ∷ ms) h ok =
    put_follows k (T.Let x a b) ns s ms (h - 1) (ok.marks.0, ok.stack.0) (record { falls = ok.falls; stack = ok.stack.1; marks = ok.marks.1; scope = omega (arith, ok.scope) })
step_follows k Return ns [] ms h ok = λ c. refl
step_follows k Return ns (b ∷ s) [] h ok = λ c. refl
step_follows k Return ns (b ∷ s) (M.Lambda x ∷ ms) h ok =
    put_follows k (T.Lam x b) ns s ms (h - 1) ok.stack.0 (record { falls = ok.falls; stack = ok.stack.1; marks = ok.marks.1; scope = omega (arith, ok.scope) })
step_follows k Return ns (b ∷ s) (M.Thunk ∷ ms) h ok = (record { falls = ok.falls; stack = ok.stack; marks = ok.marks.1; scope = ok.scope }, λ c. refl)
step_follows k Return ns (b ∷ s) (M.Let x a ∷ ms) h ok = λ c. refl
step_follows k (Choose p) ns [] ms h ok = λ c. refl
step_follows k (Choose p) ns (q ∷ []) ms h ok = λ c. refl
step_follows k (Choose p) ns (q ∷ e ∷ []) ms h ok = λ c. refl
step_follows k (Choose p) ns (q ∷ e ∷ t ∷ s) ms h ok =
    put_follows k (T.If q t e) ns s ms h (ok.stack.0, ok.stack.1.1.0, ok.stack.1.0) (on_stack ok ok.stack.1.1.1)
