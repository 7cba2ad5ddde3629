-- The checks of a listing, turn by turn: what is left of it has the answer of all of it.
use Rattle.std.proofs.Common.{◌≡◌, ℕ, suc, ◌+◌, ◌-◌, ◌<◌, ◌≤◌, Bool, true, false, cond, not, List, [], ◌∷◌, ◌++◌, map, length, get_or, drop, is_some, Some, None, Ok, Err, Option, Result, eqb, ◌≢◌, sym, refl, ap, ◌∙◌, arith}
use Rattle.std.proofs.lemmas.Bool.{ne_eqb, cond-true, cond-false}
use Rattle.std.proofs.lemmas.List.{drop_more, length-drop}
use Rattle.std.proofs.lemmas.Iterator.Adapters.{position_from-zero}
use Rattle.std.specs.Option.{MatchOption, ok_or}
use Rattle.std.specs.Result.{is_err, result_ok}
use Rattle.std.specs.List.{position, position_from}
use Rattle.semantics.specs.declared.layout.Node.{Node}
use Rattle.semantics.specs.declared.kind.NodeKind.{NodeKind}
use Rattle.semantics.specs.declared.kind.NodeKind.TheVariants as N
use Rattle.semantics.specs.Kinds.{node_kind_number}
use Rattle.semantics.specs.declared.layout.Label.{Label}
use Rattle.semantics.specs.declared.layout.Label.TheVariants.{Num, Truth, Var, Binop, Eq, App, Lam, Let, If}
use Rattle.semantics.specs.Label.{label_of}
use Rattle.semantics.specs.Counting.{count, over, owed_after}
use Rattle.formula.specs.declared.refusal.Refusal.{Refusal}
use Rattle.formula.specs.declared.refusal.Refusal.TheVariants.{RecordsOver, OutOfScope}
use Rattle.formula.specs.Check.{Checked, each_passes, exact, label_in_scope, scopes_below, in_scope, scopes_after, scoped}

-- The refusal of the first record that fails, if one does.
abbrev pub refused : (ℕ → Refusal) → Option ℕ → Checked
refused refusal None = Ok tt
refused refusal (Some i) = Err (refusal i)

-- Every record passes a test where none fails it, and else the place of the first that fails is refused.
module _ (test : Node → Bool) (refusal : ℕ → Refusal) where
  each_passes-from : (p : ℕ) (ns : List Node) → refused refusal (position_from (λ n. not (test n)) p ns) ≡ each_passes test refusal p ns
  each_passes-from p [] = refl
  each_passes-from p (n ∷ ns) =
      elim (test n) as (λ b. refused refusal (cond (not b) (Some p) (position_from (λ n. not (test n)) (p + 1) ns)) ≡ cond b (each_passes test refusal (p + 1) ns) (Err (refusal p)))
      [ true ↦ each_passes-from (p + 1) ns | false ↦ refl ]

  pub each_passes-first : (ns : List Node) (o : Option ℕ) {r : Checked} (told : ℕ → Type 0) →
      o ≡ position (λ n. not (test n)) ns → MatchOption o (r ≡ Ok tt) told → ((i : ℕ) → told i → r ≡ Err (refusal i)) → r ≡ each_passes test refusal 0 ns
  each_passes-first ns None told first h answer = h ∙ ap (refused refusal) (first ∙ position_from-zero (λ n. not (test n)) ns) ∙ each_passes-from 0 ns
  each_passes-first ns (Some i) told first h answer = answer i h ∙ ap (refused refusal) (first ∙ position_from-zero (λ n. not (test n)) ns) ∙ each_passes-from 0 ns

-- What was read says what there is.
pub read : {A E : Type 0} {r : Result A E} (o : Option A) (e : E) → r ≡ ok_or o e → o ≡ result_ok r
read None e h = ap result_ok (sym h)
read (Some x) e h = ap result_ok (sym h)

pub is_err-ok_or : {A E : Type 0} (o : Option A) (e : E) → is_err (ok_or o e) ≡ not (is_some o)
is_err-ok_or None e = refl
is_err-ok_or (Some x) e = refl

-- A record of an unknown kind owes nothing.
pub owed_after_unknown : (k m : ℕ) → ((kind : NodeKind) → k ≢ node_kind_number kind) → m ≡ owed_after k m
owed_after_unknown k m unknown =
    let is_no : (kind : NodeKind) → eqb k (node_kind_number kind) ≡ false = λ kind. ne_eqb k (node_kind_number kind) (unknown kind) in
    rw (is_no N.Binop, is_no N.Eq, is_no N.App, is_no N.Lam, is_no N.Let, is_no N.If) refl

-- The record that is read past the end of a row.
abbrev pub blank : Node
blank = record { kind = 0; name = 0; number = 0 }

module _ (ns : List Node) (i owed : ℕ) (within : i < length ns) (inv : count owed (drop i ns) ≡ count 1 ns) where
  -- While a term is owed, counting takes the record at hand.
  pub counts-here : (others after : ℕ) → owed ≡ suc others → after ≡ owed_after (get_or ns i blank).kind others → count after (drop (i + 1) ns) ≡ count 1 ns
  counts-here others after one e =
      ap (λ m. count m (drop (i + 1) ns)) e ∙ sym (ap (λ m. count m (get_or ns i blank ∷ drop (i + 1) ns)) one) ∙ sym (ap (count owed) (drop_more ns i blank within)) ∙ inv

  -- Where none is owed, the record at hand is over.
  pub over-here : owed ≡ 0 → Err (RecordsOver i) ≡ exact (length ns) (count 1 ns)
  over-here none =
      let left : length ns - suc (length (drop (i + 1) ns)) ≡ i = simp length-drop (omega arith) in
      let here : exact (length ns) (over (drop i ns)) ≡ Err (RecordsOver i) = ap (λ k. exact (length ns) (over k)) (drop_more ns i blank within) ∙ ap (λ p. Err (RecordsOver p)) left in
      sym here ∙ ap (exact (length ns)) (sym (ap (λ m. count m (drop i ns)) none) ∙ inv)

-- Scopes with the names of inputs behind the binders.
abbrev pub with_inputs : List ℕ → List (List ℕ) → List (List ℕ)
with_inputs names Γs = map (λ Γ. Γ ++ names) Γs

-- A node's children are under its binders and the inputs.
below-with_inputs : (names : List ℕ) (l : Label) (Γ : List ℕ) (Γs : List (List ℕ)) → with_inputs names (scopes_below l Γ Γs) ≡ scopes_below l (Γ ++ names) (with_inputs names Γs)
below-with_inputs names (Num c) Γ Γs = refl
below-with_inputs names (Truth b) Γ Γs = refl
below-with_inputs names (Var x i) Γ Γs = refl
below-with_inputs names (Binop o) Γ Γs = refl
below-with_inputs names Eq Γ Γs = refl
below-with_inputs names App Γ Γs = refl
below-with_inputs names (Lam x) Γ Γs = refl
below-with_inputs names (Let x) Γ Γs = refl
below-with_inputs names If Γ Γs = refl

-- A node has at most three children.
pub length-scopes_below : (l : Label) (Γ : List ℕ) (Γs : List (List ℕ)) → length (scopes_below l Γ Γs) ≤ length Γs + 3
length-scopes_below (Num c) Γ Γs = omega arith
length-scopes_below (Truth b) Γ Γs = omega arith
length-scopes_below (Var x i) Γ Γs = omega arith
length-scopes_below (Binop o) Γ Γs = omega arith
length-scopes_below Eq Γ Γs = omega arith
length-scopes_below App Γ Γs = omega arith
length-scopes_below (Lam x) Γ Γs = omega arith
length-scopes_below (Let x) Γ Γs = omega arith
length-scopes_below If Γ Γs = omega arith

-- What the check of scopes finds at the record at hand, where the next term owed has scope Γ.
module _ (names : List ℕ) (ns : List Node) (i : ℕ) (within : i < length ns) {Γ : List ℕ} {Γs owed : List (List ℕ)} {answer : Checked}
    (next : owed ≡ Γ ∷ Γs) (inv : scoped i (with_inputs names owed) (drop i ns) ≡ answer) where
  scoped-here : {o : Option Label} → label_of (get_or ns i blank) ≡ o →
      cond (in_scope o (Γ ++ names)) (scoped (i + 1) (scopes_after o (Γ ++ names) (with_inputs names Γs)) (drop (i + 1) ns)) (Err (OutOfScope i)) ≡ answer
  scoped-here e =
      sym (ap (λ q. cond (in_scope q (Γ ++ names)) (scoped (i + 1) (scopes_after q (Γ ++ names) (with_inputs names Γs)) (drop (i + 1) ns)) (Err (OutOfScope i))) e)
      ∙ sym (λ j. scoped i (with_inputs names (next j)) (drop_more ns i blank within j)) ∙ inv

  -- A record in scope: its children are owed, and the rest decides.
  pub in_scope-here : (l : Label) → label_of (get_or ns i blank) ≡ Some l → true ≡ label_in_scope l (Γ ++ names) → scoped (i + 1) (with_inputs names (scopes_below l Γ Γs)) (drop (i + 1) ns) ≡ answer
  in_scope-here l e fits =
      ap (λ k. scoped (i + 1) k (drop (i + 1) ns)) (below-with_inputs names l Γ Γs) ∙ sym (cond-true _ _ _ (sym fits)) ∙ scoped-here e

  -- A record out of scope: its place is the answer.
  pub out_of_scope_here : (o : Option Label) → label_of (get_or ns i blank) ≡ o → false ≡ in_scope o (Γ ++ names) → Err (OutOfScope i) ≡ answer
  out_of_scope_here o e fails = sym (cond-false _ _ _ (sym fails)) ∙ scoped-here e
