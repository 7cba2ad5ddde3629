-- Walking from the root emits a term's code.
use Rattle.std.proofs.Common.{◌≡◌, ℕ, suc, ◌+◌, ◌<◌, ◌≤◌, min, Bool, List, [], ◌∷◌, ◌++◌, length, get_or, drop, Some, None, Ok, Err, vec_items, vec_len, vec_capacity, Vec, sym, refl, ap, ◌∙◌, subst, arith}
use native.Mathlib.Nat.{min-eq_left}
use Rattle.std.specs.Option.{ok_or}
use Rattle.std.proofs.lemmas.List.{length-drop, drop_more, append-nil, append_assoc}
use Rattle.domain.specs.declared.Op.{Op}
use Rattle.semantics.specs.declared.layout.Node.{Node}
use Rattle.semantics.specs.declared.layout.Label.{Label}
use Rattle.semantics.specs.declared.layout.Label.TheVariants.{Num, Truth, Var, Binop, Eq, App, Lam, Let, If}
use Rattle.semantics.specs.declared.layout.Instruction.{Instruction}
use Rattle.semantics.specs.declared.layout.Instruction.TheVariants.{End, PushNum, PushTruth, Access, PushClosure, PushThunk, Operate, Compare, Bind, Unbind, Apply, Return, Choose}
use Rattle.semantics.specs.Terms.{Term, num, truth, var, binop, eq, app, lam, let_in, if_then, size}
use Rattle.semantics.specs.Listing.{record_of, listing_before, listing}
use Rattle.semantics.specs.Translation.{code_size, emit, translate}
use Rattle.semantics.specs.Sizes.{most_records, most_instructions}
use Rattle.semantics.proofs.Clash.{clash}
use Rattle.semantics.proofs.CodeSize.{code_size_bounded}
use Rattle.formula.specs.declared.translate.Extent.{Extent}
use Rattle.semantics.specs.Label.{label_of}
use Rattle.formula.specs.Translate.{max_u16, measured_at, Measured, Grows, Emits, EmitsPair, EmitsBody}
use Rattle.formula.proofs.Turns.{read}
use Rattle.formula.proofs.Measuring.{further, past_listing, within}
use Rattle.semantics.proofs.Labels.{label_of_record}

-- A term whose root has a label.
pub data Rooted : Label → Term → Type 0 where
  a_num : (c : ℕ) → Rooted (Num c) (num c)
  a_truth : (b : Bool) → Rooted (Truth b) (truth b)
  a_var : (x i : ℕ) → Rooted (Var x i) (var x i)
  a_binop : (o : Op) (l r : Term) → Rooted (Binop o) (binop o l r)
  an_eq : (l r : Term) → Rooted Eq (eq l r)
  an_app : (f a : Term) → Rooted App (app f a)
  a_lam : (x : ℕ) (b : Term) → Rooted (Lam x) (lam x b)
  a_let : (x : ℕ) (a b : Term) → Rooted (Let x) (let_in x a b)
  an_if : (c t e : Term) → Rooted If (if_then c t e)

-- The term that begins at a place is rooted in what the record there says.
module _ (row : List Node) (p q : ℕ) (n : Node) (is : q ≡ p) (at : n ≡ get_or row q n) where
  -- The first record of a term says the label of its root.
  first_says : (l : Label) (ns : List Node) → drop p row ≡ record_of l ∷ ns → label_of n ≡ Some l
  first_says l ns e =
      let lt : p < length row = omega (arith, sym (length-drop p row) ∙ ap length e) in
      let here : n ≡ get_or row p n = at ∙ ap (λ j. get_or row j n) is in
      let front : get_or row p n ∷ drop (p + 1) row ≡ record_of l ∷ ns = sym (drop_more row p n lt) ∙ e in
      let first : n ≡ record_of l = cc in
      ap label_of first ∙ label_of_record l

  -- Every term has a root.
  root : (t : Term) (rest : List Node) → drop p row ≡ listing_before t rest → (l : Label) × Rooted l t × (label_of n ≡ Some l)
  root (num c) rest e = (Num c, a_num c, first_says _ _ e)
  root (truth b) rest e = (Truth b, a_truth b, first_says _ _ e)
  root (var x i) rest e = (Var x i, a_var x i, first_says _ _ e)
  root (binop o l r) rest e = (Binop o, a_binop o l r, first_says (Binop o) _ e)
  root (eq l r) rest e = (Eq, an_eq l r, first_says Eq _ e)
  root (app f a) rest e = (App, an_app f a, first_says App _ e)
  root (lam x b) rest e = (Lam x, a_lam x b, first_says (Lam x) _ e)
  root (let_in x a b) rest e = (Let x, a_let x a b, first_says (Let x) _ e)
  root (if_then c t f) rest e = (If, an_if c t f, first_says If _ e)

  module _ {E : Type 0} (outside : E) where
    -- What the record says is the root's label.
    pub rooted : {l m : Label} → Ok m ≡ ok_or (label_of n) outside → m ≡ l → (t : Term) (rest : List Node) → drop p row ≡ listing_before t rest → Rooted l t
    rooted {l = l} {m = m} says is-l t rest e =
        let R = root t rest e in
        let same : Some R.0 ≡ Some m = sym R.2 ∙ read (label_of n) outside says in
        let rooted_in : R.0 ≡ l = cc in
        subst (λ m. Rooted m t) rooted_in R.1

    -- No term begins with a record outside the table.
    pub no_term_unsaid : {f : E} → Err f ≡ ok_or (label_of n) outside → (t : Term) (rest : List Node) → drop p row ≡ listing_before t rest → ⊥
    no_term_unsaid unsaid t rest e =
        let says : None ≡ Some (root t rest e).0 = sym (read (label_of n) outside unsaid) ∙ (root t rest e).2 in
        clash cc

-- No term begins past the last record.
pub no_term_past : (row : List Node) (p : ℕ) → length row ≤ p → (t : Term) (rest : List Node) → drop p row ≡ listing_before t rest → ⊥
no_term_past row p past t rest e = omega (arith, within row p t rest e, code_size_bounded t)

-- One instruction more.
pub grows_by_one : {Z : Type 0} {a b : Vec Instruction Z} {i : Instruction} → vec_items b ≡ vec_items a ++ i ∷ [] → vec_len b ≡ vec_len a + 1 → vec_capacity b ≡ vec_capacity a →
    Grows a b 1 (λ k. i ∷ k)
grows_by_one {a = a} {i = i} items count capacity = record {
  capacity = capacity;
  count = λ room. count;
  added = λ room k. ap (λ z. z ++ k) items ∙ append_assoc (vec_items a) (i ∷ []) k;
}

-- One growth and then another.
and_then : {Z : Type 0} {a b c : Vec Instruction Z} {m n : ℕ} {f g : List Instruction → List Instruction} → Grows a b m f → Grows b c n g → Grows a c (m + n) (λ k. f (g k))
and_then {a = a} {b = b} {m = m} {n = n} {g = g} F G =
    let first : vec_len a + (m + n) ≤ vec_capacity a → vec_len a + m ≤ vec_capacity a = λ room. omega arith in
    let second : vec_len a + (m + n) ≤ vec_capacity a → vec_len b + n ≤ vec_capacity b = λ room. omega (arith, F.count (first room), F.capacity) in
    record {
      capacity = G.capacity ∙ F.capacity;
      count = λ room. omega (arith, F.count (first room), G.count (second room));
      added = λ room k. G.added (second room) k ∙ F.added (first room) (g k);
    }

-- The count may be written in another way.
counted : {Z : Type 0} {a b : Vec Instruction Z} {m n : ℕ} {f : List Instruction → List Instruction} → m ≡ n → Grows a b m f → Grows a b n f
counted {a = a} {b = b} {f = f} e F = subst (λ n. Grows a b n f) e F

-- A leaf's instruction.
pub emits_num : {Z : Type 0} {a b : Vec Instruction Z} (p : ℕ) {c : ℕ} {t : Term} → Rooted (Num c) t → Grows a b 1 (λ k. PushNum c ∷ k) → Grows a b (code_size t) (emit p t)
emits_num p (a_num c) G = G

pub emits_truth : {Z : Type 0} {a b : Vec Instruction Z} (p : ℕ) {v : Bool} {t : Term} → Rooted (Truth v) t → Grows a b 1 (λ k. PushTruth v ∷ k) → Grows a b (code_size t) (emit p t)
emits_truth p (a_truth v) G = G

pub emits_var : {Z : Type 0} {a b : Vec Instruction Z} (p : ℕ) {x i : ℕ} {t : Term} → Rooted (Var x i) t → Grows a b 1 (λ k. Access x i ∷ k) → Grows a b (code_size t) (emit p t)
emits_var p (a_var x i) G = G

-- A node's code at place p, where the terms of the row are measured and the code of its children is emitted.
module _ (row : List Node) (xs : List Extent) (long : length row ≤ most_records) (measured : Measured row xs) (p : ℕ) where
  -- The place behind a term, and what stands there.
  behind : (q r : ℕ) (t : Term) (rest : List Node) → drop q row ≡ listing_before t rest → r ≡ min (q + (measured_at xs q).records) max_u16 → (r ≡ q + size t) × (drop r row ≡ rest)
  behind q r t rest at is =
      let small : q + size t ≤ max_u16 = omega (arith, within row q t rest at) in
      let e : r ≡ q + size t = is ∙ ap (λ (z : Extent). min (q + z.records) max_u16) (measured q t rest at) ∙ min-eq_left small in
      (e, ap (λ z. drop z row) e ∙ further q (size t) row at (past_listing t rest))

  -- The length of a term as a body.
  as_body : (q n : ℕ) (t : Term) (rest : List Node) → drop q row ≡ listing_before t rest → n ≡ min ((measured_at xs q).instructions + 1) max_u16 → n ≡ suc (code_size t)
  as_body q n t rest at is =
      let short : code_size t + 1 ≤ max_u16 = omega (arith, within row q t rest at, code_size_bounded t) in
      is ∙ ap (λ (z : Extent). min (z.instructions + 1) max_u16) (measured q t rest at) ∙ min-eq_left short ∙ omega arith

  -- The place of the first child is the next one.
  first_child : {n : Node} {ns : List Node} → drop p row ≡ n ∷ ns → drop (p + 1) row ≡ ns
  first_child at = further p 1 row at refl

  -- The code of a term at a place that was worked out.
  placed : {Z : Type 0} {a b : Vec Instruction Z} (q z : ℕ) (t : Term) (rest : List Node) → Emits row q a b → drop q row ≡ listing_before t rest → q ≡ z → Grows a b (code_size t) (emit z t)
  placed {a = a} {b = b} q z t rest E at e = subst (λ y. Grows a b (code_size t) (emit y t)) e (E t rest at)

  -- A body at such a place, where the instruction that opens it has its length.
  body_placed : {Z : Type 0} {a b : Vec Instruction Z} (opening : ℕ → Instruction) (q z n : ℕ) (t : Term) (rest : List Node) → EmitsBody row q (opening n) a b → drop q row ≡ listing_before t rest →
      q ≡ z → n ≡ min ((measured_at xs q).instructions + 1) max_u16 → Grows a b (suc (code_size t + 1)) (λ k. opening (suc (code_size t)) ∷ emit z t (Return ∷ k))
  body_placed {a = a} {b = b} opening q z n t rest E at e is =
      let length_is : n ≡ suc (code_size t) = as_body q n t rest at is in
      subst (λ y. Grows a b (suc (code_size t + 1)) (λ k. opening (suc (code_size t)) ∷ emit y t (Return ∷ k))) e
      (subst (λ m. Grows a b (suc (code_size t + 1)) (λ k. opening m ∷ emit q t (Return ∷ k))) length_is (E t rest at))

  -- Two terms, one behind the other, and an instruction.
  pub emits_pair : {Z : Type 0} {a b c d : Vec Instruction Z} (i : Instruction) (second : ℕ) → second ≡ min (p + (measured_at xs p).records) max_u16 →
      Emits row p a b → Emits row second b c → Grows c d 1 (λ k. i ∷ k) → EmitsPair row p i a d
  emits_pair i second is L R I l r rest at =
      let next = behind p second l (listing_before r rest) at is in
      and_then (L l (listing_before r rest) at) (and_then (placed second (p + size l) r rest R next.1 next.0) I)

  -- A node of two children.
  two_children : {Z : Type 0} {a b : Vec Instruction Z} (i : Instruction) (l r : Term) (rest : List Node) {n : Node} → drop p row ≡ n ∷ listing_before l (listing_before r rest) →
      EmitsPair row (p + 1) i a b → Grows a b (code_size l + (code_size r + 1)) (λ k. emit (suc p) l (emit (suc p + size l) r (i ∷ k)))
  two_children {a = a} {b = b} i l r rest at E =
      let next : p + 1 ≡ suc p = omega arith in
      subst (λ q. Grows a b (code_size l + (code_size r + 1)) (λ k. emit q l (emit (q + size l) r (i ∷ k)))) next (E l r rest (first_child at))

  pub emits_binop : {Z : Type 0} {a b : Vec Instruction Z} {o : Op} {t : Term} (rest : List Node) → Rooted (Binop o) t → drop p row ≡ listing_before t rest →
      EmitsPair row (p + 1) (Operate o p) a b → Grows a b (code_size t) (emit p t)
  emits_binop rest (a_binop o l r) at E = two_children (Operate o p) l r rest at E

  pub emits_eq : {Z : Type 0} {a b : Vec Instruction Z} {t : Term} (rest : List Node) → Rooted Eq t → drop p row ≡ listing_before t rest →
      EmitsPair row (p + 1) (Compare p) a b → Grows a b (code_size t) (emit p t)
  emits_eq rest (an_eq l r) at E = two_children (Compare p) l r rest at E

  pub emits_app : {Z : Type 0} {a b : Vec Instruction Z} {t : Term} (rest : List Node) → Rooted App t → drop p row ≡ listing_before t rest →
      EmitsPair row (p + 1) (Apply p) a b → Grows a b (code_size t) (emit p t)
  emits_app rest (an_app l r) at E = two_children (Apply p) l r rest at E

  -- A Lambda: its body behind CLOSURE.
  pub emits_lam : {Z : Type 0} {a b : Vec Instruction Z} {x : ℕ} {t : Term} (rest : List Node) (n : ℕ) → Rooted (Lam x) t → drop p row ≡ listing_before t rest →
      n ≡ min ((measured_at xs (p + 1)).instructions + 1) max_u16 → EmitsBody row (p + 1) (PushClosure x n) a b → Grows a b (code_size t) (emit p t)
  emits_lam rest n (a_lam x body) at is E = body_placed (PushClosure x) (p + 1) (suc p) n body rest E (first_child at) (omega arith) is

  -- A Let: what it binds, LET, the body and ENDLET.
  pub emits_let : {Z : Type 0} {a b c d e : Vec Instruction Z} {x : ℕ} {t : Term} (rest : List Node) (second : ℕ) → Rooted (Let x) t → drop p row ≡ listing_before t rest →
      second ≡ min (p + 1 + (measured_at xs (p + 1)).records) max_u16 → Emits row (p + 1) a b → Grows b c 1 (λ k. Bind x ∷ k) → Emits row second c d → Grows d e 1 (λ k. Unbind ∷ k) →
      Grows a e (code_size t) (emit p t)
  emits_let rest second (a_let x bound body) at is A O B C =
      let first = first_child at in
      let next = behind (p + 1) second bound (listing_before body rest) first is in
      counted (omega arith)
      (and_then (placed (p + 1) (suc p) bound (listing_before body rest) A first (omega arith))
      (and_then O (and_then (placed second (suc p + size bound) body rest B next.1 (omega (arith, next.0))) C)))

  -- An If: both branches behind a THUNK, then the condition, then IF.
  pub emits_if : {Z : Type 0} {a b c d e : Vec Instruction Z} {t : Term} (rest : List Node) (second third m n : ℕ) → Rooted If t → drop p row ≡ listing_before t rest →
      second ≡ min (p + 1 + (measured_at xs (p + 1)).records) max_u16 → third ≡ min (second + (measured_at xs second).records) max_u16 →
      m ≡ min ((measured_at xs second).instructions + 1) max_u16 → n ≡ min ((measured_at xs third).instructions + 1) max_u16 →
      EmitsBody row second (PushThunk m) a b → EmitsBody row third (PushThunk n) b c → Emits row (p + 1) c d → Grows d e 1 (λ k. Choose p ∷ k) →
      Grows a e (code_size t) (emit p t)
  emits_if rest second third m n (an_if q t f) at is₂ is₃ isₘ isₙ T F Q I =
      let first = first_child at in
      let next = behind (p + 1) second q (listing_before t (listing_before f rest)) first is₂ in
      let last = behind second third t (listing_before f rest) next.1 is₃ in
      counted (omega arith)
      (and_then (body_placed PushThunk second (suc p + size q) m t (listing_before f rest) T next.1 (omega (arith, next.0)) isₘ)
      (and_then (body_placed PushThunk third (suc p + size q + size t) n f rest F last.1 (omega (arith, next.0, last.0)) isₙ)
      (and_then (placed (p + 1) (suc p) q (listing_before t (listing_before f rest)) Q first (omega arith)) I)))

-- The code of the term at the root, and END, in what was empty, is the translation.
pub translated : {Z : Type 0} {a b c : Vec Instruction Z} (row : List Node) (t : Term) → listing t ≡ row → length row ≤ most_records → most_instructions ≤ vec_capacity a →
    vec_items a ≡ [] → vec_len a ≡ 0 → Emits row 0 a b → Grows b c 1 (λ k. End ∷ k) → vec_items c ≡ translate t
translated {a = a} {c = c} row t e long room empty none E G =
    let W : Grows a c (code_size t + 1) (λ k. emit 0 t (End ∷ k)) = and_then (E t [] (sym e)) G in
    let fits : vec_len a + (code_size t + 1) ≤ vec_capacity a = omega (arith, within row 0 t [] (sym e), code_size_bounded t) in
    sym (append-nil (vec_items c)) ∙ W.added fits [] ∙ ap (λ z. z ++ translate t) empty
