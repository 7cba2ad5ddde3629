-- Measuring from the last record to the first measures every term.
use Rattle.std.proofs.Common.{◌≡◌, ℕ, zero, suc, ◌+◌, ◌-◌, ◌*◌, ◌<◌, ◌≤◌, min, List, [], ◌∷◌, ◌++◌, reverse, length, get_or, drop, Some, None, Option, sym, refl, ap, ◌∙◌, arith}
use native.Mathlib.Nat.{min-eq_left}
use Rattle.std.proofs.lemmas.List.{reverse-append, length-reverse, length-drop, get_or-reverse, drop-drop, drop_more}
use Rattle.std.proofs.lemmas.Option.{unwrap_or-slice_get}
use Rattle.std.specs.List.{slice_get}
use Rattle.std.specs.Option.{UnwrapsOrElse, unwrap_or}
use Rattle.semantics.specs.declared.layout.Node.{Node}
use Rattle.semantics.specs.declared.layout.Label.{Label}
use Rattle.semantics.specs.declared.layout.Label.TheVariants.{Num, Truth, Var, Binop, Eq, App, Lam, Let, If}
use Rattle.semantics.specs.Terms.{Term, num, truth, var, binop, eq, app, lam, let_in, if_then, size}
use Rattle.semantics.specs.Listing.{record_of, listing_before}
use Rattle.semantics.specs.Translation.{code_size}
use Rattle.semantics.specs.Sizes.{most_records}
use Rattle.semantics.proofs.CodeSize.{listing-length, code_size_bounded}
use Rattle.formula.specs.declared.translate.Extent.{Extent}
use Rattle.semantics.specs.Label.{label_of}
use Rattle.semantics.proofs.Labels.{label_of_record}
use Rattle.formula.specs.Translate.{extent, max_u16, together, measured_at, with_child, whole, measure_of, Measured}

-- What the record at a place has, or else the default, is what was measured there.
pub measured_or_none : {none : Extent → Type 0} (xs : List Extent) (p : ℕ) {o : Option Extent} {x : Extent} → ((y : Extent) → none y → y ≡ extent 0 0) → o ≡ slice_get xs p → UnwrapsOrElse o none x → x ≡ measured_at xs p
measured_or_none xs p {o = None} default e h = default _ h ∙ ap (λ o. unwrap_or o (extent 0 0)) e ∙ unwrap_or-slice_get xs p (extent 0 0)
measured_or_none xs p {o = Some y} default e h = h ∙ ap (λ o. unwrap_or o (extent 0 0)) e ∙ unwrap_or-slice_get xs p (extent 0 0)

-- Past so many, and past so many more.
pub further : {A : Type 0} (m n : ℕ) (xs : List A) {ys zs : List A} → drop m xs ≡ ys → drop n ys ≡ zs → drop (m + n) xs ≡ zs
further m n xs e f = sym (drop-drop n m xs) ∙ ap (drop n) e ∙ f

-- Past the listing of a term stands what is behind it.
pub past_listing : (t : Term) (ns : List Node) → drop (size t) (listing_before t ns) ≡ ns
past_listing (num c) ns = refl
past_listing (truth b) ns = refl
past_listing (var x i) ns = refl
past_listing (binop o l r) ns = further (size l) (size r) _ (past_listing l _) (past_listing r ns)
past_listing (eq l r) ns = further (size l) (size r) _ (past_listing l _) (past_listing r ns)
past_listing (app f a) ns = further (size f) (size a) _ (past_listing f _) (past_listing a ns)
past_listing (lam x b) ns = past_listing b ns
past_listing (let_in x a b) ns = further (size a) (size b) _ (past_listing a _) (past_listing b ns)
past_listing (if_then c t e) ns =
    further (size c) (size t + size e) _ (past_listing c _) (further (size t) (size e) _ (past_listing t _) (past_listing e ns))

-- The listing of a term that begins at a place of a row ends within the row.
pub within : (row : List Node) (p : ℕ) (t : Term) (rest : List Node) → drop p row ≡ listing_before t rest → p + size t ≤ length row
within row p t rest e =
    omega (arith, sym (length-drop p row) ∙ ap length e ∙ listing-length t rest refl, code_size_bounded t)

-- Where the records behind a record are measured, the record is.
module _ (n : Node) (row : List Node) (xs : List Extent) (long : length row < most_records) (behind : Measured row xs) where
  -- The child that begins behind a records adds its own.
  next_child : (a b q k : ℕ) (t : Term) (rest : List Node) → b ≤ 5 + 3 * a → drop a row ≡ listing_before t rest →
      suc a + size t ≡ q → b + code_size t ≡ k → with_child xs (extent (suc a) b) ≡ extent q k
  next_child a b q k t rest few e p r =
      let place : suc a - 1 ≡ a = omega arith in
      let small : suc a + size t ≤ max_u16 = omega (arith, within row a t rest e) in
      let short : b + code_size t ≤ max_u16 = omega (arith, within row a t rest e, code_size_bounded t) in
      let records : min (suc a + size t) max_u16 ≡ q = min-eq_left small ∙ p in
      let instructions : min (b + code_size t) max_u16 ≡ k = min-eq_left short ∙ r in
      ap (λ z. together (extent (suc a) b) (measured_at xs z)) place ∙ ap (together (extent (suc a) b)) (behind a t rest e) ∙ (λ i. extent (records i) (instructions i))

  -- Two children, of a record with b instructions of its own.
  two_children : (b k : ℕ) (l r : Term) (rest : List Node) → b ≤ 5 → row ≡ listing_before l (listing_before r rest) →
      b + (code_size l + code_size r) ≡ k → with_child xs (with_child xs (extent 1 b)) ≡ extent (suc (size l + size r)) k
  two_children b k l r rest few e p =
      ap (with_child xs) (next_child 0 b (suc (size l)) (b + code_size l) l _ (omega arith) e (omega arith) refl)
      ∙ next_child (size l) (b + code_size l) _ k r rest (omega (arith, code_size_bounded l)) (ap (drop (size l)) e ∙ past_listing l _) (omega arith) (omega arith)

  -- The record says its label.
  by_label : (l : Label) {ns : List Node} → n ∷ row ≡ record_of l ∷ ns → measure_of xs (label_of n) ≡ whole xs l
  by_label l e = let h : n ≡ record_of l = cc in ap (λ z. measure_of xs (label_of z)) h ∙ ap (measure_of xs) (label_of_record l)

  -- What stands behind the first record.
  behind_first : {m : Node} {ns : List Node} → n ∷ row ≡ m ∷ ns → row ≡ ns
  behind_first e = cc

  -- The term that begins with the record is measured.
  first_measured : (t : Term) (rest : List Node) → n ∷ row ≡ listing_before t rest → measure_of xs (label_of n) ≡ extent (size t) (code_size t)
  first_measured (num c) rest e = by_label (Num c) e
  first_measured (truth b) rest e = by_label (Truth b) e
  first_measured (var x i) rest e = by_label (Var x i) e
  first_measured (binop o l r) rest e = by_label (Binop o) e ∙ two_children 1 _ l r rest (omega arith) (behind_first e) (omega arith)
  first_measured (eq l r) rest e = by_label Eq e ∙ two_children 1 _ l r rest (omega arith) (behind_first e) (omega arith)
  first_measured (app f a) rest e = by_label App e ∙ two_children 1 _ f a rest (omega arith) (behind_first e) (omega arith)
  first_measured (lam x b) rest e = by_label (Lam x) e ∙ next_child 0 2 _ _ b rest (omega arith) (behind_first e) (omega arith) (omega arith)
  first_measured (let_in x a b) rest e = by_label (Let x) e ∙ two_children 2 _ a b rest (omega arith) (behind_first e) (omega arith)
  first_measured (if_then c t f) rest e =
      by_label If e ∙ ap (with_child xs) (two_children 5 _ c t _ (omega arith) (behind_first e) refl)
      ∙ next_child (size c + size t) _ _ _ f rest (omega (arith, code_size_bounded c, code_size_bounded t))
      (further (size c) (size t) row (ap (drop (size c)) (behind_first e) ∙ past_listing c _) (past_listing t _)) (omega arith) (omega arith)

  -- So is every term of the longer row.
  pub measured_more : Measured (n ∷ row) (measure_of xs (label_of n) ∷ xs)
  measured_more zero t rest e = first_measured t rest e
  measured_more (suc p) t rest e = behind p t rest e

-- No term begins past the end of a row.
pub measured_none : (row : List Node) (k : ℕ) (xs : List Extent) → length row ≤ k → Measured (drop k row) xs
measured_none row k xs h p t rest e = absurd (omega (arith, within (drop k row) p t rest e, length-drop k row, code_size_bounded t))

-- One record more, before the k from the end that are measured.
pub measured_step : (row : List Node) (k m : ℕ) (n : Node) (xs ys : List Extent) → length row ≤ most_records → k < length (reverse row) → n ≡ get_or (reverse row) k n → m ≡ k + 1 →
    Measured (drop (length row - k) row) (reverse xs) → ys ≡ xs ++ measure_of (reverse xs) (label_of n) ∷ [] → Measured (drop (length row - m) row) (reverse ys)
measured_step row k m n xs ys long lt at more behind e =
    let inside : k < length row = omega (arith, length-reverse row) in
    let i = length row - m in
    let this : length row - 1 - k ≡ i = omega arith in
    let next : i + 1 ≡ length row - k = omega arith in
    let here : n ≡ get_or row i n = at ∙ get_or-reverse row k n inside ∙ ap (λ j. get_or row j n) this in
    let front : drop i row ≡ n ∷ drop (length row - k) row = drop_more row i n (omega arith) ∙ (λ j. sym here j ∷ drop (next j) row) in
    let short : length (drop (length row - k) row) < most_records = simp length-drop (omega arith) in
    let measured = measured_more n (drop (length row - k) row) (reverse xs) short behind in
    λ q t rest h. ap (λ z. measured_at z q) (ap reverse e ∙ reverse-append xs _) ∙ measured q t rest (ap (drop q) (sym front) ∙ h)
