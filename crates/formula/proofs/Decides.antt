-- The checks of a listing decide whether it is that of a well-formed term.
use Rattle.std.proofs.Common.{◌≡◌, ℕ, zero, suc, ◌+◌, ◌<◌, ◌≤◌, Bool, true, false, cond, ◌&&◌, ltb, leb, List, [], ◌∷◌, length, is_some, Some, None, Ok, Err, Option, sym, refl, ap, ◌∙◌, subst, arith}
use Rattle.std.proofs.lemmas.Bool.{eqb-true, eq-eqb, leb-true, le-leb, lt-ltb, and_parts, and_from, cond-true}
use Rattle.std.specs.List.{AllByRecursion}
use Rattle.domain.specs.Meaning.{Meaning}
use Rattle.semantics.specs.declared.layout.Node.{Node}
use Rattle.semantics.specs.declared.layout.Label.{Label}
use Rattle.semantics.specs.declared.layout.Label.TheVariants.{Truth, Binop}
use Rattle.semantics.specs.Terms.{Term, num, truth, var, binop, eq, app, lam, let_in, if_then}
use Rattle.semantics.specs.Listing.{record_of, listing_before, listing}
use Rattle.semantics.specs.Scope.{Bears, InScope, LawfulTerm}
use Rattle.semantics.specs.Counting.{Counted, count, too_early, over, InTable, in_table, AllInTable}
use Rattle.semantics.specs.Sizes.{most_records, most_names}
use Rattle.semantics.proofs.Clash.{clash}
use Rattle.semantics.proofs.Counting.{counting_decides}
use Rattle.formula.specs.declared.refusal.Refusal.{Refusal}
use Rattle.formula.specs.declared.refusal.Refusal.TheVariants.{Size, OutsideTable, Unlawful, OutOfScope}
use Rattle.semantics.specs.Label.{label_of}
use Rattle.formula.specs.Check.{Checked, and_then, sized, each_passes, has_label, lawful_number, exact, bears, label_in_scope, scopes_below, in_scope, scopes_after, scoped, checked, ListingOf, CheckDecides}
use Rattle.semantics.proofs.Labels.{label_of_record, labels_are_the_table}

-- A test that is followed by no refusal has passed.
passed : (b : Bool) (x : Checked) (r : Refusal) → cond b x (Err r) ≡ Ok tt → (b ≡ true) × (x ≡ Ok tt)
passed true x r e = (refl, e)
passed false x r e = clash cc

-- Two checks pass exactly when both do.
both_passed : (a : Checked) {b : Checked} → and_then a b ≡ Ok tt → (a ≡ Ok tt) × (b ≡ Ok tt)
both_passed (Ok p) e = (refl, e)
both_passed (Err r) e = clash cc

both_pass : {a b : Checked} → a ≡ Ok tt → b ≡ Ok tt → and_then a b ≡ Ok tt
both_pass {a} {b} p q = ap (λ x. and_then x b) p ∙ q

-- Every record of a row passes a test.
abbrev AllPass : (Node → Bool) → List Node → Type 0
AllPass test ns = AllByRecursion (λ n. test n ≡ true) ns

all_passed : (test : Node → Bool) (refusal : ℕ → Refusal) (p : ℕ) (ns : List Node) → each_passes test refusal p ns ≡ Ok tt → AllPass test ns
all_passed test refusal p [] e = tt
all_passed test refusal p (n ∷ ns) e = let h = passed (test n) (each_passes test refusal (p + 1) ns) (refusal p) e in (h.0, all_passed test refusal (p + 1) ns h.1)

all_pass : (test : Node → Bool) (refusal : ℕ → Refusal) (p : ℕ) (ns : List Node) → AllPass test ns → each_passes test refusal p ns ≡ Ok tt
all_pass test refusal p [] h = refl
all_pass test refusal p (n ∷ ns) h = cond-true _ _ _ h.0 ∙ all_pass test refusal (p + 1) ns h.1

-- A record with a label is in the table, and so is a row of such records.
some_label : (o : Option Label) → is_some o ≡ true → (l : Label) × (o ≡ Some l)
some_label None e = clash cc
some_label (Some l) e = (l, refl)

all_in_table : (ns : List Node) → AllPass has_label ns → AllInTable ns
all_in_table [] h = tt
all_in_table (n ∷ ns) h =
    let (l, e) = some_label (label_of n) h.0 in
    (subst InTable (labels_are_the_table.only n l e) (in_table l), all_in_table ns h.1)

-- The records of a term's listing have labels.
listing_has_labels : (t : Term) (ns : List Node) → AllPass has_label ns → AllPass has_label (listing_before t ns)
listing_has_labels (num c) ns h = (refl, h)
listing_has_labels (truth b) ns h = (ap is_some (label_of_record (Truth b)), h)
listing_has_labels (var x i) ns h = (refl, h)
listing_has_labels (binop o l r) ns h = (ap is_some (label_of_record (Binop o)), listing_has_labels l _ (listing_has_labels r ns h))
listing_has_labels (eq l r) ns h = (refl, listing_has_labels l _ (listing_has_labels r ns h))
listing_has_labels (app l r) ns h = (refl, listing_has_labels l _ (listing_has_labels r ns h))
listing_has_labels (lam x b) ns h = (refl, listing_has_labels b ns h)
listing_has_labels (let_in x a b) ns h = (refl, listing_has_labels a _ (listing_has_labels b ns h))
listing_has_labels (if_then c t e) ns h = (refl, listing_has_labels c _ (listing_has_labels t _ (listing_has_labels e ns h)))

-- The numbers of a term are lawful exactly when those of its listing are.
module _ (𝓜 : Meaning) where
  lawful-term : (t : Term) (ns : List Node) → AllPass (lawful_number 𝓜) (listing_before t ns) → (LawfulTerm 𝓜 t) × AllPass (lawful_number 𝓜) ns
  lawful-term (num c) ns h = h
  lawful-term (truth b) ns h = (tt, h.1)
  lawful-term (var x i) ns h = (tt, h.1)
  lawful-term (binop o l r) ns h = let (a, k) = lawful-term l _ h.1 in let (b, j) = lawful-term r ns k in ((a, b), j)
  lawful-term (eq l r) ns h = let (a, k) = lawful-term l _ h.1 in let (b, j) = lawful-term r ns k in ((a, b), j)
  lawful-term (app l r) ns h = let (a, k) = lawful-term l _ h.1 in let (b, j) = lawful-term r ns k in ((a, b), j)
  lawful-term (lam x b) ns h = lawful-term b ns h.1
  lawful-term (let_in x a b) ns h = let (p, k) = lawful-term a _ h.1 in let (q, j) = lawful-term b ns k in ((p, q), j)
  lawful-term (if_then c t e) ns h =
      let (p, k) = lawful-term c _ h.1 in let (q, j) = lawful-term t _ k in let (r, i) = lawful-term e ns j in ((p, q, r), i)

  lawful-listing : (t : Term) (ns : List Node) → LawfulTerm 𝓜 t → AllPass (lawful_number 𝓜) ns → AllPass (lawful_number 𝓜) (listing_before t ns)
  lawful-listing (num c) ns w h = (w, h)
  lawful-listing (truth b) ns w h = (refl, h)
  lawful-listing (var x i) ns w h = (refl, h)
  lawful-listing (binop o l r) ns w h = (refl, lawful-listing l _ w.0 (lawful-listing r ns w.1 h))
  lawful-listing (eq l r) ns w h = (refl, lawful-listing l _ w.0 (lawful-listing r ns w.1 h))
  lawful-listing (app l r) ns w h = (refl, lawful-listing l _ w.0 (lawful-listing r ns w.1 h))
  lawful-listing (lam x b) ns w h = (refl, lawful-listing b ns w h)
  lawful-listing (let_in x a b) ns w h = (refl, lawful-listing a _ w.0 (lawful-listing b ns w.1 h))
  lawful-listing (if_then c t e) ns w h = (refl, lawful-listing c _ w.0 (lawful-listing t _ w.1 (lawful-listing e ns w.2 h)))

-- A scope bears a name at an index exactly when the test says so.
bears_true : (Γ : List ℕ) (i x : ℕ) → bears Γ i x ≡ true → Bears Γ i x
bears_true [] i x e = clash cc
bears_true (y ∷ Γ) zero x e = eqb-true y x e
bears_true (y ∷ Γ) (suc i) x e = bears_true Γ i x e

true_bears : (Γ : List ℕ) (i x : ℕ) → Bears Γ i x → bears Γ i x ≡ true
true_bears [] i x e = absurd e
true_bears (y ∷ Γ) zero x e = eq-eqb y x e
true_bears (y ∷ Γ) (suc i) x e = true_bears Γ i x e

-- The check of scopes at the record of a label.
scoped_label : (p : ℕ) (Γ : List ℕ) (Γs : List (List ℕ)) (l : Label) (ns : List Node) →
    scoped p (Γ ∷ Γs) (record_of l ∷ ns) ≡ cond (label_in_scope l Γ) (scoped (p + 1) (scopes_below l Γ Γs) ns) (Err (OutOfScope p))
scoped_label p Γ Γs l ns = ap (λ o. cond (in_scope o Γ) (scoped (p + 1) (scopes_after o Γ Γs) ns) (Err (OutOfScope p))) (label_of_record l)

-- Where the check of scopes passes a listing, its term is in the first scope, and the rest passes in the others.
in_scope-term : (t : Term) (p : ℕ) (Γ : List ℕ) (Γs : List (List ℕ)) (ns : List Node) → scoped p (Γ ∷ Γs) (listing_before t ns) ≡ Ok tt →
    (InScope Γ t) × (q : ℕ) × (scoped q Γs ns ≡ Ok tt)
in_scope-term (num c) p Γ Γs ns e = (tt, p + 1, e)
in_scope-term (truth b) p Γ Γs ns e = (tt, p + 1, sym (scoped_label p Γ Γs (Truth b) ns) ∙ e)
in_scope-term (var x i) p Γ Γs ns e = let h = passed (bears Γ i x) (scoped (p + 1) Γs ns) (OutOfScope p) e in (bears_true Γ i x h.0, p + 1, h.1)
in_scope-term (binop o l r) p Γ Γs ns e =
    let (a, q, d) = in_scope-term l (p + 1) Γ (Γ ∷ Γs) (listing_before r ns) (sym (scoped_label p Γ Γs (Binop o) _) ∙ e) in
    let (b, k, f) = in_scope-term r q Γ Γs ns d in ((a, b), k, f)
in_scope-term (eq l r) p Γ Γs ns e =
    let (a, q, d) = in_scope-term l (p + 1) Γ (Γ ∷ Γs) (listing_before r ns) e in
    let (b, k, f) = in_scope-term r q Γ Γs ns d in ((a, b), k, f)
in_scope-term (app l r) p Γ Γs ns e =
    let (a, q, d) = in_scope-term l (p + 1) Γ (Γ ∷ Γs) (listing_before r ns) e in
    let (b, k, f) = in_scope-term r q Γ Γs ns d in ((a, b), k, f)
in_scope-term (lam x b) p Γ Γs ns e = in_scope-term b (p + 1) (x ∷ Γ) Γs ns e
in_scope-term (let_in x a b) p Γ Γs ns e =
    let (i, q, d) = in_scope-term a (p + 1) Γ ((x ∷ Γ) ∷ Γs) (listing_before b ns) e in
    let (j, k, f) = in_scope-term b q (x ∷ Γ) Γs ns d in ((i, j), k, f)
in_scope-term (if_then c t s) p Γ Γs ns e =
    let (i, q, d) = in_scope-term c (p + 1) Γ (Γ ∷ Γ ∷ Γs) (listing_before t (listing_before s ns)) e in
    let (j, k, f) = in_scope-term t q Γ (Γ ∷ Γs) (listing_before s ns) d in
    let (m, n, g) = in_scope-term s k Γ Γs ns f in ((i, j, m), n, g)

-- And the other way round.
scoped-listing : (t : Term) (Γ : List ℕ) (Γs : List (List ℕ)) (ns : List Node) → InScope Γ t → ((q : ℕ) → scoped q Γs ns ≡ Ok tt) →
    (p : ℕ) → scoped p (Γ ∷ Γs) (listing_before t ns) ≡ Ok tt
scoped-listing (num c) Γ Γs ns s rest p = rest (p + 1)
scoped-listing (truth b) Γ Γs ns s rest p = scoped_label p Γ Γs (Truth b) ns ∙ rest (p + 1)
scoped-listing (var x i) Γ Γs ns s rest p = cond-true _ _ _ (true_bears Γ i x s) ∙ rest (p + 1)
scoped-listing (binop o l r) Γ Γs ns s rest p =
    scoped_label p Γ Γs (Binop o) _ ∙ scoped-listing l Γ (Γ ∷ Γs) (listing_before r ns) s.0 (scoped-listing r Γ Γs ns s.1 rest) (p + 1)
scoped-listing (eq l r) Γ Γs ns s rest p = scoped-listing l Γ (Γ ∷ Γs) (listing_before r ns) s.0 (scoped-listing r Γ Γs ns s.1 rest) (p + 1)
scoped-listing (app l r) Γ Γs ns s rest p = scoped-listing l Γ (Γ ∷ Γs) (listing_before r ns) s.0 (scoped-listing r Γ Γs ns s.1 rest) (p + 1)
scoped-listing (lam x b) Γ Γs ns s rest p = scoped-listing b (x ∷ Γ) Γs ns s rest (p + 1)
scoped-listing (let_in x a b) Γ Γs ns s rest p =
    scoped-listing a Γ ((x ∷ Γ) ∷ Γs) (listing_before b ns) s.0 (scoped-listing b (x ∷ Γ) Γs ns s.1 rest) (p + 1)
scoped-listing (if_then c t e) Γ Γs ns s rest p =
    scoped-listing c Γ (Γ ∷ Γ ∷ Γs) (listing_before t (listing_before e ns)) s.0
    (scoped-listing t Γ (Γ ∷ Γs) (listing_before e ns) s.1 (scoped-listing e Γ Γs ns s.2 rest)) (p + 1)

-- Counting that is exact leaves no records over, and has some to begin with.
none_over : (len : ℕ) (k : Counted) → exact len k ≡ Ok tt → k ≡ over []
none_over len too_early e = clash cc
none_over len (over []) e = refl
none_over len (over (n ∷ ns)) e = clash cc

some_records : (ns : List Node) → count 1 ns ≡ over [] → 0 < length ns
some_records [] e = clash cc
some_records (n ∷ ns) e = omega arith

-- A listing that passes is that of a well-formed term.
sound : (𝓜 : Meaning) (names : List ℕ) (ns : List Node) → checked 𝓜 names ns ≡ Ok tt → (t : Term) × ListingOf 𝓜 names ns t
sound 𝓜 names ns e =
    let (e₁, rest₁) = both_passed (sized names ns) e in
    let (e₂, rest₂) = both_passed (each_passes has_label OutsideTable 0 ns) rest₁ in
    let (e₃, rest₃) = both_passed (each_passes (lawful_number 𝓜) Unlawful 0 ns) rest₂ in
    let (e₄, e₅) = both_passed (exact (length ns) (count 1 ns)) rest₃ in
    let fits = and_parts (ltb 0 (length ns) && leb (length ns) most_records) (leb (length names) most_names) (passed _ (Ok tt) Size e₁).0 in
    let table = all_in_table ns (all_passed has_label OutsideTable 0 ns e₂) in
    let (t, is) = counting_decides.complete ns [] table (none_over (length ns) (count 1 ns) e₄) in
    let lawful = (lawful-term 𝓜 t [] (subst (AllPass (lawful_number 𝓜)) (sym is) (all_passed (lawful_number 𝓜) Unlawful 0 ns e₃))).0 in
    let scope = (in_scope-term t 0 names [] [] (subst (λ row. scoped 0 (names ∷ []) row ≡ Ok tt) (sym is) e₅)).0 in (
      t,
      record {
        is_listing = is;
        well_formed = (scope, lawful);
        few_records = leb-true (length ns) most_records (and_parts (ltb 0 (length ns)) (leb (length ns) most_records) fits.0).1;
        few_names = leb-true (length names) most_names fits.1;
      },
    )

-- The listing of a well-formed term passes.
passes : (𝓜 : Meaning) (names : List ℕ) (t : Term) → ListingOf 𝓜 names (listing t) t → checked 𝓜 names (listing t) ≡ Ok tt
passes 𝓜 names t h =
    let ns = listing t in
    let counted : count 1 ns ≡ over [] = counting_decides.counts t [] in
    let fits : (ltb 0 (length ns) && leb (length ns) most_records && leb (length names) most_names) ≡ true
    = and_from _ _ (and_from _ _ (lt-ltb 0 (length ns) (some_records ns counted)) (le-leb (length ns) most_records h.few_records)) (le-leb (length names) most_names h.few_names) in
    both_pass (cond-true _ _ _ fits)
    (both_pass (all_pass has_label OutsideTable 0 ns (listing_has_labels t [] tt))
    (both_pass (all_pass (lawful_number 𝓜) Unlawful 0 ns (lawful-listing 𝓜 t [] h.well_formed.1 tt))
    (both_pass (ap (exact (length ns)) counted) (scoped-listing t names [] [] h.well_formed.0 (λ q. refl) 0))))

pub check_decides : CheckDecides
check_decides = record {
  sound = sound;
  complete = λ 𝓜 names ns t h. subst (λ row. checked 𝓜 names row ≡ Ok tt) h.is_listing
      (passes 𝓜 names t (record { is_listing = refl; well_formed = h.well_formed; few_records = subst (λ row. length row ≤ most_records) (sym h.is_listing) h.few_records; few_names = h.few_names }));
}
