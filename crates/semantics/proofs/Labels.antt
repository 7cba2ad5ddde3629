-- The table of records is read back by labels, and only that.
use Rattle.std.proofs.Common.{◌≡◌, ℕ, zero, suc, true, false, Some, None, eqb, ◌≢◌, refl, ap, ◌∙◌}
use Rattle.std.proofs.lemmas.Bool.{ne_eqb}
use Rattle.domain.specs.declared.Op.TheVariants.{Add, Sub, Mul, Div}
use Rattle.semantics.specs.declared.layout.Label.{Label}
use Rattle.semantics.specs.declared.layout.Label.TheVariants.{Num, Truth, Var, Binop, Eq, App, Lam, Let, If}
use Rattle.semantics.specs.Listing.{kind_num, kind_truth, kind_var, kind_binop, kind_eq, kind_app, kind_lam, kind_let, kind_if, record_of}
use Rattle.semantics.specs.declared.kind.NodeKind.{NodeKind}
use Rattle.semantics.specs.declared.kind.NodeKind.TheVariants as N
use Rattle.semantics.specs.Kinds.{node_kind_number}
use Rattle.semantics.specs.Label.{var_label, label_at, label_of, LabelsAreTheTable}
use Rattle.semantics.proofs.Found.{chosen, none_found, zero_found}

-- The record of a label has that label.
pub label_of_record : (l : Label) → label_of (record_of l) ≡ Some l
label_of_record (Num c) = refl
label_of_record (Truth false) = refl
label_of_record (Truth true) = refl
label_of_record (Var x i) = refl
label_of_record (Binop Add) = refl
label_of_record (Binop Sub) = refl
label_of_record (Binop Mul) = refl
label_of_record (Binop Div) = refl
label_of_record Eq = refl
label_of_record App = refl
label_of_record (Lam x) = refl
label_of_record (Let x) = refl
label_of_record If = refl

-- A record with the fields of a label's record is that record.
is_record_of : (l' : Label) {l : Label} {k x n : ℕ} → (record_of l').kind ≡ k → (record_of l').name ≡ x → (record_of l').number ≡ n →
    Some l' ≡ Some l → record_of l ≡ record { kind = k; name = x; number = n }
is_record_of l' {l} {k} {x} {n} p q r e =
    let same : l ≡ l' = cc in
    let fields : record_of l' ≡ record { kind = k; name = x; number = n } = λ i. record { kind = p i; name = q i; number = r i } in
    ap record_of same ∙ fields

-- A variable's index is one more than the number of binders between.
var_found : (x n : ℕ) {l : Label} → var_label x n ≡ Some l → record_of l ≡ record { kind = kind_var; name = x; number = n }
var_found x zero e = none_found e
var_found x (suc i) e = is_record_of (Var x i) refl refl refl e

-- A record that has a label is the label's record.
record_of_label : (k x n : ℕ) (l : Label) → label_at k x n ≡ Some l → record_of l ≡ record { kind = k; name = x; number = n }
record_of_label k x n l =
    chosen k kind_num (λ a. zero_found x (λ b e. is_record_of (Num n) a b refl e))
    (chosen k kind_truth
    (λ a. zero_found x (λ b.
    chosen n 0 (λ d e. is_record_of (Truth false) a b d e)
    (chosen n 1 (λ d e. is_record_of (Truth true) a b d e) none_found)))
    (chosen k kind_var (λ a e. var_found x n e ∙ (λ i. record { kind = a i; name = x; number = n }))
    (chosen k kind_binop
    (λ a. zero_found x (λ b.
    chosen n 1 (λ d e. is_record_of (Binop Add) a b d e)
    (chosen n 2 (λ d e. is_record_of (Binop Sub) a b d e)
    (chosen n 3 (λ d e. is_record_of (Binop Mul) a b d e)
    (chosen n 4 (λ d e. is_record_of (Binop Div) a b d e) none_found)))))
    (chosen k kind_eq (λ a. zero_found x (λ b. zero_found n (λ d e. is_record_of Eq a b d e)))
    (chosen k kind_app (λ a. zero_found x (λ b. zero_found n (λ d e. is_record_of App a b d e)))
    (chosen k kind_lam (λ a. zero_found n (λ d e. is_record_of (Lam x) a refl d e))
    (chosen k kind_let (λ a. zero_found n (λ d e. is_record_of (Let x) a refl d e))
    (chosen k kind_if (λ a. zero_found x (λ b. zero_found n (λ d e. is_record_of If a b d e))) none_found))))))))

pub labels_are_the_table : LabelsAreTheTable
labels_are_the_table = record { read = label_of_record; only = λ r l. record_of_label r.kind r.name r.number l }

-- A record whose kind is unknown has no label.
pub no_label : (k x n : ℕ) → ((kind : NodeKind) → k ≢ node_kind_number kind) → label_at k x n ≡ None
no_label k x n unknown =
    let is_no : (kind : NodeKind) → eqb k (node_kind_number kind) ≡ false = λ kind. ne_eqb k (node_kind_number kind) (unknown kind) in
    rw (is_no N.Num, is_no N.Truth, is_no N.Var, is_no N.Binop, is_no N.Eq, is_no N.App, is_no N.Lam, is_no N.Let, is_no N.If) refl
