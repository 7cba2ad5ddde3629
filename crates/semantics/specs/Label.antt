-- What a record says: the table of records, read from the record.
use Rattle.std.specs.Prelude.{◌≡◌, ℕ, zero, suc, true, false, cond, Some, None, Option, ◌==◌}
use Rattle.domain.specs.declared.Op.TheVariants.{Add, Sub, Mul, Div}
use Rattle.semantics.specs.declared.layout.Node.{Node}
use Rattle.semantics.specs.declared.layout.Label.{Label}
use Rattle.semantics.specs.declared.layout.Label.TheVariants.{Num, Truth, Var, Binop, Eq, App, Lam, Let, If}
use Rattle.semantics.specs.Listing.{kind_num, kind_truth, kind_var, kind_binop, kind_eq, kind_app, kind_lam, kind_let, kind_if, record_of}

-- What is found where a field is 0.
abbrev pub where_zero : {A : Type 0} → ℕ → Option A → Option A
where_zero n o = cond (n == 0) o None

-- The label of a boolean, by its number.
abbrev pub truth_label : ℕ → Option Label
truth_label n = cond (n == 0) (Some (Truth false)) (cond (n == 1) (Some (Truth true)) None)

-- The label of a variable, by its name and its index.
abbrev pub var_label : ℕ → ℕ → Option Label
var_label x zero = None
var_label x (suc i) = Some (Var x i)

-- The label of an operation, by its number.
abbrev pub op_label : ℕ → Option Label
op_label n =
    cond (n == 1) (Some (Binop Add))
    (cond (n == 2) (Some (Binop Sub))
    (cond (n == 3) (Some (Binop Mul))
    (cond (n == 4) (Some (Binop Div)) None)))

-- The label of a record with this kind, name and number; none where it is outside the table.
abbrev pub label_at : ℕ → ℕ → ℕ → Option Label
label_at k x n =
    cond (k == kind_num) (where_zero x (Some (Num n)))
    (cond (k == kind_truth) (where_zero x (truth_label n))
    (cond (k == kind_var) (var_label x n)
    (cond (k == kind_binop) (where_zero x (op_label n))
    (cond (k == kind_eq) (where_zero x (where_zero n (Some Eq)))
    (cond (k == kind_app) (where_zero x (where_zero n (Some App)))
    (cond (k == kind_lam) (where_zero n (Some (Lam x)))
    (cond (k == kind_let) (where_zero n (Some (Let x)))
    (cond (k == kind_if) (where_zero x (where_zero n (Some If))) None))))))))

abbrev pub label_of : Node → Option Label
label_of r = label_at r.kind r.name r.number

-- A record has a label exactly when it is the label's record in the table.
pub record LabelsAreTheTable : Type 0 where
  pub read : (l : Label) → label_of (record_of l) ≡ Some l
  pub only : (r : Node) (l : Label) → label_of r ≡ Some l → record_of l ≡ r
