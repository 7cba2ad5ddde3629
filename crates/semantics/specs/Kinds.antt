-- The kinds of records and of instructions, as the enums of the code.
use Rattle.std.specs.Prelude.{◌≡◌, ◌≢◌, ℕ, Result, Ok, Err}
use Rattle.semantics.specs.declared.kind.NodeKind.{NodeKind}
use Rattle.semantics.specs.declared.kind.NodeKind.TheVariants as N
use Rattle.semantics.specs.declared.kind.InstrKind.{InstrKind}
use Rattle.semantics.specs.declared.kind.InstrKind.TheVariants as I
use Rattle.semantics.specs.declared.kind.OutsideTable.{OutsideTable}
use Rattle.semantics.specs.declared.layout.Node.{Node}
use Rattle.semantics.specs.Listing.{kind_num, kind_truth, kind_var, kind_binop, kind_eq, kind_app, kind_lam, kind_let, kind_if}
use Rattle.semantics.specs.Instructions.{kind_end, kind_push_num, kind_push_truth, kind_access, kind_closure, kind_thunk, kind_operate, kind_compare, kind_bind, kind_unbind, kind_apply, kind_return, kind_choose}

-- The number of each kind of records.
abbrev pub node_kind_number : NodeKind → ℕ
node_kind_number N.Num = kind_num
node_kind_number N.Truth = kind_truth
node_kind_number N.Var = kind_var
node_kind_number N.Binop = kind_binop
node_kind_number N.Eq = kind_eq
node_kind_number N.App = kind_app
node_kind_number N.Lam = kind_lam
node_kind_number N.Let = kind_let
node_kind_number N.If = kind_if

-- A record of a kind, with its name and number.
abbrev pub record_with : NodeKind → ℕ → ℕ → Node
record_with k x n = record { kind = node_kind_number k; name = x; number = n }

-- The number of each kind of instructions.
abbrev pub instr_kind_number : InstrKind → ℕ
instr_kind_number I.End = kind_end
instr_kind_number I.PushNum = kind_push_num
instr_kind_number I.PushTruth = kind_push_truth
instr_kind_number I.Access = kind_access
instr_kind_number I.PushClosure = kind_closure
instr_kind_number I.PushThunk = kind_thunk
instr_kind_number I.Operate = kind_operate
instr_kind_number I.Compare = kind_compare
instr_kind_number I.Bind = kind_bind
instr_kind_number I.Unbind = kind_unbind
instr_kind_number I.Apply = kind_apply
instr_kind_number I.Return = kind_return
instr_kind_number I.Choose = kind_choose

-- A number is that of the kind found, or it is the number of no kind.
abbrev pub Decodes : {K : Type 0} → (K → ℕ) → ℕ → Result K OutsideTable → Type 0
Decodes number_of n (Ok kind) = n ≡ number_of kind
Decodes {K} number_of n (Err e) = (kind : K) → n ≢ number_of kind
