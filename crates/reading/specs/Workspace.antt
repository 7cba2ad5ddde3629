-- Reading over an arena: one instruction after the other, and the root that is left.
use Rattle.std.specs.Prelude.{ℕ, ◌+◌, ◌-◌, ◌<◌, Bool, true, false, cond, List, [], ◌∷◌, reverse, length, Some, None, Option, nat_lt}
use Rattle.std.specs.Option.{option_and_then}
use Rattle.semantics.specs.declared.layout.Instruction.{Instruction}
use Rattle.semantics.specs.declared.layout.Instruction.TheVariants.{End, PushNum, PushTruth, Access, PushClosure, PushThunk, Operate, Compare, Bind, Unbind, Apply, Return, Choose}
use Rattle.semantics.specs.Sizes.{most_instructions, most_names}
use Rattle.reading.specs.declared.reader.Reader.{Reader}
use Rattle.reading.specs.declared.reader.Tree.{Tree}
use Rattle.reading.specs.declared.reader.Tree.TheVariants as T
use Rattle.reading.specs.declared.reader.Mark.{Mark}
use Rattle.reading.specs.declared.reader.Mark.TheVariants as M

-- What a reader works on, newest first: the arena, the nodes not yet used, what is open, and how many binders and inputs
-- are in scope.
pub record Workspace : Type 0 where
  pub nodes : List Tree
  pub stack : List ℕ
  pub marks : List Mark
  pub scope : ℕ

-- A workspace of its parts.
abbrev pub workspace : List Tree → List ℕ → List Mark → ℕ → Workspace
workspace ns s ms h = record { nodes = ns; stack = s; marks = ms; scope = h }

-- The workspace that a reader's vectors hold, newest last.
abbrev pub workspace_of : Reader → Workspace
workspace_of r = workspace (reverse r.nodes) (reverse r.stack) (reverse r.marks) r.scope

-- A reader has room for what one instruction adds.
abbrev pub HasRoom : Reader → Type 0
HasRoom r =
    (length r.nodes < most_instructions) × (length r.stack < most_instructions) × (length r.marks < most_instructions)
    × (r.scope < most_names + most_instructions)

-- Nothing read yet, and k inputs in scope.
abbrev pub blank : ℕ → Workspace
blank k = workspace [] [] [] k

-- A new node on top of the nodes not yet used.
abbrev pub put : Tree → Workspace → Workspace
put t w = workspace (t ∷ w.nodes) (length w.nodes ∷ w.stack) w.marks w.scope

-- A new mark, with so many in scope.
abbrev pub opened : Mark → ℕ → Workspace → Workspace
opened m h w = workspace w.nodes w.stack (m ∷ w.marks) h

-- A node of the two or three on top, the topmost last: None where there are too few.
abbrev pub of_two : (ℕ → ℕ → Tree) → List ℕ → Workspace → Option Workspace
of_two f (r ∷ l ∷ s) w = Some (put (f l r) (workspace w.nodes s w.marks w.scope))
of_two f _ w = None

abbrev pub of_three : List ℕ → Workspace → Option Workspace
of_three (q ∷ e ∷ t ∷ s) w = Some (put (T.If q t e) (workspace w.nodes s w.marks w.scope))
of_three _ w = None

-- LET takes what it binds off and opens its body.
abbrev pub let_opened : ℕ → List ℕ → Workspace → Option Workspace
let_opened x (a ∷ s) w = Some (opened (M.Let x a) (w.scope + 1) (workspace w.nodes s w.marks w.scope))
let_opened x [] w = None

-- ENDLET makes a node of the Let that is open and of the body on top.
abbrev pub let_closed : List ℕ → List Mark → Workspace → Option Workspace
let_closed (b ∷ s) (M.Let x a ∷ ms) w = Some (put (T.Let x a b) (workspace w.nodes s ms (w.scope - 1)))
let_closed _ _ w = None

-- RETURN closes a body: a Lambda's becomes its node, a thunk's stays as it is.
abbrev pub body_closed : List ℕ → List Mark → Workspace → Option Workspace
body_closed (b ∷ s) (M.Lambda x ∷ ms) w = Some (put (T.Lam x b) (workspace w.nodes s ms (w.scope - 1)))
body_closed (b ∷ s) (M.Thunk ∷ ms) w = Some (workspace w.nodes (b ∷ s) ms w.scope)
body_closed _ _ w = None

-- One instruction: None where it does not fit. END is not for here.
abbrev pub performed : Instruction → Workspace → Option Workspace
performed End w = None
performed (PushNum n) w = Some (put (T.Num n) w)
performed (PushTruth b) w = Some (put (T.Truth b) w)
performed (Access x i) w = cond (nat_lt i w.scope) (Some (put (T.Var x (i + 1)) w)) None
performed (PushClosure x n) w = Some (opened (M.Lambda x) (w.scope + 1) w)
performed (PushThunk n) w = Some (opened M.Thunk w.scope w)
performed (Operate o p) w = of_two (T.Binop o) w.stack w
performed (Compare p) w = of_two T.Eq w.stack w
performed (Bind x) w = let_opened x w.stack w
performed Unbind w = let_closed w.stack w.marks w
performed (Apply p) w = of_two T.App w.stack w
performed Return w = body_closed w.stack w.marks w
performed (Choose p) w = of_three w.stack w

-- Instructions one after the other.
abbrev pub run : List Instruction → Workspace → Option Workspace
run [] w = Some w
run (i ∷ c) w = option_and_then (λ w'. run c w') (performed i w)

-- What a step answers: the workspace after it, or that the instruction does not fit.
abbrev pub answered : {A : Type 0} → Option A → Workspace → Option Workspace
answered (Some u) w = Some w
answered None w = None

-- Whether an instruction is END.
abbrev pub is_end : Instruction → Bool
is_end End = true
is_end _ = false

-- The only node left, where nothing is open.
abbrev pub sole : List ℕ → List Mark → Option ℕ
sole (r ∷ []) [] = Some r
sole _ _ = None

-- The root of what was read, when END comes last.
abbrev pub root : Instruction → Workspace → Option ℕ
root last w = cond (is_end last) (sole w.stack w.marks) None
