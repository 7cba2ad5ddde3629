-- Each instruction adds one node, one unused node, one mark and one name in scope at most.
use Rattle.std.proofs.Common.{◌≡◌, ℕ, suc, ◌+◌, ◌<◌, ◌≤◌, true, false, cond, ltb, List, [], ◌∷◌, length, take, Some, None, Option, subst, arith, rules}
use Rattle.std.proofs.lemmas.List.{length-reverse, length-take-le}
use Rattle.std.specs.Option.{IfSome, option_and_then}
use Rattle.semantics.specs.declared.layout.Instruction.{Instruction}
use Rattle.semantics.specs.declared.layout.Instruction.TheVariants.{End, PushNum, PushTruth, Access, PushClosure, PushThunk, Operate, Compare, Bind, Unbind, Apply, Return, Choose}
use Rattle.semantics.specs.Sizes.{most_instructions, most_names}
use Rattle.reading.specs.declared.reader.Reader.{Reader}
use Rattle.reading.specs.declared.reader.Tree.{Tree}
use Rattle.reading.specs.declared.reader.Tree.TheVariants as T
use Rattle.reading.specs.declared.reader.Mark.{Mark}
use Rattle.reading.specs.declared.reader.Mark.TheVariants as M
use Rattle.reading.specs.Workspace.{Workspace, workspace, workspace_of, HasRoom, blank, put, of_two, performed, run}

-- The sizes that n instructions lead to at most.
abbrev Grown : ℕ → Workspace → Type 0
Grown n w = (length w.nodes ≤ n) × (length w.stack ≤ n) × (length w.marks ≤ n) × (w.scope ≤ most_names + n)

two_grow : (n : ℕ) (f : ℕ → ℕ → Tree) (ns : List Tree) (s : List ℕ) (ms : List Mark) (h : ℕ) → Grown n (workspace ns s ms h) → IfSome (of_two f s (workspace ns s ms h)) (Grown (suc n))
two_grow n f ns [] ms h g = tt
two_grow n f ns (r ∷ []) ms h g = tt
two_grow n f ns (r ∷ l ∷ s) ms h g = search (rules, arith)

grows : (n : ℕ) (i : Instruction) (ns : List Tree) (s : List ℕ) (ms : List Mark) (h : ℕ) → Grown n (workspace ns s ms h) → IfSome (performed i (workspace ns s ms h)) (Grown (suc n))
grows n End ns s ms h g = tt
grows n (PushNum c) ns s ms h g = search (rules, arith)
grows n (PushTruth b) ns s ms h g = search (rules, arith)
grows n (Access x j) ns s ms h g =
    elim (ltb j h) as (λ b. IfSome (cond b (Some (put (T.Var x (j + 1)) (workspace ns s ms h))) None) (Grown (suc n))) [
      | true ↦ search (rules, arith)
      | false ↦ tt
    ]
grows n (PushClosure x m) ns s ms h g = search (rules, arith)
grows n (PushThunk m) ns s ms h g = search (rules, arith)
grows n (Operate o p) ns s ms h g = two_grow n (T.Binop o) ns s ms h g
grows n (Compare p) ns s ms h g = two_grow n T.Eq ns s ms h g
grows n (Apply p) ns s ms h g = two_grow n T.App ns s ms h g
grows n (Bind x) ns [] ms h g = tt
grows n (Bind x) ns (a ∷ s) ms h g = search (rules, arith)
grows n Unbind ns [] ms h g = tt
grows n Unbind ns (b ∷ s) [] h g = tt
grows n Unbind ns (b ∷ s) (M.Lambda x ∷ ms) h g = tt
grows n Unbind ns (b ∷ s) (M.Thunk ∷ ms) h g = tt
grows n Unbind ns (b ∷ s) (M.Let x a ∷ ms) h g = search (rules, arith)
grows n Return ns [] ms h g = tt
grows n Return ns (b ∷ s) [] h g = tt
grows n Return ns (b ∷ s) (M.Lambda x ∷ ms) h g = search (rules, arith)
grows n Return ns (b ∷ s) (M.Thunk ∷ ms) h g = search (rules, arith)
grows n Return ns (b ∷ s) (M.Let x a ∷ ms) h g = tt
grows n (Choose p) ns [] ms h g = tt
grows n (Choose p) ns (q ∷ []) ms h g = tt
grows n (Choose p) ns (q ∷ e ∷ []) ms h g = tt
grows n (Choose p) ns (q ∷ e ∷ t ∷ s) ms h g = search (rules, arith)

-- And so for several.
run_grows : (c : List Instruction) (n : ℕ) (w : Workspace) → Grown n w → IfSome (run c w) (Grown (n + length c))
run_grows [] n w g = search (rules, arith)
run_grows (i ∷ c) n w g =
    let step = grows n i w.nodes w.stack w.marks w.scope g in
    let all : (o : Option Workspace) → IfSome o (Grown (suc n)) → IfSome (option_and_then (run c) o) (Grown (n + suc (length c))) =
    λ o. elim o as (λ o. IfSome o (Grown (suc n)) → IfSome (option_and_then (run c) o) (Grown (n + suc (length c)))) [
      | None ↦ λ _. tt
      | Some w' ↦ λ h. subst (λ m. IfSome (run c w') (Grown m)) (omega arith) (run_grows c (suc n) w' h)
    ] in
    all (performed i w) step

-- A reader that has run fewer instructions than there may be has room for one more.
pub has_room : (xs : List Instruction) (n k : ℕ) (r : Reader) → n < length xs → length xs ≤ most_instructions → k ≤ most_names → run (take n xs) (blank k) ≡ Some (workspace_of r) → HasRoom r
has_room xs n k r lt long few e =
    let start : Grown 0 (blank k) = search (rules, arith) in
    let g : Grown (0 + length (take n xs)) (workspace_of r) = subst (λ o. IfSome o (Grown (0 + length (take n xs)))) e (run_grows (take n xs) 0 (blank k) start) in
    let kept : length (take n xs) ≡ n = length-take-le n xs (omega arith) in
    (omega (arith, length-reverse r.nodes), omega (arith, length-reverse r.stack), omega (arith, length-reverse r.marks), omega arith)
