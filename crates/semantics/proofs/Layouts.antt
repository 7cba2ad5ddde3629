-- The table of instructions is read back from the caller's layout, and only that.
use Rattle.std.proofs.Common.{◌≡◌, ℕ, zero, suc, true, false, cond, ◌&&◌, leb, eqb, ◌≢◌, Some, None, refl, ap, subst}
use Rattle.std.proofs.lemmas.Bool.{and_parts, and_from, leb-true, le-leb, ne_eqb}
use Rattle.domain.specs.declared.Op.TheVariants.{Add, Sub, Mul, Div}
use Rattle.semantics.specs.declared.layout.Instruction.{Instruction}
use Rattle.semantics.specs.declared.layout.Instruction.TheVariants.{End, PushNum, PushTruth, Access, PushClosure, PushThunk, Operate, Compare, Bind, Unbind, Apply, Return, Choose}
use Rattle.semantics.specs.Instructions.{kind_end, kind_push_num, kind_push_truth, kind_access, kind_closure, kind_thunk, kind_operate, kind_compare, kind_bind, kind_unbind, kind_apply, kind_return, kind_choose, encode}
use Rattle.semantics.specs.Sizes.{most_instructions, least_length, BoundedLength, BoundedInstruction}
use Rattle.semantics.specs.declared.kind.InstrKind.{InstrKind}
use Rattle.semantics.specs.declared.kind.InstrKind.TheVariants as I
use Rattle.semantics.specs.Kinds.{instr_kind_number}
use Rattle.semantics.specs.Instruction.{access_instruction, with_length, instruction_at, instruction_of, unplaced, InstructionsAreTheTable}
use Rattle.semantics.proofs.Found.{tested, chosen, none_found, zero_found}

-- A bounded length passes its test.
bounded_passes : (n : ℕ) → BoundedLength n → (leb least_length n && leb n most_instructions) ≡ true
bounded_passes n h = and_from _ _ (le-leb least_length n h.0) (le-leb n most_instructions h.1)

instruction_of_layout : (i : Instruction) → BoundedInstruction i → instruction_of (encode i) ≡ Some (unplaced i)
instruction_of_layout End h = refl
instruction_of_layout (PushNum c) h = refl
instruction_of_layout (PushTruth false) h = refl
instruction_of_layout (PushTruth true) h = refl
instruction_of_layout (Access x i) h = refl
instruction_of_layout (PushClosure x n) h = ap (λ b. cond b (Some (PushClosure x n)) None) (bounded_passes n h)
instruction_of_layout (PushThunk n) h = ap (λ b. cond b (Some (PushThunk n)) None) (bounded_passes n h)
instruction_of_layout (Operate Add p) h = refl
instruction_of_layout (Operate Sub p) h = refl
instruction_of_layout (Operate Mul p) h = refl
instruction_of_layout (Operate Div p) h = refl
instruction_of_layout (Compare p) h = refl
instruction_of_layout (Bind x) h = refl
instruction_of_layout Unbind h = refl
instruction_of_layout (Apply p) h = refl
instruction_of_layout Return h = refl
instruction_of_layout (Choose p) h = refl

-- An instruction lays out these fields, and its length is bounded.
abbrev LaidOut : ℕ → ℕ → ℕ → Instruction → Type 0
LaidOut k x n i = (encode i ≡ record { kind = k; name = x; number = n }) × BoundedInstruction i

-- So does one that is found for it.
laid_out : (i' : Instruction) {i : Instruction} {k x n : ℕ} → BoundedInstruction i' → (encode i').kind ≡ k → (encode i').name ≡ x → (encode i').number ≡ n →
    Some i' ≡ Some i → LaidOut k x n i
laid_out i' {i} {k} {x} {n} h p q r e =
    let same : i' ≡ i = cc in
    let fields : encode i' ≡ record { kind = k; name = x; number = n } = λ j. record { kind = p j; name = q j; number = r j } in
    subst (LaidOut k x n) same (fields, h)

access_found : (x n : ℕ) {k : ℕ} {i : Instruction} → kind_access ≡ k → access_instruction x n ≡ Some i → LaidOut k x n i
access_found x zero a e = none_found e
access_found x (suc j) a e = laid_out (Access x j) tt a refl refl e

-- A length that passes its test is bounded.
length_found : (n : ℕ) {i' i : Instruction} {A : Type 0} → (BoundedLength n → Some i' ≡ Some i → A) → with_length n i' ≡ Some i → A
length_found n f =
    tested (leb least_length n && leb n most_instructions)
    (λ q e. let p = and_parts (leb least_length n) (leb n most_instructions) q in f (leb-true least_length n p.0, leb-true n most_instructions p.1) e)
    none_found

layout_of_instruction : (k x n : ℕ) (i : Instruction) → instruction_at k x n ≡ Some i → LaidOut k x n i
layout_of_instruction k x n i =
    chosen k kind_end (λ a. zero_found x (λ b. zero_found n (λ d e. laid_out End tt a b d e)))
    (chosen k kind_push_num (λ a. zero_found x (λ b e. laid_out (PushNum n) tt a b refl e))
    (chosen k kind_push_truth
    (λ a. zero_found x (λ b.
    chosen n 0 (λ d e. laid_out (PushTruth false) tt a b d e)
    (chosen n 1 (λ d e. laid_out (PushTruth true) tt a b d e) none_found)))
    (chosen k kind_access (λ a. access_found x n a)
    (chosen k kind_closure (λ a. length_found n (λ h e. laid_out (PushClosure x n) h a refl refl e))
    (chosen k kind_thunk (λ a. zero_found x (λ b. length_found n (λ h e. laid_out (PushThunk n) h a b refl e)))
    (chosen k kind_operate
    (λ a. zero_found x (λ b.
    chosen n 1 (λ d e. laid_out (Operate Add 0) tt a b d e)
    (chosen n 2 (λ d e. laid_out (Operate Sub 0) tt a b d e)
    (chosen n 3 (λ d e. laid_out (Operate Mul 0) tt a b d e)
    (chosen n 4 (λ d e. laid_out (Operate Div 0) tt a b d e) none_found)))))
    (chosen k kind_compare (λ a. zero_found x (λ b. zero_found n (λ d e. laid_out (Compare 0) tt a b d e)))
    (chosen k kind_bind (λ a. zero_found n (λ d e. laid_out (Bind x) tt a refl d e))
    (chosen k kind_unbind (λ a. zero_found x (λ b. zero_found n (λ d e. laid_out Unbind tt a b d e)))
    (chosen k kind_apply (λ a. zero_found x (λ b. zero_found n (λ d e. laid_out (Apply 0) tt a b d e)))
    (chosen k kind_return (λ a. zero_found x (λ b. zero_found n (λ d e. laid_out Return tt a b d e)))
    (chosen k kind_choose (λ a. zero_found x (λ b. zero_found n (λ d e. laid_out (Choose 0) tt a b d e))) none_found))))))))))))

pub instructions_are_the_table : InstructionsAreTheTable
instructions_are_the_table = record {
  read = instruction_of_layout;
  only = λ r i e. layout_of_instruction r.kind r.name r.number i e;
}

-- What has an unknown kind is no instruction.
pub no_instruction : (k x n : ℕ) → ((kind : InstrKind) → k ≢ instr_kind_number kind) → instruction_at k x n ≡ None
no_instruction k x n unknown =
    let is_no : (kind : InstrKind) → eqb k (instr_kind_number kind) ≡ false = λ kind. ne_eqb k (instr_kind_number kind) (unknown kind) in
    rw (is_no I.End, is_no I.PushNum, is_no I.PushTruth, is_no I.Access, is_no I.PushClosure, is_no I.PushThunk, is_no I.Operate, is_no I.Compare, is_no I.Bind, is_no I.Unbind, is_no I.Apply, is_no I.Return, is_no I.Choose) refl
