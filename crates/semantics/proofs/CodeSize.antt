-- How long the listing and the code of a term are.
use Rattle.std.proofs.Common.{◌≡◌, ℕ, suc, ◌+◌, ◌*◌, ◌≤◌, List, [], ◌∷◌, length, refl, ap, ◌∙◌, arith}
use Rattle.semantics.specs.declared.layout.Node.{Node}
use Rattle.semantics.specs.declared.layout.Instruction.{Instruction}
use Rattle.semantics.specs.declared.layout.Instruction.TheVariants.{End, Choose}
use Rattle.semantics.specs.Terms.{Term, num, binop, eq, app, lam, let_in, if_then, size}
use Rattle.semantics.specs.Listing.{listing_before}
use Rattle.semantics.specs.Translation.{code_size, emit}
use Rattle.semantics.specs.Sizes.{SizesAreLengths, most_records, CodeIsBounded, BoundedLength, BoundedCode, LengthsAreBounded}

-- A term puts as many instructions as its code size says before the code behind it.
emit-length : (t : Term) (p : ℕ) (k : List Instruction) {n : ℕ} → length k ≡ n → length (emit p t k) ≡ code_size t + n
emit-length (binop o l r) p k e = emit-length l _ _ (emit-length r _ _ (ap suc e)) ∙ omega arith
emit-length (eq l r) p k e = emit-length l _ _ (emit-length r _ _ (ap suc e)) ∙ omega arith
emit-length (app f a) p k e = emit-length f _ _ (emit-length a _ _ (ap suc e)) ∙ omega arith
emit-length (lam x b) p k e = ap suc (emit-length b _ _ (ap suc e)) ∙ omega arith
emit-length (let_in x a b) p k e = emit-length a _ _ (ap suc (emit-length b _ _ (ap suc e))) ∙ omega arith
emit-length (if_then c t f) p k e =
    ap suc (emit-length t _ _ (ap suc (ap suc (emit-length f _ _ (ap suc (emit-length c _ _ (ap suc e))))))) ∙ omega arith
emit-length t p k e = omega arith

-- A term puts as many records as its size says before those behind it.
pub listing-length : (t : Term) (ns : List Node) {n : ℕ} → length ns ≡ n → length (listing_before t ns) ≡ size t + n
listing-length (binop o l r) ns e = ap suc (listing-length l _ (listing-length r _ e)) ∙ omega arith
listing-length (eq l r) ns e = ap suc (listing-length l _ (listing-length r _ e)) ∙ omega arith
listing-length (app f a) ns e = ap suc (listing-length f _ (listing-length a _ e)) ∙ omega arith
listing-length (lam x b) ns e = ap suc (listing-length b _ e) ∙ omega arith
listing-length (let_in x a b) ns e = ap suc (listing-length a _ (listing-length b _ e)) ∙ omega arith
listing-length (if_then c t f) ns e = ap suc (listing-length c _ (listing-length t _ (listing-length f _ e))) ∙ omega arith
listing-length t ns e = omega arith

pub sizes_are_lengths : SizesAreLengths
sizes_are_lengths = record {
  records = λ t. listing-length t [] refl ∙ omega arith;
  instructions = λ t. emit-length t 0 (End ∷ []) refl ∙ omega arith;
}

-- Three records bring at most seven instructions: an If with two leaves for its branches does.
pub code_size_bounded : (t : Term) → 3 * code_size t + 4 ≤ 7 * size t
code_size_bounded (binop o l r) = omega (arith, code_size_bounded l, code_size_bounded r)
code_size_bounded (eq l r) = omega (arith, code_size_bounded l, code_size_bounded r)
code_size_bounded (app f a) = omega (arith, code_size_bounded f, code_size_bounded a)
code_size_bounded (lam x b) = omega (arith, code_size_bounded b)
code_size_bounded (let_in x a b) = omega (arith, code_size_bounded a, code_size_bounded b)
code_size_bounded (if_then c t e) = omega (arith, code_size_bounded c, code_size_bounded t, code_size_bounded e)
code_size_bounded t = omega arith

pub code_is_bounded : CodeIsBounded
code_is_bounded t le = omega (arith, emit-length t 0 (End ∷ []) refl, code_size_bounded t)

-- Every term gives an instruction.
code_size_positive : (t : Term) → 1 ≤ code_size t
code_size_positive (num c) = omega arith
code_size_positive t = omega arith

-- A body with its RETURN is as long as it should be.
body_bounded : (b : Term) → size b ≤ most_records → BoundedLength (suc (code_size b))
body_bounded b le = (omega (arith, code_size_positive b), omega (arith, code_size_bounded b))

-- Only CLOSURE and THUNK have a length, and it is their body's.
emit_bounded : (t : Term) (p : ℕ) (k : List Instruction) → size t ≤ most_records → BoundedCode k → BoundedCode (emit p t k)
emit_bounded (binop o l r) p k le h = emit_bounded l _ _ (omega arith) (emit_bounded r _ _ (omega arith) (tt, h))
emit_bounded (eq l r) p k le h = emit_bounded l _ _ (omega arith) (emit_bounded r _ _ (omega arith) (tt, h))
emit_bounded (app f a) p k le h = emit_bounded f _ _ (omega arith) (emit_bounded a _ _ (omega arith) (tt, h))
emit_bounded (lam x b) p k le h = (body_bounded b (omega arith), emit_bounded b _ _ (omega arith) (tt, h))
emit_bounded (let_in x a b) p k le h = emit_bounded a _ _ (omega arith) (tt, emit_bounded b _ _ (omega arith) (tt, h))
emit_bounded (if_then c t e) p k le h =
    let after : BoundedCode (emit (suc p) c (Choose p ∷ k)) = emit_bounded c _ _ (omega arith) (tt, h) in
    (body_bounded t (omega arith), emit_bounded t _ _ (omega arith) (tt, (body_bounded e (omega arith), emit_bounded e _ _ (omega arith) (tt, after))))
emit_bounded t p k le h = (tt, h)

pub lengths_are_bounded : LengthsAreBounded
lengths_are_bounded t le = emit_bounded t 0 (End ∷ []) le (tt, tt)
