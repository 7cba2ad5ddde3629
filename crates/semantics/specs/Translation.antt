-- The translation of a term.
use Rattle.std.specs.Prelude.{ℕ, suc, ◌+◌, List, [], ◌∷◌}
use Rattle.semantics.specs.declared.layout.Instruction.{Instruction}
use Rattle.semantics.specs.declared.layout.Instruction.TheVariants.{End, PushNum, PushTruth, Access, PushClosure, PushThunk, Operate, Compare, Bind, Unbind, Apply, Return, Choose}
use Rattle.semantics.specs.Terms.{Term, num, truth, var, binop, eq, app, lam, let_in, if_then, size}

-- How many instructions a term gives.
abbrev pub code_size : Term → ℕ
code_size (num c) = 1
code_size (truth b) = 1
code_size (var x i) = 1
code_size (binop o l r) = code_size l + (code_size r + 1)
code_size (eq l r) = code_size l + (code_size r + 1)
code_size (app f a) = code_size f + (code_size a + 1)
code_size (lam x b) = suc (code_size b + 1)
code_size (let_in x a b) = code_size a + suc (code_size b + 1)
code_size (if_then c t e) = suc (code_size t + suc (suc (code_size e + suc (code_size c + 1))))

-- The code of a term that stands at place p of the listing, and behind it the code given: children first, a body between
-- what opens it and what closes it, and both branches of an If before its condition.
abbrev pub emit : ℕ → Term → List Instruction → List Instruction
emit p (num c) k = PushNum c ∷ k
emit p (truth b) k = PushTruth b ∷ k
emit p (var x i) k = Access x i ∷ k
emit p (binop o l r) k = emit (suc p) l (emit (suc p + size l) r (Operate o p ∷ k))
emit p (eq l r) k = emit (suc p) l (emit (suc p + size l) r (Compare p ∷ k))
emit p (app f a) k = emit (suc p) f (emit (suc p + size f) a (Apply p ∷ k))
emit p (lam x b) k = PushClosure x (suc (code_size b)) ∷ emit (suc p) b (Return ∷ k)
emit p (let_in x a b) k = emit (suc p) a (Bind x ∷ emit (suc p + size a) b (Unbind ∷ k))
emit p (if_then c t e) k =
    PushThunk (suc (code_size t)) ∷ emit (suc p + size c) t (Return ∷
    PushThunk (suc (code_size e)) ∷ emit (suc p + size c + size t) e (Return ∷
    emit (suc p) c (Choose p ∷ k)))

-- The translation of a term: its code, closed by END.
abbrev pub translate : Term → List Instruction
translate t = emit 0 t (End ∷ [])
