-- Which terms are well formed: variables in scope under their names, and lawful numbers.
use Rattle.std.specs.Prelude.{◌≡◌, ℕ, zero, suc, true, List, [], ◌∷◌}
use Rattle.domain.specs.Meaning.{Meaning}
use Rattle.semantics.specs.Terms.{Term, num, truth, var, binop, eq, app, lam, let_in, if_then}

-- Past i names, one comes that is x.
abbrev pub Bears : List ℕ → ℕ → ℕ → Type 0
Bears [] i x = ⊥
Bears (y ∷ names) zero x = y ≡ x
Bears (y ∷ names) (suc i) x = Bears names i x

-- Every variable points to a binder or an input, and bears its name. The names are those of the binders around,
-- innermost first, and past them those of the inputs, in order. Names may repeat.
abbrev pub InScope : List ℕ → Term → Type 0
InScope names (num c) = Unit {0}
InScope names (truth b) = Unit {0}
InScope names (var x i) = Bears names i x
InScope names (binop o l r) = InScope names l × InScope names r
InScope names (eq l r) = InScope names l × InScope names r
InScope names (app f a) = InScope names f × InScope names a
InScope names (lam x b) = InScope (x ∷ names) b
InScope names (let_in x a b) = InScope names a × InScope (x ∷ names) b
InScope names (if_then c t e) = InScope names c × InScope names t × InScope names e

-- Every number in a term is lawful.
abbrev pub LawfulTerm : Meaning → Term → Type 0
LawfulTerm 𝓜 (num c) = 𝓜.lawful c ≡ true
LawfulTerm 𝓜 (truth b) = Unit {0}
LawfulTerm 𝓜 (var x i) = Unit {0}
LawfulTerm 𝓜 (binop o l r) = LawfulTerm 𝓜 l × LawfulTerm 𝓜 r
LawfulTerm 𝓜 (eq l r) = LawfulTerm 𝓜 l × LawfulTerm 𝓜 r
LawfulTerm 𝓜 (app f a) = LawfulTerm 𝓜 f × LawfulTerm 𝓜 a
LawfulTerm 𝓜 (lam x b) = LawfulTerm 𝓜 b
LawfulTerm 𝓜 (let_in x a b) = LawfulTerm 𝓜 a × LawfulTerm 𝓜 b
LawfulTerm 𝓜 (if_then c t e) = LawfulTerm 𝓜 c × LawfulTerm 𝓜 t × LawfulTerm 𝓜 e
