-- A path and depths stand for scopes.
use Rattle.std.proofs.Common.{◌≡◌, ℕ, zero, suc, ◌≤◌, eqb, List, [], ◌∷◌, ◌++◌, map, reverse, length, take, Some, None, Option, sym, refl, ap, ◌∙◌, subst, arith}
use Rattle.std.specs.Option.{option_to_list, option_eq}
use Rattle.std.specs.List.{slice_get}
use Rattle.std.proofs.lemmas.List.{reverse-append, length-append, length-take-le, take_at, take-take}
use Rattle.formula.specs.declared.scope.Owed.{Owed}
use Rattle.formula.specs.Check.{bears}
use Rattle.formula.specs.Scopes.{binders_of, Falling}

-- A scope bears a name past so many exactly when the name there is that one.
pub bears_at : (Γ : List ℕ) (i x : ℕ) → option_eq eqb (slice_get Γ i) (Some x) ≡ bears Γ i x
bears_at [] i x = refl
bears_at (y ∷ Γ) zero x = refl
bears_at (y ∷ Γ) (suc i) x = bears_at Γ i x

-- Paths that agree up to a depth give the terms that stand no deeper the same binders.
same-front : (p p' : List ℕ) (d : ℕ) → take d p ≡ take d p' → (e : ℕ) (os : List Owed) → e ≤ d → Falling e os → map (binders_of p) os ≡ map (binders_of p') os
same-front p p' d q e [] h f = refl
same-front p p' d q e (o ∷ os) h f =
    let le : o.depth ≤ d = omega (arith, f.0) in
    let front : take o.depth p ≡ take o.depth p' = sym (take-take o.depth d p le) ∙ ap (take o.depth) q ∙ take-take o.depth d p' le in
    λ i. (option_to_list o.binder ++ reverse (front i)) ∷ same-front p p' d q o.depth os le f.1 i

-- Terms that stand no deeper than e stand no deeper than anything beyond.
deeper : (d e : ℕ) (os : List Owed) → e ≤ d → Falling e os → Falling d os
deeper d e [] h f = tt
deeper d e (o ∷ os) h f = (omega (arith, f.0), f.1)

at_most_one : (b : Option ℕ) → reverse (option_to_list b) ≡ option_to_list b
at_most_one None = refl
at_most_one (Some x) = refl

-- Where the next term owed is taken off, the path is cut at its depth and its binder put behind, the path is that of the term.
module _ (p : List ℕ) (before after : List Owed) (o : Owed) (p' : List ℕ)
    (taken : before ≡ after ++ o ∷ []) (falling : Falling (length p) (reverse before)) (path : p' ≡ take o.depth p ++ option_to_list o.binder) where
  first : reverse before ≡ o ∷ reverse after
  first = ap reverse taken ∙ reverse-append after (o ∷ [])

  falls : Falling (length p) (o ∷ reverse after)
  falls = subst (Falling (length p)) first falling

  cut : length (take o.depth p) ≡ o.depth
  cut = length-take-le o.depth p falls.0

  behind : o.depth ≤ length p'
  behind = omega (arith, cut, ap length path ∙ length-append (take o.depth p) (option_to_list o.binder))

  pub enters-falling : Falling (length p') (reverse after)
  enters-falling = deeper (length p') o.depth (reverse after) behind falls.1

  pub enters : map (binders_of p) (reverse before) ≡ reverse p' ∷ map (binders_of p') (reverse after)
  enters =
      let front : take o.depth p ≡ take o.depth p' = sym (ap (take o.depth) path ∙ take_at (take o.depth p) (option_to_list o.binder) o.depth cut) in
      let innermost : reverse p' ≡ binders_of p o = ap reverse path ∙ reverse-append (take o.depth p) (option_to_list o.binder) ∙ ap (λ r. r ++ reverse (take o.depth p)) (at_most_one o.binder) in
      ap (map (binders_of p)) first ∙ (λ i. sym innermost i ∷ same-front p p' o.depth front o.depth (reverse after) (omega arith) falls.1 i)
