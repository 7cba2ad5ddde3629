-- What is found by tests of numbers, one after the other.
use Rattle.std.proofs.Common.{◌≡◌, ℕ, Bool, true, false, cond, eqb, Some, None, Option, sym, refl}
use Rattle.std.proofs.lemmas.Bool.{eqb-true}
use Rattle.semantics.proofs.Clash.{clash}
use Rattle.semantics.specs.Label.{where_zero}

module _ {L : Type 0} {l : L} {A : Type 0} where
  -- What is found behind a test is found where it passes, or else where it fails.
  pub tested : (b : Bool) {o o' : Option L} → (b ≡ true → o ≡ Some l → A) → (o' ≡ Some l → A) → cond b o o' ≡ Some l → A
  tested true f g e = f refl e
  tested false f g e = g e

  -- The same of a number that is compared.
  pub chosen : (k n : ℕ) {o o' : Option L} → (n ≡ k → o ≡ Some l → A) → (o' ≡ Some l → A) → cond (eqb k n) o o' ≡ Some l → A
  chosen k n f g = tested (eqb k n) (λ q. f (sym (eqb-true k n q))) g

  pub none_found : None ≡ Some l → A
  none_found e = clash cc

  -- What is found where a field is 0 is found, and the field is 0.
  pub zero_found : (n : ℕ) {o : Option L} → (0 ≡ n → o ≡ Some l → A) → where_zero n o ≡ Some l → A
  zero_found n f = chosen n 0 f none_found
