-- Lists that are kept newest last and read newest first.
use Rattle.std.proofs.Common.{◌≡◌, ℕ, ◌+◌, List, [], ◌∷◌, ◌++◌, reverse, length, take, drop, sym, ap, ◌∙◌, arith}
use Rattle.std.proofs.lemmas.List.{reverse-append, reverse-reverse, length-reverse, length-drop, take-append-drop, drop_at}
use Rattle.reading.specs.declared.reader.Tree.{Tree}
use Rattle.reading.specs.declared.reader.Mark.{Mark}
use Rattle.reading.specs.Workspace.{workspace}

module _ {A : Type 0} where
  -- One at the end is in front.
  pub push_top : (xs ys : List A) (y : A) → ys ≡ xs ++ y ∷ [] → reverse ys ≡ y ∷ reverse xs
  push_top xs ys y e = ap reverse e ∙ reverse-append xs (y ∷ [])

  -- To drop from the front is to keep the oldest.
  pub drop-top : (xs : List A) (n k : ℕ) → n + k ≡ length xs → drop n (reverse xs) ≡ reverse (take k xs)
  drop-top xs n k e =
      let whole : reverse xs ≡ reverse (drop k xs) ++ reverse (take k xs) = ap reverse (sym (take-append-drop k xs)) ∙ reverse-append (take k xs) (drop k xs) in
      let long : length (reverse (drop k xs)) ≡ n = simp (length-reverse, length-drop) (omega arith) in
      ap (drop n) whole ∙ drop_at _ _ n long

  -- What is empty from its end is empty.
  pub none_left : (xs : List A) → reverse xs ≡ [] → xs ≡ []
  none_left xs e = sym (reverse-reverse xs) ∙ ap reverse e

-- Workspaces of equal parts are equal.
pub same-workspace : {a a' : List Tree} {b b' : List ℕ} {c c' : List Mark} {n n' : ℕ} → a ≡ a' → b ≡ b' → c ≡ c' → n ≡ n' → workspace a b c n ≡ workspace a' b' c' n'
same-workspace p q r s = λ i. workspace (p i) (q i) (r i) (s i)
