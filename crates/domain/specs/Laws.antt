-- What holds of every layer, and of any number of layers one over the other.
use Rattle.std.specs.Prelude.{◌≡◌, ℕ, ◌+◌, min, true, Err, ◌≢◌}
use Rattle.domain.specs.declared.Op.{Op}
use Rattle.domain.specs.declared.Fault.{Fault}
use Rattle.domain.specs.declared.Cause.TheVariants.{UnlawfulOperand}
use Rattle.domain.specs.declared.pile.Pile.{Pile}
use Rattle.domain.specs.Meaning.{Meaning, raised}
use Rattle.domain.specs.Numbers.{cause_number}
use Rattle.domain.specs.Screen.{screen}
use Rattle.domain.specs.Pile.{piled, bottom_of, layers}

-- On lawful codes, each fault of m is also u's, with its cause and height.
abbrev pub FaultsPass : Meaning → Meaning → Type 0
FaultsPass m u = (op : Op) (a b : ℕ) (f : Fault) → m.lawful a ≡ true → m.lawful b ≡ true → m.table op a b ≡ Err f → u.table op a b ≡ Err f

-- u stands as a layer right over m.
pub record Layer (m u : Meaning) : Type 0 where
  pub lawful : (n : ℕ) → u.lawful n ≡ m.lawful n
  pub same : (a b : ℕ) → u.same a b ≡ m.same a b
  pub height : u.height ≡ raised m.height
  pub passes : FaultsPass m u

-- u stands over m with n layers between.
pub data Layered (m : Meaning) : ℕ → Meaning → Type 0 where
  bare : Layered m 0 m
  over : {n : ℕ} {u v : Meaning} → Layered m n u → Layer u v → Layered m (n + 1) v

-- m answers on lawful codes, and the answer is no fault with Screen's cause.
abbrev pub NeverScreens : Meaning → Type 0
NeverScreens m = (op : Op) (a b : ℕ) (f : Fault) → m.lawful a ≡ true → m.lawful b ≡ true → m.table op a b ≡ Err f → f.cause ≢ cause_number UnlawfulOperand

abbrev pub ScreenIsALayer : Type 0
ScreenIsALayer = (m : Meaning) → Layer m (screen m)

abbrev pub FaultsPassEveryLayer : Type 0
FaultsPassEveryLayer = (m u : Meaning) (n : ℕ) → Layered m n u → FaultsPass m u

abbrev pub HeightsRiseTo255 : Type 0
HeightsRiseTo255 = (m u : Meaning) (n : ℕ) → Layered m n u → u.height ≡ min (m.height + n) 255

abbrev pub ScreenAnswersAsBelow : Type 0
ScreenAnswersAsBelow = (m : Meaning) (op : Op) (a b : ℕ) → m.lawful a ≡ true → m.lawful b ≡ true → (screen m).table op a b ≡ m.table op a b

-- A pile is layered over its bottom, and its Screens never fault on lawful codes: the cause occurs only if the bottom gives it.
pub record Stands {B : Type 0} (m : B → Meaning) (p : Pile B) : Type 0 where
  pub layered : Layered (m (bottom_of p)) (layers p) (piled m p)
  pub quiet : NeverScreens (m (bottom_of p)) → NeverScreens (piled m p)
