-- A pile: any number of layers over a bottom domain.
use Rattle.std.specs.Prelude.{ℕ, ◌+◌}
use Rattle.domain.specs.declared.pile.Pile.{Pile}
use Rattle.domain.specs.declared.pile.Pile.TheVariants.{Bottom, Screen'}
use Rattle.domain.specs.Meaning.{Meaning}
use Rattle.domain.specs.Screen.{screen}

-- The meaning of a pile: its layers' meanings, folded over the bottom's.
abbrev pub piled : {B : Type 0} → (B → Meaning) → Pile B → Meaning
piled m (Bottom b) = m b
piled m (Screen' p below) = screen (piled m below)

-- The domain on which the layers stand.
abbrev pub bottom_of : {B : Type 0} → Pile B → B
bottom_of (Bottom b) = b
bottom_of (Screen' p below) = bottom_of below

-- How many layers a pile has.
abbrev pub layers : {B : Type 0} → Pile B → ℕ
layers (Bottom b) = 0
layers (Screen' p below) = layers below + 1
