-- The number and the place of each refusal.
use Rattle.std.specs.Prelude.{ℕ}
use Rattle.formula.specs.declared.refusal.Refusal.{Refusal}
use Rattle.formula.specs.declared.refusal.Refusal.TheVariants.{Size, OutsideTable, Unlawful, EndsEarly, RecordsOver, OutOfScope, NoTranslation}

-- The number by which a refusal is known.
abbrev pub refusal_number : Refusal → ℕ
refusal_number Size = 1
refusal_number (OutsideTable p) = 2
refusal_number (Unlawful p) = 3
refusal_number (EndsEarly p) = 4
refusal_number (RecordsOver p) = 4
refusal_number (OutOfScope p) = 5
refusal_number NoTranslation = 6

-- The place that it names, or 0.
abbrev pub refusal_place : Refusal → ℕ
refusal_place Size = 0
refusal_place (OutsideTable p) = p
refusal_place (Unlawful p) = p
refusal_place (EndsEarly p) = p
refusal_place (RecordsOver p) = p
refusal_place (OutOfScope p) = p
refusal_place NoTranslation = 0
