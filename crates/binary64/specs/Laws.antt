-- What holds of Binary64.
use Rattle.std.specs.Prelude.{◌≡◌, ℕ, ◌+◌, ◌^◌, ◌<◌, true, Ok}
use Rattle.domain.specs.declared.Op.{Op}
use Rattle.domain.specs.declared.pile.Pile.{Pile}
use Rattle.domain.specs.Pile.{piled}
use Rattle.domain.specs.Laws.{NeverScreens}
use Rattle.binary64.specs.declared.Binary64.{Binary64}
use Rattle.binary64.specs.Rates.{number_of, code_of, is_lawful, rounded}
use Rattle.binary64.specs.Binary.{binary}

-- A lawful code that is read as a float and written back is the same code.
abbrev pub CodesSurviveReading : Type 0
CodesSurviveReading = (n : ℕ) → is_lawful n ≡ true → code_of (number_of n) ≡ n

-- Zero and the subnormal numbers are lawful, with either sign: the codes with an exponent's field of 0.
abbrev pub SubnormalsAreLawful : Type 0
SubnormalsAreLawful = (n : ℕ) → n < 2 ^ 52 → (is_lawful n ≡ true) × (is_lawful (2 ^ 63 + n) ≡ true)

-- Results are rounded once: an answer that is a code is that of the rounded result.
abbrev pub ResultsAreRoundedOnce : Type 0
ResultsAreRoundedOnce = (op : Op) (a b n : ℕ) → binary.table op a b ≡ Ok n → number_of n ≡ rounded op (number_of a) (number_of b)

-- Screen's cause never occurs on lawful codes in Binary64, nor in any pile over it.
abbrev pub PilesOverBinary64NeverScreen : Type 0
PilesOverBinary64NeverScreen = (p : Pile Binary64) → NeverScreens (piled (λ d. binary) p)
