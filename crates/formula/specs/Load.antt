-- What loading a listing does.
use Rattle.std.specs.Prelude.{◌≡◌, ℕ, List, length, Ok, Err, Result}
use Rattle.domain.specs.Meaning.{Meaning}
use Rattle.semantics.specs.declared.layout.Node.{Node}
use Rattle.semantics.specs.declared.layout.Instruction.{Instruction}
use Rattle.semantics.specs.Terms.{Term}
use Rattle.semantics.specs.Translation.{translate}
use Rattle.formula.specs.declared.refusal.Refusal.{Refusal}
use Rattle.formula.specs.Check.{checked, ListingOf}

-- The listing is that of a well-formed term, the code is then that term's translation, and its length is the answer; or the
-- first refusal that fits is, and the code is as it was.
abbrev pub Loaded : Meaning → List ℕ → List Node → (before after : List Instruction) → Result ℕ Refusal → Type 0
Loaded 𝓜 names ns before after (Ok n) = (t : Term) × ListingOf 𝓜 names ns t × (after ≡ translate t) × (n ≡ length (translate t))
Loaded 𝓜 names ns before after (Err e) = (checked 𝓜 names ns ≡ Err e) × (after ≡ before)
