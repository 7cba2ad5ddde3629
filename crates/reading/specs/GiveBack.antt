-- What giving back answers.
use Rattle.std.specs.Prelude.{◌≡◌, ℕ, ◌<◌, ◌≤◌, min, cond, ◌&&◌, List, [], ◌++◌, length, drop, Some, None, Ok, Err, Option, Result, nat_le}
use Rattle.semantics.specs.declared.layout.Node.{Node}
use Rattle.semantics.specs.declared.layout.Instruction.{Instruction}
use Rattle.semantics.specs.Terms.{Term}
use Rattle.semantics.specs.Listing.{listing}
use Rattle.semantics.specs.Sizes.{most_instructions, most_names}
use Rattle.reading.specs.declared.reader.Unread.{Unread}
use Rattle.reading.specs.declared.reader.Unread.TheVariants.{NoRoom, NoTranslation}
use Rattle.reading.specs.Reading.{attempt}
use Rattle.reading.specs.Written.{most_written}

-- The term that code of a fair length, with as many inputs, reads as.
abbrev pub reads_as : List Instruction → ℕ → Option Term
reads_as code k = cond (nat_le (length code) most_instructions && nat_le k most_names) (attempt code k [] []) None

-- Of the term that code reads as: its listing is the records written, or there is no room for it; or there is no such term.
abbrev pub Listed : Option Term → List Node → ℕ → Result ℕ Unread → Type 0
Listed None rs room (Ok n) = ⊥
Listed None rs room (Err e) = e ≡ NoTranslation
Listed (Some t) rs room (Ok n) = (rs ≡ listing t) × (n ≡ length (listing t)) × (n ≤ room)
Listed (Some t) rs room (Err e) = (e ≡ NoRoom) × (room < length (listing t))

-- The room in the caller's records.
abbrev pub room_in : List Node → ℕ
room_in out = min (length out) most_written

-- The caller's first records are the listing, and the later ones keep their contents; where it is refused, all do.
abbrev pub GivenBack : Option Term → (before after : List Node) → Result ℕ Unread → Type 0
GivenBack None before after (Ok n) = ⊥
GivenBack None before after (Err e) = (e ≡ NoTranslation) × (after ≡ before)
GivenBack (Some t) before after (Ok n) = (n ≡ length (listing t)) × (n ≤ room_in before) × (after ≡ listing t ++ drop n before)
GivenBack (Some t) before after (Err e) = (e ≡ NoRoom) × (room_in before < length (listing t)) × (after ≡ before)
