-- Writing listings out.
use Rattle.std.specs.Prelude.{◌≡◌, ℕ, ◌+◌, ◌<◌, ◌≤◌, List, ◌++◌, length, Result, Ok, Err}
use Rattle.semantics.specs.declared.layout.Node.{Node}
use Rattle.reading.specs.declared.reader.Unread.{Unread}
use Rattle.reading.specs.declared.reader.Unread.TheVariants.{NoRoom}

-- The most records that are written for a caller.
abbrev pub most_written : ℕ
most_written = 4096

-- The records were put at the end, where so many in all are allowed; or there is no room for them.
abbrev pub Wrote : {A : Type 0} → (records before after : List Node) → ℕ → Result A Unread → Type 0
Wrote records before after limit (Ok u) = (after ≡ before ++ records) × (length after ≤ limit)
Wrote records before after limit (Err e) = (e ≡ NoRoom) × (limit < length before + length records)
