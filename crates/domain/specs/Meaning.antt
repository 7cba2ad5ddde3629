-- What a number domain means.
use Rattle.std.specs.Prelude.{◌≡◌, ℕ, ◌+◌, ◌^◌, ◌<◌, min, Bool, true, Ok, Err, Result}
use Rattle.domain.specs.declared.Op.{Op}
use Rattle.domain.specs.declared.Cause.{Cause}
use Rattle.domain.specs.declared.Fault.{Fault}
use Rattle.domain.specs.Numbers.{cause_number}

-- The fault of a cause, at the height of the domain that answers it.
abbrev pub fault_of : Cause → ℕ → Fault
fault_of c h = record { cause = cause_number c; height = h }

-- What an operation comes to: a code, or a fault.
abbrev pub Answer : Type 0
Answer = Result ℕ Fault

-- An answer is in order: a lawful code, or a fault whose cause and height have 8 bits each.
abbrev pub InOrder : (ℕ → Bool) → Answer → Type 0
InOrder lawful (Ok n) = lawful n ≡ true
InOrder lawful (Err f) = (f.cause < 2 ^ 8) × (f.height < 2 ^ 8)

-- A number is a 64-bit code, and a domain says what codes mean. The first four fields are the parts of its
-- meaning, the others what has to hold of them.
pub record Meaning : Type 0 where
  -- Which codes are lawful.
  pub lawful : ℕ → Bool
  -- What an operation answers on two lawful codes, the left operand first.
  pub table : Op → ℕ → ℕ → Answer
  -- Which two lawful codes are the same number.
  pub same : ℕ → ℕ → Bool
  -- How many domains stand on each other here: 1 for one that stands on no other.
  pub height : ℕ
  -- A lawful code has 64 bits.
  pub sized : (n : ℕ) → lawful n ≡ true → n < 2 ^ 64
  -- On lawful codes every answer is in order.
  pub closed : (op : Op) (a b : ℕ) → lawful a ≡ true → lawful b ≡ true → InOrder lawful (table op a b)
  -- A height has 8 bits.
  pub low : height < 2 ^ 8

-- r is what the table answers, where both operands are lawful. Elsewhere it is free.
abbrev pub Answers : Meaning → Op → ℕ → ℕ → Answer → Type 0
Answers m op a b r = m.lawful a ≡ true → m.lawful b ≡ true → r ≡ m.table op a b

-- r says whether two lawful codes are the same. Elsewhere it is free.
abbrev pub Compares : Meaning → ℕ → ℕ → Bool → Type 0
Compares m a b r = m.lawful a ≡ true → m.lawful b ≡ true → r ≡ m.same a b

-- The height of a domain that stands on no other.
abbrev pub bottom_height : ℕ
bottom_height = 1

-- A layer's height is one more than the height below, and stays at 255.
abbrev pub raised : ℕ → ℕ
raised h = min (h + 1) 255
