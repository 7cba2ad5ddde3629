-- What translation promises of its two walks: the terms of a listing are measured, and code grows by a term's.
use Rattle.std.specs.Prelude.{◌≡◌, ℕ, suc, ◌+◌, ◌-◌, ◌≤◌, min, List, ◌∷◌, ◌++◌, drop, Some, None, vec_items, vec_len, vec_capacity, Option, Vec, slice_index_or}
use Rattle.semantics.specs.declared.layout.Node.{Node}
use Rattle.semantics.specs.declared.layout.Label.{Label}
use Rattle.semantics.specs.declared.layout.Label.TheVariants.{Num, Truth, Var, Binop, Eq, App, Lam, Let, If}
use Rattle.semantics.specs.declared.layout.Instruction.{Instruction}
use Rattle.semantics.specs.declared.layout.Instruction.TheVariants.{Return}
use Rattle.semantics.specs.Terms.{Term, size}
use Rattle.semantics.specs.Listing.{listing_before}
use Rattle.semantics.specs.Translation.{code_size, emit}
use Rattle.formula.specs.declared.translate.Extent.{Extent}

-- So many records and instructions.
abbrev pub extent : ℕ → ℕ → Extent
extent m n = record { records = m; instructions = n }

-- The greatest number of 16 bits.
abbrev pub max_u16 : ℕ
max_u16 = 65535

-- Two extents together; they stay at the greatest number.
abbrev pub together : Extent → Extent → Extent
together a b = extent (min (a.records + b.records) max_u16) (min (a.instructions + b.instructions) max_u16)

-- What was measured of the record at a place; nothing past the last.
abbrev pub measured_at : List Extent → ℕ → Extent
measured_at xs p = slice_index_or xs p (extent 0 0)

-- A record and those of its children that are counted so far, and with them the child that begins behind them,
-- where xs are the extents of the records behind the record.
abbrev pub with_child : List Extent → Extent → Extent
with_child xs a = together a (measured_at xs (a.records - 1))

-- A record without its children: the instructions are its own.
abbrev pub alone : Label → Extent
alone (Num c) = extent 1 1
alone (Truth b) = extent 1 1
alone (Var x i) = extent 1 1
alone (Binop o) = extent 1 1
alone Eq = extent 1 1
alone App = extent 1 1
alone (Lam x) = extent 1 2
alone (Let x) = extent 1 2
alone If = extent 1 5

-- A record with its children.
abbrev pub whole : List Extent → Label → Extent
whole xs (Num c) = alone (Num c)
whole xs (Truth b) = alone (Truth b)
whole xs (Var x i) = alone (Var x i)
whole xs (Binop o) = with_child xs (with_child xs (alone (Binop o)))
whole xs Eq = with_child xs (with_child xs (alone Eq))
whole xs App = with_child xs (with_child xs (alone App))
whole xs (Lam x) = with_child xs (alone (Lam x))
whole xs (Let x) = with_child xs (with_child xs (alone (Let x)))
whole xs If = with_child xs (with_child xs (with_child xs (alone If)))

-- A record that may be outside the table, which then measures nothing.
abbrev pub measure_of : List Extent → Option Label → Extent
measure_of xs None = extent 0 0
measure_of xs (Some l) = whole xs l

-- Wherever the listing of a term begins in the row, the term's records and instructions are measured.
abbrev pub Measured : List Node → List Extent → Type 0
Measured row xs = (p : ℕ) (t : Term) (rest : List Node) → drop p row ≡ listing_before t rest → measured_at xs p ≡ extent (size t) (code_size t)

-- Where there is room for n instructions, so many were added: those that f puts before what follows.
pub record Grows {Z : Type 0} (before after : Vec Instruction Z) (n : ℕ) (f : List Instruction → List Instruction) : Type 0 where
  pub capacity : vec_capacity after ≡ vec_capacity before
  pub count : vec_len before + n ≤ vec_capacity before → vec_len after ≡ vec_len before + n
  pub added : vec_len before + n ≤ vec_capacity before → (k : List Instruction) → vec_items after ++ k ≡ vec_items before ++ f k

-- Code grows by that of the term that begins at a place of the row, if one does.
abbrev pub Emits : {Z : Type 0} → List Node → ℕ → Vec Instruction Z → Vec Instruction Z → Type 0
Emits row p before after = (t : Term) (rest : List Node) → drop p row ≡ listing_before t rest → Grows before after (code_size t) (emit p t)

-- Code grows by that of two terms, one behind the other, and an instruction.
abbrev pub EmitsPair : {Z : Type 0} → List Node → ℕ → Instruction → Vec Instruction Z → Vec Instruction Z → Type 0
EmitsPair row p last before after = (l r : Term) (rest : List Node) → drop p row ≡ listing_before l (listing_before r rest) →
    Grows before after (code_size l + (code_size r + 1)) (λ k. emit p l (emit (p + size l) r (last ∷ k)))

-- Code grows by an instruction and the body that it opens.
abbrev pub EmitsBody : {Z : Type 0} → List Node → ℕ → Instruction → Vec Instruction Z → Vec Instruction Z → Type 0
EmitsBody row p opening before after = (t : Term) (rest : List Node) → drop p row ≡ listing_before t rest →
    Grows before after (suc (code_size t + 1)) (λ k. opening ∷ emit p t (Return ∷ k))
