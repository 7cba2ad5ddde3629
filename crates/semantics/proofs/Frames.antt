-- The units that a frame takes, from its entry to its RETURN, and those that the frames under way still take.
use Rattle.std.proofs.Common.{ℕ, suc, ◌+◌, ◌*◌, ◌<◌, ◌≤◌, max, List, arith}
use Rattle.semantics.specs.declared.layout.Instruction.{Instruction}
use Rattle.semantics.specs.Terms.{Term, num, truth, var, binop, eq, app, lam, let_in, if_then, size}
use Rattle.semantics.specs.Sizes.{most_records}
use Rattle.semantics.specs.Machine.{HeldEnv, Cell, State}
use Rattle.semantics.proofs.Continuations.{Kont, k_end, k_return, k_first, k_second, k_let_bound, k_let_body, k_if, RunState, on_term, on_value, between_thunks}

-- The most units that a term takes, but for the bodies of the functions that it applies.
abbrev pub units : Term → ℕ
units (num c) = 1
units (truth b) = 1
units (var x i) = 1
units (binop o l r) = units l + units r + 1
units (eq l r) = units l + units r + 1
units (app f a) = units f + units a + 1
units (lam x b) = 1
units (let_in x a b) = units a + units b + 2
units (if_then c t e) = units c + max (units t) (units e) + 4

-- The most units of a frame.
abbrev pub frame_units : ℕ
frame_units = 852

-- Three records bring at most five units: an If with two leaves for its branches does.
units_bounded : (t : Term) → 3 * units t + 2 ≤ 5 * size t
units_bounded (binop o l r) = omega (arith, units_bounded l, units_bounded r)
units_bounded (eq l r) = omega (arith, units_bounded l, units_bounded r)
units_bounded (app f a) = omega (arith, units_bounded f, units_bounded a)
units_bounded (let_in x a b) = omega (arith, units_bounded a, units_bounded b)
units_bounded (if_then c t e) = omega (arith, units_bounded c, units_bounded t, units_bounded e)
units_bounded t = omega arith

-- The first frame has no RETURN.
pub first_frame : (t : Term) → size t ≤ most_records → units t ≤ frame_units
first_frame t le = omega (arith, units_bounded t)

-- A body is smaller than the term, by its Lambda at least.
pub body_frame : (b : Term) → size b < most_records → units b + 1 ≤ frame_units
body_frame b le = omega (arith, units_bounded b)

-- The terms of a run have at most so many records.
abbrev pub Sized : Term → Type 0
Sized t = size t ≤ most_records

-- The most units that all frames under way still take once the value is there, but for bodies yet to be entered.
abbrev pub units_waiting : {k : List Instruction} {ρ : HeldEnv} {c : List Cell} → Kont Sized k ρ c → ℕ
units_waiting (k_end g) = 0
units_waiting (k_return g K) = suc (units_waiting K)
units_waiting (k_first j q r s K) = units r + suc (units_waiting K)
units_waiting (k_second j g K) = suc (units_waiting K)
units_waiting (k_let_bound x q b s K) = suc (units b + suc (units_waiting K))
units_waiting (k_let_body g K) = suc (units_waiting K)
units_waiting (k_if p qt qe t e r₁ r₂ st se K) = suc (max (units t) (units e) + suc (units_waiting K))

-- The most units of a run from a state on, but for the same.
abbrev pub units_left : {s : State} → RunState Sized s → ℕ
units_left (on_term p t s K) = units t + units_waiting K
units_left (on_value g K) = units_waiting K
units_left (between_thunks p qe qt q t e r₁ s K) = units q + max (units t) (units e) + 3 + units_waiting K
