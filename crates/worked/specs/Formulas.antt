-- Formulas worked through over Whole: what is claimed of each, as one list.
use Rattle.std.specs.Prelude.{◌≡◌, true, false, List, [], ◌∷◌, ℕ, ◌^◌, ◌-◌, length}
use Rattle.domain.specs.declared.Op.TheVariants.{Add, Sub, Div}
use Rattle.domain.specs.declared.Fault.{Fault}
use Rattle.domain.specs.declared.Cause.TheVariants.{ZeroDivisor}
use Rattle.domain.specs.Meaning.{fault_of, bottom_height}
use Rattle.whole.specs.Whole.{whole}
use Rattle.semantics.specs.Terms.{Term, num, truth, var, binop, eq, app, lam, let_in, if_then}
use Rattle.semantics.specs.Listing.{listing}
use Rattle.semantics.specs.Evaluation.{applied_no_function, engine_fault}
use Rattle.semantics.specs.Translation.{translate}
use Rattle.semantics.specs.Running.{ended, failed, limits, Report, Status}
use Rattle.semantics.specs.Machine.{Held, h_number, State, start, machine_run}
use Rattle.semantics.specs.Showing.{read, show}

-- What may be claimed of a formula without inputs.
pub data Claim : Type 0 where
  -- Its listing has so many records.
  has_records : Term → ℕ → Claim
  -- Its code has so many instructions, END included.
  has_instructions : Term → ℕ → Claim
  -- It gives the number of this code in so many units.
  gives : Term → (code units : ℕ) → Claim
  -- It faults at the node of this place in so many units.
  faults_with : Term → Fault → (node units : ℕ) → Claim
  -- It ends in so many units, and then shows this term.
  ends_showing : Term → (units : ℕ) → Term → Claim
  -- After so many units it shows this term.
  shows_after : Term → (units : ℕ) → Term → Claim
  -- Read back from its code, it is the same.
  comes_back : Term → Claim

-- The run of a formula on so many units.
abbrev pub after : Term → ℕ → Report State Held
after t units = machine_run whole limits units (start t [])

-- More units than any of these formulas takes.
abbrev pub plenty : ℕ
plenty = 100

abbrev pub HasEnded : Status Held → Type 0
HasEnded x = (h : Held) × (x ≡ ended h)

abbrev pub Holds : Claim → Type 0
Holds (has_records t n) = length (listing t) ≡ n
Holds (has_instructions t n) = length (translate t) ≡ n
Holds (gives t c n) = ((after t plenty).status ≡ ended (h_number c)) × ((after t plenty).spent ≡ n)
Holds (faults_with t φ p n) = ((after t plenty).status ≡ failed φ p) × ((after t plenty).spent ≡ n)
Holds (ends_showing t n u) = HasEnded (after t plenty).status × ((after t plenty).spent ≡ n) × (show (after t plenty).state ≡ u)
Holds (shows_after t n u) = show (after t n).state ≡ u
Holds (comes_back t) = read (translate t) 0 [] [] [] ≡ t

abbrev pub AllHold : List Claim → Type 0
AllHold [] = Unit {0}
AllHold (c ∷ cs) = Holds c × AllHold cs

-- Names of binders.
abbrev pub a : ℕ
a = 1

abbrev pub b : ℕ
b = 2

-- fun b → b + 1
abbrev pub successor : Term
successor = lam b (binop Add (var b 0) (num 1))

-- let a = 5 in if a = 4 then 1 else (fun b → b + 1) 2
abbrev pub conditional : Term
conditional = let_in a (num 5) (if_then (eq (var a 0) (num 4)) (num 1) (app successor (num 2)))

-- 3 + (let a = 1 in a)
abbrev pub sum : Term
sum = binop Add (num 3) (let_in a (num 1) (var a 0))

-- let a = 5 in fun b → a + b
abbrev pub adder : Term
adder = let_in a (num 5) (lam b (binop Add (var a 1) (var b 0)))

-- The code of a negative number.
abbrev pub minus : ℕ → ℕ
minus n = 2 ^ 64 - n

abbrev pub worked : List Claim
worked =
    has_records conditional 13 ∷
    has_instructions conditional 20 ∷
    gives conditional 3 17 ∷
    shows_after conditional 7 (if_then (truth false) (num 1) (app successor (num 2))) ∷
    gives (binop Sub (num 7) (num 2)) 5 3 ∷
    gives (if_then (truth true) (num 1) (num 2)) 1 6 ∷
    has_records sum 5 ∷
    has_instructions sum 7 ∷
    gives sum 4 6 ∷
    comes_back sum ∷
    ends_showing adder 4 (lam b (binop Add (num 5) (var b 0))) ∷
    gives (binop Div (num (minus 7)) (num 2)) (minus 3) 3 ∷
    faults_with (binop Div (num 1) (num 0)) (fault_of ZeroDivisor bottom_height) 0 3 ∷
    faults_with (app (num 1) (num 2)) (engine_fault applied_no_function) 0 3 ∷
    []

abbrev pub Worked : Type 0
Worked = AllHold worked
