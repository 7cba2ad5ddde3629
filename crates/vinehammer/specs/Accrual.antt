-- Accrued interest: face times rate times days, divided by the basis.
use Rattle.std.specs.Prelude.{ℕ, ◌*ℤ◌, Ok, Err, Result}
use Rattle.domain.specs.declared.Op.TheVariants.{Sub, Mul, Div}
use Rattle.domain.specs.declared.Fault.{Fault}
use Rattle.domain.specs.Meaning.{Meaning}
use Rattle.whole.specs.Numbers.{number_of}
use Rattle.whole.specs.Laws.{Truncates}
use Rattle.vinehammer.specs.declared.accrual.Coupon.{Coupon}
use Rattle.vinehammer.specs.declared.accrual.Accrued.{Accrued}

-- The next step on an answer; a fault is the answer of the whole.
abbrev pub and_then : {A B : Type 0} → Result A Fault → (A → Result B Fault) → Result B Fault
and_then (Ok a) next = next a
and_then (Err f) next = Err f

-- A total divided by the basis, and what the division drops.
abbrev pub split : Meaning → ℕ → ℕ → Result Accrued Fault
split m total basis =
    and_then (m.table Div total basis) (λ amount.
    and_then (m.table Mul amount basis) (λ back.
    and_then (m.table Sub total back) (λ dropped.
    Ok (record { amount = amount; dropped = dropped }))))

-- What accrues by the table of a domain, worked out from left to right.
abbrev pub accrued_by : Meaning → Coupon → Result Accrued Fault
accrued_by m c =
    and_then (m.table Mul c.face c.rate) (λ yearly.
    and_then (m.table Mul yearly c.days) (λ total.
    split m total c.basis))

-- In whole numbers: the amount is the exact quotient with its fraction dropped, and what is dropped is what is left over.
abbrev pub Exact : Coupon → Accrued → Type 0
Exact c a = Truncates ((number_of c.face *ℤ number_of c.rate) *ℤ number_of c.days) (number_of c.basis) (number_of a.amount) (number_of a.dropped)
