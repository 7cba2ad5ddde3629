-- What accrues in whole numbers is exact.
use Rattle.std.proofs.Common.{◌≡◌, ℕ, ℤ, ◌-ℤ◌, ◌*ℤ◌, IfOk, Ok, Err, Result, sym, refl, ap, ◌∙◌}
use lib.IntN.{+ℤ_comm, +ℤ-neg_ℤ_cancel}
use lib.Signed.{quot_z, rem_z}
use Rattle.domain.specs.declared.Op.{Op}
use Rattle.domain.specs.declared.Op.TheVariants.{Sub, Mul, Div}
use Rattle.domain.specs.declared.Fault.{Fault}
use Rattle.domain.specs.Screen.{screen}
use Rattle.domain.proofs.Layering.{screen_code}
use Rattle.whole.specs.Numbers.{number_of, exact}
use Rattle.whole.specs.Laws.{Truncates}
use Rattle.whole.specs.Whole.{whole}
use Rattle.whole.proofs.Division.{div_drops_toward_zero}
use Rattle.whole.proofs.Exact.{results_are_exact, quotients_have_divisors}
use Rattle.vinehammer.specs.declared.accrual.Coupon.{Coupon}
use Rattle.vinehammer.specs.declared.accrual.Accrued.{Accrued}
use Rattle.domain.specs.Meaning.{Meaning}
use Rattle.vinehammer.specs.Accrual.{and_then, split, accrued_by, Exact}

abbrev desk : Meaning
desk = screen whole

-- A step that was gone on from has answered.
answered : {A B : Type 0} (x : Result A Fault) (next : A → Result B Fault) (b : B) → and_then x next ≡ Ok b → (a : A) × (x ≡ Ok a) × (next a ≡ Ok b)
answered (Ok a) next b h = (a, refl, h)
answered (Err f) next b h = cc

-- A code that the screened domain answers is that of the exact result.
step-exact : (op : Op) (a b n : ℕ) → (screen whole).table op a b ≡ Ok n → number_of n ≡ exact op (number_of a) (number_of b)
step-exact op a b n h = results_are_exact op a b n (screen_code whole op a b n h)

-- Taking back what was paid leaves what was dropped.
left_over : (x y q d : ℤ) → Truncates x y q d → x -ℤ (q *ℤ y) ≡ d
left_over x y q d t = ap (λ z. z -ℤ (q *ℤ y)) (t.parts ∙ +ℤ_comm (q *ℤ y) d) ∙ +ℤ-neg_ℤ_cancel d (q *ℤ y)

-- What is paid and what is dropped of a total.
split-exact : (total basis : ℕ) (a : Accrued) → split desk total basis ≡ Ok a → Truncates (number_of total) (number_of basis) (number_of a.amount) (number_of a.dropped)
split-exact total basis a h =
    let paid = answered (desk.table Div total basis) (λ amount. and_then (desk.table Mul amount basis) (λ back. and_then (desk.table Sub total back) (λ dropped. Ok (record { amount = amount; dropped = dropped })))) a h in
    let amount = paid.0 in
    let back = answered (desk.table Mul amount basis) (λ back. and_then (desk.table Sub total back) (λ dropped. Ok (record { amount = amount; dropped = dropped }))) a paid.2 in
    let rest = answered (desk.table Sub total back.0) (λ dropped. Ok (record { amount = amount; dropped = dropped })) a back.2 in
    let q = step-exact Div total basis amount paid.1 in
    let x = number_of total in
    let y = number_of basis in
    let t = div_drops_toward_zero x y (quotients_have_divisors total basis amount (screen_code whole Div total basis amount paid.1)) in
    let b = step-exact Mul amount basis back.0 back.1 ∙ ap (λ z. z *ℤ y) q in
    let d = step-exact Sub total back.0 rest.0 rest.1 ∙ ap (λ z. x -ℤ z) b ∙ left_over x y (quot_z x y) (rem_z x y) t in
    let e : a ≡ record { amount = amount; dropped = rest.0 } = cc in
    let paid_out : quot_z x y ≡ number_of a.amount = sym (ap (λ r. number_of r.amount) e ∙ q) in
    let kept_back : rem_z x y ≡ number_of a.dropped = sym (ap (λ r. number_of r.dropped) e ∙ d) in
    rw (← paid_out, ← kept_back) t

whole-exact : (c : Coupon) (a : Accrued) → accrued_by desk c ≡ Ok a → Exact c a
whole-exact c a h =
    let s₁ = answered (desk.table Mul c.face c.rate) (λ yearly. and_then (desk.table Mul yearly c.days) (λ total. split desk total c.basis)) a h in
    let s₂ = answered (desk.table Mul s₁.0 c.days) (λ total. split desk total c.basis) a s₁.2 in
    let t = split-exact s₂.0 c.basis a s₂.2 in
    let y = step-exact Mul c.face c.rate s₁.0 s₁.1 in
    let x = step-exact Mul s₁.0 c.days s₂.0 s₂.1 ∙ ap (λ z. z *ℤ number_of c.days) y in
    rw (← x) t

pub accrued_exact : (c : Coupon) (r : Result Accrued Fault) → r ≡ accrued_by (screen whole) c → IfOk r (λ a. Exact c a)
accrued_exact c (Ok a) h = whole-exact c a (sym h)
accrued_exact c (Err f) h = tt
