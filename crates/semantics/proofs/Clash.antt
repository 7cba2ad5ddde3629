-- Different constructors clash.
use Rattle.std.proofs.Common.{◌≡◌, ℕ, arith}

-- From an equation between different constructors `cc` has 0 ≡ 1, and from that anything follows.
pub clash : {A : Type 0} → ◌≡◌ {A = ℕ} 0 1 → A
clash e = absurd (omega arith)
