-- What a bottom domain answers is in order.
use Rattle.std.proofs.Common.{◌≡◌, ℕ, Bool, true, false, refl, arith}
use Rattle.domain.specs.Meaning.{InOrder}
use Rattle.domain.specs.Bottom.{settled, divided}

pub in_order : (lawful : ℕ → Bool) (zero ok : Bool) (code : ℕ) → (ok ≡ true → lawful code ≡ true) → InOrder lawful (divided zero (settled ok code))
in_order lawful true ok code h = (omega arith, omega arith)
in_order lawful false true code h = h refl
in_order lawful false false code h = (omega arith, omega arith)
