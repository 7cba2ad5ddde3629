-- Screen: a layer over any domain that looks at both operands of every operation.
use Rattle.std.specs.Prelude.{ℕ, cond, ◌&&◌, Err}
use Rattle.std.proofs.Common.{arith}
use Rattle.domain.specs.declared.Op.{Op}
use Rattle.domain.specs.declared.Cause.TheVariants.{UnlawfulOperand}
use Rattle.domain.specs.Meaning.{Meaning, Answer, fault_of, raised}

-- An unlawful operand is a fault at Screen's own height; otherwise the answer is that from below.
abbrev pub screened : Meaning → Op → ℕ → ℕ → Answer
screened m op a b = cond (m.lawful a && m.lawful b) (m.table op a b) (Err (fault_of UnlawfulOperand (raised m.height)))

-- Lawful codes and sameness are those below.
abbrev pub screen : Meaning → Meaning
screen m = record {
  lawful = m.lawful;
  table = screened m;
  same = m.same;
  height = raised m.height;
  sized = m.sized;
  closed = λ op a b p q. rw p (rw q (m.closed op a b p q));
  low = omega arith;
}
