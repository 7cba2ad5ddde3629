use Rattle.std.proofs.Common.{rules}
use Rattle.semantics.proofs.Layouts.{no_instruction}
use Rattle.semantics.proofs.instruction.InstructionTryFromInstr.try_from.Goals as goal

pub returns-in_err-try_from : goal.returns-in_err-try_from
returns-in_err-try_from c = rw (no_instruction c.args.instr.kind c.args.instr.name c.args.instr.number c.in_err-try_from.ensures) (search rules)
