use Rattle.std.proofs.Common.{sym, ◌∙◌, ap, arith}
use Rattle.std.specs.Option.{option_map}
use Rattle.reading.specs.Workspace.{workspace_of}
use Rattle.reading.proofs.Growth.{has_room}
use Rattle.reading.proofs.Turns.{turn, unread, read_out}
use Rattle.reading.proofs.reader.Reader.read.Goals as goal

pub step-requires : goal.step-requires
step-requires c =
    has_room c.in_ok-last.front.now c.loop-instruction.instruction-index c.args.inputs c.loop-instruction.self c.loop-instruction-test.true
    (omega (arith, c.in_ok-last.ensures.cases.1)) c.requires.few c.loop-instruction.invariant

pub returns-in_err-step-clause-term : goal.returns-in_err-step-clause-term
returns-in_err-step-clause-term c =
    unread _ _ _ _ _ c.in_ok-last.ensures.cases.0 (turn _ _ _ _ c.loop-instruction-test.true c.loop-instruction.invariant ∙ sym c.in_err-step.ensures.reads)
    ∙ ap (option_map _) (sym c.from_residual-in_err-step.ensures)

pub loop-instruction-preserved : goal.loop-instruction-preserved
loop-instruction-preserved c = turn _ _ _ _ c.loop-instruction-test.true c.loop-instruction.invariant ∙ sym c.in_ok-step.ensures.reads

pub returns : goal.returns
returns c =
    let r = read_out _ _ _ _ _ (workspace_of c.loop-instruction.self) _ c.in_ok-last.ensures.cases.0 c.loop-instruction-test.false c.loop-instruction.invariant c.root.ensures in
    record { term = r.0; place = r.1 }
