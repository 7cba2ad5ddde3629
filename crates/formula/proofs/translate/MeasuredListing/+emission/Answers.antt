use Rattle.std.proofs.Common.{arith}
use Rattle.formula.proofs.Emission.{rooted, no_term_unsaid, no_term_past, emits_num, emits_truth, emits_var, emits_pair, emits_binop, emits_eq, emits_app, emits_lam, emits_let, emits_if}
use Rattle.formula.proofs.translate.MeasuredListing.+emission.Goals as goal

pub emit_at-returns-in_default-clause-code : goal.emit_at-returns-in_default-clause-code
emit_at-returns-in_default-clause-code t c = λ s rest at. absurd (no_term_past c.args.self.now.listing.now c.args.place (omega (arith, c.from.ensures, c.in_default.ensures.lookup.3)) s rest at)

pub emit_at-returns-in_default-try_from-clause-code : goal.emit_at-returns-in_default-try_from-clause-code
emit_at-returns-in_default-try_from-clause-code t c = λ s rest at. absurd (no_term_unsaid c.args.self.now.listing.now c.args.place _ _ c.from.ensures c.in-Some.ensures.lookup.1 _ c.in_default-try_from.ensures s rest at)

pub emit_at-returns-in-Num-clause-code : goal.emit_at-returns-in-Num-clause-code
emit_at-returns-in-Num-clause-code t c = λ s rest at.
    let R = rooted c.args.self.now.listing.now c.args.place _ _ c.from.ensures c.in-Some.ensures.lookup.1 _ c.in-Ok.ensures c.in-Num.is s rest at in
    emits_num c.args.place R c.put.ensures

pub emit_at-returns-in-Truth-clause-code : goal.emit_at-returns-in-Truth-clause-code
emit_at-returns-in-Truth-clause-code t c = λ s rest at.
    let R = rooted c.args.self.now.listing.now c.args.place _ _ c.from.ensures c.in-Some.ensures.lookup.1 _ c.in-Ok.ensures c.in-Truth.is s rest at in
    emits_truth c.args.place R c.put-in-Truth.ensures

pub emit_at-returns-in-Var-clause-code : goal.emit_at-returns-in-Var-clause-code
emit_at-returns-in-Var-clause-code t c = λ s rest at.
    let R = rooted c.args.self.now.listing.now c.args.place _ _ c.from.ensures c.in-Some.ensures.lookup.1 _ c.in-Ok.ensures c.in-Var.is s rest at in
    emits_var c.args.place R c.put-in-Var.ensures

pub emit_at-returns-in-Binop-clause-code : goal.emit_at-returns-in-Binop-clause-code
emit_at-returns-in-Binop-clause-code t c = λ s rest at.
    let R = rooted c.args.self.now.listing.now c.args.place _ _ c.from.ensures c.in-Some.ensures.lookup.1 _ c.in-Ok.ensures c.in-Binop.is s rest at in
    emits_binop c.args.self.now.listing.now _ c.args.self.now.long c.args.self.now.measured c.args.place rest R at c.emit_pair.ensures.code

pub emit_at-returns-in-Eq-clause-code : goal.emit_at-returns-in-Eq-clause-code
emit_at-returns-in-Eq-clause-code t c = λ s rest at.
    let R = rooted c.args.self.now.listing.now c.args.place _ _ c.from.ensures c.in-Some.ensures.lookup.1 _ c.in-Ok.ensures c.in-Eq.is s rest at in
    emits_eq c.args.self.now.listing.now _ c.args.self.now.long c.args.self.now.measured c.args.place rest R at c.emit_pair-in-Eq.ensures.code

pub emit_at-returns-in-App-clause-code : goal.emit_at-returns-in-App-clause-code
emit_at-returns-in-App-clause-code t c = λ s rest at.
    let R = rooted c.args.self.now.listing.now c.args.place _ _ c.from.ensures c.in-Some.ensures.lookup.1 _ c.in-Ok.ensures c.in-App.is s rest at in
    emits_app c.args.self.now.listing.now _ c.args.self.now.long c.args.self.now.measured c.args.place rest R at c.emit_pair-in-App.ensures.code

pub emit_at-returns-in-Lam-clause-code : goal.emit_at-returns-in-Lam-clause-code
emit_at-returns-in-Lam-clause-code t c = λ s rest at.
    let R = rooted c.args.self.now.listing.now c.args.place _ _ c.from.ensures c.in-Some.ensures.lookup.1 _ c.in-Ok.ensures c.in-Lam.is s rest at in
    emits_lam c.args.self.now.listing.now _ c.args.self.now.long c.args.self.now.measured c.args.place rest _ R at c.body_length-length.ensures c.emit_body.ensures.code

pub emit_at-returns-in-Let-clause-code : goal.emit_at-returns-in-Let-clause-code
emit_at-returns-in-Let-clause-code t c = λ s rest at.
    let R = rooted c.args.self.now.listing.now c.args.place _ _ c.from.ensures c.in-Some.ensures.lookup.1 _ c.in-Ok.ensures c.in-Let.is s rest at in
    emits_let c.args.self.now.listing.now _ c.args.self.now.long c.args.self.now.measured c.args.place rest _ R at c.past.ensures c.emit_at.ensures.code c.put-in-Let.ensures c.emit_at-in-Let.ensures.code c.put-in-Let-2.ensures

pub emit_at-returns-in-If-clause-code : goal.emit_at-returns-in-If-clause-code
emit_at-returns-in-If-clause-code t c = λ s rest at.
    let R = rooted c.args.self.now.listing.now c.args.place _ _ c.from.ensures c.in-Some.ensures.lookup.1 _ c.in-Ok.ensures c.in-If.is s rest at in
    emits_if c.args.self.now.listing.now _ c.args.self.now.long c.args.self.now.measured c.args.place rest _ _ _ _ R at c.past-second.ensures c.past-third.ensures c.body_length-length-in-If.ensures c.body_length-length-in-If-2.ensures
    c.emit_body-in-If.ensures.code c.emit_body-in-If-2.ensures.code c.emit_at-in-If.ensures.code c.put-in-If.ensures

pub emit_pair-returns-clause-code : goal.emit_pair-returns-clause-code
emit_pair-returns-clause-code t c =
    emits_pair c.args.self.now.listing.now _ c.args.self.now.long c.args.self.now.measured c.args.first c.args.last _ c.past.ensures c.emit_at.ensures.code c.emit_at-2.ensures.code c.put.ensures
