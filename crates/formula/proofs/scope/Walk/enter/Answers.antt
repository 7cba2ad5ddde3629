use Rattle.std.proofs.Common.{◌++◌, take, sym, ap, ◌∙◌, rules}
use Rattle.std.specs.Option.{option_to_list}
use Rattle.std.proofs.lemmas.List.{append-nil}
use Rattle.formula.proofs.Scopes.{enters, enters-falling}
use Rattle.formula.proofs.scope.Walk.enter.Goals as goal

pub invariant_of-self-in-Some : goal.invariant_of-self-in-Some
invariant_of-self-in-Some c =
    let path = c.push_reserved.ensures.items ∙ (λ i. c.truncate.ensures.items i ++ option_to_list (sym c.in-Some.is i)) in
    (enters-falling _ _ _ c.in_ok-next.next _ c.in_ok-next.ensures.items c.self.invariant.0 path, search rules, search rules)

pub returns-in-Some-clause-some : goal.returns-in-Some-clause-some
returns-in-Some-clause-some c =
    ap (λ w. w.owed) (sym c.self.view_is)
    ∙ enters _ _ _ c.in_ok-next.next _ c.in_ok-next.ensures.items c.self.invariant.0 (c.push_reserved.ensures.items ∙ (λ i. c.truncate.ensures.items i ++ option_to_list (sym c.in-Some.is i)))

pub returns-in_default-clause-some : goal.returns-in_default-clause-some
returns-in_default-clause-some c =
    ap (λ w. w.owed) (sym c.self.view_is)
    ∙ enters _ _ _ c.in_ok-next.next _ c.in_ok-next.ensures.items c.self.invariant.0
    (c.truncate.ensures.items ∙ sym (append-nil (take c.in_ok-next.next.depth c.self.inside.path.items)) ∙ ap (λ b. take c.in_ok-next.next.depth c.self.inside.path.items ++ option_to_list b) (sym c.in_default.is))
