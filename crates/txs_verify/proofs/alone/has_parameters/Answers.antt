use Rattle.std.proofs.Common.{rules, ◌∙◌, sym, ap, get_or, nat_eq}
use Rattle.txs_code_meaning.specs.PlainCode.{CodeBody, parameters_of}
use Rattle.txs_value_data.specs.Places.{nth}
use Rattle.txs_verify.proofs.Lists.{parameters_nth, parameters_none, both_stand, none_stands}
use Rattle.txs_verify.proofs.alone.has_parameters.Goals as goal

pub returns-then-f-functions-clause-present : goal.returns-then-f-functions-clause-present
returns-then-f-functions-clause-present c = λ m e.
    (let fs = c.args.functions.now in
    let body : CodeBody = c.index-functions-f.result in
    let at = ap (nth (parameters_of fs)) (sym c.from-f.ensures) ∙ parameters_nth fs c.from-f.result body (search rules) in
    ap (λ x. nat_eq x c.args.count) (c.from.ensures ∙ c.parameters.ensures ∙ ap (λ (b : CodeBody). b.parameters) c.index-functions-f.is ∙ both_stand (nth (parameters_of fs) c.args.f) (get_or fs c.from-f.result body).parameters m at e))

pub returns-then-f-functions-clause-absent : goal.returns-then-f-functions-clause-absent
returns-then-f-functions-clause-absent c = λ e.
    (let fs = c.args.functions.now in
    let body : CodeBody = c.index-functions-f.result in
    let at = ap (nth (parameters_of fs)) (sym c.from-f.ensures) ∙ parameters_nth fs c.from-f.result body (search rules) in
    absurd (none_stands (nth (parameters_of fs) c.args.f) (get_or fs c.from-f.result body).parameters e at))

pub returns-clause-present : goal.returns-clause-present
returns-clause-present c = λ m e. absurd (none_stands (nth (parameters_of c.args.functions.now) c.args.f) m (parameters_none c.args.functions.now c.args.f (search rules)) e)
