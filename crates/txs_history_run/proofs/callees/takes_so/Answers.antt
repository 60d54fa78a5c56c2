use Rattle.std.proofs.Common.{◌≡◌, ◌↔◌, ◌∙◌, List, Some, true, rules, sym, subst}
use Rattle.std.proofs.lemmas.Bool.{false≢true}
use Rattle.txs_value_data.specs.Places.{nth}
use Rattle.txs_code_meaning.specs.PlainCode.{CodeBody, parameters_of}
use Rattle.txs_history_run.proofs.Sent.{takes_then, takes_else}
use Rattle.txs_history_run.proofs.callees.takes_so.Goals as goal

pub returns-then-is_callee : goal.returns-then-is_callee
returns-then-is_callee c =
    let code = c.args.code.now in
    let same : c.functions.result.now ≡ code.functions = search rules in
    let told = subst (λ (bs : List CodeBody). (c.has_parameters.result ≡ true) ↔ (nth (parameters_of bs) c.args.f ≡ Some c.args.count)) same c.has_parameters.ensures in
    takes_then code c.args.marks.now c.args.f c.args.count c.has_parameters.result c.requires (c.is_callee.ensures.0 c.if-is_callee.true) told

pub returns-else-is_callee : goal.returns-else-is_callee
returns-else-is_callee c =
    takes_else c.args.code.now c.args.marks.now c.args.f c.args.count _ (search rules) c.requires (λ e. false≢true (sym c.if-is_callee.false ∙ c.is_callee.ensures.1 e))
