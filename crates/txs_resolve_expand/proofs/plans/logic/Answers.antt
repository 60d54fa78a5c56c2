use Rattle.std.proofs.Common.{List, sym, ap, ◌∙◌}
use Rattle.txs_reader.specs.declared.form.Form.{Form}
use Rattle.txs_resolve_expand.specs.Parts.{logic_name, plain, table}
use Rattle.txs_resolve_expand.proofs.Tables.{logic_one, logic_some}
use Rattle.txs_resolve_expand.proofs.plans.logic.Goals as goal

pub returns-clause-core : goal.returns-clause-core
returns-clause-core c scope s =
    logic_some scope s c.args.is_or c.in-Some.value.now c.in-Some.rest.now c.if-rest-eq0.false
    ∙ sym (ap (λ (l : List Form). table (logic_name c.args.is_or) scope s (plain l)) c.in-Some.ensures.cases.0)

pub returns-then-rest-eq0-clause-core : goal.returns-then-rest-eq0-clause-core
returns-then-rest-eq0-clause-core c scope s =
    logic_one scope s c.args.is_or c.in-Some.value.now c.in-Some.rest.now c.if-rest-eq0.true
    ∙ sym (ap (λ (l : List Form). table (logic_name c.args.is_or) scope s (plain l)) c.in-Some.ensures.cases.0)
