use Rattle.std.proofs.Common.{Some, sym, ap, ◌∙◌, subst}
use Rattle.txs_resolve.specs.Given.{Leaves}
use Rattle.txs_resolve.specs.Scripts.{state_of}
use Rattle.txs_resolve.proofs.Openings.{listed}
use Rattle.txs_resolve_expand.specs.declared.names.FormName.TheVariants as kind
use Rattle.txs_resolve.proofs.script.list_step.Goals as goal

pub returns-in-Some-Def-clause-state : goal.returns-in-Some-Def-clause-state
returns-in-Some-Def-clause-state c =
    let s = state_of c.args.script.now in
    subst (Leaves c.define.result (state_of c.define.new.script)) (listed s c.args.span c.args.forms.now c.in-Some.head.now c.in-Some.parts.now (Some kind.Def) c.in-Some.ensures.cases.0 (ap Some (sym c.in-Some-Def.field-0-is) ∙ sym c.in-Some-Def.is ∙ c.form_at.ensures)) c.define.ensures.state

pub returns-in-Some-Defn-clause-state : goal.returns-in-Some-Defn-clause-state
returns-in-Some-Defn-clause-state c =
    let s = state_of c.args.script.now in
    subst (Leaves c.function.result (state_of c.function.new.script)) (listed s c.args.span c.args.forms.now c.in-Some.head.now c.in-Some.parts.now (Some kind.Defn) c.in-Some.ensures.cases.0 (ap Some (sym c.in-Some-Defn.field-0-is) ∙ sym c.in-Some-Defn.is ∙ c.form_at.ensures)) c.function.ensures.state

pub returns-in-Some-Future-clause-state : goal.returns-in-Some-Future-clause-state
returns-in-Some-Future-clause-state c =
    let s = state_of c.args.script.now in
    subst (Leaves c.future.result (state_of c.future.new.script)) (listed s c.args.span c.args.forms.now c.in-Some.head.now c.in-Some.parts.now (Some kind.Future) c.in-Some.ensures.cases.0 (ap Some (sym c.in-Some-Future.field-0-is) ∙ sym c.in-Some-Future.is ∙ c.form_at.ensures)) c.future.ensures.state
