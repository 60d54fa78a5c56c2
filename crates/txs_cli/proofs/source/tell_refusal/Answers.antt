use Rattle.std.proofs.Common.{subst}
use Rattle.txs_cli.proofs.Loading.{form_told, script_refused, script_told}
use Rattle.txs_cli.proofs.source.tell_refusal.Goals as goal
use Rattle.txs_cli.specs.Source.{IsRefusedBy, source_of}
use Rattle.txs_cli.specs.declared.source.Refusal.{Refusal}

pub refused-requires : goal.refused-requires
refused-requires c =
    let s = source_of c.args.source in
    let text = c.args.text.now in
    script_refused s text c.in-Script.error _ c.script.ensures (subst (λ (e : Refusal). IsRefusedBy s text e) c.in-Script.is c.requires)

pub returns-in-Script : goal.returns-in-Script
returns-in-Script c =
    let s = source_of c.args.source in
    let text = c.args.text.now in
    script_told s text c.in-Script.error _ c.refused.result c.script.ensures (subst (λ (e : Refusal). IsRefusedBy s text e) c.in-Script.is c.requires) c.refused.ensures

pub returns-in-Form : goal.returns-in-Form
returns-in-Form c =
    let s = source_of c.args.source in
    let text = c.args.text.now in
    let e = c.refused-in-Form.ensures in
    form_told s text c.in-Form.error c.refused-in-Form.result (subst (λ (e : Refusal). IsRefusedBy s text e) c.in-Form.is c.requires) e.told e.is
