use Rattle.std.proofs.Common.{◌≡◌, ◌↔◌, ◌∙◌, ap, IsTrue, rules}
use Rattle.txs_world_protocol.specs.Ask.{same_values}
use Rattle.txs_world_protocol.proofs.Comparing.{action_test}
use Rattle.txs_world_protocol.proofs.same.same_action.Goals as goal

pub returns-clause-test : goal.returns-clause-test
returns-clause-test c =
    let agent : IsTrue c.eq.result ↔ (c.args.a.now.agent ≡ c.args.b.now.agent) = search rules in
    let callee : IsTrue c.eq-2.result ↔ (c.args.a.now.callee ≡ c.args.b.now.callee) = search rules in
    let args : c.same_values.result ≡ same_values c.args.a.now.args c.args.b.now.args = c.same_values.ensures.test ∙ ap (λ x. same_values x c.as_slice-2.result.now) c.as_slice.ensures ∙ ap (λ x. same_values c.args.a.now.args x) c.as_slice-2.ensures in
    let span : IsTrue c.eq-3.result ↔ (c.args.a.now.span ≡ c.args.b.now.span) = search rules in
    action_test c.args.a.now c.args.b.now c.eq.result c.eq-2.result c.same_values.result c.eq-3.result agent callee args span
