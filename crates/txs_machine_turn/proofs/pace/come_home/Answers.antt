use Rattle.std.proofs.Common.{◌<◌, ◌∙◌, ap, sym, subst, length, inr}
use Rattle.txs_machine_actor.specs.PlainActor.{PlainActor, Attends}
use Rattle.txs_machine_actor.specs.Turns.{Turns, hands_in, IsEvaluating}
use Rattle.txs_machine_actor.specs.declared.outcome.Turn.TheVariants as turned
use Rattle.txs_machine_actor.proofs.Striding.{as_many, comes_home}
use Rattle.txs_machine_turn.proofs.pace.come_home.Goals as goal

pub hand_in-requires-clause-value : goal.hand_in-requires-clause-value
hand_in-requires-clause-value c =
    let v = comes_home c.args.code.now c.args.actor.now c.requires.may c.requires.answered c.requires.runs c.requires.hands_over c.body.result.now c.body.ensures (as_many c.spans-spans.result.now c.body.result.now.spans (length c.body.result.now.instrs) c.spans-spans.ensures.value c.spans-spans.ensures.as_many) in
    subst (λ (x : PlainActor). 0 < length x.values) (sym c.count.ensures) v.value

pub hand_in-requires-clause-evaluating : goal.hand_in-requires-clause-evaluating
hand_in-requires-clause-evaluating c =
    let v = comes_home c.args.code.now c.args.actor.now c.requires.may c.requires.answered c.requires.runs c.requires.hands_over c.body.result.now c.body.ensures (as_many c.spans-spans.result.now c.body.result.now.spans (length c.body.result.now.instrs) c.spans-spans.ensures.value c.spans-spans.ensures.as_many) in
    subst (λ (x : PlainActor). IsEvaluating x.role x.tx) (sym c.count.ensures) v.evaluating

pub returns-clause-turns : goal.returns-clause-turns
returns-clause-turns c =
    let v = comes_home c.args.code.now c.args.actor.now c.requires.may c.requires.answered c.requires.runs c.requires.hands_over c.body.result.now c.body.ensures (as_many c.spans-spans.result.now c.body.result.now.spans (length c.body.result.now.instrs) c.spans-spans.ensures.value c.spans-spans.ensures.as_many) in
    subst (λ (x : PlainActor). Turns c.args.code.now c.args.actor.now turned.Went x) (sym (c.hand_in.ensures ∙ ap (λ (x : PlainActor). hands_in x x.tx) c.count.ensures)) v.turns

pub returns-clause-lives : goal.returns-clause-lives
returns-clause-lives c =
    let v = comes_home c.args.code.now c.args.actor.now c.requires.may c.requires.answered c.requires.runs c.requires.hands_over c.body.result.now c.body.ensures (as_many c.spans-spans.result.now c.body.result.now.spans (length c.body.result.now.instrs) c.spans-spans.ensures.value c.spans-spans.ensures.as_many) in
    inr (subst (λ (x : PlainActor). Attends c.args.code.now x) (sym (c.hand_in.ensures ∙ ap (λ (x : PlainActor). hands_in x x.tx) c.count.ensures)) v.attends)
