use Rattle.std.proofs.Common.{◌≡◌, ℕ, true, Option, None, sym, subst}
use Rattle.txs_world_protocol.specs.declared.ask.Ask.{Ask}
use Rattle.txs_machine_actor.specs.PlainActor.{PlainActor, MayAnswerIf, unanswered}
use Rattle.txs_world_shared.specs.SharedState.{is_lawful}
use Rattle.txs_machine.specs.Serving.{IsServed}
use Rattle.txs_machine.proofs.RunOver.{served_may}
use Rattle.txs_machine.proofs.run.take_ask.Goals as goal

pub serve_noted-reply-requires : goal.serve_noted-reply-requires
serve_noted-reply-requires c =
    subst (λ (n : ℕ). is_lawful c.args.shared.now n c.args.ask ≡ true) (sym c.number-number.ensures) c.requires.may.lawful

pub answer-requires-clause-answers : goal.answer-requires-clause-answers
answer-requires-clause-answers c =
    subst (λ (o : Option Ask). MayAnswerIf o c.serve_noted-reply.result) (sym c.requires.asks)
    (served_may c.args.shared.now c.serve_noted-reply.new.shared c.number-number.result c.args.ask c.serve_noted-reply.result c.args.player.now.trace.items c.serve_noted-reply.new.trace.items c.serve_noted-reply.ensures)

pub answer-requires-clause-hands_out : goal.answer-requires-clause-hands_out
answer-requires-clause-hands_out c =
    let s = c.args.shared.now in
    let q = c.args.ask in
    let r = c.serve_noted-reply.result in
    let t = c.serve_noted-reply.new.shared in
    let tr = c.args.player.now.trace.items in
    let new = c.serve_noted-reply.new.trace.items in
    c.requires.may.hands r t tr new (subst (λ (n : ℕ). IsServed s n q r t tr new) c.number-number.ensures c.serve_noted-reply.ensures)

-- how the ask was answered
pub returns-clause-answered : goal.returns-clause-answered
returns-clause-answered c =
    let s = c.args.shared.now in
    let q = c.args.ask in
    let a = c.args.player.now.actor in
    let r = c.serve_noted-reply.result in
    let t = c.serve_noted-reply.new.shared in
    let tr = c.args.player.now.trace.items in
    let new = c.serve_noted-reply.new.trace.items in
    let served : IsServed s a.number q r t tr new = subst (λ (n : ℕ). IsServed s n q r t tr new) c.number-number.ensures c.serve_noted-reply.ensures in
    record {
      reply = r;
      is = c.answer.ensures.answered;
      lawful = c.requires.may.lawful;
      free = subst (λ (x : PlainActor). unanswered x ≡ None) c.answer.ensures.answered c.answer.ensures.free;
      may = served_may s t a.number q r tr new served;
      served = served;
    }
