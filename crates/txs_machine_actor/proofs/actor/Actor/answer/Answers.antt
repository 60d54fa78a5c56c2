use Rattle.std.proofs.Common.{◌≡◌, None, sym, subst, rules}
use Rattle.txs_machine_actor.specs.PlainActor.{PlainActor, Lives, unanswered}
use Rattle.txs_machine_actor.proofs.Answering.{answered_runs, takes_in}
use Rattle.txs_machine_actor.proofs.Attending.{attends_takes, attends_lands, runs_or}
use Rattle.txs_machine_actor.proofs.Following.{free_by}
use Rattle.txs_machine_actor.proofs.actor.Actor.answer.Goals as goal

-- in an agent's own body
pub take_answer-requires : goal.take_answer-requires
take_answer-requires c = attends_takes c.args.code.now c.args.self.now c.args.reply c.requires.lives (c.is_attending.ensures.yes c.if-is_attending.true) c.requires.answers

pub returns-then-is_attending-clause-lives : goal.returns-then-is_attending-clause-lives
returns-then-is_attending-clause-lives c =
    subst (λ (x : PlainActor). Lives c.args.code.now x) (sym c.take_answer.ensures) (attends_lands c.args.code.now c.args.self.now c.args.reply c.requires.lives (c.is_attending.ensures.yes c.if-is_attending.true) c.requires.answers c.requires.hands_out)

pub returns-then-is_attending-clause-free : goal.returns-then-is_attending-clause-free
returns-then-is_attending-clause-free c =
    subst (λ (x : PlainActor). unanswered x ≡ None) (sym c.take_answer.ensures) (free_by c.args.self.now c.args.self.now.pending c.args.reply c.requires.answers)

-- in a body of the code
pub body-body-requires : goal.body-body-requires
body-body-requires c = runs_or c.args.code.now c.args.self.now c.requires.lives (c.is_attending.ensures.no c.if-is_attending.false)

pub take_answer-requires-2 : goal.take_answer-requires-2
take_answer-requires-2 c =
    let runs = runs_or c.args.code.now c.args.self.now c.requires.lives (c.is_attending.ensures.no c.if-is_attending.false) in
    takes_in c.args.code.now c.args.self.now c.args.reply runs c.requires.answers c.body-body.result.now c.instrs.result.now c.body-body.ensures (first_of (search rules, cc))

pub returns-clause-lives : goal.returns-clause-lives
returns-clause-lives c =
    let runs = runs_or c.args.code.now c.args.self.now c.requires.lives (c.is_attending.ensures.no c.if-is_attending.false) in
    subst (λ (x : PlainActor). Lives c.args.code.now x) (sym c.take_answer-2.ensures) (answered_runs c.args.code.now c.args.self.now c.args.reply runs c.requires.answers)

pub returns-clause-free : goal.returns-clause-free
returns-clause-free c =
    subst (λ (x : PlainActor). unanswered x ≡ None) (sym c.take_answer-2.ensures) (free_by c.args.self.now c.args.self.now.pending c.args.reply c.requires.answers)
