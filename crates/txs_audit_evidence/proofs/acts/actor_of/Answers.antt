use Rattle.txs_audit_evidence.proofs.Acting.{actor_fits, actor_is, threads_fit}
use Rattle.txs_audit_evidence.proofs.acts.actor_of.Goals as goal

pub overflow_cast-result : goal.overflow_cast-result
overflow_cast-result c = threads_fit c.args.books.now c.program-program.result.now c.threads.result.now c.args.agent c.requires c.are_legal.ensures c.program-program.ensures c.threads.ensures.value c.is_sound.ensures

pub overflow_add-result : goal.overflow_add-result
overflow_add-result c = actor_fits c.args.books.now c.program-program.result.now c.threads.result.now c.args.agent c.requires c.are_legal.ensures c.program-program.ensures c.threads.ensures.value c.is_sound.ensures

pub returns : goal.returns
returns c = actor_is c.args.books.now c.program-program.result.now c.threads.result.now c.args.agent c.requires c.are_legal.ensures c.program-program.ensures c.threads.ensures.value c.is_sound.ensures
