use Rattle.txs_code_meaning.specs.PlainCode.{parameters_of}
use Rattle.txs_verify.proofs.Ends.{paths_wrong_alone}
use Rattle.txs_verify.proofs.bodies.thread_at.Goals as goal

pub add_thread-requires-clause-right : goal.add_thread-requires-clause-right
add_thread-requires-clause-right c = λ b stands. c.requires.right c.args.n b c.requires.place stands

pub returns-in-Err-clause-wrong : goal.returns-in-Err-clause-wrong
returns-in-Err-clause-wrong c = paths_wrong_alone c.args.kinds.now _ (parameters_of c.args.functions.now) c.args.threads.now c.args.n c.requires.place c.in-Err.stop c.stopped.result c.stopped.ensures c.in-Err.ensures.wrong

pub add_thread-requires-clause-few : goal.add_thread-requires-clause-few
add_thread-requires-clause-few c = λ b stands. c.requires.few c.args.n b stands
