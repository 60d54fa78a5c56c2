use Rattle.txs_code_meaning.specs.PlainCode.{parameters_of}
use Rattle.std.proofs.Common.{◌≡◌, false}
use Rattle.txs_verify.proofs.Ends.{kept_so, paths_wrong}
use Rattle.txs_verify.proofs.bodies.function_at.Goals as goal

pub add_function-requires-clause-right : goal.add_function-requires-clause-right
add_function-requires-clause-right c = λ b stands. c.requires.right c.args.n b c.requires.place stands

pub returns-in-Err-clause-wrong : goal.returns-in-Err-clause-wrong
returns-in-Err-clause-wrong c = paths_wrong c.args.kinds.now.items _ (parameters_of c.args.functions.now) c.args.functions.now c.args.n c.requires.place c.in-Err.stop c.stopped.result c.stopped.ensures c.in-Err.ensures.wrong

pub add_function-requires-clause-few : goal.add_function-requires-clause-few
add_function-requires-clause-few c = λ b stands. c.requires.few c.args.n b stands

pub returns-in-Err-clause-kept : goal.returns-in-Err-clause-kept
returns-in-Err-clause-kept c = kept_so (c.add_function.new.kinds.items ≡ c.args.kinds.now.items) false c.args.n c.in-Err.stop c.stopped.result c.stopped.ensures c.in-Err.ensures.kept
