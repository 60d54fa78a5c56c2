use Rattle.std.proofs.Common.{length, ap, sym, subst}
use Rattle.txs_code_meaning.specs.PlainCode.{parameters_of}
use Rattle.txs_verify.specs.Verdict.{AreWalkedThreads}
use Rattle.txs_verify.proofs.Roomy.{thread_none}
use Rattle.txs_verify.proofs.bodies.walk_threads.Goals as goal

pub loop-n-init : goal.loop-n-init
loop-n-init c =
    let bs = c.args.threads.now in
    let ps = parameters_of c.args.functions.now in
    record {
      many = ap length c.requires.no_rooms;
      walked = subst (λ x. AreWalkedThreads c.args.kinds.now ps bs x) (sym c.requires.no_rooms) (thread_none c.args.kinds.now ps bs);
    }

pub thread_at-requires-clause-few : goal.thread_at-requires-clause-few
thread_at-requires-clause-few c = c.requires.few
