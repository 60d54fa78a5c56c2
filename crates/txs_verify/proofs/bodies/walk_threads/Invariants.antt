use Rattle.std.proofs.Common.{◌≡◌, length}
use Rattle.txs_code_meaning.specs.PlainCode.{parameters_of}
use Rattle.txs_verify.specs.Verdict.{AreWalkedThreads}
use Rattle.txs_verify.proofs.bodies.walk_threads.Given as goal

abbrev pub invariant-loop-n : goal.invariant-loop-n
invariant-loop-n l =
    record {
      many : length l.rooms.items ≡ l.n;
      walked : AreWalkedThreads l.kinds (parameters_of l.functions) l.threads l.rooms.items;
    }
