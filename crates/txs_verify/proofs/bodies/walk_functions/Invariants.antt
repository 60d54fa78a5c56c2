use Rattle.std.proofs.Common.{◌≡◌, length}
use Rattle.txs_code_meaning.specs.PlainCode.{parameters_of}
use Rattle.txs_verify.specs.Verdict.{AreWalked}
use Rattle.txs_verify.proofs.bodies.walk_functions.Given as goal

abbrev pub invariant-loop-n : goal.invariant-loop-n
invariant-loop-n l =
    record {
      many : length l.kinds.items ≡ l.n;
      walked : AreWalked (parameters_of l.functions) l.functions l.kinds.items l.rooms.items;
    }
