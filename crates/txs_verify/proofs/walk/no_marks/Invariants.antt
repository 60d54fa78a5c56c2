use Rattle.std.proofs.Common.{◌≡◌, vec_capacity, vec_len}
use Rattle.txs_verify.specs.Going.{no_marks}
use Rattle.txs_verify.proofs.walk.no_marks.Given as goal

abbrev pub invariant-loop-at : goal.invariant-loop-at
invariant-loop-at l =
    record {
      items : l.marks.items ≡ no_marks l.at;
      long : vec_len l.marks ≡ l.at;
      room : vec_capacity l.marks ≡ l.places;
    }
