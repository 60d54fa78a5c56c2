use Rattle.std.proofs.Common.{◌≡◌, ◌+◌, drop}
use Rattle.std.specs.List.{position_or_len}
use Rattle.txs_reader.specs.Tree.{place, trees}
use Rattle.txs_cli_advice_script.specs.Surroundings.{covers}
use Rattle.txs_cli_advice_script.proofs.around.index_of.Given as goal

abbrev pub invariant-loop-i : goal.invariant-loop-i
invariant-loop-i l = position_or_len (λ form. covers (place form) l.at) (trees l.forms) ≡ l.i + position_or_len (λ form. covers (place form) l.at) (trees (drop l.i l.forms))
