use Rattle.std.proofs.Common.{◌≡◌, drop}
use Rattle.txs_reader.specs.Tree.{trees, trees_of}
use Rattle.txs_resolve.specs.Names.{are_symbols}
use Rattle.txs_resolve.proofs.script.are_symbols.Given as goal

abbrev pub invariant-loop-form : goal.invariant-loop-form
invariant-loop-form l = are_symbols (trees_of (trees l.forms)) ≡ are_symbols (trees_of (trees (drop l.form-index l.forms)))
