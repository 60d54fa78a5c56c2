use Rattle.std.proofs.Common.{List, ℕ}
use Rattle.txs_reader.specs.Tree.{trees}
use Rattle.txs_cli_advice_script.specs.Surroundings.{names_of}
use Rattle.txs_cli_advice_script.proofs.Nearby.{Contains-name_at, Nearest-more, Nearest-same}
use Rattle.txs_cli_advice_script.proofs.around.nearest_bound_at.Goals as goal

pub returns-then-is_before : goal.returns-then-is_before
returns-then-is_before c =
    let names : List (List ℕ) = names_of (trees c.args.items.now) in
    Nearest-more names c.name_at.result.now c.args.best c.args.best c.nearer.result (Nearest-same names c.args.best)
    (Contains-name_at c.args.items.now c.args.i c.name_at.result.now c.requires c.name_at.ensures) c.nearer.ensures.one c.nearer.ensures.nearer
