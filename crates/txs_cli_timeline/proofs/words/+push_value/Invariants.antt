use Rattle.std.proofs.Common.{◌+◌, ◌*◌}
use Rattle.txs_cli_timeline.proofs.words.+push_value.Given as goal

-- values are written no deeper than so many levels
abbrev pub decreases-push_levels : goal.decreases-push_levels
decreases-push_levels l = 2 * l.levels

abbrev pub decreases-push_items : goal.decreases-push_items
decreases-push_items l = 2 * l.levels + 1
