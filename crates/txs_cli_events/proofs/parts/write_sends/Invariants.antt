use Rattle.std.proofs.Common.{◌≡◌, ◌++◌, take}
use Rattle.std.specs.List.{flat_map}
use Rattle.txs_cli_events.specs.LongLines.{sent_words}
use Rattle.txs_cli_events.proofs.parts.write_sends.Given as goal

abbrev pub invariant-loop-action : goal.invariant-loop-action
invariant-loop-action l = l.out.items ≡ l.fn.out.items ++ flat_map (sent_words l.run.cells.now) (take l.action-index l.actions)
