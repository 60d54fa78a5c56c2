-- Events as the evaluators get them.
use Rattle.std.specs.Prelude.{List, map}
use Rattle.txs_world_protocol.specs.SeenEvent.{SeenEvent}
use Rattle.txs_tree_eval_transaction.specs.Views.{plain_view, world_of}
use Rattle.txs_tree_eval_node.specs.declared.seen.Seen.{Seen}

-- the plain event of one that they get
abbrev pub seen_event : Seen → SeenEvent
seen_event e = record { book = e.book; kind = e.kind.now; R = world_of (plain_view e.start); Q = world_of (plain_view e.view); C = world_of (plain_view e.here) }

-- the plain events of those that they get
abbrev pub seen_events : List Seen → List SeenEvent
seen_events es = map seen_event es
