use Rattle.txs_audit_event.proofs.Answered.{known_by}
use Rattle.txs_audit_event.proofs.meant.is_known.Goals as goal

pub returns : goal.returns
returns c = known_by c.args.meant.now c.args.events c.args.bound c.args.turns c.wants_turns.result c.wants_turns.ensures.more c.wants_turns.ensures.enough
