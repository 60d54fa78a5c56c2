use Rattle.std.proofs.Common.{ap, ◌∙◌, ◌==◌}
use Rattle.txs_world_book.specs.Stands.{mark_at}
use Rattle.txs_audit_book.proofs.stands.mark.Goals as goal

pub returns : goal.returns
returns c = λ b. c.mark.ensures b ∙ ap (mark_at c.args.counts (c.args.actor == b) c.args.events) (c.in_ok-make_room.ensures.same b)
