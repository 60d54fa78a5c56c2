use Rattle.std.proofs.Common.{◌∙◌, ap, length}
use Rattle.txs_world_book.proofs.Sizes.{fits_place}
use Rattle.txs_audit_book.specs.Replayed.{PlainReplay, value_there}
use Rattle.txs_audit_book.proofs.replay.Replay.newest.Goals as goal

pub overflow_cast-events : goal.overflow_cast-events
overflow_cast-events c = fits_place _ c.self.invariant.few

pub returns : goal.returns
returns c = c.value_at.ensures ∙ ap (λ n. value_there c.args.self.now c.args.number n) (ap (λ (r : PlainReplay). length r.book) c.self.view_is)
