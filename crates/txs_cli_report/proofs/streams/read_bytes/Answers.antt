use Rattle.std.proofs.Common.{ap, ◌∙◌}
use Rattle.txs_cli_report.proofs.Fronts.{taken_by}
use Rattle.txs_cli_report.proofs.streams.read_bytes.Goals as goal

pub returns-in-Ok : goal.returns-in-Ok
returns-in-Ok g c =
    let is = c.new.ensures.inner in
    taken_by c.new.result.inner.inner _ (λ r. g.R.Read.remaining r.now) c.new.result.inner.limit 1048577 c.new-bytes.result.items c.read_to_end.new.buf.items
    (ap (λ t. t.inner) is ∙ c.take-front.ensures.inner) c.new-bytes.ensures.items (ap (λ t. t.limit) is ∙ c.take-front.ensures.limit) c.in-Ok.ensures.bytes
