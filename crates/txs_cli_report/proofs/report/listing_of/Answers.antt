use Rattle.std.proofs.Common.{◌++◌, ◌∙◌, ap}
use Rattle.txs_disasm.specs.Listing.{listing}
use Rattle.txs_cli_report.proofs.report.listing_of.Goals as goal

pub returns-in-Ok : goal.returns-in-Ok
returns-in-Ok c =
    let e = c.answer.ensures in
    record { output = e.whole ∙ c.in-Ok.ensures.whole ∙ ap (λ l. l ++ listing c.args.code.now) c.new-output.ensures.items; errors = e.errors; status = e.status }
