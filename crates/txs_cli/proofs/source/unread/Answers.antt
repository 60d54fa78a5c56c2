use Rattle.std.proofs.Common.{◌≡◌, ◌++◌, [], codes}
use Rattle.txs_cli_report.proofs.Fronts.{ok_three}
use Rattle.txs_cli_report.specs.Lent.{told_of}
use Rattle.txs_cli_report.specs.Told.{IsTold}
use Rattle.txs_cli.proofs.source.unread.Goals as goal

pub returns-in-Failed : goal.returns-in-Failed
returns-in-Failed c =
    let e = c.complaint.ensures in
    ok_three c.complaint.result (λ t. (told_of t).output ≡ []) (λ t. t.errors.items ≡ codes "read failed" ++ codes "\n") (λ t. t.status ≡ 2) (λ t. IsTold [] (codes "read failed\n") 2 (told_of t))
    (λ t output errors status. record { output = output; errors = errors; status = status }) e.output e.errors e.status
