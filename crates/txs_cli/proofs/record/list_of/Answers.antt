use Rattle.std.proofs.Common.{◌++◌, ℕ, List, subst}
use Rattle.txs_cli_report.specs.Lent.{lines_of, script_of}
use Rattle.txs_cli_report.specs.Lines.{all_printed}
use Rattle.txs_cli_report.specs.Told.{Told, behind_bytes}
use Rattle.txs_cli.proofs.record.list_of.Goals as goal
use Rattle.txs_cli.specs.Recorded.{whole}
use Rattle.txs_cli.specs.Runs.{nobody}
use Rattle.txs_cli.specs.Source.{OfScript}
use Rattle.txs_cli.specs.Telling.{ScheduleTells}

pub returns-then-branch : goal.returns-then-branch
returns-then-branch c =
    let report = c.args.report.now in
    let script = script_of c.args.script in
    let all : Told = behind_bytes (all_printed (report.threads.items ++ report.agents.items)) (lines_of c.args.lines.now) in
    subst (λ (l : List ℕ). ScheduleTells nobody (OfScript script.file) script.text l (whole c.args.options) all) c.as_str.ensures.value (c.in_ok-repeats.ensures c.if-branch.true)
