use Rattle.std.proofs.Common.{◌≡◌, ◌∙◌, List, ap, sym}
use Rattle.txs_cli_report.specs.Lent.{lines_of}
use Rattle.txs_cli_report.specs.Lines.{all_printed}
use Rattle.txs_world_protocol.specs.declared.report.ActorReport.{ActorReport}
use Rattle.txs_cli.proofs.Recording.{behind_same}
use Rattle.txs_cli.proofs.record.is_told.Goals as goal

pub returns : goal.returns
returns c = λ same.
    let again = c.args.again.now in
    let report = c.args.report.now in
    let threads : all_printed again.threads.items ≡ all_printed report.threads.items =
    ap (λ (l : List ActorReport). all_printed l) (sym c.as_slice.ensures.value) ∙ c.same_printed-threads.ensures c.if-not-threads.false ∙ ap (λ (l : List ActorReport). all_printed l) c.as_slice-2.ensures.value
    in
    let agents : all_printed again.agents.items ≡ all_printed report.agents.items =
    ap (λ (l : List ActorReport). all_printed l) (sym c.as_slice-3.ensures.value) ∙ c.same_printed.ensures same ∙ ap (λ (l : List ActorReport). all_printed l) c.as_slice-4.ensures.value
    in
    behind_same again.threads.items again.agents.items report.threads.items report.agents.items (lines_of again) (lines_of c.args.lines.now) (c.same_lines-lines.ensures c.if-not-lines.false) threads agents
