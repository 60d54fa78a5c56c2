use Rattle.std.proofs.Common.{◌++◌, ℕ, List, subst}
use Rattle.std.proofs.KnownBytes.{Appends-trans}
use Rattle.std.specs.Io.KnownBytes.{Appends}
use Rattle.txs_cli_report.proofs.Begun.{begun_longer, begun_more}
use Rattle.txs_cli_report.proofs.Printing.{printed_told}
use Rattle.txs_cli_report.specs.Lines.{all_printed}
use Rattle.txs_cli_report.specs.Told.{IsBegun}
use Rattle.txs_disasm.proofs.SentLemmas.{err_maps, ok_maps, on_err}
use Rattle.txs_cli_report.proofs.output.write_output.Goals as goal

pub returns-in_err-write_printed-clause-begun : goal.returns-in_err-write_printed-clause-begun
returns-in_err-write_printed-clause-begun g c =
    let old = g.W.Write.contents c.args.writer.now in
    let threads = c.args.threads.now in
    let agents = c.args.agents.now in
    let lines = c.args.lines.now in
    on_err _ (subst (λ (l : List ℕ). IsBegun old (g.W.Write.contents c.write_printed.new.writer) l) (printed_told threads agents lines)
    (begun_longer old (g.W.Write.contents c.write_printed.new.writer) (all_printed threads) (all_printed agents ++ lines) c.in_err-write_printed.ensures.begun))

pub returns-in_err-write_printed-2-clause-begun : goal.returns-in_err-write_printed-2-clause-begun
returns-in_err-write_printed-2-clause-begun g c =
    let old = g.W.Write.contents c.args.writer.now in
    let first = g.W.Write.contents c.write_printed.new.writer in
    let second = g.W.Write.contents c.write_printed-2.new.writer in
    let threads = c.args.threads.now in
    let agents = c.args.agents.now in
    let lines = c.args.lines.now in
    on_err _ (subst (λ (l : List ℕ). IsBegun old second l) (printed_told threads agents lines)
    (begun_more old first second (all_printed threads) (all_printed agents ++ lines) c.in_ok-write_printed.ensures.whole (begun_longer first second (all_printed agents) lines c.in_err-write_printed-2.ensures.begun)))

pub returns-clause-whole : goal.returns-clause-whole
returns-clause-whole g c =
    let old = g.W.Write.contents c.args.writer.now in
    let first = g.W.Write.contents c.write_printed.new.writer in
    let second = g.W.Write.contents c.write_printed-2.new.writer in
    let new = g.W.Write.contents c.write_bytes.new.writer in
    let threads = c.args.threads.now in
    let agents = c.args.agents.now in
    let lines = c.args.lines.now in
    ok_maps c.write_bytes.result
    (λ written. subst (λ (l : List ℕ). Appends old new l) (printed_told threads agents lines)
    (Appends-trans old first new (all_printed threads) (all_printed agents ++ lines) c.in_ok-write_printed.ensures.whole (Appends-trans first second new (all_printed agents) lines c.in_ok-write_printed-2.ensures.whole written)))
    c.write_bytes.ensures.whole

pub returns-clause-begun : goal.returns-clause-begun
returns-clause-begun g c =
    let old = g.W.Write.contents c.args.writer.now in
    let first = g.W.Write.contents c.write_printed.new.writer in
    let second = g.W.Write.contents c.write_printed-2.new.writer in
    let new = g.W.Write.contents c.write_bytes.new.writer in
    let threads = c.args.threads.now in
    let agents = c.args.agents.now in
    let lines = c.args.lines.now in
    err_maps c.write_bytes.result
    (λ begun. subst (λ (l : List ℕ). IsBegun old new l) (printed_told threads agents lines)
    (begun_more old first new (all_printed threads) (all_printed agents ++ lines) c.in_ok-write_printed.ensures.whole (begun_more first second new (all_printed agents) lines c.in_ok-write_printed-2.ensures.whole begun)))
    c.write_bytes.ensures.begun
