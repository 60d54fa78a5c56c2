use Rattle.std.proofs.Common.{refl}
use Rattle.txs_cli.specs.Telling.{AloneTells, ArgsTell, of_memory, of_request}
use Rattle.txs_cli_report.specs.Told.{Told, Written}
use Rattle.txs_cli_report.proofs.Fronts.{some_always, some_maps}
use Rattle.txs_cli.proofs.program.play.Goals as goal

pub returns-in-Ok : goal.returns-in-Ok
returns-in-Ok g c =
    let known = g.R.Read.remaining c.args.reader.now in
    let ran = c.play_words-status in
    let writes : Told → Type 0 = λ t. Written (g.W.Write.contents c.args.writer.now) (g.W.Write.contents ran.new.writer) (g.F.Write.contents c.args.faults.now) (g.F.Write.contents ran.new.faults) t ran.result in
    some_maps known (λ input. (t : Told) × AloneTells input c.in-Ok.request t × writes t)
    (λ input. (t : Told) × ArgsTell input t × writes t)
    (λ input h. (h.0, of_request c.in-Ok.request h.1, h.2)) ran.ensures.told

pub returns-in-Err : goal.returns-in-Err
returns-in-Err g c =
    let known = g.R.Read.remaining c.args.reader.now in
    let w = c.write_told in
    let writes : Told → Type 0 = λ t. Written (g.W.Write.contents c.args.writer.now) (g.W.Write.contents w.new.writer) (g.F.Write.contents c.args.faults.now) (g.F.Write.contents w.new.faults) t w.result in
    some_always known (λ input. (t : Told) × ArgsTell input t × writes t) (λ input. (_, of_memory (record { output = refl; errors = refl; status = refl }), w.ensures))
