use Rattle.std.proofs.Common.{◌≡◌, ◌∙◌, ◌==◌, List, ap, length, sym, true, false}
use Rattle.txs_world_protocol.specs.declared.report.ActorReport.{ActorReport}
use Rattle.txs_cli_report.specs.Lent.{script_of}
use Rattle.txs_cli_report.specs.Lines.{AreLessons, AreThreadsTold, status_from}
use Rattle.txs_cli_report.proofs.Fronts.{ok_maps}
use Rattle.txs_cli_report.proofs.Threads.{no_thread, no_thread_status, some_threads}
use Rattle.txs_cli_report.proofs.told.of_threads.Goals as goal

pub returns-then-is_empty-clause-errors : goal.returns-then-is_empty-clause-errors
returns-then-is_empty-clause-errors c =
    let script = script_of c.args.script in
    let rs = c.args.report.now.threads.items in
    let none : (length rs == 0) ≡ true = ap (λ (xs : List ActorReport). length xs == 0) (sym c.as_slice.ensures.value) ∙ sym c.is_empty.ensures ∙ c.if-is_empty.true in
    ok_maps c.of_none.result _ (λ t. AreThreadsTold script rs t.errors.items) (λ t told. no_thread script rs t.errors.items none told) c.of_none.ensures.errors

pub returns-then-is_empty-clause-status : goal.returns-then-is_empty-clause-status
returns-then-is_empty-clause-status c =
    let rs = c.args.report.now.threads.items in
    let none : (length rs == 0) ≡ true = ap (λ (xs : List ActorReport). length xs == 0) (sym c.as_slice.ensures.value) ∙ sym c.is_empty.ensures ∙ c.if-is_empty.true in
    ok_maps c.of_none.result (λ t. t.status ≡ 0) (λ t. t.status ≡ status_from 0 rs) (λ t is. is ∙ no_thread_status rs none) c.of_none.ensures.status

pub returns-clause-errors : goal.returns-clause-errors
returns-clause-errors c =
    let script = script_of c.args.script in
    let rs = c.args.report.now.threads.items in
    let some : (length rs == 0) ≡ false = ap (λ (xs : List ActorReport). length xs == 0) (sym c.as_slice.ensures.value) ∙ sym c.is_empty.ensures ∙ c.if-is_empty.false in
    ok_maps c.of_ends.result (λ t. AreLessons script 0 rs t.errors.items) (λ t. AreThreadsTold script rs t.errors.items) (λ t told. some_threads script rs t.errors.items some told) c.of_ends.ensures.errors
