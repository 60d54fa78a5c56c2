use Rattle.std.proofs.Common.{◌≡◌, ℕ, List, IfSome, refl, sym, subst, subst₂}
use Rattle.txs_cli_report.proofs.Fronts.{kept, some_always}
use Rattle.txs_cli_report.specs.Told.{Told, Written}
use Rattle.txs_cli.proofs.Answered.{answer_written}
use Rattle.txs_cli.proofs.program.perform.Goals as goal
use Rattle.txs_cli.specs.Runs.{Failures, failing}
use Rattle.txs_cli.specs.Source.{source_of, source_text}
use Rattle.txs_cli.specs.Telling.{ReadsNothing, ScheduleTells, SourceTells, TaskTells, task_in, use_of}
use Rattle.txs_cli.specs.declared.task.Task.{Task}

-- what is said is written, and nothing is read
pub returns-in-Say-clause-unread : goal.returns-in-Say-clause-unread
returns-in-Say-clause-unread g c = λ nothing. kept (g.R.Read.remaining c.args.reader.now)

pub returns-in-Say-clause-told : goal.returns-in-Say-clause-told
returns-in-Say-clause-told g c =
    let f : Failures = failing (goal.X-post g c.args.runner.now) (goal.A-post g c.args.auditor.now) in
    let known = g.R.Read.remaining c.args.reader.now in
    let w = c.write_told in
    let writes : Told → Type 0 = λ t. Written (g.W.Write.contents c.args.writer.now) (g.W.Write.contents w.new.writer) (g.F.Write.contents c.args.faults.now) (g.F.Write.contents w.new.faults) t w.result in
    let s = c.in-Say in
    let said : Told = record { output = s.output.now; errors = s.errors.now; status = s.status } in
    let written : writes said = subst₂ (λ (o : List ℕ) (e : List ℕ). writes (record { output = o; errors = e; status = s.status })) c.as_bytes-output.ensures.value c.as_bytes.ensures.value w.ensures in
    subst (λ (task : Task). IfSome known (λ input. (t : Told) × TaskTells f input (task_in task) t × writes t)) (sym s.is) (some_always known (λ input. (t : Told) × (t ≡ said) × writes t) (λ input. (said, refl, written)))

pub returns-in-Do-clause-unread : goal.returns-in-Do-clause-unread
returns-in-Do-clause-unread g c = λ nothing. absurd (subst (λ (task : Task). ReadsNothing (task_in task)) c.in-Do.is nothing)

pub returns-in-Do-clause-told : goal.returns-in-Do-clause-told
returns-in-Do-clause-told g c =
    let f : Failures = failing (goal.X-post g c.args.runner.now) (goal.A-post g c.args.auditor.now) in
    let known = g.R.Read.remaining c.args.reader.now in
    let w = c.write_answer in
    let writes : Told → Type 0 = λ t. Written (g.W.Write.contents c.args.writer.now) (g.W.Write.contents w.new.writer) (g.F.Write.contents c.args.faults.now) (g.F.Write.contents w.new.faults) t w.result in
    let s = source_of c.in-Do.source in
    let told = c.use_source-told in
    subst (λ (task : Task). IfSome known (λ input. (t : Told) × TaskTells f input (task_in task) t × writes t)) (sym c.in-Do.is)
    (answer_written told.result known (λ input t. SourceTells f s (source_text s input) (use_of c.in-Do.wanted) t) writes told.ensures w.ensures)

pub returns-in-Schedule-clause-unread : goal.returns-in-Schedule-clause-unread
returns-in-Schedule-clause-unread g c = λ nothing. c.schedule-told.ensures.unread (subst (λ (task : Task). ReadsNothing (task_in task)) c.in-Schedule.is nothing)

pub returns-in-Schedule-clause-told : goal.returns-in-Schedule-clause-told
returns-in-Schedule-clause-told g c =
    let f : Failures = failing (goal.X-post g c.args.runner.now) (goal.A-post g c.args.auditor.now) in
    let known = g.R.Read.remaining c.args.reader.now in
    let w = c.write_answer-in-Schedule in
    let writes : Told → Type 0 = λ t. Written (g.W.Write.contents c.args.writer.now) (g.W.Write.contents w.new.writer) (g.F.Write.contents c.args.faults.now) (g.F.Write.contents w.new.faults) t w.result in
    let asked = c.in-Schedule in
    let s = source_of asked.source in
    let told = c.schedule-told in
    subst (λ (task : Task). IfSome known (λ input. (t : Told) × TaskTells f input (task_in task) t × writes t)) (sym asked.is)
    (answer_written told.result known (λ input t. ScheduleTells f s (source_text s input) asked.turns.now asked.options t) writes told.ensures.told w.ensures)
