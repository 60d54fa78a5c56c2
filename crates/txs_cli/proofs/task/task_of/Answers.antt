use Rattle.std.proofs.Common.{◌∙◌, ◌&&◌, ℕ, Bool, List, [], ap, sym}
use Rattle.txs_cli.proofs.task.task_of.Goals as goal
use Rattle.txs_cli.specs.Runs.{Workers}
use Rattle.txs_cli.specs.Source as source
use Rattle.txs_cli.specs.Source.{Source, source_of}
use Rattle.txs_cli.specs.Telling.{Task, Say, Do, Schedule, Check, Listing, Build, Run, source_in, task_of, unless}

pub returns-in-Check : goal.returns-in-Check
returns-in-Check c = ap (λ n. Do (source.OfScript n) Check) c.explained_as.ensures ∙ ap task_of (sym c.in-Check.is)

pub returns-in-List : goal.returns-in-List
returns-in-List c = ap (λ (s : Source). Do s Listing) c.source_in.ensures ∙ ap task_of (sym c.in-List.is)

pub returns-in-Build : goal.returns-in-Build
returns-in-Build c = ap (λ n. Do (source.OfScript n) Build) c.explained_as-in-Build.ensures ∙ ap task_of (sym c.in-Build.is)

pub returns-in-Run : goal.returns-in-Run
returns-in-Run c =
    let r = c.in-Run in
    let task : Source → Task = λ s. Do s (Run (Workers r.workers) r.options) in
    c.unless.ensures ∙ ap (λ (b : Bool). unless b (task (source_of c.source_in-source.result))) c.audits_code.ensures ∙ ap (λ (s : Source). unless (r.options.audit && r.input.code) (task s)) c.source_in-source.ensures ∙ ap task_of (sym r.is)

pub returns-in-Schedule : goal.returns-in-Schedule
returns-in-Schedule c =
    let r = c.in-Schedule in
    let task : Source → List ℕ → Task = λ s turns. Schedule s turns r.options in
    let turns = c.as_str.result.now in
    let wrong = r.options.audit && r.input.code in
    c.unless-in-Schedule.ensures ∙ ap (λ (b : Bool). unless b (task (source_of c.source_in-in-Schedule.result) turns)) c.audits_code-in-Schedule.ensures
    ∙ ap (λ (s : Source). unless wrong (task s turns)) c.source_in-in-Schedule.ensures
    ∙ ap (λ (l : List ℕ). unless wrong (task (source_in r.input) l)) c.as_str.ensures.value
    ∙ ap task_of (sym r.is)

pub returns-in-Shown : goal.returns-in-Shown
returns-in-Shown c = ap (λ (l : List ℕ). Say (record { output = l; errors = []; status = 0 })) c.as_str-in-Shown.ensures.value ∙ ap task_of (sym c.in-Shown.is)

pub returns-in-Faulty : goal.returns-in-Faulty
returns-in-Faulty c = ap (λ (l : List ℕ). Say (record { output = []; errors = l; status = 2 })) c.as_str-in-Faulty.ensures.value ∙ ap task_of (sym c.in-Faulty.is)
