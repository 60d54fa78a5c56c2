use Rattle.std.proofs.Common.{IfOk, [], sym, subst}
use Rattle.txs_cli_report.specs.Lent.{told_of}
use Rattle.txs_cli_report.specs.Told.{IsTold}
use Rattle.txs_code_meaning.specs.PlainCode.{PlainCode}
use Rattle.txs_disasm.specs.Listing.{listing}
use Rattle.txs_cli.proofs.Loading.{has_form}
use Rattle.txs_cli.proofs.tell.tell.Goals as goal
use Rattle.txs_cli.specs.Runs.{Failures, failing}
use Rattle.txs_cli.specs.Source.{script_at, source_of}
use Rattle.txs_cli.specs.Telling.{UseTells, use_of}
use Rattle.txs_cli.specs.declared.tell.Use.{Use}

pub form_of-requires : goal.form_of-requires
form_of-requires g c = has_form (source_of c.args.source) c.args.text.now c.args.loaded.now.program c.args.loaded.now.code c.requires.loaded

pub returns-in-Check : goal.returns-in-Check
returns-in-Check g c =
    let f : Failures = failing (goal.X-post g c.args.runner.now) (goal.A-post g c.args.auditor.now) in
    let l = c.args.loaded.now in
    subst (λ (u : Use). IfOk c.accepted.result (λ t. UseTells f (script_at (source_of c.args.source) c.args.text.now) l.program l.code (use_of u) (told_of t))) (sym c.in-Check.is) c.accepted.ensures

pub returns-in-Listing : goal.returns-in-Listing
returns-in-Listing g c =
    let f : Failures = failing (goal.X-post g c.args.runner.now) (goal.A-post g c.args.auditor.now) in
    let l = c.args.loaded.now in
    subst (λ (u : Use). IfOk c.listing_of.result (λ t. UseTells f (script_at (source_of c.args.source) c.args.text.now) l.program l.code (use_of u) (told_of t))) (sym c.in-Listing.is)
    (subst (λ (d : PlainCode). IfOk c.listing_of.result (λ t. IsTold (listing d) [] 0 (told_of t))) c.code.ensures.value c.listing_of.ensures)

pub returns-in-Build : goal.returns-in-Build
returns-in-Build g c =
    let f : Failures = failing (goal.X-post g c.args.runner.now) (goal.A-post g c.args.auditor.now) in
    let l = c.args.loaded.now in
    subst (λ (u : Use). IfOk c.form_of.result (λ t. UseTells f (script_at (source_of c.args.source) c.args.text.now) l.program l.code (use_of u) (told_of t))) (sym c.in-Build.is) c.form_of.ensures

pub returns-in-Run : goal.returns-in-Run
returns-in-Run g c =
    let f : Failures = failing (goal.X-post g c.args.runner.now) (goal.A-post g c.args.auditor.now) in
    let l = c.args.loaded.now in
    subst (λ (u : Use). IfOk c.run_loaded.result (λ t. UseTells f (script_at (source_of c.args.source) c.args.text.now) l.program l.code (use_of u) (told_of t))) (sym c.in-Run.is) c.run_loaded.ensures
