use Rattle.std.proofs.Common.{List, [], ℕ, IfSome, codes, sym, subst}
use Rattle.txs_cli_report.proofs.Fronts.{ok_maps, some_maps}
use Rattle.txs_cli_report.specs.Lent.{told_of}
use Rattle.txs_cli_report.specs.Told.{Told, IsTold}
use Rattle.txs_cli.proofs.Answered.{unread_told}
use Rattle.txs_cli.proofs.Loading.{refused_so, used_so}
use Rattle.txs_cli.proofs.program.use_source.Goals as goal
use Rattle.txs_cli.specs.Runs.{Failures, failing}
use Rattle.txs_cli.specs.Source.{IsReadOf, RefusalTells, script_at, source_of, source_text}
use Rattle.txs_cli.specs.Telling.{SourceTells, UseTells, of_unread, use_of}

pub returns-in-Ok-load : goal.returns-in-Ok-load
returns-in-Ok-load g c =
    let f : Failures = failing (goal.X-post g c.args.runner.now) (goal.A-post g c.args.auditor.now) in
    let known = g.R.Read.remaining c.args.reader.now in
    let s = source_of c.args.source in
    let wanted = use_of c.args.wanted in
    let text = c.as_slice-text.result.now in
    let l = c.in-Ok-load.loaded in
    let tells : List ℕ → Told → Type 0 = λ input t. SourceTells f s (source_text s input) wanted t in
    ok_maps c.tell.result (λ t. UseTells f (script_at s text) l.program l.code wanted (told_of t)) (λ t. IfSome known (λ input. tells input (told_of t)))
    (λ t told. some_maps known (λ input. IsReadOf s (source_text s input) c.in-Ok.bytes.items) (λ input. tells input (told_of t))
    (λ input is. used_so f s (source_text s input) text wanted (told_of t) l.program l.code (subst (λ (x : List ℕ). IsReadOf s (source_text s input) x) (sym c.as_slice-text.ensures.value) is) c.in-Ok-load.ensures.loaded told) c.in-Ok.ensures) c.tell.ensures

pub returns-in-Ok : goal.returns-in-Ok
returns-in-Ok g c =
    let f : Failures = failing (goal.X-post g c.args.runner.now) (goal.A-post g c.args.auditor.now) in
    let known = g.R.Read.remaining c.args.reader.now in
    let s = source_of c.args.source in
    let wanted = use_of c.args.wanted in
    let text = c.as_slice-text.result.now in
    let tells : List ℕ → Told → Type 0 = λ input t. SourceTells f s (source_text s input) wanted t in
    ok_maps c.tell_refusal.result (λ t. RefusalTells s text (told_of t)) (λ t. IfSome known (λ input. tells input (told_of t)))
    (λ t told. some_maps known (λ input. IsReadOf s (source_text s input) c.in-Ok.bytes.items) (λ input. tells input (told_of t))
    (λ input is. refused_so f s (source_text s input) text wanted (told_of t) (subst (λ (x : List ℕ). IsReadOf s (source_text s input) x) (sym c.as_slice-text.ensures.value) is) told) c.in-Ok.ensures) c.tell_refusal.ensures

pub returns : goal.returns
returns g c =
    let f : Failures = failing (goal.X-post g c.args.runner.now) (goal.A-post g c.args.auditor.now) in
    let s = source_of c.args.source in
    let tells : List ℕ → Told → Type 0 = λ input t. SourceTells f s (source_text s input) (use_of c.args.wanted) t in
    unread_told c.unread.result (g.R.Read.remaining c.args.reader.now) (IsTold [] (codes "read failed\n") 2) tells (λ input t told. of_unread told) c.unread.ensures
