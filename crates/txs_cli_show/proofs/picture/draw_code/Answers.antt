use Rattle.std.proofs.Common.{◌++◌, ◌∙◌, ℕ, List, ap, subst, sym}
use Rattle.std.specs.Option.{IfSome}
use Rattle.std.specs.Prelude.{IsUtf8}
use Rattle.txs_cli_show.proofs.picture.draw_code.Goals as goal
use Rattle.txs_cli_show.specs.Shown.{IsListed}

pub returns : goal.returns
returns c =
    let a = c.args in
    let code = a.code.now in
    let run = c.in-Some.run' in
    let text = c.in_ok-write_timeline.ensures.text in
    let listed : IsListed code a.list.now a.steps run.report run.notes.items = subst (λ s. IfSome s (λ r. IsListed code a.list.now a.steps r.report r.notes.items)) c.in-Some.is c.in_ok-run.ensures in
    record {
      report = run.report;
      notes = run.notes.items;
      listed = listed;
      utf8 = subst IsUtf8 (sym (text.is ∙ ap (λ (l : List ℕ). l ++ text.text) c.new-picture.ensures.items)) text.utf8;
    }
