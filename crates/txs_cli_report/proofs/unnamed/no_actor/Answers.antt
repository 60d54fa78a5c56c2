use Rattle.std.proofs.Common.{ℕ, List, Option, codes, subst}
use Rattle.txs_cli_report.specs.Lent.{text_in}
use Rattle.txs_cli_report.specs.Lines.{Script, IsLesson}
use Rattle.txs_cli_report.proofs.Lessons.{begun_told}
use Rattle.txs_cli_report.proofs.unnamed.no_actor.Goals as goal

pub returns : goal.returns
returns c =
    let text = c.as_bytes.result.now in
    let list : Script = record { text = text; file = text_in c.list_name.result } in
    let line = codes "run failed: NoActor\n" in
    let at = c.list_place-place.result in
    let errors = c.explain.new.errors.items in
    let told = begun_told list line at c.in_ok-told.told.errors.items errors _ (λ e. cc) c.in_ok-told.ensures.errors c.in_ok-explain.ensures in
    record {
      output = c.in_ok-told.ensures.output;
      errors = record { turns = text; at = at; told = subst (λ (file : Option (List ℕ)). IsLesson (record { text = text; file = file }) line at errors) c.list_name.ensures told };
      status = c.in_ok-told.ensures.status;
    }
