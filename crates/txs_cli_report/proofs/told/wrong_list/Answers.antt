use Rattle.std.proofs.Common.{ℕ, List, Option, codes, subst, subst₂}
use Rattle.txs_cli_report.specs.Lent.{text_in}
use Rattle.txs_cli_report.specs.Lines.{IsLesson, Script, list_place}
use Rattle.txs_value_data.specs.declared.fault.Span.{Span}
use Rattle.txs_cli_report.proofs.Lessons.{begun_told}
use Rattle.txs_cli_report.proofs.told.wrong_list.Goals as goal

pub returns : goal.returns
returns c =
    let text = c.as_bytes.result.now in
    let list : Script = record { text = text; file = text_in c.list_name.result } in
    let line = codes "wrong list\n" in
    let begun = c.in_ok-told.told.errors.items in
    let errors = c.explain.new.errors.items in
    let lesson = subst (λ (at : Option Span). IsLesson list line at errors) c.list_place.ensures (begun_told list line c.list_place.result begun errors _ (λ e. cc) c.in_ok-told.ensures.errors c.in_ok-explain.ensures) in
    record {
      output = c.in_ok-told.ensures.output;
      errors = subst₂ (λ (l : List ℕ) (file : Option (List ℕ)). IsLesson (record { text = l; file = file }) line (list_place c.args.wrong) errors) c.as_bytes.ensures.value c.list_name.ensures lesson;
      status = c.in_ok-told.ensures.status;
    }
