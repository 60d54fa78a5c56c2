use Rattle.std.proofs.Common.{◌≡◌, ◌++◌, ◌∙◌, ℕ, List, [], Option, Some, sym, ap, refl, subst₂}
use Rattle.txs_cli_report.specs.Lent.{script_of}
use Rattle.txs_cli_report.specs.Lines.{IsLesson, refusal_line, refused_line, refused_place}
use Rattle.txs_value_data.specs.declared.fault.Span.{Span}
use Rattle.txs_cli_report.proofs.Lessons.{is_refusal_line, line_behind}
use Rattle.txs_cli_report.proofs.Threads.{none_printed}
use Rattle.txs_cli_report.proofs.told.refused.Goals as goal

pub returns : goal.returns
returns c =
    let script = script_of c.args.script in
    let e = c.args.error.now in
    let of = c.in-Some.ensures in
    let r = c.in-Some.refusal in
    let line = refusal_line r.number r.name.now r.at in
    let errors = c.write_refusal.new.errors.items in
    let told : IsLesson script (refused_line e) (refused_place e) errors =
    subst₂ (λ (l : List ℕ) (at : Option Span). IsLesson script l at errors) (sym of.line) (sym of.place) (line_behind script line (Some r.at) c.new-errors.result.items errors _ (is_refusal_line r.number r.name.now r.at) c.new-errors.ensures.items c.in_ok-write_refusal.ensures)
    in
    record {
      error = e;
      told = of.told;
      refused = c.requires;
      output = none_printed c.new.result.items c.new-2.result.items c.new-3.result.items [] c.new.ensures.items c.new-2.ensures.items c.new-3.ensures.items;
      errors = told;
      status = refl;
    }
