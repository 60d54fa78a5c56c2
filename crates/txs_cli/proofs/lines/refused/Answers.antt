use Rattle.std.proofs.Common.{◌++◌, ◌∙◌, [], ap, refl}
use Rattle.txs_cli_report.proofs.Threads.{none_printed}
use Rattle.txs_cli.proofs.lines.refused.Goals as goal
use Rattle.txs_cli.specs.CodeLines.{load_line}

pub returns-clause-is : goal.returns-clause-is
returns-clause-is c = record {
  output = none_printed c.new.result.items c.new-2.result.items c.new-3.result.items [] c.new.ensures.items c.new-2.ensures.items c.new-3.ensures.items;
  errors = c.in_ok-write_refusal.ensures.line ∙ ap (λ l. l ++ load_line c.args.error) c.new-errors.ensures.items;
  status = refl;
}
