use Rattle.std.proofs.Common.{◌++◌, ◌∙◌, ℕ, List, ap, append_assoc, sym}
use Rattle.std.specs.Prelude.{codes, decimal}
use Rattle.txs_value_data.proofs.PrintedLemmas.{then_more}
use Rattle.txs_cli_events.proofs.Pieces.{on_ok}
use Rattle.txs_cli_events.proofs.parts.write_span.Goals as goal

pub returns : goal.returns
returns c =
    let old = c.args.out.now.items in
    let before = c.args.before.now in
    let from = decimal c.args.span.from in
    let to = decimal c.args.span.to in
    let dots = codes ".." in
    let first = c.write_number.new.out.items in
    let new = c.write_number-2.new.out.items in
    let nested = append_assoc before from (dots ++ to) ∙ ap (λ (bs : List ℕ). before ++ bs) (sym (append_assoc from dots to)) in
    on_ok c.write_number-2.result (λ e. then_more old (before ++ from) first (dots ++ to) new c.in_ok-write_number.ensures.ok e ∙ ap (λ (bs : List ℕ). old ++ bs) nested) c.write_number-2.ensures.ok
