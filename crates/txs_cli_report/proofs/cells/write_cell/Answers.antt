use Rattle.std.proofs.Common.{◌∷◌, ◌++◌, ◌∙◌, [], ℕ, List, ap, append_assoc}
use Rattle.txs_value_data.proofs.PrintedLemmas.{Extends-appended, Extends-by, ended_by, then_more}
use Rattle.txs_value_data.specs.Printed.{printed}
use Rattle.txs_value_data.specs.View.{plain_of}
use Rattle.txs_cli_report.proofs.cells.write_cell.Goals as goal

pub returns-clause-ok : goal.returns-clause-ok
returns-clause-ok c =
    let old = c.args.output.now.items in
    let first = c.write_both.new.out.items in
    let second = c.write_text.new.out.items in
    let name = c.args.name.now in
    let value = printed (plain_of c.args.value.now) in
    let space : List ℕ = 32 ∷ [] in
    let named = c.in_ok-write_both.ensures.ok ∙ ap (λ (l : List ℕ). old ++ (l ++ space)) c.as_bytes.ensures.value in
    let with_value = then_more old (name ++ space) first value second named c.in_ok-write_text.ensures.ok ∙ ap (λ (l : List ℕ). old ++ l) (append_assoc name space value) in
    ended_by c.extend_from_slice.result old (name ++ (32 ∷ value)) second (10 ∷ []) c.extend_from_slice.new.self.items with_value c.extend_from_slice.ensures.items

pub returns-clause-kept : goal.returns-clause-kept
returns-clause-kept c =
    let second = c.write_text.new.out.items in
    let new = c.extend_from_slice.new.self.items in
    Extends-appended c.args.output.now.items _ _ [] c.write_both.new.out.items second new c.in_ok-write_both.ensures.ok c.in_ok-write_text.ensures.ok (Extends-by c.extend_from_slice.result second _ new c.extend_from_slice.ensures.items)
