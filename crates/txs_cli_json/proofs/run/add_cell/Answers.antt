use Rattle.std.proofs.Common.{◌++◌, ◌∷◌, [], ap, codes, refl, ◌∙◌}
use Rattle.std.specs.List.{slice_get}
use Rattle.std.specs.Str.Lossy.{utf8_lossy}
use Rattle.serde_json.specs.Data.{no_members, put, string}
use Rattle.serde_json.specs.View.{members_view}
use Rattle.serde_json.specs.Written.{compact_text}
use Rattle.txs_cli_json.specs.Cells.{cell_json, with_definition}
use Rattle.txs_cli_json.specs.Members.{with_number}
use Rattle.txs_cli_json.specs.ValueForm.{value_json}
use Rattle.txs_cli_json.proofs.JsonLines.{known_line}
use Rattle.txs_value_data.specs.Printed.{printed}
use Rattle.txs_value_data.specs.View.{plain_of}
use Rattle.txs_cli_json.proofs.run.add_cell.Goals as goal

pub returns-clause-whole : goal.returns-clause-whole
returns-clause-whole c =
    let cells = c.args.cells.now in
    let n = c.args.number in
    let v = c.args.value.now in
    let first = c.in_ok-put_number.ensures ∙ ap (λ ms. with_number (codes "number") n ms) c.new-line.ensures in
    let second = c.in_ok-put_definition.ensures ∙ ap (λ d. with_definition d (members_view c.put_number.new.self.members.entries)) c.cell_at.ensures ∙ ap (λ ms. with_definition (slice_get cells n) ms) first in
    let third = c.in_ok-put_value.ensures ∙ ap (λ ms. put (codes "value") (value_json cells (plain_of v)) ms) second in
    let fourth = c.in_ok-put_printed.ensures ∙ ap (λ ms. put (codes "text") (string (utf8_lossy (printed (plain_of v)))) ms) third in
    let known = put (codes "text") (string (utf8_lossy (printed (plain_of v)))) (put (codes "value") (value_json cells (plain_of v)) (with_definition (slice_get cells n) (with_number (codes "number") n no_members))) in
    known_line c.write.result (codes "cell") (members_view c.put_printed.new.line.members.entries) known c.args.out.now.items (compact_text (cell_json cells n v) ++ 10 ∷ []) c.write.new.out.items fourth refl c.write.ensures.ok
