use Rattle.std.proofs.Common.{codes, ap, ◌∙◌}
use Rattle.serde_json.specs.Data.{no_members, number, unsigned, put}
use Rattle.serde_json.specs.View.{members_view}
use Rattle.txs_cli_json.specs.Json.{end_line}
use Rattle.txs_cli_json.proofs.JsonLines.{known_line, end_text}
use Rattle.txs_cli_json.proofs.lines.add_end.Goals as goal

pub returns-clause-ok : goal.returns-clause-ok
returns-clause-ok c =
    let known = put (codes "status") (number (unsigned c.args.status)) no_members in
    let same = c.in_ok-put_number.ensures ∙ ap (λ ms. put (codes "status") (number (unsigned c.args.status)) ms) c.new-end.ensures in
    known_line c.write.result (codes "end") (members_view c.put_number.new.self.members.entries) known c.args.out.now.items (end_line c.args.status) c.write.new.out.items same (end_text c.args.status) c.write.ensures.ok
