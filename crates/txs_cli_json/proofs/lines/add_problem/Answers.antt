use Rattle.std.proofs.Common.{codes, ap, ◌∙◌}
use Rattle.serde_json.specs.Data.{no_members, string, put}
use Rattle.serde_json.specs.View.{members_view}
use Rattle.txs_cli_json.specs.Json.{problem_line}
use Rattle.txs_cli_json.proofs.JsonLines.{known_line, problem_text}
use Rattle.txs_cli_json.proofs.lines.add_problem.Goals as goal

pub returns-clause-ok : goal.returns-clause-ok
returns-clause-ok c =
    let known = put (codes "message") (string c.args.line.now) no_members in
    let same = c.in_ok-put_text.ensures ∙ ap (λ ms. put (codes "message") (string c.args.line.now) ms) c.new-problem.ensures in
    known_line c.write.result (codes "problem") (members_view c.put_text.new.self.members.entries) known c.args.out.now.items (problem_line c.args.line.now) c.write.new.out.items same (problem_text c.args.line.now) c.write.ensures.ok
