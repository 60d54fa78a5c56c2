use Rattle.std.proofs.Common.{codes, refl}
use Rattle.serde_json.specs.Data.{no_members}
use Rattle.serde_json.specs.View.{members_view}
use Rattle.serde_json.proofs.OnLiterals.{serde_json_on_literals}
use Rattle.txs_cli_json.specs.Json.{ok_line}
use Rattle.txs_cli_json.proofs.JsonLines.{known_line}
use Rattle.txs_cli_json.proofs.lines.add_ok.Goals as goal

pub returns-clause-ok : goal.returns-clause-ok
unfolding serde_json_on_literals
returns-clause-ok c = known_line c.write.result (codes "ok") (members_view c.new.result.members.entries) no_members c.args.out.now.items ok_line c.write.new.out.items c.new.ensures refl c.write.ensures.ok
