use Rattle.std.proofs.Common.{◌≡◌, ◌++◌, List, ℕ, OnOk, subst}
use Rattle.serde_json.specs.Data.{object}
use Rattle.serde_json.specs.View.{members_view}
use Rattle.txs_cli_json.specs.Json.{IsLineOf}
use Rattle.txs_cli_json.proofs.JsonLines.{typed_lines}
use Rattle.txs_cli_json.proofs.object.Object.write.Goals as goal

pub returns-clause-json : goal.returns-clause-json
returns-clause-json g c =
    let r = c.write_line.result in
    let old = c.args.out.now.items in
    let new = c.write_line.new.out.items in
    let line = subst (λ ms. OnOk r ((line : List ℕ) × IsLineOf (object ms) line × (new ≡ old ++ line))) c.in_ok-put_text.ensures c.write_line.ensures.ok in
    typed_lines r c.args.kind.now (members_view c.args.self.members.entries) old new line
