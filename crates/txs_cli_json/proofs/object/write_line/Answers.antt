use Rattle.std.proofs.Common.{◌≡◌, ◌≤◌, ◌++◌, [], ◌∷◌, Some, false, ap, ◌∙◌, subst, arith}
use Rattle.std.specs.Prelude.{if◌then◌else◌, is_ok}
use Rattle.serde_json.specs.Data.{object, depth}
use Rattle.serde_json.specs.Read.{read, max_depth}
use Rattle.serde_json.specs.View.{members_view}
use Rattle.serde_json.specs.Written.{compact_text, has_float}
use Rattle.txs_cli_json.proofs.JsonLines.{line_of, line_written}
use Rattle.txs_cli_json.proofs.object.write_line.Goals as goal

pub returns-clause-ok : goal.returns-clause-ok
returns-clause-ok g c =
    let d = object (members_view c.args.line.members.entries) in
    let text = c.in_ok-text.text.items in
    let old = c.args.out.now.items in
    let is = subst (λ v. has_float v ≡ false → text ≡ compact_text v) c.into_value.ensures.view c.in_ok-text.ensures.text in
    let reads = subst (λ v. depth v ≤ max_depth → read text ≡ Some v) c.into_value.ensures.view c.in_ok-text.ensures.reads_back in
    let small = c.requires in
    let shallow = c.args.line.shallow in
    let line = line_of 101 d text (omega arith) (omega (arith, small, shallow)) c.args.line.whole is reads in
    let pushed = c.as_slice.ensures.value ∙ c.in_ok-push.ensures.items in
    let put = c.extend_from_slice.ensures.items ∙ ap (λ b. if is_ok c.extend_from_slice.result then old ++ b else old) pushed in
    line_written c.extend_from_slice.result d old (text ++ 10 ∷ []) c.extend_from_slice.new.self.items line put
