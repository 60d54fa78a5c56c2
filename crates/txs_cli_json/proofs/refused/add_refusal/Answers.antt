use Rattle.std.proofs.Common.{codes, OnOk, Some, ap, sym, subst, ◌∙◌}
use Rattle.serde_json.specs.Data.{no_members, put, string}
use Rattle.serde_json.specs.View.{members_view}
use Rattle.txs_cli_json.specs.Json.{AddsLines, refusal_kinds}
use Rattle.txs_cli_json.specs.Members.{with_number, with_place}
use Rattle.txs_cli_json.proofs.JsonLines.{lines_one, no_lines}
use Rattle.txs_cli_json.proofs.RefusalLines.{adds_line, adds_none}
use Rattle.txs_cli_json.proofs.refused.add_refusal.Goals as goal

pub returns-in_default-clause-whole : goal.returns-in_default-clause-whole
returns-in_default-clause-whole c = adds_none c.args.script.text.now c.args.error.now c.args.out.now.items c.in_default.ensures.kinds

pub returns-in_default-clause-ok : goal.returns-in_default-clause-ok
returns-in_default-clause-ok c = no_lines (refusal_kinds c.args.error.now) c.args.out.now.items c.in_default.ensures.kinds

pub returns-clause-whole : goal.returns-clause-whole
returns-clause-whole c =
    let text = c.args.script.text.now in
    let r = c.in-Some.refusal in
    let put_in = c.in_ok-put_advice.ensures in
    let advised = put_in.1 ∙ ap (λ ms. put (codes "advice") put_in.0 ms) c.new-line.ensures in
    let numbered = c.in_ok-put_number.ensures ∙ ap (λ ms. with_number (codes "number") r.number ms) advised in
    let named = c.in_ok-put_text.ensures ∙ ap (λ ms. put (codes "name") (string r.name.now) ms) numbered in
    let placed = c.in_ok-put_place.ensures ∙ ap (λ ms. with_place text (Some r.at) ms) named in
    let same = placed ∙ sym (c.in-Some.ensures.whole text (put (codes "advice") put_in.0 no_members)) in
    adds_line c.write.result text c.args.error.now put_in.0 (members_view c.put_place.new.self.members.entries) c.args.out.now.items c.write.new.out.items c.in-Some.ensures.kinds same c.write.ensures.ok

pub returns-clause-ok : goal.returns-clause-ok
returns-clause-ok c =
    let old = c.args.out.now.items in
    let new = c.write.new.out.items in
    subst (λ ks. OnOk c.write.result (AddsLines ks old new)) (sym c.in-Some.ensures.kinds) (lines_one c.write.result (codes "refused") old new c.write.ensures.json)
