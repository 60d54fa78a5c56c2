use Rattle.std.proofs.Common.{rules, ◌≤◌, subst}
use Rattle.txs_value_data.specs.View.{plain_of}
use Rattle.txs_value_data.proofs.PlacesLemmas.{item_less}
use Rattle.txs_cli_json.proofs.ValueFacts.{json_next, json_all}
use Rattle.txs_cli_json.proofs.value.+json.Goals as goal

pub items_json-value_json-requires : goal.items_json-value_json-requires
items_json-value_json-requires t c = search (rules, item_less c.args.items.now c.loop-i.i (plain_of c.get.result.now) c.get.ensures)

pub items_json-loop-i-preserved : goal.items_json-loop-i-preserved
items_json-loop-i-preserved t c =
    json_next c.args.cells.now c.args.items.now c.loop-i.i (plain_of c.get.result.now) c.loop-i.list.items c.push.new.self.items c.in_ok-value_json.field-0 c.get.ensures c.loop-i.invariant c.in_ok-value_json.ensures (search (rules, c.in_ok-push.ensures.items))

pub items_json-returns : goal.items_json-returns
items_json-returns t c =
    let all = subst (λ n. n ≤ c.loop-i.i) c.len-i-end.ensures.value c.loop-i-test.false in
    json_all c.args.cells.now c.args.items.now c.loop-i.i c.loop-i.list.items all c.loop-i.invariant
