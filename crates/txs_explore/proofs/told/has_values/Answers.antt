use Rattle.std.proofs.Common.{◌≡◌, ◌≤◌, ◌<◌, ◌+◌, true, List, length, take, rules, sym, ap, subst, ◌∙◌}
use Rattle.std.proofs.lemmas.List.{take_all}
use Rattle.txs_value_cell.specs.declared.cell.CellDefinition.{CellDefinition}
use Rattle.txs_world_book.specs.Book.{has_cell}
use Rattle.txs_world_book.specs.Served.{cells_of}
use Rattle.txs_world_shared.specs.Parts.{values_of}
use Rattle.txs_world_shared.specs.SharedState.{newest_of}
use Rattle.txs_world_shared.proofs.Growing.{value_more, values_all}
use Rattle.txs_world_shared.proofs.There.{there}
use Rattle.txs_explore.proofs.Tests.{taken}
use Rattle.txs_explore.proofs.told.has_values.Goals as goal

pub newest-requires : goal.newest-requires
newest-requires c =
    let i = c.loop-i.i in
    let d = c.index-cells-i.result in
    let within : i < length c.cells-cells.result.now = search rules in
    subst (λ (e : CellDefinition). has_cell (cells_of c.args.shared.now.cells) (record { kind = e.kind; number = i }) ≡ true) c.index-cells-i.is
    (subst (λ (ds : List CellDefinition). has_cell (cells_of ds) (record { kind = d.kind; number = i }) ≡ true) c.cells-cells.ensures (there c.cells-cells.result.now i d within c.index-cells-i.is))

pub loop-i-preserved : goal.loop-i-preserved
loop-i-preserved c =
    let s = c.args.shared.now in
    let vs = c.args.values.now in
    let cells = c.cells-cells.result.now in
    let i = c.loop-i.i in
    let d = c.index-cells-i.result in
    let v = c.index-values-i.result in
    let within : i < length cells = search rules in
    let here : i < length vs = search rules in
    value_more (newest_of s) cells i d v (take i vs) (take (i + 1) vs) (values_of s) within c.index-cells-i.is (sym (c.same_value.ensures.equal.0 c.if-not-same_value.false) ∙ c.newest.ensures ∙ ap (λ (e : CellDefinition). newest_of s (record { kind = e.kind; number = i })) (sym c.index-cells-i.is)) (taken vs i v here c.index-values-i.is) c.loop-i.invariant

pub returns : goal.returns
returns c = λ t.
    (let s = c.args.shared.now in
    let vs = c.args.values.now in
    let cells = c.cells-cells.result.now in
    let past : length cells ≤ c.loop-i.i = search rules in
    let end : length vs ≤ c.loop-i.i = search rules in
    sym (take_all c.loop-i.i vs end) ∙ values_all (newest_of s) cells c.loop-i.i (take c.loop-i.i vs) (values_of s) past c.loop-i.invariant)
