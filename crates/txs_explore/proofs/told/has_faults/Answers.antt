use Rattle.std.proofs.Common.{◌≡◌, ◌≤◌, ◌<◌, true, List, length, take, rules, sym, subst, ◌∙◌, arith}
use Rattle.std.proofs.lemmas.Bool.Decides.{nat_tests}
use Rattle.std.proofs.lemmas.List.{take_all}
use Rattle.txs_value_cell.specs.declared.cell.CellDefinition.{CellDefinition}
use Rattle.txs_world_book.specs.Book.{has_cell}
use Rattle.txs_world_book.specs.Served.{cells_of}
use Rattle.txs_world_shared.specs.Parts.{fault_of, faults_of}
use Rattle.txs_world_shared.proofs.Growing.{fault_more, faults_all}
use Rattle.txs_world_shared.proofs.There.{there}
use Rattle.txs_explore.proofs.told.has_faults.Goals as goal

pub with_faults_of-requires-clause-there : goal.with_faults_of-requires-clause-there
with_faults_of-requires-clause-there c =
    let i = c.loop-i.i in
    let d = c.index-cells-i.result in
    let within : i < length c.cells-cells.result.now = search rules in
    subst (λ (ds : List CellDefinition). has_cell (cells_of ds) (record { kind = d.kind; number = i }) ≡ true) c.cells-cells.ensures (there c.cells-cells.result.now i d within c.index-cells-i.is)

pub loop-i-preserved : goal.loop-i-preserved
loop-i-preserved c =
    let s = c.args.shared.now in
    let cells = c.cells-cells.result.now in
    let i = c.loop-i.i in
    let d = c.index-cells-i.result in
    let within : i < length cells = search rules in
    record {
      within = c.in-Some.ensures.within;
      so_far = fault_more (fault_of s) cells i d (take c.loop-i.at c.args.failed.now) (take c.in-Some.next c.args.failed.now) (faults_of s) within c.index-cells-i.is c.in-Some.ensures.taken c.loop-i.invariant.so_far;
    }

pub returns : goal.returns
returns c = λ t.
    (let s = c.args.shared.now in
    let fs = c.args.failed.now in
    let cells = c.cells-cells.result.now in
    let past : length cells ≤ c.loop-i.i = search rules in
    let end : length fs ≤ c.loop-i.at = grind (arith, nat_tests, t) in
    sym (take_all c.loop-i.at fs end) ∙ faults_all (fault_of s) cells c.loop-i.i (take c.loop-i.at fs) (faults_of s) past c.loop-i.invariant.so_far)
