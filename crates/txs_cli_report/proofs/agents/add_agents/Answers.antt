use Rattle.std.proofs.Common.{◌≡◌, ◌≤◌, ◌<◌, ◌++◌, ◌∙◌, ℕ, List, [], length, drop, get_or, rules, true, refl, sym, ap, subst, append_assoc}
use Rattle.std.proofs.lemmas.List.{append-nil, drop_all}
use Rattle.txs_world_book.specs.Book.{has_cell}
use Rattle.txs_world_book.specs.Served.{cells_of}
use Rattle.txs_value_cell.specs.declared.cell.CellDefinition.{CellDefinition}
use Rattle.txs_cli_report.specs.AgentLines.{AreAgentsTold, failure_of, named_from, status_of_agents}
use Rattle.txs_cli_report.specs.Lent.{script_of}
use Rattle.txs_cli_report.proofs.OfAgents.{entry_there, left_more, lines_more, status_of_more}
use Rattle.txs_world_shared.proofs.There.{there}
use Rattle.txs_cli_report.proofs.agents.add_agents.Goals as goal

pub add_cell-requires-clause-there : goal.add_cell-requires-clause-there
add_cell-requires-clause-there c =
    let n = c.loop-number.number in
    let d = c.index-cells-number.result in
    let within : n < length c.args.cells.now = search rules in
    subst (λ (ds : List CellDefinition). has_cell (cells_of ds) (record { kind = d.kind; number = n }) ≡ true) (sym c.requires.made) (there c.args.cells.now n d within c.index-cells-number.is)

pub loop-number-preserved : goal.loop-number-preserved
loop-number-preserved c =
    let script = script_of c.args.script in
    let failure = failure_of c.args.shared.now in
    let ds = c.args.cells.now in
    let n = c.loop-number.number in
    let d = c.index-cells-number.result in
    let rs = c.loop-number.rest.now in
    let rest = c.in_ok-rest.rest.now in
    let so_far = c.loop-number.invariant in
    let e = c.in_ok-rest.ensures in
    let within : n < length ds = search rules in
    let read : d ≡ get_or ds n d = search rules in
    record {
      left = left_more ds n d rs rest within read e.rest so_far.left;
      output = e.output ∙ so_far.output;
      errors = (
        so_far.errors.0 ++ e.errors.0,
        e.errors.2 ∙ ap (λ (l : List ℕ). l ++ e.errors.0) so_far.errors.1 ∙ append_assoc c.args.told.now.errors.items so_far.errors.0 e.errors.0,
        lines_more script failure ds n d c.args.agents.now rs rest so_far.errors.0 e.errors.0 within read e.rest so_far.errors.2 e.errors.1,
      );
      status = status_of_more c.loop-number.told.status c.add_cell.new.told.status (status_of_agents c.args.told.now.status failure (named_from 0 ds) c.args.agents.now) failure ds n d rs rest within read e.rest e.status so_far.status;
    }

-- behind the last cell no lines are to come
pub returns-clause-errors : goal.returns-clause-errors
returns-clause-errors c =
    let script = script_of c.args.script in
    let failure = failure_of c.args.shared.now in
    let ds = c.args.cells.now in
    let n = c.loop-number.number in
    let so_far = c.loop-number.invariant.errors in
    let past : length ds ≤ n = search rules in
    let none : AreAgentsTold script failure (named_from n (drop n ds)) c.loop-number.rest.now [] = subst (λ (xs : List CellDefinition). AreAgentsTold script failure (named_from n xs) c.loop-number.rest.now []) (sym (drop_all n ds past)) refl in
    (so_far.0, subst (λ (ls : List ℕ). AreAgentsTold script failure (named_from 0 ds) c.args.agents.now ls) (append-nil so_far.0) (so_far.2 [] none), so_far.1)

pub loop-number-init : goal.loop-number-init
loop-number-init c = record { left = c.requires.one_each; output = refl; errors = ([], sym (append-nil c.args.told.now.errors.items), λ more h. h); status = refl }

pub add_cell-requires-clause-entry : goal.add_cell-requires-clause-entry
add_cell-requires-clause-entry c =
    let ds = c.args.cells.now in
    let n = c.loop-number.number in
    let d = c.index-cells-number.result in
    let within : n < length ds = search rules in
    let read : d ≡ get_or ds n d = search rules in
    entry_there ds n d c.loop-number.rest.now within read c.loop-number.invariant.left

pub returns-clause-status : goal.returns-clause-status
returns-clause-status c =
    let failure = failure_of c.args.shared.now in
    let ds = c.args.cells.now in
    let n = c.loop-number.number in
    let past : length ds ≤ n = search rules in
    let m = c.loop-number.told.status in
    let rest = c.loop-number.rest.now in
    ap (λ (xs : List CellDefinition). status_of_agents m failure (named_from n xs) rest) (sym (drop_all n ds past)) ∙ c.loop-number.invariant.status
