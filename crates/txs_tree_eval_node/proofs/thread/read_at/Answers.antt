use Rattle.std.proofs.Common.{rules, ◌≡◌, true, false, sym, ap, ◌∙◌}
use Rattle.txs_tree_eval_node.specs.Evaluated.{is_read_of}
use Rattle.txs_tree_eval_transaction.specs.Views.{plain_view, world_of}
use Rattle.txs_tree_meaning.specs.Meaning.{Completes}
use Rattle.txs_tree_eval_node.proofs.Forms.{read_as}
use Rattle.txs_tree_eval_node.proofs.thread.read_at.Goals as goal

pub returns-then-not-same_cell : goal.returns-then-not-same_cell
returns-then-not-same_cell c =
    let e = c.args.event.now in
    let other : false ≡ is_read_of c.args.cell e.kind.now = search rules in
    λ t. read_as c.args.cell false e.kind.now (world_of (plain_view e.here)) t other

pub returns-in_ok-read-in-Read : goal.returns-in_ok-read-in-Read
returns-in_ok-read-in-Read c =
    let e = c.args.event.now in
    let same : true ≡ is_read_of c.args.cell e.kind.now = search rules in
    λ t. read_as c.args.cell true e.kind.now (world_of (plain_view e.here)) t same ∙ ap (λ v. Completes v t) (sym c.in_ok-read-in-Read.ensures)

pub returns-in_default : goal.returns-in_default
returns-in_default c =
    let e = c.args.event.now in
    let other : false ≡ is_read_of c.args.cell e.kind.now = search rules in
    λ t. read_as c.args.cell false e.kind.now (world_of (plain_view e.here)) t other
