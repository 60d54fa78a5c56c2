use Rattle.txs_tree_meaning.specs.View.{program_of}
use Rattle.txs_audit_book.specs.Judged.{as_end}
use Rattle.txs_audit_book.proofs.Validators.{so, value_ends}
use Rattle.txs_audit_book.proofs.acts.value_end.Goals as goal

pub returns : goal.returns
returns c =
    so c.end_of_state.result c.end_of_state.ensures
    (λ e is. value_ends (program_of c.args.program.now) c.args.turns c.args.action.now c.args.value.now c.in_ok-copy.copy c.in_ok-state.state c.in_ok-copy.ensures c.in_ok-state.ensures (as_end e) is)
