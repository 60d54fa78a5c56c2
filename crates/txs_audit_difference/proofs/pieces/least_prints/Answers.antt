use Rattle.std.proofs.Common.{◌∙◌, sym}
use Rattle.txs_tree_meaning.specs.View.{program_of}
use Rattle.txs_theorem_audit.specs.Evaluated.{means_on}
use Rattle.txs_audit_evidence.proofs.ThreadFound.{so}
use Rattle.txs_audit_difference.proofs.Piecing.{front_none, front_some}
use Rattle.txs_audit_difference.proofs.pieces.least_prints.Goals as goal

pub returns-then-is_empty : goal.returns-then-is_empty
returns-then-is_empty c =
    let p = program_of c.args.books.now.program in
    c.from_vec.ensures ∙ c.new.ensures.items ∙ front_none (means_on p c.args.turns c.args.action.now c.args.state.now) c.args.seen.now (sym c.is_empty.ensures ∙ c.if-is_empty.true)

pub returns : goal.returns
returns c =
    let p = program_of c.args.books.now.program in
    so c.prints_within.result c.prints_within.ensures
    (λ o is. is ∙ front_some (means_on p c.args.turns c.args.action.now c.args.state.now) c.args.seen.now c.split_at.result.0.now (sym c.is_empty.ensures ∙ c.if-is_empty.false) c.split_at.ensures.front)
