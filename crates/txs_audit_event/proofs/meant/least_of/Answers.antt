use Rattle.std.proofs.Common.{◌∙◌, length, sym}
use Rattle.txs_tree_meaning.specs.View.{program_of}
use Rattle.txs_audit_event.specs.Meant.{doer_means}
use Rattle.txs_audit_event.proofs.Answered.{least_none, least_some}
use Rattle.txs_audit_event.proofs.meant.least_of.Goals as goal

pub returns-then-is_empty : goal.returns-then-is_empty
returns-then-is_empty c =
    let p = program_of c.args.books.now.program in
    c.from_vec.ensures ∙ c.new.ensures.items ∙ least_none (doer_means p c.args.turns c.args.doer) c.args.seen.now (sym c.is_empty.ensures ∙ c.if-is_empty.true)

pub returns : goal.returns
returns c =
    let p = program_of c.args.books.now.program in
    let before = c.split_at.result.0.now in
    c.printed_of.ensures ∙ least_some (doer_means p c.args.turns c.args.doer) c.args.seen.now before c.in_ok-meant.meant (length before) (sym c.is_empty.ensures ∙ c.if-is_empty.false) c.split_at.ensures.front c.in_ok-meant.ensures
