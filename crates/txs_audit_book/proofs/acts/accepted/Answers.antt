use Rattle.std.proofs.Common.{length, sym, ap, ◌∙◌, subst}
use Rattle.txs_tree_meaning.specs.Known.{known}
use Rattle.txs_tree_meaning.specs.Pure.{PureCallee}
use Rattle.txs_tree_meaning.specs.View.{functions_of}
use Rattle.txs_theorem_audit.specs.Evaluated.{judged_by}
use Rattle.txs_audit_book.specs.Judged.{CalleeGives}
use Rattle.txs_audit_book.proofs.acts.accepted.Goals as goal

pub answered-requires : goal.answered-requires
answered-requires c =
    subst (λ vs. PureCallee (known (functions_of c.args.program.now.functions)) c.args.callee (length vs)) (sym (c.as_slice.ensures.value ∙ c.in_ok-values.ensures)) c.requires

pub returns : goal.returns
returns c =
    let q = c.in_ok-given.given in (
      q,
      c.judged_by.ensures ∙ ap (judged_by c.args.span c.args.value) c.answer_in-answer.ensures,
      subst (λ vs. CalleeGives c.args.turns (functions_of c.args.program.now.functions) c.args.callee vs q) (c.as_slice.ensures.value ∙ c.in_ok-values.ensures) c.in_ok-given.ensures,
    )
