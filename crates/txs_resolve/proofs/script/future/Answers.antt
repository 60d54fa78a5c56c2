use Rattle.std.proofs.Common.{sym, ap, ◌∙◌, subst, arith, false, refl, Ok, Err, IsOk}
use Rattle.std.proofs.lemmas.Result.{err_from_is_err_and}
use Rattle.txs_tree_meaning.specs.Tree.{Tree}
use Rattle.txs_tree_meaning.specs.View.{tree_of}
use Rattle.txs_resolve_expand.specs.Expansions.{body}
use Rattle.txs_resolve_expand.specs.Expressions.{Answer, named}
use Rattle.txs_resolve.specs.Given.{Leaves}
use Rattle.txs_resolve.specs.Names.{State, future, with_thread}
use Rattle.txs_resolve.specs.Scripts.{ScopedState, state_of}
use Rattle.txs_resolve.specs.declared.stop.Stop.{Stop}
use Rattle.txs_resolve_expand.specs.Parts.{plain}
use Rattle.txs_resolve.proofs.TopLevel.{failed_body}
use Rattle.txs_resolve.proofs.Scoping.{Every}
use Rattle.txs_resolve.proofs.ScopedScripts.{future_scoped}
use Rattle.txs_resolve.proofs.Tops.{future_full, future_as, new_thread}
use Rattle.txs_resolve.proofs.script.future.Goals as goal

pub returns-then-len-ge-MOST_THREADS-clause-state : goal.returns-then-len-ge-MOST_THREADS-clause-state
returns-then-len-ge-MOST_THREADS-clause-state c =
    let s = c.args.script.now in
    let fs = c.args.forms.now in
    subst (λ (r : Stop). Leaves (Err r) (state_of c.args.script.now) (future (state_of s) c.args.span (plain fs))) (sym c.refused.ensures) (future_full s c.args.span fs c.requires (omega (arith, c.if-len-ge-MOST_THREADS.true, c.len.ensures)))

pub returns-in_err-body-clause-state : goal.returns-in_err-body-clause-state
returns-in_err-body-clause-state c =
    let s = c.args.script.now in
    let fs = c.args.forms.now in
    let p = err_from_is_err_and c.from_residual.result c.from_residual.ensures.1 in
    rw (p.1, p.2) (failed_body c.in_err-body.field-0.0 _ (named 1000 s.scope false (body (plain fs) c.args.span)) (λ (t : Tree). with_thread (state_of s) t c.args.span) (future (state_of s) c.args.span (plain fs)) c.in_err-body.ensures.node
    (future_as s c.args.span fs c.requires (omega (arith, c.if-len-ge-MOST_THREADS.false, c.len.ensures)) (named 1000 s.scope false (body (plain fs) c.args.span)) refl))

pub returns-clause-state : goal.returns-clause-state
returns-clause-state c =
    let s = c.args.script.now in
    let fs = c.args.forms.now in
    let node = c.in_ok-body.body in
    future_as s c.args.span fs c.requires (omega (arith, c.if-len-ge-MOST_THREADS.false, c.len.ensures)) (Ok (tree_of node)) c.in_ok-body.ensures.node
    ∙ ap (λ (x : State). Ok x) (new_thread s c.body.new.scope c.push.new.self.items node c.args.span c.in_ok-body.ensures.kept c.in_ok-push.ensures.items)

pub returns-clause-next : goal.returns-clause-next
returns-clause-next c =
    let kept = c.in_ok-body.ensures.kept in
    record {
      outside = ap (λ x. x.locals) kept ∙ c.requires.outside;
      idle = ap (λ x. x.current) kept ∙ c.requires.idle;
      levels = c.requires.levels;
      scoped = subst (Every ScopedState) (returns-clause-state c) (future_scoped (state_of c.args.script.now) c.args.span (plain c.args.forms.now) c.requires.scoped);
    }

-- the body isn't refused
pub returns-in_err-push-clause-state : goal.returns-in_err-push-clause-state
returns-in_err-push-clause-state c =
    let s = c.args.script.now in
    let p = err_from_is_err_and c.from_residual-in_err-push.result c.from_residual-in_err-push.ensures.1 in
    rw (p.1, p.2) (subst (λ (a : Answer State). IsOk a) (sym (future_as s c.args.span c.args.forms.now c.requires (omega (arith, c.if-len-ge-MOST_THREADS.false, c.len.ensures)) (Ok (tree_of c.in_ok-body.body)) c.in_ok-body.ensures.node)) refl)
