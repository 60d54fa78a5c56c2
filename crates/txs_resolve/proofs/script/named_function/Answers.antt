use Rattle.std.proofs.Common.{ℕ, true, sym, ap, ◌∙◌, subst, Ok, length}
use Rattle.std.proofs.lemmas.Result.{err_from_is_err_and}
use Rattle.txs_reader.specs.Tree.{none as no_forms}
use Rattle.txs_tree_meaning.specs.Scoped.{ScopedTree}
use Rattle.txs_tree_meaning.specs.Tree.{Tree}
use Rattle.txs_tree_meaning.specs.View.{tree_of}
use Rattle.txs_resolve_expand.specs.Answers.{◌>>=◌}
use Rattle.txs_resolve_expand.specs.Expansions.{body}
use Rattle.txs_resolve_expand.specs.Expressions.{named}
use Rattle.txs_resolve.specs.Names.{Written, with_function}
use Rattle.txs_resolve_expand.specs.Scope.{Scope}
use Rattle.txs_resolve.specs.Scripts.{at_top, function_with, state_of}
use Rattle.txs_resolve_expand.specs.Parts.{plain}
use Rattle.txs_resolve.proofs.TopLevel.{failed_body}
use Rattle.txs_resolve.proofs.Tops.{known_in, body_placed}
use Rattle.txs_resolve.proofs.script.named_function.Goals as goal

pub returns-in_err-body-clause-state : goal.returns-in_err-body-clause-state
returns-in_err-body-clause-state c =
    let s = c.args.script.now in
    let locals = s.scope.locals in
    let forms = plain c.args.forms.now in
    let p = err_from_is_err_and c.from_residual.result c.from_residual.ensures.1 in
    rw (p.1, p.2) (failed_body c.in_err-body.field-0.0 _ (named 1000 c.begin.new.self true (body forms c.args.span)) (λ (t : Tree). with_function (state_of s) c.args.name.now (length locals) t c.args.span)
    (function_with locals (state_of s) c.args.name.now c.args.span forms) c.in_err-body.ensures.node
    (ap (λ (x : Scope). named 1000 x true (body forms c.args.span) >>= λ node. Ok (with_function (state_of s) c.args.name.now (length locals) node c.args.span)) (sym c.begin.ensures)))

pub with_function-requires-clause-scoped : goal.with_function-requires-clause-scoped
with_function-requires-clause-scoped c =
    let s = c.args.script.now in
    let locals = s.scope.locals in
    let w : Written = record { name = c.args.name.now; at = c.args.span; parameters = no_forms; body = plain c.args.forms.now } in
    let q = body_placed (at_top s) w c.args.span c.args.name.now locals (tree_of c.in_ok-body.body) c.requires.script c.requires.few
    (ap (λ (x : Scope). named 1000 x true (body (plain c.args.forms.now) c.args.span)) (sym c.begin.ensures) ∙ c.in_ok-body.ensures.node) in
    subst (λ (n : ℕ). ScopedTree (known_in s) n (tree_of c.in_ok-body.body)) (sym c.len-parameters.ensures) q.0

pub with_function-requires-clause-levels : goal.with_function-requires-clause-levels
with_function-requires-clause-levels c =
    let s = c.args.script.now in
    let locals = s.scope.locals in
    let w : Written = record { name = c.args.name.now; at = c.args.span; parameters = no_forms; body = plain c.args.forms.now } in
    let q = body_placed (at_top s) w c.args.span c.args.name.now locals (tree_of c.in_ok-body.body) c.requires.script c.requires.few
    (ap (λ (x : Scope). named 1000 x true (body (plain c.args.forms.now) c.args.span)) (sym c.begin.ensures) ∙ c.in_ok-body.ensures.node) in
    q.1
