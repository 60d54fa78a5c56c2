use Rattle.std.proofs.Common.{sym, ap, subst, arith, Some, Ok, Err, ◌∙◌}
use Rattle.std.proofs.lemmas.Result.{err_from_is_err_and}
use Rattle.txs_resolve.specs.Given.{Leaves}
use Rattle.txs_resolve.specs.Names.{State, Written, function}
use Rattle.txs_resolve_expand.specs.Scope.{Scope}
use Rattle.txs_tree_meaning.specs.View.{functions_of, threads_of}
use Rattle.txs_resolve.specs.Scripts.{function_with, state_of}
use Rattle.txs_resolve.specs.declared.stop.Stop.{Stop}
use Rattle.txs_resolve_expand.specs.Parts.{plain}
use Rattle.txs_resolve.proofs.Tops.{function_full, function_named, function_bound}
use Rattle.txs_resolve.proofs.script.function_as.Goals as goal

pub returns-then-len-ge-MOST_DEFINITIONS-clause-state : goal.returns-then-len-ge-MOST_DEFINITIONS-clause-state
returns-then-len-ge-MOST_DEFINITIONS-clause-state c =
    let s = c.args.script.now in
    let f = c.args.written in
    let w : Written = record { name = f.name.now; at = f.at; parameters = plain f.parameters.now; body = plain f.body.now } in
    subst (λ (r : Stop). Leaves (Err r) (state_of c.args.script.now) (function (state_of s) c.args.span (Some w))) (sym c.refused.ensures) (function_full s w c.args.span (omega (arith, c.if-len-ge-MOST_DEFINITIONS.true, c.len.ensures)))

pub returns-in_err-name-clause-state : goal.returns-in_err-name-clause-state
returns-in_err-name-clause-state c =
    let s = c.args.script.now in
    let f = c.args.written in
    let w : Written = record { name = f.name.now; at = f.at; parameters = plain f.parameters.now; body = plain f.body.now } in
    let p = err_from_is_err_and c.from_residual.result c.from_residual.ensures.1 in
    rw (p.1, p.2) (function_named s w c.args.span (omega (arith, c.if-len-ge-MOST_DEFINITIONS.false, c.len.ensures)) _ (sym c.in_err-name.ensures.name))

pub returns-in_err-bind_parameters-clause-state : goal.returns-in_err-bind_parameters-clause-state
returns-in_err-bind_parameters-clause-state c =
    let s = c.args.script.now in
    let f = c.args.written in
    let w : Written = record { name = f.name.now; at = f.at; parameters = plain f.parameters.now; body = plain f.body.now } in
    let p = err_from_is_err_and c.from_residual-in_err-bind_parameters.result c.from_residual-in_err-bind_parameters.ensures.1 in
    rw (p.1, p.2) (function_bound s w c.args.span (omega (arith, c.if-len-ge-MOST_DEFINITIONS.false, c.len.ensures)) c.in_ok-name.name.now (sym c.in_ok-name.ensures.name) _ c.in_err-bind_parameters.ensures.names)

pub returns-clause-state : goal.returns-clause-state
returns-clause-state c =
    let s = c.args.script.now in
    let f = c.args.written in
    let w : Written = record { name = f.name.now; at = f.at; parameters = plain f.parameters.now; body = plain f.body.now } in
    let locals = c.bind_parameters.new.scope.locals in
    let bound = c.in_ok-bind_parameters.ensures in
    let state : Scope → State = λ (x : Scope). record { defined = x.defined; cells = s.cells.items; validator_spans = s.validator_spans.items; functions = functions_of s.functions.items; threads = threads_of s.threads.items; defs = s.defs } in
    subst (Leaves c.named_function.result (state_of c.named_function.new.script))
    (ap (λ (x : Scope). function_with locals (state x) c.in_ok-name.name.now c.args.span (plain f.body.now)) bound.kept
    ∙ sym (function_bound s w c.args.span (omega (arith, c.if-len-ge-MOST_DEFINITIONS.false, c.len.ensures)) c.in_ok-name.name.now (sym c.in_ok-name.ensures.name) (Ok locals) bound.names))
    c.named_function.ensures.state
