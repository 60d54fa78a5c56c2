use Rattle.std.proofs.Common.{◌≡◌, ℕ, List, [], true, Option, Some, Ok, Bor, sym, ap, ◌∙◌}
use Rattle.txs_value_data.specs.declared.op.Callee.{Callee}
use Rattle.txs_reader.specs.declared.form.Form.{Form}
use Rattle.txs_reader.specs.Tree.{tree}
use Rattle.txs_resolve_expand.specs.Scope.{Scope}
use Rattle.txs_resolve_expand.specs.Answers.{◌>>=◌}
use Rattle.txs_resolve_expand.specs.Expressions.{Answer, callee_of, spot_at}
use Rattle.txs_resolve.specs.Names.{top_scope, validator_named}
use Rattle.txs_resolve.specs.Scripts.{form_in}
use Rattle.txs_resolve.proofs.script.validator_named.Goals as goal

pub returns-in_ok-callee-in-Some : goal.returns-in_ok-callee-in-Some
returns-in_ok-callee-in-Some c =
    let scope = c.args.scope.now in
    let outer : scope ≡ top_scope scope.defined =
    ap (λ (l : List (List ℕ)). record { locals = l; defined = scope.defined; current = scope.current }) c.requires.outside ∙ ap (λ (o : Option (List ℕ)). record { locals = []; defined = scope.defined; current = o }) c.requires.idle in
    ap (λ (a : Answer Callee). a >>= λ x. Ok (Some x)) (c.in_ok-callee-in-Some.ensures ∙ ap (λ (x : Scope). callee_of x (spot_at 1001 c.args.span true) (tree c.in-Some.form.now)) outer)
    ∙ sym (ap (λ (o : Option (Bor Form)). validator_named scope.defined c.args.span (form_in o)) c.in-Some.is)
