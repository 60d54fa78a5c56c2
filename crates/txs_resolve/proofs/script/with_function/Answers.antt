use Rattle.std.proofs.Common.{◌≡◌, ◌++◌, [], ◌∷◌, ℕ, length, ap, ◌∙◌, subst, arith, Ok}
use Rattle.txs_tree_meaning.specs.View.{tree_of}
use Rattle.txs_resolve.specs.Depths.{depths}
use Rattle.txs_resolve.specs.Names.{State}
use Rattle.txs_resolve_expand.specs.Scope.{Scope}
use Rattle.txs_resolve.specs.Scripts.{ScopedState, state_of}
use Rattle.txs_resolve_expand.specs.declared.scope.Definition.TheVariants.{Function}
use Rattle.txs_resolve.proofs.ScopedScripts.{function_more}
use Rattle.txs_resolve.proofs.Tops.{same_depths, few_levels, functions_count, state_is, levels_are}
use Rattle.txs_resolve.proofs.script.with_function.Goals as goal

pub levels-depth-requires : goal.levels-depth-requires
levels-depth-requires c =
    few_levels c.args.script.now c.as_slice.result.now (tree_of c.args.body) c.as_slice.ensures.value c.requires.script c.requires.levels

pub overflow_cast-depth : goal.overflow_cast-depth
overflow_cast-depth c =
    let few = few_levels c.args.script.now c.as_slice.result.now (tree_of c.args.body) c.as_slice.ensures.value c.requires.script c.requires.levels in
    omega (arith, c.levels-depth.ensures, few)

pub returns-clause-state : goal.returns-clause-state
returns-clause-state c =
    let s = c.args.script.now in
    let t = tree_of c.args.body in
    let deep = c.levels-depth.ensures ∙ ap (λ ls. depths ls t) c.as_slice.ensures.value ∙ same_depths s t c.requires.script in
    let number : c.len-number.result ≡ length s.functions.items = omega (arith, c.len-number.ensures) in
    let entry : ℕ → Scope = λ (k : ℕ). record { locals = s.scope.locals; defined = s.scope.defined ++ record { name = c.args.name.now; what = Function k c.levels-depth.result } ∷ []; current = s.scope.current } in
    ap (λ (x : State). Ok x) (state_is s c.args.name.now c.args.parameters c.args.body c.args.span c.levels-depth.result c.name_function.new.scope c.push.new.self.items deep (c.in_ok-name_function.ensures.named ∙ ap entry number) c.in_ok-push.ensures.items)

pub returns-clause-next : goal.returns-clause-next
returns-clause-next c =
    let s = c.args.script.now in
    let t = tree_of c.args.body in
    let e = c.in_ok-name_function.ensures.named in
    let deep = c.levels-depth.ensures ∙ ap (λ ls. depths ls t) c.as_slice.ensures.value ∙ same_depths s t c.requires.script in
    let number : c.len-number.result ≡ length s.functions.items = omega (arith, c.len-number.ensures) in
    let entry : ℕ → Scope = λ (k : ℕ). record { locals = s.scope.locals; defined = s.scope.defined ++ record { name = c.args.name.now; what = Function k c.levels-depth.result } ∷ []; current = s.scope.current } in
    record {
      outside = ap (λ x. x.locals) e ∙ c.requires.script.outside;
      idle = ap (λ x. x.current) e ∙ c.requires.script.idle;
      levels = levels_are s c.args.parameters c.args.body c.args.span c.levels-depth.result c.push.new.self.items c.name_function.new.levels.items c.requires.script deep c.in_ok-push.ensures.items c.in_ok-name_function.ensures.counted;
      scoped = subst ScopedState
          (state_is s c.args.name.now c.args.parameters c.args.body c.args.span c.levels-depth.result c.name_function.new.scope c.push.new.self.items deep (e ∙ ap entry number) c.in_ok-push.ensures.items)
          (function_more (state_of s) c.args.name.now c.args.parameters t c.args.span c.requires.script.scoped (functions_count s c.requires.room) c.requires.few (c.requires.scoped, c.requires.levels));
    }
