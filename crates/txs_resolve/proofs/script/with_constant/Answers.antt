use Rattle.std.proofs.Common.{ℕ, suc, sym, ap, ◌∙◌, subst}
use Rattle.txs_tree_meaning.specs.View.{functions_of, threads_of}
use Rattle.txs_resolve.specs.Names.{State}
use Rattle.txs_resolve_expand.specs.Scope.{Scope}
use Rattle.txs_resolve.specs.Scripts.{ScopedState, state_of}
use Rattle.txs_resolve.proofs.Scoping.{one_more}
use Rattle.txs_resolve.proofs.ScopedScripts.{constant_scoped}
use Rattle.txs_resolve.proofs.script.with_constant.Goals as goal

pub returns-clause-next : goal.returns-clause-next
returns-clause-next c =
    let s = c.args.script.now in
    let e = c.in_ok-define.ensures in
    let defined : Scope → State = λ (x : Scope). record { defined = x.defined; cells = s.cells.items; validator_spans = s.validator_spans.items; functions = functions_of s.functions.items; threads = threads_of s.threads.items; defs = suc s.defs } in
    let counted : ℕ → State = λ (n : ℕ). record { defined = c.define.new.self.defined; cells = s.cells.items; validator_spans = s.validator_spans.items; functions = functions_of s.functions.items; threads = threads_of s.threads.items; defs = n } in
    record {
      outside = ap (λ x. x.locals) e ∙ c.requires.script.outside;
      idle = ap (λ x. x.current) e ∙ c.requires.script.idle;
      levels = c.requires.script.levels;
      scoped = subst ScopedState (ap defined (sym e) ∙ ap counted (one_more s.defs)) (constant_scoped (state_of s) c.args.name.now c.args.value c.requires.script.scoped c.requires.room);
    }
