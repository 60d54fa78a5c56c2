use Rattle.std.proofs.Common.{ℕ, suc, sym, ap, ◌∙◌, subst, arith}
use Rattle.txs_tree_meaning.specs.Known.{known}
use Rattle.txs_tree_meaning.specs.Scoped.{ScopedCells, ScopedValidator}
use Rattle.txs_tree_meaning.specs.View.{functions_of, threads_of}
use Rattle.txs_value_cell.specs.declared.cell.CellDefinition.{CellDefinition}
use Rattle.txs_resolve.specs.Names.{State}
use Rattle.txs_resolve_expand.specs.Scope.{Scope}
use Rattle.txs_resolve.specs.Scripts.{ScopedState, state_of}
use Rattle.txs_resolve.proofs.Scoping.{one_more}
use Rattle.txs_resolve.proofs.ScopedScripts.{cell_scoped, cells_more}
use Rattle.txs_resolve.proofs.script.with_cell.Goals as goal

pub returns-clause-next : goal.returns-clause-next
returns-clause-next c =
    let s = c.args.script.now in
    let e = c.in_ok-define.ensures in
    let ks = known (functions_of s.functions.items) in
    let cells = c.push.new.self.items in
    let spans = c.push-2.new.self.items in
    let cell = c.in_ok-new_cell.field-0 in
    let defined : Scope → State = λ (x : Scope). record { defined = x.defined; cells = cells; validator_spans = spans; functions = functions_of s.functions.items; threads = threads_of s.threads.items; defs = suc s.defs } in
    let counted : ℕ → State = λ (n : ℕ). record { defined = c.define.new.self.defined; cells = cells; validator_spans = spans; functions = functions_of s.functions.items; threads = threads_of s.threads.items; defs = n } in
    record {
      outside = ap (λ x. x.locals) e ∙ c.requires.script.outside;
      idle = ap (λ x. x.current) e ∙ c.requires.script.idle;
      levels = c.requires.script.levels;
      scoped = subst ScopedState (ap defined (sym e) ∙ ap counted (one_more s.defs))
          (cell_scoped (state_of s) cells spans c.args.name.now (record { kind = c.args.sort.kind; number = c.len-number.result }) c.requires.script.scoped c.requires.room
          (omega (arith, c.in_ok-push.ensures.len)) (omega (arith, c.in_ok-push-2.ensures.len))
          (subst (ScopedCells ks) (sym c.in_ok-push.ensures.items) (cells_more ks s.cells.items cell c.requires.script.scoped.cells (subst (λ (d : CellDefinition). ScopedValidator ks d.validator) (sym c.in_ok-new_cell.ensures) c.requires.scoped))));
    }
