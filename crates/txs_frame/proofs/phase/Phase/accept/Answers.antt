use Rattle.std.proofs.Common.{◌∙◌, List, ap, sym, subst}
use Rattle.std.specs.Prelude.{drop}
use Rattle.txs_frame.specs.Phase.{IsPhase, PlainPhase, behind_next}
use Rattle.txs_frame.specs.declared.phase.Task.{Task}
use Rattle.txs_frame.proofs.Phasing.{accepts, behind_drop}
use Rattle.txs_frame.proofs.phase.Phase.accept.Goals as goal

pub invariant_of-self : goal.invariant_of-self
invariant_of-self c =
    let s = c.self.inside in
    subst (λ (xs : List Task). IsPhase s.values.items xs) (behind_drop s.work.items s.next) (accepts s.values.items (drop s.next s.work.items) c.self.invariant)

pub returns : goal.returns
returns c =
    let s = c.self.inside in
    let made : List Task → PlainPhase = λ xs. record { work = xs; values = s.values.items } in
    ap made (sym (behind_drop s.work.items s.next)) ∙ ap (λ (p : PlainPhase). record p { work = behind_next p.work }) c.self.view_is
