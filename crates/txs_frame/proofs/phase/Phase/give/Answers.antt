use Rattle.std.proofs.Common.{◌≡◌, ◌+◌, true, List, ◌∷◌, length, slice_index_or, ap, sym, subst, ◌∙◌}
use Rattle.std.specs.Prelude.{drop, nat_lt}
use Rattle.txs_world_protocol.specs.Ask.{Writes}
use Rattle.txs_frame.specs.Phase.{IsPhase}
use Rattle.txs_frame.specs.declared.frame.Commute.{Commute}
use Rattle.txs_frame.specs.declared.phase.Task.{Task}
use Rattle.txs_frame.specs.declared.phase.Task.TheVariants.{Redoes}
use Rattle.txs_frame.proofs.Phasing.{gives, next_task}
use Rattle.txs_frame.proofs.phase.Phase.give.Goals as goal

pub invariant_of-self : goal.invariant_of-self
invariant_of-self c =
    let s = c.self.inside in
    let xs : List Task = s.work.items in
    let k : Commute = c.in-Some-Redoes.commute in
    let x : Task = c.in-Some-Redoes.field-0.now in
    let lookup = c.in-Some-Redoes.ensures.lookup in
    let lent : c.deref.result.now ≡ xs = c.deref.ensures.value in
    let there : nat_lt s.next (length xs) ≡ true = sym (lookup.0 ∙ ap (λ (ys : List Task). nat_lt s.next (length ys)) lent) in
    let is : Redoes k ≡ slice_index_or xs s.next x = sym c.in-Some-Redoes.field-0-is ∙ lookup.1 ∙ ap (λ (ys : List Task). slice_index_or ys s.next x) lent in
    let e : drop s.next xs ≡ Redoes k ∷ drop (s.next + 1) xs = next_task xs s.next x there ∙ ap (λ (y : Task). y ∷ drop (s.next + 1) xs) (sym is) in
    subst (λ (ws : Writes). IsPhase ws (drop (s.next + 1) xs)) (sym c.put_value.ensures) (gives s.values.items k (drop (s.next + 1) xs) c.args.value (subst (IsPhase s.values.items) e c.self.invariant))
