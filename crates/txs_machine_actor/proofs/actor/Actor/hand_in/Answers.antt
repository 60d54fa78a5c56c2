use Rattle.std.proofs.Common.{◌≡◌, ◌∙◌, ◌<◌, ℕ, true, false, length, sym, subst, refl}
use Rattle.txs_machine_loop.specs.Values.{last_of, but_last}
use Rattle.txs_frame.specs.Phase.{PlainPhase}
use Rattle.txs_value_data.specs.declared.value.CellId.{CellId}
use Rattle.txs_value_data.specs.declared.value.Value.{Value}
use Rattle.txs_machine_stack.specs.PlainFrame.{PlainStack}
use Rattle.txs_machine_transaction.specs.declared.state.Savepoint.{Savepoint}
use Rattle.txs_machine_transaction.specs.declared.state.Transaction.{Transaction}
use Rattle.txs_machine_transaction.specs.declared.state.Transaction.TheVariants.{Outside, Restarting, Running, Applying, Evaluating, Swapping, Judging, Weighing}
use Rattle.txs_machine_transaction.specs.declared.role.Role.{Role}
use Rattle.txs_machine_transaction.specs.declared.role.Role.TheVariants.{Thread, Attending, Acting}
use Rattle.txs_machine_actor.specs.PlainActor.{PlainActor}
use Rattle.txs_machine_actor.specs.Turns.{IsServing, IsEvaluating, handed_back, hands_in}
use Rattle.txs_machine_actor.proofs.actor.Actor.hand_in.Goals as goal

-- no function of a task or of an atom's validator runs
record NoneRuns (t : Transaction) : Type 0 where
  task : (l : ℕ) (f : Savepoint) (p : PlainPhase) (s : PlainStack) → t ≡ Evaluating l f p s → ⊥
  reset : (s : PlainStack) → t ≡ Judging s → ⊥
  swap : (c : CellId) (q : ℕ) (f : Savepoint) (s : PlainStack) → t ≡ Weighing c q f s → ⊥

-- that of an action, or of an agent's validator, does then
no_other : (r : Role) (t : Transaction) → NoneRuns t → IsEvaluating r t → IsServing r
no_other r Outside e w = w
no_other r (Restarting l) e w = w
no_other r (Running l i f) e w = w
no_other r (Applying l f p) e w = w
no_other r (Evaluating l f p s) e w = absurd (e.task l f p s refl)
no_other r (Swapping c p f) e w = w
no_other r (Judging s) e w = absurd (e.reset s refl)
no_other r (Weighing c p f s) e w = absurd (e.swap c p f s refl)

-- its value is handed back then, whatever value lies on top
handed : (a : PlainActor) (t : Transaction) → NoneRuns t → handed_back a (last_of a.values) a.role ≡ hands_in a t
handed a Outside e = refl
handed a (Restarting l) e = refl
handed a (Running l i f) e = refl
handed a (Applying l f p) e = refl
handed a (Evaluating l f p s) e = absurd (e.task l f p s refl)
handed a (Swapping c p f) e = refl
handed a (Judging s) e = absurd (e.reset s refl)
handed a (Weighing c p f s) e = absurd (e.swap c p f s refl)

-- the values that lay below it are forgotten
forgotten : (a : PlainActor) (v : Value) (r : Role) → IsServing r → handed_back (record a { values = but_last a.values }) v r ≡ handed_back a v r
forgotten a v Thread i = absurd i
forgotten a v (Attending g o) i = absurd i
forgotten a v (Acting h false aside) i = refl
forgotten a v (Acting h true aside) i = refl

-- a task is left where its function runs
task_left : (r : Role) (l : ℕ) (f : Savepoint) (p : PlainPhase) (s : PlainStack) (t : Transaction) → t ≡ Evaluating l f p s → IsEvaluating r t → 0 < length p.work
task_left r l f p s t e w = subst (λ (x : Transaction). IsEvaluating r x) e w

pub give_task-requires : goal.give_task-requires
give_task-requires c =
    let r = c.self.inside.role in
    let e = c.in-Evaluating in
    task_left r e.left e.from e.phase e.aside c.self.inside.tx (sym c.take.ensures.taken ∙ e.is) (subst (λ (a : PlainActor). IsEvaluating a.role a.tx) (sym c.self.view_is) c.requires.evaluating)

pub hand_back-requires : goal.hand_back-requires
hand_back-requires c =
    let r = c.self.inside.role in
    let o = c.in_default in
    no_other r c.take.result (record { task = o.not-Evaluating; reset = o.not-Judging; swap = o.not-Weighing }) (subst (λ (t : Transaction). IsEvaluating r t) (sym c.take.ensures.taken) (subst (λ (a : PlainActor). IsEvaluating a.role a.tx) (sym c.self.view_is) c.requires.evaluating))
