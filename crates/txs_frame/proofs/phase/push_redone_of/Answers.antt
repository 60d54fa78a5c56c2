use Rattle.std.proofs.Common.{ap, sym, ◌∙◌, List, Vec, Global, [], ◌∷◌, ◌++◌, map, take, append_assoc}
use Rattle.std.proofs.lemmas.List.{map-append}
use Rattle.txs_value_data.specs.declared.value.Value.{Value}
use Rattle.txs_frame.specs.Frame.{commutes_of}
use Rattle.txs_frame.specs.declared.frame.Commute.{Commute}
use Rattle.txs_frame.specs.declared.phase.Task.{Task}
use Rattle.txs_frame.specs.declared.phase.Task.TheVariants.{Redoes}
use Rattle.txs_frame.proofs.Turns.{commutes_join, commutes_stay}
use Rattle.txs_frame.proofs.phase.push_redone_of.Goals.{then-commute-number+in_ok-reserve+in_ok-copy_values, else-commute-number}
use Rattle.txs_frame.proofs.phase.push_redone_of.Goals as goal

pub loop-commute-preserved : goal.loop-commute-preserved
loop-commute-preserved c =
    let ks = c.args.commutes.now in
    let n = c.args.number in
    let i = c.loop-commute.commute-index in
    let o = c.commute-item.result in
    let was = c.args.tasks.now.items in
    let before : List Commute = commutes_of n (take i ks) in
    let made : List Value → Commute = λ vs. record { cell = o.cell; callee = o.callee; args = vs } in
    elim c.if-commute-number.branch [
      | then-commute-number+in_ok-reserve+in_ok-copy_values w ↦
          let k = made w.in_ok-copy_values.field-0 in
          ap (λ (v : Vec Task Global). v.items) w.tasks-is ∙ w.push_reserved.ensures.items ∙ ap (λ (x : List Task). x ++ Redoes k ∷ []) (w.in_ok-reserve.ensures.items ∙ c.loop-commute.invariant)
          ∙ append_assoc was (map Redoes before) (Redoes k ∷ []) ∙ ap (λ (vs : List Value). was ++ (map Redoes before ++ Redoes (made vs) ∷ [])) w.in_ok-copy_values.ensures
          ∙ ap (λ (x : List Task). was ++ x) (sym (map-append Redoes before (o ∷ [])) ∙ ap (map Redoes) (sym (commutes_join n ks i o c.loop-commute-test.true c.commute-item.is w.if-commute-number.true)))
      | else-commute-number w ↦
          ap (λ (v : Vec Task Global). v.items) w.tasks-is ∙ c.loop-commute.invariant ∙ ap (λ (x : List Commute). was ++ map Redoes x) (sym (commutes_stay n ks i o c.loop-commute-test.true c.commute-item.is w.if-commute-number.false))
    ]
