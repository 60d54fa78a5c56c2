use Rattle.std.proofs.Common.{◌≡◌, ◌↔◌, ◌+◌, ◌∙◌, ℕ, suc, Bool, true, List, length, Some, ap, sym, subst, arith}
use Rattle.txs_world_protocol.specs.declared.ask.Reply.{Reply}
use Rattle.txs_code_meaning.specs.PlainCode.{parameters_of}
use Rattle.txs_value_apply.specs.Core.{takes}
use Rattle.txs_value_data.specs.Places.{nth}
use Rattle.txs_value_data.specs.declared.op.Callee.{Callee}
use Rattle.txs_value_data.specs.declared.value.Value.{Value}
use Rattle.txs_history_run.specs.Callees.{HandsOutSent, IsCallee, TakesSent}
use Rattle.txs_history_run.proofs.callees.hands_out.Goals as goal

-- the values are the agent's state and the arguments
one_more : (xs ys : List Value) → xs ≡ ys → length xs + 1 ≡ suc (length ys)
one_more xs ys e = let n = ap length e in omega (arith, n)

same_answer : {b d : Bool} → b ≡ d → (b ≡ true) ↔ (d ≡ true)
same_answer e = ((λ t. sym e ∙ t), (λ t. e ∙ t))

pub returns-in-Core : goal.returns-in-Core
returns-in-Core c =
    let code = c.args.code.now in
    let x = c.in-Action.action in
    let able = same_answer (c.takes.ensures ∙ ap (takes c.in-Core.op) (one_more c.as_slice.result.now x.args c.as_slice.ensures)) in
    subst (λ (r : Reply). (c.takes.result ≡ true) ↔ HandsOutSent code r) (sym c.in-Action.is) (subst (λ (k : Callee). (c.takes.result ≡ true) ↔ TakesSent code k (suc (length x.args))) (sym c.in-Core.is) able)

pub returns-in-Function : goal.returns-in-Function
returns-in-Function c =
    let code = c.args.code.now in
    let x = c.in-Action.action in
    let able = subst (λ (n : ℕ). (c.takes_so.result ≡ true) ↔ (IsCallee code c.from.result × (nth (parameters_of code.functions) c.from.result ≡ Some n))) (one_more c.as_slice.result.now x.args c.as_slice.ensures) c.takes_so.ensures in
    let here = subst (λ (f : ℕ). (c.takes_so.result ≡ true) ↔ (IsCallee code f × (nth (parameters_of code.functions) f ≡ Some (suc (length x.args))))) c.from.ensures able in
    subst (λ (r : Reply). (c.takes_so.result ≡ true) ↔ HandsOutSent code r) (sym c.in-Action.is) (subst (λ (k : Callee). (c.takes_so.result ≡ true) ↔ TakesSent code k (suc (length x.args))) (sym c.in-Function.is) here)
