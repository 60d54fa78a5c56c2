use Rattle.std.proofs.Common.{◌≡◌, true, sym, ap, ◌∙◌, subst}
use Rattle.txs_value_data.specs.declared.op.Callee.{Callee}
use Rattle.txs_tree_meaning.specs.Known.{known}
use Rattle.txs_tree_meaning.specs.Sound.{SentCallee}
use Rattle.txs_tree_meaning.specs.View.{Parts, functions_of}
use Rattle.txs_check.specs.Signatures.{bare, is_sent_call, known_as}
use Rattle.txs_check.proofs.Callees.{sent_call_same, told_sent, sent_told}
use Rattle.txs_check.proofs.callee.FunctionTable.may_be_sent.Goals as goal

pub returns-in-Function : goal.returns-in-Function
returns-in-Function c =
    let ks = known (functions_of c.args.self.now.functions) in
    let ls = known_as c.as_slice.result.now in
    let f = c.in-Function.number in
    let n = c.args.count in
    let same : bare ls ≡ bare ks =
    ap (λ l. bare (known_as l)) c.as_slice.ensures.value ∙ c.self.invariant ∙ ap (λ (p : Parts). bare (known (functions_of p.functions))) c.self.view_is in
    let told : c.is_sent_function.result ≡ is_sent_call ks f n = c.is_sent_function.ensures ∙ sent_call_same ks ls same f n in
    subst (λ (x : Callee). (c.is_sent_function.result ≡ true → SentCallee ks x n) × (SentCallee ks x n → c.is_sent_function.result ≡ true)) (sym c.in-Function.is)
    (λ e. told_sent ks f n (sym told ∙ e), λ s. told ∙ sent_told ks f n s)
