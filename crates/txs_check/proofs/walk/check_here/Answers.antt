use Rattle.std.proofs.Common.{rules, ◌≡◌, suc, length, refl, sym, ap, ◌∙◌}
use Rattle.txs_value_cell.specs.declared.form.CellForm.TheVariants as form_of
use Rattle.txs_tree_meaning.specs.Tree.{count}
use Rattle.txs_tree_meaning.specs.View.{trees_of}
use Rattle.txs_check.specs.declared.error.CheckErrorKind.TheVariants.{Arity}
use Rattle.txs_check.specs.Refused.{◌>>◌, applied, calls, formed, here, only, operates, recurs, sent}
use Rattle.txs_check.specs.Signatures.{known_as}
use Rattle.txs_check.proofs.Lists.{count_nodes}
use Rattle.txs_tree_meaning.proofs.Trees.{recur_node, core_node, call_node, update_node, send_node}
use Rattle.txs_check.proofs.walk.check_here.Goals as goal

pub returns-in-Recur : goal.returns-in-Recur
returns-in-Recur c =
    let ks = known_as c.args.signatures.now in
    let ns = c.in-Recur.values.items in
    let many : c.len.result ≡ length ns = search rules in
    let same : c.len.result ≡ count (trees_of ns) = many ∙ sym (count_nodes ns) in
    c.check_recur.ensures ∙ ap (λ n. recurs c.args.target n c.args.node.now.span) same ∙ sym (ap (λ e. here ks c.args.zone c.args.target e) (recur_node c.args.node.now c.in-Recur.values ns c.in-Recur.is refl))

pub returns-in-Core : goal.returns-in-Core
returns-in-Core c =
    let ks = known_as c.args.signatures.now in
    let ns = c.in-Core.args.items in
    let many : c.len-in-Core.result ≡ length ns = search rules in
    let same : c.len-in-Core.result ≡ count (trees_of ns) = many ∙ sym (count_nodes ns) in
    c.only.ensures ∙ ap (λ b. only b Arity c.args.node.now.span) c.takes.ensures ∙ ap (λ n. operates c.in-Core.op n c.args.node.now.span) same ∙ sym (ap (λ e. here ks c.args.zone c.args.target e) (core_node c.args.node.now c.in-Core.op c.in-Core.args ns c.in-Core.is refl))

pub returns-in-Call : goal.returns-in-Call
returns-in-Call c =
    let ks = known_as c.args.signatures.now in
    let ns = c.in-Call.args.items in
    let many : c.len-in-Call.result ≡ length ns = search rules in
    let same : c.len-in-Call.result ≡ count (trees_of ns) = many ∙ sym (count_nodes ns) in
    c.check_call.ensures ∙ ap (λ n. calls ks c.args.zone c.in-Call.number n c.args.node.now.span) same ∙ sym (ap (λ e. here ks c.args.zone c.args.target e) (call_node c.args.node.now c.in-Call.number c.in-Call.args ns c.in-Call.is refl))

pub returns-in-Update : goal.returns-in-Update
returns-in-Update c =
    let ks = known_as c.args.signatures.now in
    let ns = c.deref.result.now in
    c.check_applied.ensures ∙ ap (λ n. applied ks c.args.zone (form_of.Update c.in-Update.form) c.in-Update.callee (suc n) c.args.node.now.span) (sym (count_nodes ns))
    ∙ sym (ap (λ e. here ks c.args.zone c.args.target e) (update_node c.args.node.now c.in-Update.form c.in-Update.field-1 c.in-Update.callee c.in-Update.args c.in-Update.field-1.value ns c.in-Update.is refl c.deref.ensures.value))

pub returns-in-Send : goal.returns-in-Send
returns-in-Send c =
    let ks = known_as c.args.signatures.now in
    let ns = c.deref-in-Send.result.now in
    c.check_send.ensures ∙ ap (λ n. sent ks c.in-Send.callee (suc n) c.args.node.now.span >> formed c.args.zone form_of.Send c.args.node.now.span) (sym (count_nodes ns))
    ∙ sym (ap (λ e. here ks c.args.zone c.args.target e) (send_node c.args.node.now c.in-Send.field-0 c.in-Send.callee c.in-Send.args c.in-Send.field-0.value ns c.in-Send.is refl c.deref-in-Send.ensures.value))
