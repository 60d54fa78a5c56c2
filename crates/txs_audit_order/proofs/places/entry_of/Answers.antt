use Rattle.std.proofs.Common.{◌≡◌, ◌<◌, ◌+◌, ◌-◌, ◌∙◌, ap, arith, length, option_copied}
use Rattle.txs_value_data.specs.Places.{nth}
use Rattle.txs_audit_order.proofs.Locating.{entry_agent, entry_thread}
use Rattle.txs_audit_order.proofs.Lending.{got}
use Rattle.txs_audit_order.proofs.places.entry_of.Goals as goal

pub returns-then-actor-threads : goal.returns-then-actor-threads
returns-then-actor-threads c =
    let r = c.args.report.now in
    let size = r.threads.ok.0 in
    let is : option_copied c.get.result ≡ nth r.threads.items c.args.actor =
    got c.deref.result.now c.from-actor.result c.get.result c.get.ensures.lookup.3 ∙ ap (λ l. nth l c.from-actor.result) c.deref.ensures.value ∙ ap (nth r.threads.items) c.from-actor.ensures in
    let lt : c.args.actor < length r.threads.items = omega (arith, size, c.len-threads.ensures, c.from-actor.ensures, c.if-actor-threads.true) in
    entry_thread r c.args.actor (option_copied c.get.result) lt is

pub returns : goal.returns
returns c =
    let r = c.args.report.now in
    let size = r.threads.ok.0 in
    let k = c.from-actor.result - c.len-threads.result in
    let is : option_copied c.get-2.result ≡ nth r.agents.items k = got c.deref-2.result.now k c.get-2.result c.get-2.ensures.lookup.3 ∙ ap (λ l. nth l k) c.deref-2.ensures.value in
    let at : c.args.actor ≡ length r.threads.items + k = omega (arith, size, c.len-threads.ensures, c.from-actor.ensures, c.if-actor-threads.false) in
    entry_agent r c.args.actor k (option_copied c.get-2.result) at is
