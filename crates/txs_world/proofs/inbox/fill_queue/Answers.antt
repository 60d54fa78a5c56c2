use Rattle.std.proofs.lemmas.List.{take_all}
use Rattle.std.proofs.Common.{◌≤◌, ◌+◌, ◌∙◌, ap, length, subst, sym, arith}
use Rattle.txs_world_book.proofs.Lists.{take_next}
use Rattle.txs_world.proofs.inbox.fill_queue.Goals as goal

pub loop-action-preserved : goal.loop-action-preserved
loop-action-preserved c =
    let h = c.loop-action in
    let put = c.push_back_reserved in
    record {
      many = put.ensures.len ∙ ap (λ n. n + 1) h.invariant.many;
      room = subst (λ n. length c.args.actions.now ≤ n) (sym put.ensures.capacity) h.invariant.room;
      built = take_next c.args.actions.now h.action-index c.action-item.result h.queue.items put.new.self.items c.in_ok-copy.copy c.loop-action-test.true c.action-item.is h.invariant.built put.ensures.items c.in_ok-copy.ensures;
    }

pub loop-action-init : goal.loop-action-init
loop-action-init c =
    record { many = c.reserve.ensures.len ∙ c.clear.ensures.len; room = omega (arith, c.in_ok-reserve.ensures.ok); built = c.reserve.ensures.items ∙ c.clear.ensures.items }

pub push_back_reserved-requires : goal.push_back_reserved-requires
push_back_reserved-requires c = omega arith

pub returns : goal.returns
returns c =
    let out = c.loop-action-test.false in
    c.loop-action.invariant.built ∙ take_all c.loop-action.action-index c.args.actions.now (omega (arith, out))
