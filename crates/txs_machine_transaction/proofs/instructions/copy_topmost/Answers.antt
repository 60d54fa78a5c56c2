use Rattle.std.proofs.Common.{◌≡◌, ◌≤◌, ◌+◌, ◌∙◌, ℕ, ap, rules}
use Rattle.txs_machine_loop.specs.Values.{topmost}
use Rattle.txs_machine_transaction.proofs.Keeping.{copied_more, copied_all}
use Rattle.txs_machine_transaction.proofs.instructions.copy_topmost.Goals as goal

pub loop-i-preserved : goal.loop-i-preserved
loop-i-preserved c =
    let i = c.loop-i.invariant in
    let so_far = i.copied in
    let p = c.push_reserved.ensures in
    record {
      copied = search (rules, so_far, copied_more);
      many = p.len ∙ ap (λ (n : ℕ). n + 1) i.many;
      room = p.capacity ∙ i.room;
    }

pub returns : goal.returns
returns c =
    let vs = c.args.stack.now.values in
    let ended : c.args.n ≤ c.loop-i.i = search rules in
    let all : c.loop-i.copies.items ≡ topmost c.args.n vs = copied_all vs c.loop-i.copies.items c.args.n c.loop-i.i c.requires ended c.loop-i.invariant.copied in
    search (rules, all)
