use Rattle.std.proofs.Common.{◌∙◌, ap, arith, length}
use Rattle.std.proofs.lemmas.List.{length-take, take_all}
use Rattle.txs_value_data.proofs.CopyLemmas.{copied}
use Rattle.txs_value_data.proofs.copy.copy_with.Goals as goal

pub loop-item-init : goal.loop-item-init
loop-item-init g c = let h = c.in_ok-copies.ensures in record { items = h.items; capacity = h.exact }

pub push_reserved-requires : goal.push_reserved-requires
push_reserved-requires g c =
    let many = ap length c.loop-item.invariant.items in
    let taken = length-take c.loop-item.item-index c.args.items.now in
    omega (arith, many, taken, c.loop-item.copies.ok.0)

pub loop-item-preserved : goal.loop-item-preserved
loop-item-preserved g c =
    let h = c.loop-item in
    let put = c.push_reserved in
    record {
      items = copied c.args.items.now h.item-index c.item-item.result h.copies.items put.new.self.items _ c.loop-item-test.true c.item-item.is h.invariant.items put.ensures.items c.in_ok-share.ensures;
      capacity = put.ensures.capacity ∙ h.invariant.capacity;
    }

pub returns : goal.returns
returns g c =
    let out = c.loop-item-test.false in
    c.loop-item.invariant.items ∙ take_all c.loop-item.item-index c.args.items.now (omega (arith, out))
