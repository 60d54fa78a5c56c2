use Rattle.std.proofs.Common.{◌∙◌, ap, arith, length, rules, sym}
use Rattle.std.proofs.lemmas.Int.{to_z-of_z}
use Rattle.std.proofs.lemmas.List.{length-take, take_all}
use Rattle.std.specs.Int.{w64}
use Rattle.std.specs.Int.RustNames.{FitsSigned}
use Rattle.txs_value_data.specs.declared.value.Value.TheVariants.{Int}
use Rattle.txs_value_data.proofs.CopyLemmas.{copied}
use Rattle.txs_value_data.proofs.NumbersLemmas.{number_at}
use Rattle.txs_value_data.proofs.row.copy_numbers.Goals as goal

pub loop-item-init : goal.loop-item-init
loop-item-init c = let h = c.in_ok-copies.ensures in record { items = h.items; capacity = h.exact }

pub number-requires : goal.number-requires
number-requires c = number_at c.args.items.now c.loop-item.item-index c.item-item.result c.requires.numbers c.loop-item-test.true c.item-item.is

pub push_reserved-requires : goal.push_reserved-requires
push_reserved-requires c =
    let many = ap length c.loop-item.invariant.items in
    let taken = length-take c.loop-item.item-index c.args.items.now in
    omega (arith, many, taken, c.loop-item.copies.ok.0)

pub loop-item-preserved : goal.loop-item-preserved
loop-item-preserved c =
    let h = c.loop-item in
    let put = c.push_reserved in
    let n = c.number.result in
    let fits : FitsSigned w64 n = search rules in
    record {
      items = copied c.args.items.now h.item-index c.item-item.result h.copies.items put.new.self.items _ c.loop-item-test.true c.item-item.is h.invariant.items put.ensures.items (ap Int (to_z-of_z w64 n fits) ∙ sym c.number.ensures);
      capacity = put.ensures.capacity ∙ h.invariant.capacity;
    }

pub returns : goal.returns
returns c =
    let out = c.loop-item-test.false in
    c.loop-item.invariant.items ∙ take_all c.loop-item.item-index c.args.items.now (omega (arith, out))
