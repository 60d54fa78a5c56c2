use Rattle.std.proofs.Common.{arith, ◌≡◌, suc, ◌-◌, sym, ap, ◌∙◌}
use Rattle.txs_gen.specs.Emission.{emission, with_stores}
use Rattle.txs_gen.proofs.Emissions.{stores_more}
use Rattle.txs_gen.proofs.emit.Emitter.store_all.Goals as goal

pub loop-preserved : goal.loop-preserved
loop-preserved c =
    let n = c.loop.left - 1 in
    let e : suc n ≡ c.loop.left = omega (arith, c.loop.invariant.left, c.loop-test.true) in
    record {
      made = ap (λ x. with_stores c.args.from n c.args.span x) c.in_ok-put.ensures
          ∙ sym (stores_more c.args.from n c.args.span (emission c.loop.self))
          ∙ ap (λ m. with_stores c.args.from m c.args.span (emission c.loop.self)) e
          ∙ c.loop.invariant.made;
      left = omega (arith, e, c.loop.invariant.left);
    }
