use Rattle.std.proofs.Common.{◌≡◌, ◌+◌}
use Rattle.txs_gen.specs.Emission.{emission, with_stores}
use Rattle.txs_gen.proofs.emit.Emitter.store_all.Given as goal

abbrev pub invariant-loop : goal.invariant-loop
invariant-loop l = record {
  made : with_stores l.from l.left l.span (emission l.self) ≡ with_stores l.from l.count l.span (emission l.fn.self);
  left : l.left + l.counter ≡ l.count;
}
