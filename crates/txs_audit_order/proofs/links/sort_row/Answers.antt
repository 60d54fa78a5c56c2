use Rattle.std.proofs.Common.{subst, rules}
use Rattle.std.proofs.lemmas.List.Sorted.{IsNonDecreasingBy-from_sort_by_key}
use Rattle.std.specs.List.Sorted.{IsPermutation}
use Rattle.txs_audit_order.specs.declared.links.Before.{Before}
use Rattle.txs_audit_order.proofs.links.sort_row.Goals as goal

pub returns : goal.returns
returns c = record {
  same = subst (λ l. IsPermutation l c.sort_unstable_by_key.new.self.items) c.row.view_is c.sort_unstable_by_key.ensures.permutation;
  ascends = IsNonDecreasingBy-from_sort_by_key (λ (x : Before). x.at) c.sort_unstable_by_key.new.self.items c.sort_unstable_by_key.ensures.sorted (λ a r q k. search rules);
}
