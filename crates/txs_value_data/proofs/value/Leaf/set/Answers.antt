use Rattle.std.proofs.Common.{◌∙◌, ap, arith, length, rules}
use Rattle.txs_value_data.proofs.value.Leaf.set.Goals as goal

pub put-requires : goal.put-requires
put-requires c = omega (arith, c.requires, ap length c.self.view_is, ap length c.in-Some.ensures.value)

pub put-requires-2 : goal.put-requires-2
put-requires-2 c = omega (arith, c.requires, ap length c.self.view_is, ap length (c.in-Ok.ensures ∙ c.deref.ensures))

pub returns-in-Some-clause-ok : goal.returns-in-Some-clause-ok
returns-in-Some-clause-ok c = search rules

pub returns-clause-ok : goal.returns-clause-ok
returns-clause-ok c = search rules
