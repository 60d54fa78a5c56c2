use Rattle.std.proofs.Common.{◌∙◌, ap, arith, length, sym}
use Rattle.txs_value_data.specs.Rows.{stored}
use Rattle.txs_value_data.proofs.body.stored_len.Goals as goal

pub returns-in-None-clause-value : goal.returns-in-None-clause-value
returns-in-None-clause-value c = ap (λ r. length (stored r)) (sym c.in-None.is)

pub returns-in-None-clause-small : goal.returns-in-None-clause-small
returns-in-None-clause-small c = omega arith

pub returns-in-Some-clause-value : goal.returns-in-Some-clause-value
returns-in-Some-clause-value c = c.len.ensures.value ∙ ap length (c.deref.ensures ∙ c.root.view_is) ∙ ap (λ r. length (stored r)) (sym c.in-Some.is)

pub returns-in-Some-clause-small : goal.returns-in-Some-clause-small
returns-in-Some-clause-small c = c.len.ensures.small
