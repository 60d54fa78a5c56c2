use Rattle.std.proofs.Common.{rules}
use Rattle.txs_reader.specs.declared.form.Form.{the_lemmas}
use Rattle.txs_reader.proofs.form.Form.span.Goals as goal

pub returns : goal.returns
returns c = search (rules, the_lemmas)
