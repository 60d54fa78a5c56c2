use Rattle.std.proofs.Common.{◌++◌, ap, ◌∙◌}
use Rattle.txs_value_data.specs.Rows.{stored}
use Rattle.txs_value_data.specs.View.{plain_of}
use Rattle.txs_value_data.proofs.BodyLemmas.{body-set}
use Rattle.txs_value_data.proofs.value.Body.set.Goals as goal

pub returns-then-place-before : goal.returns-then-place-before
returns-then-place-before c =
    ap (λ xs. stored c.self.inside.root ++ xs) c.put.ensures
    ∙ body-set (stored c.self.inside.root) c.self.inside.tail c.args.self.now c.self.view_is c.stored_len-before.result c.args.place (plain_of c.args.item) c.stored_len-before.ensures.value c.if-place-before.true c.requires
