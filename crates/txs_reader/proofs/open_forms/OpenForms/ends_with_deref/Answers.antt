use Rattle.std.proofs.Common.{◌∙◌, sym}
use Rattle.std.proofs.lemmas.Bool.{false≢true}
use Rattle.txs_reader.specs.OpenForms.{opens}
use Rattle.txs_reader.specs.Tree.{trees}
use Rattle.txs_reader.proofs.Last.{innermost, deref_at, at_deref}
use Rattle.txs_reader.proofs.open_forms.OpenForms.ends_with_deref.Goals as goal

pub returns-in-Some-clause-yes : goal.returns-in-Some-clause-yes
returns-in-Some-clause-yes c =
    λ t. deref_at (opens c.args.self.now) c.in-Some.last.now (innermost c.args.self.now.open.items (trees c.args.self.now.forms.items) c.in-Some.last.now (rw c.deref.ensures.value at c.in-Some.ensures.value)) (c.is_deref.ensures.0 t)

pub returns-in-Some-clause-no : goal.returns-in-Some-clause-no
returns-in-Some-clause-no c =
    λ t f. false≢true (sym t ∙ c.is_deref.ensures.1 (at_deref (opens c.args.self.now) c.in-Some.last.now (innermost c.args.self.now.open.items (trees c.args.self.now.forms.items) c.in-Some.last.now (rw c.deref.ensures.value at c.in-Some.ensures.value)) f))
