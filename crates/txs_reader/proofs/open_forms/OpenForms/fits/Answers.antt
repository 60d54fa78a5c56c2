use Rattle.std.proofs.Common.{◌∙◌, sym}
use Rattle.std.proofs.lemmas.Bool.{false≢true}
use Rattle.txs_reader.specs.OpenForms.{opens}
use Rattle.txs_reader.specs.Tree.{trees}
use Rattle.txs_reader.proofs.Last.{innermost, fits_at, at_fits}
use Rattle.txs_reader.proofs.open_forms.OpenForms.fits.Goals as goal

pub returns-in-Some-clause-yes : goal.returns-in-Some-clause-yes
returns-in-Some-clause-yes c =
    λ t. fits_at (opens c.args.self.now) c.in-Some.last.now c.args.bracket (innermost c.args.self.now.open.items (trees c.args.self.now.forms.items) c.in-Some.last.now (rw c.deref.ensures.value at c.in-Some.ensures.value)) (c.has_bracket.ensures.0 t)

pub returns-in-Some-clause-no : goal.returns-in-Some-clause-no
returns-in-Some-clause-no c =
    λ t f. false≢true (sym t ∙ c.has_bracket.ensures.1 (at_fits (opens c.args.self.now) c.in-Some.last.now c.args.bracket (innermost c.args.self.now.open.items (trees c.args.self.now.forms.items) c.in-Some.last.now (rw c.deref.ensures.value at c.in-Some.ensures.value)) f))
