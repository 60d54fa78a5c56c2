use Rattle.std.proofs.Common.{◌≡◌, ap, ◌∙◌, length, refl, arith}
use Rattle.std.proofs.lemmas.List.{length-map}
use Rattle.txs_reader.specs.Rows.{before_all}
use Rattle.txs_reader.specs.Tree.{tree, trees}
use Rattle.txs_reader.proofs.Rows.{before_all-push, divided-open}
use Rattle.txs_reader.proofs.open_forms.OpenForms.open.Goals as goal

pub invariant_of-self-2 : goal.invariant_of-self-2
invariant_of-self-2 c =
    let sum = ap before_all c.in_ok-push.ensures.items ∙ before_all-push c.args.self.now.open.items _ in
    record { counted = omega (arith, sum, c.args.self.now.counted, c.args.self.now.within); within = omega arith }

pub returns-clause-open : goal.returns-clause-open
returns-clause-open c =
    let ts = trees c.args.self.now.forms.items in
    let all : c.len-len.result ≡ length ts = omega (arith, length-map c.args.self.now.forms.items tree) in
    divided-open _ _ _ ts c.args.self.now.start c.len-len.result c.in_ok-push.ensures.items c.args.self.now.counted all refl
