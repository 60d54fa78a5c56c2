use Rattle.std.proofs.Common.{◌≡◌, ◌++◌, ◌∙◌, ℕ, List, OnOk, subst}
use Rattle.txs_cli_report.proofs.text.write_number.Goals as goal

pub returns-clause-ok : goal.returns-clause-ok
returns-clause-ok c =
    let old = c.args.out.now.items in
    let new = c.write_both.new.out.items in
    let r = c.write_both.result in
    subst (λ (number : List ℕ). OnOk r (new ≡ old ++ (c.args.before.now ++ number))) (c.as_bytes.ensures.value ∙ c.format.ensures.text) c.write_both.ensures.ok

pub returns-clause-kept : goal.returns-clause-kept
returns-clause-kept c = c.write_both.ensures.kept
