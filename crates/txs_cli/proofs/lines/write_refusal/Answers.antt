use Rattle.std.proofs.Common.{◌≡◌, ◌++◌, ℕ, List, OnOk, codes, sym, subst, subst₂}
use Rattle.txs_verify.specs.declared.load_error.LoadError.{LoadError}
use Rattle.txs_cli.specs.CodeLines.{at_number, in_body, load_line, refused_front}
use Rattle.txs_cli.proofs.lines.write_refusal.Goals as goal

pub returns-in-Bytes-clause-line : goal.returns-in-Bytes-clause-line
returns-in-Bytes-clause-line c =
    let e = c.in-Bytes.e in
    let old = c.args.line.now.items in
    let new = c.write_line.new.line.items in
    let r = c.write_line.result in
    subst (λ (x : LoadError). OnOk r (new ≡ old ++ load_line x)) (sym c.in-Bytes.is)
    (subst₂ (λ (n : ℕ) (s : List ℕ). OnOk r (new ≡ old ++ (refused_front n s ++ at_number (codes " at ") e.at))) c.number.ensures c.name.ensures c.write_line.ensures)

pub returns-in-Code-clause-line : goal.returns-in-Code-clause-line
returns-in-Code-clause-line c =
    let e = c.in-Code.e in
    let old = c.args.line.now.items in
    let new = c.write_line-in-Code.new.line.items in
    let r = c.write_line-in-Code.result in
    subst (λ (x : LoadError). OnOk r (new ≡ old ++ load_line x)) (sym c.in-Code.is)
    (subst₂ (λ (n : ℕ) (s : List ℕ). OnOk r (new ≡ old ++ (refused_front n s ++ in_body e.body e.at))) c.number-in-Code.ensures c.name-in-Code.ensures c.write_line-in-Code.ensures)
