use Rattle.std.proofs.Common.{◌≡◌, ℕ, Ok, subst, rules}
use Rattle.txs_code_decode.specs.Format.{bytes_at}
use Rattle.txs_code_decode.proofs.TextLemmas.{text_reads, text_refused}
use Rattle.txs_code_decode.proofs.fields.text_at.Goals as goal

pub returns-in_ok-from_string-in-Ok : goal.returns-in_ok-from_string-in-Ok
returns-in_ok-from_string-in-Ok c =
    let same : c.from.result ≡ c.in_ok-len.len = search rules in
    let front = subst (λ (n : ℕ). bytes_at n c.in_ok-len.rest.now ≡ Ok (c.in_ok-text.text.now, c.in_ok-text.after.now)) same c.in_ok-text.ensures.value in
    let r = text_reads c.args.bytes.now c.in_ok-len.rest.now c.in_ok-text.text.now c.in_ok-text.after.now c.in_ok-len.len c.in_ok-len.ensures front c.in-Ok.ensures.cases.1 in
    search (rules, r)

pub returns-in-Err : goal.returns-in-Err
returns-in-Err c =
    let same : c.from.result ≡ c.in_ok-len.len = search rules in
    let front = subst (λ (n : ℕ). bytes_at n c.in_ok-len.rest.now ≡ Ok (c.in_ok-text.text.now, c.in_ok-text.after.now)) same c.in_ok-text.ensures.value in
    let r = text_refused c.args.bytes.now c.in_ok-len.rest.now c.in_ok-text.text.now c.in_ok-text.after.now c.in_ok-len.len c.in_ok-len.ensures front c.in-Err.ensures.cases.0 in
    rw c.refused.ensures r
