use Rattle.std.proofs.Common.{◌≡◌, arith, rules, true}
use Rattle.std.specs.Prelude.{◌==◌, ◌||◌}
use Rattle.txs_code_decode.specs.CodeForm.{magic_1, magic_2}
use Rattle.txs_code_decode.proofs.Decoded.{magic_read}
use Rattle.txs_code_decode.proofs.decoding.magic_at.Goals as goal

pub returns-clause-magic : goal.returns-clause-magic
returns-clause-magic c =
    let is : (c.in_ok-magic.magic == magic_1 || c.in_ok-magic.magic == magic_2) ≡ true = search rules in
    magic_read c.args.bytes.now c.in_ok-magic.rest.now c.in_ok-magic.magic (λ i. omega (arith, c.type_inv.bytes i)) c.in_ok-magic.ensures.value is
