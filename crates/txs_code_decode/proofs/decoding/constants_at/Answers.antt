use Rattle.std.proofs.Common.{true, rules}
use Rattle.txs_code_decode.specs.CellForm.{kinds_of}
use Rattle.txs_code_decode.specs.CodeForm.{constants_format}
use Rattle.txs_code_decode.proofs.CellLemmas.{constants_read}
use Rattle.txs_code_decode.proofs.decoding.constants_at.Goals as goal

pub returns-else-count-gt-MOST_CONSTANTS : goal.returns-else-count-gt-MOST_CONSTANTS
unfolding constants_format
returns-else-count-gt-MOST_CONSTANTS c =
    let told = constants_read true (kinds_of c.args.defined.now) c.in-Ok.count c.in-Ok.rest.now c.values_at.result (λ v. v.items) (λ b. b.now) c.values_at.ensures in
    search (rules, told)
