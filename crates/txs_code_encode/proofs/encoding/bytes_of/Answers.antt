use Rattle.std.proofs.Common.{rules}
use Rattle.txs_code_decode.proofs.FormLemmas.{code_small}
use Rattle.txs_code_encode.proofs.encoding.bytes_of.Goals as goal

pub returns-then-not-is_small : goal.returns-then-not-is_small
returns-then-not-is_small c = λ fits. let small = c.is_small.ensures.1 (code_small c.args.code.now fits) in search (rules, small)
