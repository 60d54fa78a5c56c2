use Rattle.txs_compile.proofs.Programs.{all_before}
use Rattle.txs_compile.proofs.optimised_code.code_behaves_as_before.Goals as goal

pub returns : goal.returns
returns c = all_before
