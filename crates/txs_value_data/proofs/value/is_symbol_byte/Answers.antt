use Rattle.std.proofs.Common.{rules}
use Rattle.txs_value_data.specs.Names.{is_symbol_byte}
use Rattle.txs_value_data.proofs.value.is_symbol_byte.Goals as goal

pub returns-in_default-matches-3 : goal.returns-in_default-matches-3
unfolding is_symbol_byte
returns-in_default-matches-3 c = search rules
