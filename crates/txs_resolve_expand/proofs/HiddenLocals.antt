-- What the symbol of a hidden local stands for.
use Rattle.std.proofs.Common.{◌≡◌, ℕ, [], Option, Some, Ok, if◌then◌else◌, ap}
use Rattle.txs_value_data.specs.Operations.{op_name, operations}
use Rattle.txs_reader.specs.Tree.{symbol}
use Rattle.txs_tree_meaning.specs.Tree.{Local}
use Rattle.txs_value_data.specs.Places.{with_name}
use Rattle.txs_resolve_expand.specs.Scope.{Scope, local_number, meaning, a_local, definition_of, is_current, or_defined, or_local, or_unknown, the_current}
use Rattle.txs_resolve_expand.specs.declared.shapes.Spot.{Spot}
use Rattle.txs_resolve_expand.specs.Expressions.{in_room, leaf_node, spot_mark, symbol_node}

hidden_meaning : (scope : Scope) (n : ℕ) → local_number [] scope ≡ Some n → meaning [] scope ≡ a_local n
unfolding meaning
hidden_meaning scope n is =
    ap (λ (o : Option ℕ). or_local o (if is_current [] scope.current then the_current else or_defined (definition_of [] scope.defined) (or_unknown (with_name op_name [] operations)))) is

pub hidden_node : (scope : Scope) (s : Spot) (n : ℕ) → local_number [] scope ≡ Some n → leaf_node scope (symbol []) s ≡ in_room s (Ok (Local n (spot_mark s)))
hidden_node scope s n is = ap (λ m. symbol_node m s) (hidden_meaning scope n is)
