use Rattle.std.proofs.Common.{◌≡◌, ◌+◌, ◌≤◌, ◌++◌, length, drop}
use Rattle.txs_tree_meaning.specs.Sound.{nodes_of_functions}
use Rattle.txs_tree_meaning.specs.View.{functions_of}
use Rattle.txs_gen.specs.Bodies.{functions_from, function_rooms, AreSoundFunctions}
use Rattle.txs_gen.specs.Generated.{constants_of_functions}
use Rattle.txs_gen.proofs.threads.functions_code.Given as goal

abbrev pub invariant-loop-function : goal.invariant-loop-function
invariant-loop-function l = record {
  bodies : l.bodies.items ++ functions_from (functions_of (drop l.function-index l.functions)) (length l.constants.items) ≡ functions_from (functions_of l.functions) 0;
  rooms : l.rooms.items ++ function_rooms (functions_of (drop l.function-index l.functions)) ≡ function_rooms (functions_of l.functions);
  constants : l.constants.items ++ constants_of_functions (functions_of (drop l.function-index l.functions)) ≡ constants_of_functions (functions_of l.functions);
  part : AreSoundFunctions (functions_of (drop l.function-index l.functions));
  few : length l.constants.items + nodes_of_functions (functions_of (drop l.function-index l.functions)) ≤ 200000;
}
