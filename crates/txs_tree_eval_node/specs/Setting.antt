-- What an evaluation runs in.
use Rattle.std.specs.Prelude.{ℕ, ◌-◌, Option, Some, None, List, [], length, take}
use Rattle.txs_tree_meaning.specs.Known.{Known, known}
use Rattle.txs_tree_meaning.specs.Sound.{Zone, in_thread, in_dosync}
use Rattle.txs_value_cell.specs.declared.cell.CellDefinition.{CellDefinition}
use Rattle.txs_tree_meaning.specs.View.{functions_of}
use Rattle.txs_tree_eval_transaction.specs.Views.{PlainView, PlainTxView, whole_view}
use Rattle.txs_tree_meaning.specs.declared.node.Function.{Function}

-- the cells and functions that are defined, how deep calls may go, how many turns each loop may make, and what the transaction
-- that runs sees, if one does
pub record Setting : Type 0 where
  pub cells : List CellDefinition
  pub functions : List Function
  pub depth : ℕ
  pub turns : ℕ
  pub world : Option PlainTxView

-- the same in a call
abbrev pub deeper : Setting → Setting
deeper s = record { cells = s.cells; functions = s.functions; depth = s.depth - 1; turns = s.turns; world = s.world }

-- the same in a transaction that sees this
abbrev pub on_view : Setting → PlainTxView → Setting
on_view s r = record { cells = s.cells; functions = s.functions; depth = s.depth; turns = s.turns; world = Some r }

-- no cells
abbrev pub no_view : PlainView
no_view = record { cells = []; swaps = None; place = 0 }

-- the same where calls may go as deep as there are functions, in a transaction on no cells: what applies pure callees outside
abbrev pub deepest : Setting → Setting
deepest s = record { cells = s.cells; functions = s.functions; depth = length (functions_of s.functions); turns = s.turns; world = Some (whole_view no_view) }

-- what is known of the functions that may be called: as many as calls may go deep
abbrev pub callable : Setting → List Known
callable s = take s.depth (known (functions_of s.functions))

-- where a node stands while this transaction runs, or none
abbrev pub zone_on : Option PlainTxView → Zone
zone_on None = in_thread
zone_on (Some r) = in_dosync

-- where a node is here
abbrev pub zone_in : Setting → Zone
zone_in s = zone_on s.world
