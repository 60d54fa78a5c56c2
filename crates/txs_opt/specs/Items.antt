-- What folding makes of one node, and of an item of a Do.
use Rattle.std.specs.Prelude.{◌≡◌, Bool, true, false, List, Option, Some, None, Result, Ok, Err, Vec}
use Rattle.std.specs.Global.{Global}
use Rattle.txs_value_data.specs.declared.fault.Stop.{Stop}
use Rattle.txs_value_data.specs.declared.fault.Stop.TheVariants.{Fault, Memory}
use Rattle.txs_value_data.specs.declared.value.Value.{Value}
use Rattle.txs_tree_meaning.specs.Tree as tree
use Rattle.txs_tree_meaning.specs.Tree.{Mark, Tree, Trees, none, more}
use Rattle.txs_opt.specs.Fold.{value_of, before}

-- the values in a list that may be there
abbrev pub values_in : Option (Vec Value Global) → Option (List Value)
values_in None = None
values_in (Some vs) = Some vs.items

-- a node in the place of this one: the value that was found, or the node as it was where there was a fault
abbrev pub SettlesAs : Result Value Stop → Tree → Mark → Tree → Type 0
SettlesAs (Ok v) e m t = t ≡ tree.Const v m
SettlesAs (Err (Fault k)) e m t = t ≡ e
SettlesAs (Err Memory) e m t = ⊥

-- trees behind others
abbrev pub joined : Trees → Trees → Trees
joined none fs = fs
joined (more e es) fs = more e (joined es fs)

-- an item of a Do, where it is the last one or not
abbrev pub kept_item : Bool → Tree → Trees
kept_item true e = more e none
kept_item false e = before (value_of e) e none

-- nothing, or the item
abbrev pub stays : Bool → Tree → Trees
stays true e = none
stays false e = more e none
