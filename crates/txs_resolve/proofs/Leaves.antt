-- What a form without parts is, by whether there is room for its node.
use Rattle.std.proofs.Common.{◌≡◌, Ok, Err, refl}
use Rattle.txs_reader.specs.Tree.{PlainForm as Form, Leaf, leaf, group, symbol, number, nil, truth, text, keyword}
use Rattle.txs_tree_meaning.specs.Tree.{Tree, Const, Local}
use Rattle.txs_value_data.specs.declared.value.Value.TheVariants.{Cell}
use Rattle.txs_resolve_expand.specs.Scope.{Scope, Meaning, a_form, dotted, a_local, the_current, defined_as, operation, unknown, meaning}
use Rattle.txs_resolve_expand.specs.declared.scope.Definition.TheVariants.{Constant, Cell as ACell, Function as AFunction}
use Rattle.txs_resolve_expand.specs.declared.error.ResolveError.{ResolveError}
use Rattle.txs_resolve_expand.specs.declared.error.ResolveErrorKind.TheVariants.{TooMany}
use Rattle.txs_resolve_expand.specs.declared.shapes.Spot.{Spot}
use Rattle.txs_resolve_expand.specs.Answers.{refuse}
use Rattle.txs_resolve_expand.specs.Expressions.{leaf_node, leaf_value, spot_mark, symbol_node}
use Rattle.txs_resolve_expand.specs.Parts.{IsQuoted, leaf_of}
use Rattle.txs_resolve.specs.Made.{with_room}
use Rattle.txs_resolve_expand.proofs.Rows.{roomy, roomless}

-- ---- literals without parts

pub quoted_node : (scope : Scope) (s : Spot) (f : Form) → IsQuoted f → Ok (Const (leaf_value (leaf_of f)) (spot_mark s)) ≡ leaf_node scope (leaf_of f) (with_room s)
quoted_node scope s (leaf (symbol name) at) h = absurd h
quoted_node scope s (leaf (number z) at) h = refl
quoted_node scope s (leaf nil at) h = refl
quoted_node scope s (leaf (truth b) at) h = refl
quoted_node scope s (leaf (text bytes) at) h = refl
quoted_node scope s (leaf (keyword name) at) h = refl
quoted_node scope s (group b fs at) h = absurd h

-- ---- room

module _ (s : Spot) where
  symbol_roomy : (s.room ≡ 0 → ⊥) → (m : Meaning) → symbol_node m s ≡ symbol_node m (with_room s)
  symbol_roomy some (a_form f) = refl
  symbol_roomy some dotted = refl
  symbol_roomy some (a_local i) = roomy s (Ok (Local i (spot_mark s))) some
  symbol_roomy some the_current = refl
  symbol_roomy some (defined_as (Constant v)) = roomy s (Ok (Const v (spot_mark s))) some
  symbol_roomy some (defined_as (ACell c)) = roomy s (Ok (Const (Cell c) (spot_mark s))) some
  symbol_roomy some (defined_as (AFunction n levels)) = refl
  symbol_roomy some (operation op) = refl
  symbol_roomy some unknown = refl

  symbol_full : s.room ≡ 0 → (m : Meaning) (t : Tree) → symbol_node m (with_room s) ≡ Ok t → symbol_node m s ≡ refuse TooMany s.span
  symbol_full full (a_form f) t e = absurd cc
  symbol_full full dotted t e = absurd cc
  symbol_full full (a_local i) t e = roomless s (Ok (Local i (spot_mark s))) full
  symbol_full full the_current t e = absurd cc
  symbol_full full (defined_as (Constant v)) t e = roomless s (Ok (Const v (spot_mark s))) full
  symbol_full full (defined_as (ACell c)) t e = roomless s (Ok (Const (Cell c) (spot_mark s))) full
  symbol_full full (defined_as (AFunction n levels)) t e = absurd cc
  symbol_full full (operation op) t e = absurd cc
  symbol_full full unknown t e = absurd cc

  symbol_stops : (m : Meaning) (x : ResolveError) → symbol_node m (with_room s) ≡ Err x → symbol_node m s ≡ Err x
  symbol_stops (a_form f) x e = e
  symbol_stops dotted x e = e
  symbol_stops (a_local i) x e = absurd cc
  symbol_stops the_current x e = e
  symbol_stops (defined_as (Constant v)) x e = absurd cc
  symbol_stops (defined_as (ACell c)) x e = absurd cc
  symbol_stops (defined_as (AFunction n levels)) x e = e
  symbol_stops (operation op) x e = e
  symbol_stops unknown x e = e

  module _ (scope : Scope) where
    -- with room it is what it is with room for one node
    pub leaf_roomy : (s.room ≡ 0 → ⊥) → (x : Leaf) → leaf_node scope x s ≡ leaf_node scope x (with_room s)
    leaf_roomy some (symbol name) = symbol_roomy some (meaning name scope)
    leaf_roomy some (number z) = roomy s (Ok (Const (leaf_value (number z)) (spot_mark s))) some
    leaf_roomy some nil = roomy s (Ok (Const (leaf_value nil) (spot_mark s))) some
    leaf_roomy some (truth b) = roomy s (Ok (Const (leaf_value (truth b)) (spot_mark s))) some
    leaf_roomy some (text bytes) = roomy s (Ok (Const (leaf_value (text bytes)) (spot_mark s))) some
    leaf_roomy some (keyword name) = roomy s (Ok (Const (leaf_value (keyword name)) (spot_mark s))) some

    -- without room it is too much, where it is something
    pub leaf_full : s.room ≡ 0 → (x : Leaf) (t : Tree) → leaf_node scope x (with_room s) ≡ Ok t → leaf_node scope x s ≡ refuse TooMany s.span
    leaf_full full (symbol name) t e = symbol_full full (meaning name scope) t e
    leaf_full full (number z) t e = roomless s (Ok (Const (leaf_value (number z)) (spot_mark s))) full
    leaf_full full nil t e = roomless s (Ok (Const (leaf_value nil) (spot_mark s))) full
    leaf_full full (truth b) t e = roomless s (Ok (Const (leaf_value (truth b)) (spot_mark s))) full
    leaf_full full (text bytes) t e = roomless s (Ok (Const (leaf_value (text bytes)) (spot_mark s))) full
    leaf_full full (keyword name) t e = roomless s (Ok (Const (leaf_value (keyword name)) (spot_mark s))) full

    -- what is refused with room is refused without
    pub leaf_stops : (x : Leaf) (r : ResolveError) → leaf_node scope x (with_room s) ≡ Err r → leaf_node scope x s ≡ Err r
    leaf_stops (symbol name) r e = symbol_stops (meaning name scope) r e
    leaf_stops (number z) r e = absurd cc
    leaf_stops nil r e = absurd cc
    leaf_stops (truth b) r e = absurd cc
    leaf_stops (text bytes) r e = absurd cc
    leaf_stops (keyword name) r e = absurd cc
