-- The parts of a form, in rows.
use Rattle.std.specs.Prelude.{Bool, true, false}
use Rattle.txs_tree_meaning.specs.Tree.{Tree, Const, Local, If, Do, Let, Loop, Recur, Core, Call, VectorOf, Println, Dosync, Look, Put, Update, Send, Trees, none, more, count}
use Rattle.txs_check.specs.declared.place.Target.{Target}
use Rattle.txs_check.specs.declared.place.Target.TheVariants.{Nearest}
use Rattle.txs_check.specs.declared.place.Zone.{Zone}
use Rattle.txs_check.specs.declared.place.Zone.TheVariants.{InDosync}
use Rattle.txs_check.specs.Refused.{across, inner, turned_in}

-- up to three rows of parts, as they are written
pub record Rows : Type 0 where
  pub one : Trees
  pub two : Trees
  pub three : Trees

-- these rows
abbrev pub rows : Trees → Trees → Trees → Rows
rows a b c = record { one = a; two = b; three = c }

-- a row of one part
abbrev pub alone : Tree → Trees
alone e = more e none

-- the parts of a form
abbrev pub rows_of : Tree → Rows
rows_of (Const v m) = rows none none none
rows_of (Local i m) = rows none none none
rows_of (If c a b m) = rows (alone c) (alone a) (alone b)
rows_of (Do items m) = rows items none none
rows_of (Let values body m) = rows values (alone body) none
rows_of (Loop values body m) = rows values (alone body) none
rows_of (Recur values m) = rows values none none
rows_of (Core op args m) = rows args none none
rows_of (Call f args m) = rows args none none
rows_of (VectorOf items m) = rows items none none
rows_of (Println args m) = rows args none none
rows_of (Dosync body m) = rows (alone body) none none
rows_of (Look form cell m) = rows (alone cell) none none
rows_of (Put form cell value m) = rows (alone cell) (alone value) none
rows_of (Update form cell callee args m) = rows (alone cell) args none
rows_of (Send cell callee args m) = rows (alone cell) args none

-- ---- the order in which they are checked

-- the third row before the second, where it is written first
abbrev pub turned_rows : Bool → Rows → Rows
turned_rows false r = r
turned_rows true r = rows r.one r.three r.two

-- the parts before the last one
abbrev pub but_last : Trees → Trees
but_last none = none
but_last (more e none) = none
but_last (more e (more f rest)) = more e (but_last (more f rest))

-- a row of the last part
abbrev pub last_alone : Trees → Trees
last_alone none = none
last_alone (more e none) = alone e
last_alone (more e (more f rest)) = last_alone (more f rest)

-- the parts of a form in the order in which they are checked: those of the first row aren't in tail position
abbrev pub in_turn_of : Tree → Rows
in_turn_of (If c a b m) = turned_rows (turned_in m a b) (rows_of (If c a b m))
in_turn_of (Do items m) = rows (but_last items) (last_alone items) none
in_turn_of (Dosync body m) = rows none (alone body) none
in_turn_of e = rows_of e

-- the zone of the second and the third row, and what a recur meets there
abbrev pub place_behind : Zone → Target → Tree → Zone × Target
place_behind zone target (Loop values body m) = (zone, Nearest (count values) true)
place_behind zone target (Dosync body m) = (InDosync, across target)
place_behind zone target (Put form cell value m) = (zone, inner target)
place_behind zone target (Update form cell callee args m) = (zone, inner target)
place_behind zone target (Send cell callee args m) = (zone, inner target)
place_behind zone target e = (zone, target)
