-- A form is checked as its rows are, one after another, and they have fewer nodes than it.
use Rattle.std.proofs.Common.{◌≡◌, ◌<◌, ◌+◌, ℕ, Bool, true, false, List, [], ◌∷◌, ◌++◌, length, Ok, Err, refl, sym, ap, ◌∙◌, arith}
use Rattle.txs_tree_meaning.specs.Known.{Known}
use Rattle.txs_tree_meaning.specs.Sound.{nodes, nodes_in}
use Rattle.txs_tree_meaning.specs.Tree.{Tree, Mark, Const, Local, If, Do, Let, Loop, Recur, Core, Call, VectorOf, Println, Dosync, Look, Put, Update, Send, Trees, none, more, count}
use Rattle.txs_tree_meaning.specs.View.{mark_of, tree_of, trees_of}
use Rattle.txs_tree_meaning.specs.declared.node.Node.{Node}
use Rattle.txs_check.specs.declared.place.Target.{Target}
use Rattle.txs_check.specs.declared.place.Target.TheVariants.{Nearest}
use Rattle.txs_check.specs.declared.place.Zone.{Zone}
use Rattle.txs_check.specs.declared.place.Zone.TheVariants.{InDosync}
use Rattle.txs_check.specs.Refused.{Checked, fine, ◌>>◌, here, inner, across, in_turn, turned, turned_in, checked, checked_all, checked_do}
use Rattle.txs_check.specs.Rows.{Rows, alone, rows, rows_of, turned_rows, but_last, last_alone, in_turn_of, place_behind}
use Rattle.txs_check.proofs.Lists.{place_node}
use Rattle.txs_check.proofs.Steps.{then_same}

then_fine : (a : Checked) → a >> fine ≡ a
then_fine (Ok u) = refl
then_fine (Err e) = refl

module _ (ks : List Known) (z : Zone) (t : Target) where
  abbrev pub in_rows : Rows → Zone × Target → Checked
  in_rows r p = checked_all ks z (inner t) r.one >> (checked_all ks p.0 p.1 r.two >> checked_all ks p.0 p.1 r.three)

  of_alone : (zone : Zone) (own : Target) (e : Tree) → checked_all ks zone own (alone e) ≡ checked ks zone own e
  of_alone zone own e = then_fine (checked ks zone own e)

  of_last : (zone : Zone) (own : Target) (e : Tree) → checked_all ks zone own (alone e) >> fine ≡ checked ks zone own e
  of_last zone own e = then_fine (checked_all ks zone own (alone e)) ∙ of_alone zone own e

  of_branches : (turn : Bool) (c a b : Tree) → in_rows (turned_rows turn (rows (alone c) (alone a) (alone b))) (z, t) ≡ checked ks z (inner t) c >> in_turn turn (checked ks z t a) (checked ks z t b)
  of_branches false c a b = λ i. of_alone z (inner t) c i >> (of_alone z t a i >> of_alone z t b i)
  of_branches true c a b = λ i. of_alone z (inner t) c i >> (of_alone z t b i >> of_alone z t a i)

  of_do : (items : Trees) → checked_all ks z (inner t) (but_last items) >> checked_all ks z t (last_alone items) ≡ checked_do ks z t items
  of_do none = refl
  of_do (more e none) = of_alone z t e
  of_do (more e (more f rest)) =
      then_same (checked ks z (inner t) e) (checked_all ks z (inner t) (but_last (more f rest))) (checked_all ks z t (last_alone (more f rest)))
      ∙ ap (λ x. checked ks z (inner t) e >> x) (of_do (more f rest))

  of_binding : (values : Trees) (own : Target) (body : Tree) → checked_all ks z (inner t) values >> (checked_all ks z own (alone body) >> fine) ≡ checked_all ks z (inner t) values >> checked ks z own body
  of_binding values own body = ap (λ x. checked_all ks z (inner t) values >> x) (of_last z own body)

  of_change : (cell : Tree) (args : Trees) → checked_all ks z (inner t) (alone cell) >> (checked_all ks z (inner t) args >> fine) ≡ checked ks z (inner t) cell >> checked_all ks z (inner t) args
  of_change cell args = λ i. of_alone z (inner t) cell i >> then_fine (checked_all ks z (inner t) args) i

  pub rows_checked : (e : Tree) → here ks z t e >> in_rows (in_turn_of e) (place_behind z t e) ≡ checked ks z t e
  rows_checked (Const v m) = refl
  rows_checked (Local i m) = refl
  rows_checked (If c a b m) = of_branches (turned_in m a b) c a b
  rows_checked (Do items m) = ap (λ x. checked_all ks z (inner t) (but_last items) >> x) (then_fine (checked_all ks z t (last_alone items))) ∙ of_do items
  rows_checked (Let values body m) = of_binding values t body
  rows_checked (Loop values body m) = of_binding values (Nearest (count values) true) body
  rows_checked (Recur values m) = ap (λ x. here ks z t (Recur values m) >> x) (then_fine (checked_all ks z (inner t) values))
  rows_checked (Core op args m) = ap (λ x. here ks z t (Core op args m) >> x) (then_fine (checked_all ks z (inner t) args))
  rows_checked (Call f args m) = ap (λ x. here ks z t (Call f args m) >> x) (then_fine (checked_all ks z (inner t) args))
  rows_checked (VectorOf items m) = then_fine (checked_all ks z (inner t) items)
  rows_checked (Println args m) = ap (λ x. here ks z t (Println args m) >> x) (then_fine (checked_all ks z (inner t) args))
  rows_checked (Dosync body m) = of_last InDosync (across t) body
  rows_checked (Look form cell m) = ap (λ x. here ks z t (Look form cell m) >> x) (of_last z (inner t) cell)
  rows_checked (Put form cell value m) = ap (λ x. here ks z t (Put form cell value m) >> x) (λ i. of_alone z (inner t) cell i >> of_last z (inner t) value i)
  rows_checked (Update form cell callee args m) = ap (λ x. here ks z t (Update form cell callee args m) >> x) (of_change cell args)
  rows_checked (Send cell callee args m) = ap (λ x. here ks z t (Send cell callee args m) >> x) (of_change cell args)

  pub checked_by : (e : Tree) (r : Rows) (p : Zone × Target) → in_turn_of e ≡ r → p ≡ place_behind z t e → here ks z t e >> in_rows r p ≡ checked ks z t e
  checked_by e r p is place = ap (λ x. here ks z t e >> in_rows x p) (sym is) ∙ ap (λ x. here ks z t e >> in_rows (in_turn_of e) x) place ∙ rows_checked e

-- ---- the rows of nodes

turned_nodes : (m : Mark) (a b : Node) (turn : Bool) → turn ≡ turned m.span.from a.span.from b.span.from → turned_in m (tree_of a) (tree_of b) ≡ turn
turned_nodes m a b turn is = (λ i. turned m.span.from (place_node a i).from (place_node b i).from) ∙ sym is

pub if_in_turn : (n test a b : Node) (turn : Bool) (r : Rows) → tree_of n ≡ If (tree_of test) (tree_of a) (tree_of b) (mark_of n.span n.wanted) → turn ≡ turned n.span.from a.span.from b.span.from →
    rows_of (tree_of n) ≡ r → in_turn_of (tree_of n) ≡ turned_rows turn r
if_in_turn n test a b turn r e is parts =
    let m = mark_of n.span n.wanted in
    ap in_turn_of e
    ∙ ap (λ x. turned_rows x (rows (alone (tree_of test)) (alone (tree_of a)) (alone (tree_of b)))) (turned_nodes m a b turn is)
    ∙ ap (turned_rows turn) (sym (ap rows_of e) ∙ parts)

pub do_nothing : (ns : List Node) (m : Mark) → length ns ≡ 0 → in_turn_of (Do (trees_of ns) m) ≡ rows_of (Do (trees_of ns) m)
do_nothing [] m e = refl
do_nothing (n ∷ ns) m e = absurd (omega (arith, e))

before_last : (ns : List Node) (x : Node) → but_last (trees_of (ns ++ x ∷ [])) ≡ trees_of ns
before_last [] x = refl
before_last (m ∷ []) x = refl
before_last (m ∷ n ∷ ns) x = ap (λ l. more (tree_of m) l) (before_last (n ∷ ns) x)

last_one : (ns : List Node) (x : Node) → last_alone (trees_of (ns ++ x ∷ [])) ≡ alone (tree_of x)
last_one [] x = refl
last_one (m ∷ []) x = refl
last_one (m ∷ n ∷ ns) x = last_one (n ∷ ns) x

-- the nodes before the last one, and the last one
pub do_parts : (ns before : List Node) (last : Node) (m : Mark) → ns ≡ before ++ last ∷ [] → in_turn_of (Do (trees_of ns) m) ≡ rows (trees_of before) (alone (tree_of last)) none
do_parts ns before last m e =
    ap (λ l. rows (but_last (trees_of l)) (last_alone (trees_of l)) none) e ∙ (λ i. rows (before_last before last i) (last_one before last i) none)

-- ---- the numbers of nodes

abbrev pub nodes_of : Rows → ℕ
nodes_of r = nodes_in r.one + (nodes_in r.two + nodes_in r.three)

branches_fewer : (turn : Bool) (c a b : Tree) → nodes_of (turned_rows turn (rows (alone c) (alone a) (alone b))) < nodes c + (nodes a + nodes b) + 1
branches_fewer false c a b = omega arith
branches_fewer true c a b = omega arith

do_same : (items : Trees) → nodes_in (but_last items) + nodes_in (last_alone items) ≡ nodes_in items
do_same none = refl
do_same (more e none) = omega arith
do_same (more e (more f rest)) = omega (arith, do_same (more f rest))

pub rows_fewer : (e : Tree) → nodes_of (in_turn_of e) < nodes e
rows_fewer (Const v m) = omega arith
rows_fewer (Local i m) = omega arith
rows_fewer (If c a b m) = omega (arith, branches_fewer (turned_in m a b) c a b)
rows_fewer (Do items m) = omega (arith, do_same items)
rows_fewer (Let values body m) = omega arith
rows_fewer (Loop values body m) = omega arith
rows_fewer (Recur values m) = omega arith
rows_fewer (Core op args m) = omega arith
rows_fewer (Call f args m) = omega arith
rows_fewer (VectorOf items m) = omega arith
rows_fewer (Println args m) = omega arith
rows_fewer (Dosync body m) = omega arith
rows_fewer (Look form cell m) = omega arith
rows_fewer (Put form cell value m) = omega arith
rows_fewer (Update form cell callee args m) = omega arith
rows_fewer (Send cell callee args m) = omega arith
