-- The constants and spans of a program that was read, one behind the other.
use Rattle.std.proofs.Common.{ℕ, zero, suc, ◌+◌, ◌≤◌, List, [], ◌∷◌, ◌++◌, length, length-append, arith}
use Rattle.std.specs.List.{AllByRecursion}
use Rattle.txs_value_data.specs.declared.fault.Span.{Span}
use Rattle.txs_value_data.specs.declared.value.Value.{Value}
use Rattle.txs_tree_meaning.specs.Sound.{nodes, nodes_in, nodes_of_functions, nodes_of_all}
use Rattle.txs_tree_meaning.specs.Tree.{Tree, Const, Local, If, Do, Let, Loop, Recur, Core, Call, VectorOf, Println, Dosync, Look, Put, Update, Send, Trees, none, more, count, PlainFunction, PlainThread}
use Rattle.txs_code_meaning.specs.Spans.{IsOrdered, AreOrdered}
use Rattle.txs_gen.specs.Generated.{copies, spans_of, spans_of_all, spans_of_let, spans_of_do, constants_of, constants_in, constants_of_functions, constants_of_threads}
use Rattle.txs_compile.specs.ReadProgram.{IsLiteral, TreeIsRead, TreesAreRead, FunctionIsRead, ThreadIsRead}

-- ---- constants

-- literals, at most so many
pub record Literals (n : ℕ) (vs : List Value) : Type 0 where
  pub each : AllByRecursion IsLiteral vs
  pub few : length vs ≤ n

all_both : (vs ws : List Value) → AllByRecursion IsLiteral vs → AllByRecursion IsLiteral ws → AllByRecursion IsLiteral (vs ++ ws)
all_both [] ws h k = k
all_both (v ∷ vs) ws h k = (h.0, all_both vs ws h.1 k)

pub literals_cat : {m n : ℕ} (k : ℕ) (vs ws : List Value) → Literals m vs → Literals n ws → m + n ≤ k → Literals k (vs ++ ws)
literals_cat {m} {n} k vs ws h l le = record { each = all_both vs ws h.each l.each; few = omega (arith, h.few, l.few, le, length-append vs ws) }

literals_more : {m : ℕ} (n : ℕ) (vs : List Value) → Literals m vs → m ≤ n → Literals n vs
literals_more {m} n vs h le = record { each = h.each; few = omega (arith, h.few, le) }

no_literals : (n : ℕ) → Literals n []
no_literals n = record { each = tt; few = omega arith }

mutual
  tree_literals : (e : Tree) → TreeIsRead e → Literals (nodes e) (constants_of e)
  tree_literals (Const v m) h = record { each = (h.0, tt); few = omega arith }
  tree_literals (Local i m) h = no_literals 1
  tree_literals (If c a b m) h =
      literals_cat (suc (nodes c + (nodes a + nodes b))) (constants_of c) (constants_of a ++ constants_of b) (tree_literals c h.0)
      (literals_cat (nodes a + nodes b) (constants_of a) (constants_of b) (tree_literals a h.1) (tree_literals b h.2) (omega arith)) (omega arith)
  tree_literals (Do items m) h = literals_more (suc (nodes_in items)) (constants_in items) (trees_literals items h.0) (omega arith)
  tree_literals (Let values body m) h = literals_cat (suc (nodes_in values + nodes body)) (constants_in values) (constants_of body) (trees_literals values h.0) (tree_literals body h.1) (omega arith)
  tree_literals (Loop values body m) h = literals_cat (suc (nodes_in values + nodes body)) (constants_in values) (constants_of body) (trees_literals values h.0) (tree_literals body h.1) (omega arith)
  tree_literals (Recur values m) h = literals_more (suc (nodes_in values)) (constants_in values) (trees_literals values h.0) (omega arith)
  tree_literals (Core op args m) h = literals_more (suc (nodes_in args)) (constants_in args) (trees_literals args h.0) (omega arith)
  tree_literals (Call f args m) h = literals_more (suc (nodes_in args)) (constants_in args) (trees_literals args h.0) (omega arith)
  tree_literals (VectorOf items m) h = literals_more (suc (nodes_in items)) (constants_in items) (trees_literals items h.0) (omega arith)
  tree_literals (Println args m) h = literals_more (suc (nodes_in args)) (constants_in args) (trees_literals args h.0) (omega arith)
  tree_literals (Dosync body m) h = literals_more (suc (nodes body)) (constants_of body) (tree_literals body h.0) (omega arith)
  tree_literals (Look form cell m) h = literals_more (suc (nodes cell)) (constants_of cell) (tree_literals cell h.0) (omega arith)
  tree_literals (Put form cell value m) h = literals_cat (suc (nodes cell + nodes value)) (constants_of cell) (constants_of value) (tree_literals cell h.0) (tree_literals value h.1) (omega arith)
  tree_literals (Update form cell callee args m) h = literals_cat (suc (nodes cell + nodes_in args)) (constants_of cell) (constants_in args) (tree_literals cell h.0) (trees_literals args h.1) (omega arith)
  tree_literals (Send cell callee args m) h = literals_cat (suc (nodes cell + nodes_in args)) (constants_of cell) (constants_in args) (tree_literals cell h.0) (trees_literals args h.1) (omega arith)

  trees_literals : (es : Trees) → TreesAreRead es → Literals (nodes_in es) (constants_in es)
  trees_literals none h = no_literals 0
  trees_literals (more e rest) h = literals_cat (nodes e + nodes_in rest) (constants_of e) (constants_in rest) (tree_literals e h.0) (trees_literals rest h.1) (omega arith)

pub functions_literals : (fs : List PlainFunction) → AllByRecursion FunctionIsRead fs → Literals (nodes_of_functions fs) (constants_of_functions fs)
functions_literals [] h = no_literals 0
functions_literals (f ∷ fs) h = literals_cat (nodes f.body + nodes_of_functions fs) (constants_of f.body) (constants_of_functions fs) (tree_literals f.body h.0.0) (functions_literals fs h.1) (omega arith)

pub threads_literals : (ts : List PlainThread) → AllByRecursion ThreadIsRead ts → Literals (nodes_of_all ts) (constants_of_threads ts)
threads_literals [] h = no_literals 0
threads_literals (t ∷ ts) h = literals_cat (nodes t.body + nodes_of_all ts) (constants_of t.body) (constants_of_threads ts) (tree_literals t.body h.0.0) (threads_literals ts h.1) (omega arith)

-- ---- spans

pub both_ordered : (xs ys : List Span) → AreOrdered xs → AreOrdered ys → AreOrdered (xs ++ ys)
both_ordered [] ys h k = k
both_ordered (x ∷ xs) ys h k = (h.0, both_ordered xs ys h.1 k)

copies_ordered : (n : ℕ) (span : Span) → IsOrdered span → AreOrdered (copies n span)
copies_ordered zero span h = tt
copies_ordered (suc n) span h = (h, copies_ordered n span h)

end_ordered : (xs : List Span) (span : Span) → AreOrdered xs → IsOrdered span → AreOrdered (xs ++ span ∷ [])
end_ordered xs span h o = both_ordered xs (span ∷ []) h (o, tt)

mutual
  tree_ordered : (e : Tree) → TreeIsRead e → AreOrdered (spans_of e)
  tree_ordered (Const v m) h = (h.1, tt)
  tree_ordered (Local i m) h = (h, tt)
  tree_ordered (If c a b m) h =
      both_ordered (spans_of c) (m.span ∷ (spans_of a ++ m.span ∷ spans_of b)) (tree_ordered c h.0) (h.3, both_ordered (spans_of a) (m.span ∷ spans_of b) (tree_ordered a h.1) (h.3, tree_ordered b h.2))
  tree_ordered (Do items m) h = do_ordered m.span items h.0 h.1
  tree_ordered (Let values body m) h = both_ordered (spans_of_let m.span values) (spans_of body) (let_ordered m.span values h.0 h.2) (tree_ordered body h.1)
  tree_ordered (Loop values body m) h = both_ordered (spans_of_let m.span values) (spans_of body) (let_ordered m.span values h.0 h.2) (tree_ordered body h.1)
  tree_ordered (Recur values m) h = both_ordered (spans_of_all values) (copies (suc (count values)) m.span) (trees_ordered values h.0) (copies_ordered (suc (count values)) m.span h.1)
  tree_ordered (Core op args m) h = end_ordered (spans_of_all args) m.span (trees_ordered args h.0) h.1
  tree_ordered (Call f args m) h = end_ordered (spans_of_all args) m.span (trees_ordered args h.0) h.1
  tree_ordered (VectorOf items m) h = end_ordered (spans_of_all items) m.span (trees_ordered items h.0) h.1
  tree_ordered (Println args m) h = end_ordered (spans_of_all args) m.span (trees_ordered args h.0) h.1
  tree_ordered (Dosync body m) h = (h.1, end_ordered (spans_of body) m.span (tree_ordered body h.0) h.1)
  tree_ordered (Look form cell m) h = end_ordered (spans_of cell) m.span (tree_ordered cell h.0) h.1
  tree_ordered (Put form cell value m) h = both_ordered (spans_of cell) (spans_of value ++ m.span ∷ []) (tree_ordered cell h.0) (end_ordered (spans_of value) m.span (tree_ordered value h.1) h.2)
  tree_ordered (Update form cell callee args m) h =
      both_ordered (spans_of cell) (spans_of_all args ++ copies 3 m.span) (tree_ordered cell h.0) (both_ordered (spans_of_all args) (copies 3 m.span) (trees_ordered args h.1) (copies_ordered 3 m.span h.2))
  tree_ordered (Send cell callee args m) h = both_ordered (spans_of cell) (spans_of_all args ++ m.span ∷ []) (tree_ordered cell h.0) (end_ordered (spans_of_all args) m.span (trees_ordered args h.1) h.2)

  trees_ordered : (es : Trees) → TreesAreRead es → AreOrdered (spans_of_all es)
  trees_ordered none h = tt
  trees_ordered (more e rest) h = both_ordered (spans_of e) (spans_of_all rest) (tree_ordered e h.0) (trees_ordered rest h.1)

  let_ordered : (span : Span) (es : Trees) → TreesAreRead es → IsOrdered span → AreOrdered (spans_of_let span es)
  let_ordered span none h o = tt
  let_ordered span (more e rest) h o = both_ordered (spans_of e) (span ∷ spans_of_let span rest) (tree_ordered e h.0) (o, let_ordered span rest h.1 o)

  do_ordered : (span : Span) (es : Trees) → TreesAreRead es → IsOrdered span → AreOrdered (spans_of_do span es)
  do_ordered span none h o = tt
  do_ordered span (more e none) h o = tree_ordered e h.0
  do_ordered span (more e (more f rest)) h o = both_ordered (spans_of e) (span ∷ spans_of_do span (more f rest)) (tree_ordered e h.0) (o, do_ordered span (more f rest) h.1 o)

-- the spans of a whole body
pub body_ordered : (e : Tree) (span : Span) → TreeIsRead e → IsOrdered span → AreOrdered (spans_of e ++ span ∷ [])
body_ordered e span h o = end_ordered (spans_of e) span (tree_ordered e h) o
