-- The marks of a folded program are right where those of the program are.
use Rattle.std.proofs.Common.{◌≡◌, Bool, true, false, List, [], ◌∷◌, length, Option, Some, None, Result, Ok, Err, refl}
use Rattle.txs_value_apply.specs.Core.{core, takes, vector_of}
use Rattle.txs_value_apply.specs.Truth.{choose}
use Rattle.txs_value_data.specs.declared.fault.FaultKind.{FaultKind}
use Rattle.txs_value_data.specs.declared.op.Op.{Op}
use Rattle.txs_value_data.specs.declared.value.Value.{Value}
use Rattle.txs_value_data.specs.declared.value.Value.TheVariants.{Nil, Truth, Int, Key, Text, Vector, Cell}
use Rattle.txs_tree_meaning.specs.Marked.{AtLeast, Marked, MarkedAll, MarkedDo, MarkedFunctions, MarkedThreads, MarkedProgram}
use Rattle.txs_tree_meaning.specs.Tree.{Mark, Tree, Const, Local, If, Do, Let, Loop, Recur, Core, Call, VectorOf, Println, Dosync, Look, Put, Update, Send, Trees, none, more, is_none, PlainFunction, PlainThread, PlainProgram}
use Rattle.txs_opt.specs.Fold.{value_of, constants, settled, settled_on, settled_core, settled_vector, chosen, before, seen_items, whole, folded, folded_all, folded_functions, folded_threads, folded_program}

branch_marked : (used : Bool) (v : Value) (a b : Tree) → Marked used a → Marked used b → Marked used (choose v a b)
branch_marked used Nil a b y z = z
branch_marked used (Truth true) a b y z = y
branch_marked used (Truth false) a b y z = z
branch_marked used (Int n) a b y z = y
branch_marked used (Key bs) a b y z = y
branch_marked used (Text bs) a b y z = y
branch_marked used (Vector vs) a b y z = y
branch_marked used (Cell x) a b y z = y

chosen_marked : (used : Bool) (o : Option Value) (c a b : Tree) (m : Mark) → AtLeast used m.wanted → Marked true c → Marked used a → Marked used b → Marked used (chosen o c a b m)
chosen_marked used None c a b m at x y z = (at, x, y, z)
chosen_marked used (Some v) c a b m at x y z = branch_marked used v a b y z

settled_marked : (used : Bool) (r : Result Value FaultKind) (m : Mark) (e : Tree) → AtLeast used m.wanted → Marked used e → Marked used (settled r m e)
settled_marked used (Ok v) m e at h = at
settled_marked used (Err k) m e at h = h

settled_on_marked : (used b : Bool) (vs : List Value) (op : Op) (es : Trees) (m : Mark) → AtLeast used m.wanted → MarkedAll es → Marked used (settled_on b vs op es m)
settled_on_marked used false vs op es m at h = (at, h)
settled_on_marked used true vs op es m at h = settled_marked used (core op vs) m (Core op es m) at (at, h)

settled_core_marked : (used : Bool) (o : Option (List Value)) (op : Op) (es : Trees) (m : Mark) → AtLeast used m.wanted → MarkedAll es → Marked used (settled_core o op es m)
settled_core_marked used None op es m at h = (at, h)
settled_core_marked used (Some vs) op es m at h = settled_on_marked used (takes op (length vs)) vs op es m at h

settled_vector_marked : (used : Bool) (o : Option (List Value)) (es : Trees) (m : Mark) → AtLeast used m.wanted → MarkedAll es → Marked used (settled_vector o es m)
settled_vector_marked used None es m at h = (at, h)
settled_vector_marked used (Some vs) es m at h = settled_marked used (vector_of vs) m (VectorOf es m) at (at, h)

-- ---- items of a do

-- some item is seen
seen_some : (e : Tree) (es : Trees) → is_none (seen_items (more e es)) ≡ false
seen_some e none = refl
seen_some e (more f es) = go (value_of e) (seen_some f es)
  where
    go : (o : Option Value) → is_none (seen_items (more f es)) ≡ false → is_none (before o e (seen_items (more f es))) ≡ false
    go None h = refl
    go (Some v) h = h

front_marked : (used : Bool) (e : Tree) (es : Trees) → is_none es ≡ false → Marked false e → MarkedDo used es → MarkedDo used (more e es)
front_marked used e none some h hs = absurd cc
front_marked used e (more f es) some h hs = (h, hs)

before_marked : (used : Bool) (o : Option Value) (e : Tree) (es : Trees) → is_none es ≡ false → Marked false e → MarkedDo used es → MarkedDo used (before o e es)
before_marked used None e es some h hs = front_marked used e es some h hs
before_marked used (Some v) e es some h hs = hs

whole_marked : (used : Bool) (es : Trees) (m : Mark) → AtLeast used m.wanted → MarkedDo used es → Marked used (whole es m)
whole_marked used none m at h = (at, h)
whole_marked used (more e none) m at h = h
whole_marked used (more e (more f es)) m at h = (at, h)

-- ---- trees

mutual
  folded_marked : (e : Tree) (used : Bool) → Marked used e → Marked used (folded e)
  folded_marked (Const v m) used h = h
  folded_marked (Local i m) used h = h
  folded_marked (If c a b m) used h =
      chosen_marked used (value_of (folded c)) (folded c) (folded a) (folded b) m h.0 (folded_marked c true h.1) (folded_marked a used h.2) (folded_marked b used h.3)
  folded_marked (Do items m) used h = whole_marked used (seen_items (folded_all items)) m h.0 (do_marked items used h.1)
  folded_marked (Let values body m) used h = (h.0, all_marked values h.1, folded_marked body used h.2)
  folded_marked (Loop values body m) used h = (h.0, all_marked values h.1, folded_marked body used h.2)
  folded_marked (Recur values m) used h = (h.0, all_marked values h.1)
  folded_marked (Core op args m) used h = settled_core_marked used (constants (folded_all args)) op (folded_all args) m h.0 (all_marked args h.1)
  folded_marked (Call f args m) used h = (h.0, all_marked args h.1)
  folded_marked (VectorOf items m) used h = settled_vector_marked used (constants (folded_all items)) (folded_all items) m h.0 (all_marked items h.1)
  folded_marked (Println args m) used h = (h.0, all_marked args h.1)
  folded_marked (Dosync body m) used h = (h.0, folded_marked body m.wanted h.1)
  folded_marked (Look form cell m) used h = (h.0, folded_marked cell true h.1)
  folded_marked (Put form cell value m) used h = (h.0, folded_marked cell true h.1, folded_marked value true h.2)
  folded_marked (Update form cell callee args m) used h = (h.0, folded_marked cell true h.1, all_marked args h.2)
  folded_marked (Send cell callee args m) used h = (h.0, folded_marked cell true h.1, all_marked args h.2)

  all_marked : (es : Trees) → MarkedAll es → MarkedAll (folded_all es)
  all_marked none h = tt
  all_marked (more e rest) h = (folded_marked e true h.0, all_marked rest h.1)

  do_marked : (es : Trees) (used : Bool) → MarkedDo used es → MarkedDo used (seen_items (folded_all es))
  do_marked none used h = tt
  do_marked (more e none) used h = folded_marked e used h
  do_marked (more e (more f rest)) used h =
      before_marked used (value_of (folded e)) (folded e) (seen_items (folded_all (more f rest))) (seen_some (folded f) (folded_all rest)) (folded_marked e false h.0) (do_marked (more f rest) used h.1)

-- ---- the program

functions_marked : (fs : List PlainFunction) → MarkedFunctions fs → MarkedFunctions (folded_functions fs)
functions_marked [] h = tt
functions_marked (f ∷ fs) h = (folded_marked f.body true h.0, functions_marked fs h.1)

threads_marked : (ts : List PlainThread) → MarkedThreads ts → MarkedThreads (folded_threads ts)
threads_marked [] h = tt
threads_marked (t ∷ ts) h = (folded_marked t.body false h.0, threads_marked ts h.1)

pub folded_program_marked : (p : PlainProgram) → MarkedProgram p → MarkedProgram (folded_program p)
folded_program_marked p h = record { functions = functions_marked p.functions h.functions; threads = threads_marked p.threads h.threads }
