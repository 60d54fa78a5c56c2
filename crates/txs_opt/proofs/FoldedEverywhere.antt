-- What holds everywhere in a program holds everywhere in it when it is folded, where the core operations keep what is said of constants.
use Rattle.std.proofs.Common.{◌≡◌, Bool, true, false, List, [], ◌∷◌, length, Option, Some, None, Result, Ok, Err, refl, sym, subst}
use Rattle.std.specs.List.{AllByRecursion}
use Rattle.txs_value_apply.specs.Core.{core, takes, vector_of}
use Rattle.txs_value_apply.specs.Truth.{choose}
use Rattle.txs_value_data.specs.declared.fault.FaultKind.{FaultKind}
use Rattle.txs_value_data.specs.declared.op.Op.{Op}
use Rattle.txs_value_data.specs.declared.value.Value.{Value}
use Rattle.txs_value_data.specs.declared.value.Value.TheVariants.{Nil, Truth, Int, Key, Text, Vector, Cell}
use Rattle.txs_tree_meaning.specs.Tree.{Mark, Tree, Const, Local, If, Do, Let, Loop, Recur, Core, Call, VectorOf, Println, Dosync, Look, Put, Update, Send, Trees, none, more, PlainFunction, PlainThread, PlainProgram}
use Rattle.txs_tree_meaning.specs.Everywhere.{Facts, Everywhere, EverywhereIn, InFunction, InThread, InProgram}
use Rattle.txs_opt.specs.Fold.{value_of, with_value, constants, settled, settled_on, settled_core, settled_vector, chosen, before, seen_items, whole, folded, folded_all, folded_functions, folded_threads, folded_program}
use Rattle.txs_opt.proofs.Folding.{count_folded}

-- operations and vectors of constants keep what is said of constants
pub record KeptByOperations (F : Facts) : Type 0 where
  pub core_keeps : (op : Op) (vs : List Value) (v : Value) → AllByRecursion F.constant vs → core op vs ≡ Ok v → F.constant v
  pub vector_keeps : (vs : List Value) (v : Value) → AllByRecursion F.constant vs → vector_of vs ≡ Ok v → F.constant v

module _ (F : Facts) (kept : KeptByOperations F) where
  -- ---- constants

  abbrev ConstantIf : Option Value → Type 0
  ConstantIf None = Unit {0}
  ConstantIf (Some v) = F.constant v

  abbrev ConstantsIf : Option (List Value) → Type 0
  ConstantsIf None = Unit {0}
  ConstantsIf (Some vs) = AllByRecursion F.constant vs

  value_has : (e : Tree) → Everywhere F e → ConstantIf (value_of e)
  value_has (Const v m) h = h.0
  value_has (Local i m) h = tt
  value_has (If c a b m) h = tt
  value_has (Do items m) h = tt
  value_has (Let values body m) h = tt
  value_has (Loop values body m) h = tt
  value_has (Recur values m) h = tt
  value_has (Core op args m) h = tt
  value_has (Call f args m) h = tt
  value_has (VectorOf items m) h = tt
  value_has (Println args m) h = tt
  value_has (Dosync body m) h = tt
  value_has (Look form cell m) h = tt
  value_has (Put form cell value m) h = tt
  value_has (Update form cell callee args m) h = tt
  value_has (Send cell callee args m) h = tt

  with_has : (o : Option Value) (p : Option (List Value)) → ConstantIf o → ConstantsIf p → ConstantsIf (with_value o p)
  with_has None p h k = tt
  with_has (Some v) None h k = tt
  with_has (Some v) (Some vs) h k = (h, k)

  constants_have : (es : Trees) → EverywhereIn F es → ConstantsIf (constants es)
  constants_have none h = tt
  constants_have (more e rest) h = with_has (value_of e) (constants rest) (value_has e h.0) (constants_have rest h.1)

  -- ---- nodes

  branch_has : (v : Value) (a b : Tree) → Everywhere F a → Everywhere F b → Everywhere F (choose v a b)
  branch_has Nil a b y z = z
  branch_has (Truth true) a b y z = y
  branch_has (Truth false) a b y z = z
  branch_has (Int n) a b y z = y
  branch_has (Key bs) a b y z = y
  branch_has (Text bs) a b y z = y
  branch_has (Vector vs) a b y z = y
  branch_has (Cell x) a b y z = y

  chosen_has : (o : Option Value) (c a b : Tree) (m : Mark) → F.span m.span → Everywhere F c → Everywhere F a → Everywhere F b → Everywhere F (chosen o c a b m)
  chosen_has None c a b m s x y z = (x, y, z, s)
  chosen_has (Some v) c a b m s x y z = branch_has v a b y z

  settled_has : (r : Result Value FaultKind) (m : Mark) (e : Tree) → ((v : Value) → r ≡ Ok v → F.constant v) → F.span m.span → Everywhere F e → Everywhere F (settled r m e)
  settled_has (Ok v) m e k s h = (k v refl, s)
  settled_has (Err f) m e k s h = h

  settled_on_has : (b : Bool) (vs : List Value) (op : Op) (es : Trees) (m : Mark) → AllByRecursion F.constant vs → F.span m.span → EverywhereIn F es → Everywhere F (settled_on b vs op es m)
  settled_on_has false vs op es m k s h = (h, s)
  settled_on_has true vs op es m k s h = settled_has (core op vs) m (Core op es m) (λ v is. kept.core_keeps op vs v k is) s (h, s)

  settled_core_has : (o : Option (List Value)) (op : Op) (es : Trees) (m : Mark) → ConstantsIf o → F.span m.span → EverywhereIn F es → Everywhere F (settled_core o op es m)
  settled_core_has None op es m k s h = (h, s)
  settled_core_has (Some vs) op es m k s h = settled_on_has (takes op (length vs)) vs op es m k s h

  settled_vector_has : (o : Option (List Value)) (es : Trees) (m : Mark) → ConstantsIf o → F.span m.span → EverywhereIn F es → Everywhere F (settled_vector o es m)
  settled_vector_has None es m k s h = (h, s)
  settled_vector_has (Some vs) es m k s h = settled_has (vector_of vs) m (VectorOf es m) (λ v is. kept.vector_keeps vs v k is) s (h, s)

  before_has : (o : Option Value) (e : Tree) (es : Trees) → Everywhere F e → EverywhereIn F es → EverywhereIn F (before o e es)
  before_has None e es h hs = (h, hs)
  before_has (Some v) e es h hs = hs

  whole_has : (es : Trees) (m : Mark) → F.span m.span → EverywhereIn F es → Everywhere F (whole es m)
  whole_has none m s h = (h, s)
  whole_has (more e none) m s h = h.0
  whole_has (more e (more f es)) m s h = (h, s)

  -- ---- trees

  mutual
    folded_has : (e : Tree) → Everywhere F e → Everywhere F (folded e)
    folded_has (Const v m) h = h
    folded_has (Local i m) h = h
    folded_has (If c a b m) h = chosen_has (value_of (folded c)) (folded c) (folded a) (folded b) m h.3 (folded_has c h.0) (folded_has a h.1) (folded_has b h.2)
    folded_has (Do items m) h = whole_has (seen_items (folded_all items)) m h.1 (seen_have items h.0)
    folded_has (Let values body m) h = (all_have values h.0, folded_has body h.1, h.2)
    folded_has (Loop values body m) h = (all_have values h.0, folded_has body h.1, h.2)
    folded_has (Recur values m) h = (all_have values h.0, h.1)
    folded_has (Core op args m) h = let all = all_have args h.0 in settled_core_has (constants (folded_all args)) op (folded_all args) m (constants_have (folded_all args) all) h.1 all
    folded_has (Call f args m) h = (all_have args h.0, h.1)
    folded_has (VectorOf items m) h = let all = all_have items h.0 in settled_vector_has (constants (folded_all items)) (folded_all items) m (constants_have (folded_all items) all) h.1 all
    folded_has (Println args m) h = (all_have args h.0, h.1)
    folded_has (Dosync body m) h = (folded_has body h.0, h.1)
    folded_has (Look form cell m) h = (folded_has cell h.0, h.1)
    folded_has (Put form cell value m) h = (folded_has cell h.0, folded_has value h.1, h.2)
    folded_has (Update form cell callee args m) h = (folded_has cell h.0, all_have args h.1, h.2)
    folded_has (Send cell callee args m) h = (folded_has cell h.0, all_have args h.1, subst (λ n. F.send callee n m.span) (sym (count_folded args)) h.2)

    all_have : (es : Trees) → EverywhereIn F es → EverywhereIn F (folded_all es)
    all_have none h = tt
    all_have (more e rest) h = (folded_has e h.0, all_have rest h.1)

    seen_have : (es : Trees) → EverywhereIn F es → EverywhereIn F (seen_items (folded_all es))
    seen_have none h = tt
    seen_have (more e none) h = (folded_has e h.0, tt)
    seen_have (more e (more f rest)) h = before_has (value_of (folded e)) (folded e) (seen_items (folded_all (more f rest))) (folded_has e h.0) (seen_have (more f rest) h.1)

  -- ---- the program

  functions_have : (fs : List PlainFunction) → AllByRecursion (InFunction F) fs → AllByRecursion (InFunction F) (folded_functions fs)
  functions_have [] h = tt
  functions_have (f ∷ fs) h = ((folded_has f.body h.0.0, h.0.1), functions_have fs h.1)

  threads_have : (ts : List PlainThread) → AllByRecursion (InThread F) ts → AllByRecursion (InThread F) (folded_threads ts)
  threads_have [] h = tt
  threads_have (t ∷ ts) h = ((folded_has t.body h.0.0, h.0.1), threads_have ts h.1)

  pub folded_program_has : (p : PlainProgram) → InProgram F p → InProgram F (folded_program p)
  folded_program_has p h = record { functions = functions_have p.functions h.functions; threads = threads_have p.threads h.threads }
