-- What is known of the functions that are defined: all that a call of them rests on.
use Rattle.std.specs.Prelude.{ℕ, suc, max, Bool, true, false, ◌&&◌, ◌||◌, List, [], ◌∷◌, ◌++◌, Option, Some, None}
use Rattle.txs_value_cell.specs.Forms.{rule}
use Rattle.txs_value_data.specs.Places.{nth}
use Rattle.txs_value_cell.specs.declared.form.CellForm.TheVariants as form_of
use Rattle.txs_value_cell.specs.declared.form.Standing.{Standing}
use Rattle.txs_value_cell.specs.declared.form.Standing.TheVariants.{Anywhere, Inside, Outside}
use Rattle.txs_value_data.specs.declared.op.Callee.{Callee}
use Rattle.txs_value_data.specs.declared.op.Callee.TheVariants.{Core as CoreOp, Function}
use Rattle.txs_tree_meaning.specs.Tree.{Tree, Const, Local, If, Do, Let, Loop, Recur, Core, Call, VectorOf, Println, Dosync, Look, Put, Update, Send, Trees, none, more, PlainFunction}

-- what a call of a function rests on: how many values it takes, where it may be called, and how deep its body is
pub record Known : Type 0 where
  pub parameters : ℕ
  -- it is for transactions alone
  pub inside : Bool
  -- it is for outside alone
  pub outside : Bool
  pub pure : Bool
  -- how many nodes are in one another, those of the functions that it calls among them
  pub levels : ℕ

-- whether what is placed so is for transactions alone
abbrev pub only_inside : Standing → Bool
only_inside Inside = true
only_inside Anywhere = false
only_inside Outside = false

-- whether what is placed so is for outside alone
abbrev pub only_outside : Standing → Bool
only_outside Outside = true
only_outside Anywhere = false
only_outside Inside = false

-- whether it is for transactions alone; no function, no
abbrev pub is_inside : Option Known → Bool
is_inside None = false
is_inside (Some k) = k.inside

-- whether it is for outside alone; no function, no
abbrev pub is_outside : Option Known → Bool
is_outside None = false
is_outside (Some k) = k.outside

-- whether it is pure; no function is not
abbrev pub is_pure : Option Known → Bool
is_pure None = false
is_pure (Some k) = k.pure

-- how many levels it has, none where there is no function
abbrev pub levels_of : Option Known → ℕ
levels_of None = 0
levels_of (Some k) = k.levels

-- a callee counts with its body
abbrev pub callee_levels : List Known → Callee → ℕ
callee_levels ks (CoreOp op) = 0
callee_levels ks (Function f) = levels_of (nth ks f)

-- a body is inside where something that is for transactions alone is in it outside every transaction of it
abbrev mutual
  pub inside_in : List Known → Tree → Bool
  inside_in ks (Const v m) = false
  inside_in ks (Local i m) = false
  inside_in ks (If c a b m) = inside_in ks c || (inside_in ks a || inside_in ks b)
  inside_in ks (Do items m) = any_inside ks items
  inside_in ks (Let values body m) = any_inside ks values || inside_in ks body
  inside_in ks (Loop values body m) = any_inside ks values || inside_in ks body
  inside_in ks (Recur values m) = any_inside ks values
  inside_in ks (Core op args m) = any_inside ks args
  inside_in ks (Call f args m) = is_inside (nth ks f) || any_inside ks args
  inside_in ks (VectorOf items m) = any_inside ks items
  inside_in ks (Println args m) = any_inside ks args
  inside_in ks (Dosync body m) = false
  inside_in ks (Look form cell m) = only_inside (rule (form_of.Look form)).stands || inside_in ks cell
  inside_in ks (Put form cell value m) = only_inside (rule (form_of.Put form)).stands || (inside_in ks cell || inside_in ks value)
  inside_in ks (Update form cell callee args m) = only_inside (rule (form_of.Update form)).stands || (inside_in ks cell || any_inside ks args)
  inside_in ks (Send cell callee args m) = inside_in ks cell || any_inside ks args

  -- some of these is inside
  pub any_inside : List Known → Trees → Bool
  any_inside ks none = false
  any_inside ks (more e rest) = inside_in ks e || any_inside ks rest

-- a body is outside where something that is for outside alone is in it
abbrev mutual
  pub outside_in : List Known → Tree → Bool
  outside_in ks (Const v m) = false
  outside_in ks (Local i m) = false
  outside_in ks (If c a b m) = outside_in ks c || (outside_in ks a || outside_in ks b)
  outside_in ks (Do items m) = any_outside ks items
  outside_in ks (Let values body m) = any_outside ks values || outside_in ks body
  outside_in ks (Loop values body m) = any_outside ks values || outside_in ks body
  outside_in ks (Recur values m) = any_outside ks values
  outside_in ks (Core op args m) = any_outside ks args
  outside_in ks (Call f args m) = is_outside (nth ks f) || any_outside ks args
  outside_in ks (VectorOf items m) = any_outside ks items
  outside_in ks (Println args m) = true
  outside_in ks (Dosync body m) = outside_in ks body
  outside_in ks (Look form cell m) = only_outside (rule (form_of.Look form)).stands || outside_in ks cell
  outside_in ks (Put form cell value m) = only_outside (rule (form_of.Put form)).stands || (outside_in ks cell || outside_in ks value)
  outside_in ks (Update form cell callee args m) = only_outside (rule (form_of.Update form)).stands || (outside_in ks cell || any_outside ks args)
  outside_in ks (Send cell callee args m) = outside_in ks cell || any_outside ks args

  -- some of these is outside
  pub any_outside : List Known → Trees → Bool
  any_outside ks none = false
  any_outside ks (more e rest) = outside_in ks e || any_outside ks rest

-- a body is pure where no form on cells, no line and no transaction is in it, and it calls pure functions alone
abbrev mutual
  pub pure_in : List Known → Tree → Bool
  pure_in ks (Const v m) = true
  pure_in ks (Local i m) = true
  pure_in ks (If c a b m) = pure_in ks c && (pure_in ks a && pure_in ks b)
  pure_in ks (Do items m) = all_pure ks items
  pure_in ks (Let values body m) = all_pure ks values && pure_in ks body
  pure_in ks (Loop values body m) = all_pure ks values && pure_in ks body
  pure_in ks (Recur values m) = all_pure ks values
  pure_in ks (Core op args m) = all_pure ks args
  pure_in ks (Call f args m) = is_pure (nth ks f) && all_pure ks args
  pure_in ks (VectorOf items m) = all_pure ks items
  pure_in ks (Println args m) = false
  pure_in ks (Dosync body m) = false
  pure_in ks (Look form cell m) = false
  pure_in ks (Put form cell value m) = false
  pure_in ks (Update form cell callee args m) = false
  pure_in ks (Send cell callee args m) = false

  -- each of these is pure
  pub all_pure : List Known → Trees → Bool
  all_pure ks none = true
  all_pure ks (more e rest) = pure_in ks e && all_pure ks rest

-- how many nodes are in one another, a call or callee counted with the function's body below it
abbrev mutual
  pub levels : List Known → Tree → ℕ
  levels ks (Const v m) = 1
  levels ks (Local i m) = 1
  levels ks (If c a b m) = suc (max (levels ks c) (max (levels ks a) (levels ks b)))
  levels ks (Do items m) = suc (levels_in ks items)
  levels ks (Let values body m) = suc (max (levels_in ks values) (levels ks body))
  levels ks (Loop values body m) = suc (max (levels_in ks values) (levels ks body))
  levels ks (Recur values m) = suc (levels_in ks values)
  levels ks (Core op args m) = suc (levels_in ks args)
  levels ks (Call f args m) = suc (max (levels_of (nth ks f)) (levels_in ks args))
  levels ks (VectorOf items m) = suc (levels_in ks items)
  levels ks (Println args m) = suc (levels_in ks args)
  levels ks (Dosync body m) = suc (levels ks body)
  levels ks (Look form cell m) = suc (levels ks cell)
  levels ks (Put form cell value m) = suc (max (levels ks cell) (levels ks value))
  levels ks (Update form cell callee args m) = suc (max (callee_levels ks callee) (max (levels ks cell) (levels_in ks args)))
  levels ks (Send cell callee args m) = suc (max (callee_levels ks callee) (max (levels ks cell) (levels_in ks args)))

  -- the most levels of these, which are beside one another
  pub levels_in : List Known → Trees → ℕ
  levels_in ks none = 0
  levels_in ks (more e rest) = max (levels ks e) (levels_in ks rest)

-- what is known of a function, where so much is known of those before it
abbrev pub known_of : List Known → PlainFunction → Known
known_of ks f = record {
  parameters = f.parameters;
  inside = inside_in ks f.body;
  outside = outside_in ks f.body;
  pure = pure_in ks f.body;
  levels = levels ks f.body;
}

-- what is known of further functions, of which each may call those before it
abbrev pub known_from : List Known → List PlainFunction → List Known
known_from ks [] = ks
known_from ks (f ∷ fs) = known_from (ks ++ known_of ks f ∷ []) fs

-- what is known of functions
abbrev pub known : List PlainFunction → List Known
known fs = known_from [] fs
