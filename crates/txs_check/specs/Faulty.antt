-- What a refusal says of a program: a form that stands in it or a cell's validator has that fault, or its forms are too many.
use Rattle.std.specs.Prelude.{◌≡◌, ◌⊎◌, ◌<◌, ◌+◌, ℕ, suc, Bool, true, false, nat_eq, List, [], ◌∷◌, ◌++◌, Some}
use Rattle.txs_value_apply.specs.Core.{takes}
use Rattle.txs_value_cell.specs.Forms.{rule}
use Rattle.txs_value_data.specs.Limits.{most_nodes}
use Rattle.txs_value_data.specs.Places.{nth}
use Rattle.txs_value_cell.specs.declared.form.CellForm.{CellForm}
use Rattle.txs_value_cell.specs.declared.form.CellForm.TheVariants as form_of
use Rattle.txs_value_cell.specs.declared.form.LookForm.{LookForm}
use Rattle.txs_value_cell.specs.declared.form.PutForm.{PutForm}
use Rattle.txs_value_cell.specs.declared.form.Standing.TheVariants.{Inside, Outside}
use Rattle.txs_value_cell.specs.declared.form.UpdateForm.{UpdateForm}
use Rattle.txs_value_data.specs.declared.fault.Span.{Span}
use Rattle.txs_value_data.specs.declared.op.Op.{Op}
use Rattle.txs_value_data.specs.declared.op.Callee.{Callee}
use Rattle.txs_value_data.specs.declared.op.Callee.TheVariants.{Core as CoreOp, Function}
use Rattle.txs_tree_meaning.specs.Known.{Known, is_pure, known}
use Rattle.txs_tree_meaning.specs.Sound.{nodes}
use Rattle.txs_tree_meaning.specs.Tree.{Tree, Mark, If, Do, Let, Loop, Recur, Core, Call, VectorOf, Println, Dosync, Look, Put, Update, Send, Trees, none, more, count, PlainProgram}
use Rattle.txs_check.specs.Refused.{inner, across, accepts, place_of, Body, in_order, Validator, validators_in}
use Rattle.txs_check.specs.declared.error.CheckError.{CheckError}
use Rattle.txs_check.specs.declared.error.CheckErrorKind.{CheckErrorKind}
use Rattle.txs_check.specs.declared.error.CheckErrorKind.TheVariants.{RecurNotTail, RecurCount, RecurAcrossDosync, Arity, NotPure, InsideOnly, OutsideOnly, CodeTooLarge}
use Rattle.txs_check.specs.declared.place.Target.{Target}
use Rattle.txs_check.specs.declared.place.Target.TheVariants.{Nowhere, Across, Nearest}
use Rattle.txs_check.specs.declared.place.Zone.{Zone}
use Rattle.txs_check.specs.declared.place.Zone.TheVariants.{InFuture, InDosync}

-- ---- where forms stand

-- it is one of these
pub data IsAmong (form : Tree) : Trees → Type 0 where
  is_first : (rest : Trees) → IsAmong form (more form rest)
  is_later : (e : Tree) (rest : Trees) → IsAmong form rest → IsAmong form (more e rest)

-- it is the last of these
pub data IsLast (form : Tree) : Trees → Type 0 where
  is_only : IsLast form (more form none)
  is_behind : (e : Tree) (rest : Trees) → IsLast form rest → IsLast form (more e rest)

-- it is one of these, and others are behind it
pub data IsBefore (form : Tree) : Trees → Type 0 where
  is_now : (e : Tree) (rest : Trees) → IsBefore form (more form (more e rest))
  is_then : (e : Tree) (rest : Trees) → IsBefore form rest → IsBefore form (more e rest)

-- A form is in another one, or is that one: in which zone, and what a recur meets there, by where the other one is.
-- Only the branches of a choice, the last form of a block and the body of a `let` are in tail position where the whole is; a loop
-- is the target of its body, and a `dosync` is a barrier.
pub data Stands (zone : Zone) (target : Target) (form : Tree) : Zone → Target → Tree → Type 0 where
  as_whole : Stands zone target form zone target form
  in_test : (z : Zone) (t : Target) (c a b : Tree) (m : Mark) → Stands zone target form z (inner t) c → Stands zone target form z t (If c a b m)
  in_first : (z : Zone) (t : Target) (c a b : Tree) (m : Mark) → Stands zone target form z t a → Stands zone target form z t (If c a b m)
  in_second : (z : Zone) (t : Target) (c a b : Tree) (m : Mark) → Stands zone target form z t b → Stands zone target form z t (If c a b m)
  in_block : (z : Zone) (t : Target) (items : Trees) (m : Mark) (e : Tree) → IsBefore e items → Stands zone target form z (inner t) e → Stands zone target form z t (Do items m)
  in_last : (z : Zone) (t : Target) (items : Trees) (m : Mark) (e : Tree) → IsLast e items → Stands zone target form z t e → Stands zone target form z t (Do items m)
  in_bound : (z : Zone) (t : Target) (values : Trees) (body : Tree) (m : Mark) (e : Tree) → IsAmong e values → Stands zone target form z (inner t) e → Stands zone target form z t (Let values body m)
  in_let : (z : Zone) (t : Target) (values : Trees) (body : Tree) (m : Mark) → Stands zone target form z t body → Stands zone target form z t (Let values body m)
  in_start : (z : Zone) (t : Target) (values : Trees) (body : Tree) (m : Mark) (e : Tree) → IsAmong e values → Stands zone target form z (inner t) e → Stands zone target form z t (Loop values body m)
  in_loop : (z : Zone) (t : Target) (values : Trees) (body : Tree) (m : Mark) → Stands zone target form z (Nearest (count values) true) body → Stands zone target form z t (Loop values body m)
  in_recur : (z : Zone) (t : Target) (values : Trees) (m : Mark) (e : Tree) → IsAmong e values → Stands zone target form z (inner t) e → Stands zone target form z t (Recur values m)
  in_operation : (z : Zone) (t : Target) (op : Op) (args : Trees) (m : Mark) (e : Tree) → IsAmong e args → Stands zone target form z (inner t) e → Stands zone target form z t (Core op args m)
  in_call : (z : Zone) (t : Target) (f : ℕ) (args : Trees) (m : Mark) (e : Tree) → IsAmong e args → Stands zone target form z (inner t) e → Stands zone target form z t (Call f args m)
  in_vector : (z : Zone) (t : Target) (items : Trees) (m : Mark) (e : Tree) → IsAmong e items → Stands zone target form z (inner t) e → Stands zone target form z t (VectorOf items m)
  in_line : (z : Zone) (t : Target) (args : Trees) (m : Mark) (e : Tree) → IsAmong e args → Stands zone target form z (inner t) e → Stands zone target form z t (Println args m)
  in_transaction : (z : Zone) (t : Target) (body : Tree) (m : Mark) → Stands zone target form InDosync (across t) body → Stands zone target form z t (Dosync body m)
  in_looked : (z : Zone) (t : Target) (f : LookForm) (cell : Tree) (m : Mark) → Stands zone target form z (inner t) cell → Stands zone target form z t (Look f cell m)
  in_filled : (z : Zone) (t : Target) (f : PutForm) (cell value : Tree) (m : Mark) → Stands zone target form z (inner t) cell → Stands zone target form z t (Put f cell value m)
  in_value : (z : Zone) (t : Target) (f : PutForm) (cell value : Tree) (m : Mark) → Stands zone target form z (inner t) value → Stands zone target form z t (Put f cell value m)
  in_updated : (z : Zone) (t : Target) (f : UpdateForm) (cell : Tree) (callee : Callee) (args : Trees) (m : Mark) → Stands zone target form z (inner t) cell → Stands zone target form z t (Update f cell callee args m)
  in_further : (z : Zone) (t : Target) (f : UpdateForm) (cell : Tree) (callee : Callee) (args : Trees) (m : Mark) (e : Tree) → IsAmong e args → Stands zone target form z (inner t) e → Stands zone target form z t (Update f cell callee args m)
  in_agent : (z : Zone) (t : Target) (cell : Tree) (callee : Callee) (args : Trees) (m : Mark) → Stands zone target form z (inner t) cell → Stands zone target form z t (Send cell callee args m)
  in_sent : (z : Zone) (t : Target) (cell : Tree) (callee : Callee) (args : Trees) (m : Mark) (e : Tree) → IsAmong e args → Stands zone target form z (inner t) e → Stands zone target form z t (Send cell callee args m)

-- ---- which fault a form has

-- this is that form on a cell
pub data IsForm : CellForm → Tree → Type 0 where
  it_looks : (f : LookForm) (cell : Tree) (m : Mark) → IsForm (form_of.Look f) (Look f cell m)
  it_puts : (f : PutForm) (cell value : Tree) (m : Mark) → IsForm (form_of.Put f) (Put f cell value m)
  it_updates : (f : UpdateForm) (cell : Tree) (callee : Callee) (args : Trees) (m : Mark) → IsForm (form_of.Update f) (Update f cell callee args m)
  it_sends : (cell : Tree) (callee : Callee) (args : Trees) (m : Mark) → IsForm form_of.Send (Send cell callee args m)

-- this is a form on a cell that has the callee applied to so many arguments, the cell's value among them
pub data HasApplied : Callee → ℕ → Tree → Type 0 where
  in_update : (f : UpdateForm) (cell : Tree) (callee : Callee) (args : Trees) (m : Mark) → HasApplied callee (suc (count args)) (Update f cell callee args m)
  in_action : (cell : Tree) (callee : Callee) (args : Trees) (m : Mark) → HasApplied callee (suc (count args)) (Send cell callee args m)

-- whether a callee takes so many arguments
abbrev pub callee_takes : List Known → Callee → ℕ → Bool
callee_takes ks (CoreOp op) n = takes op n
callee_takes ks (Function f) n = accepts (nth ks f) n

-- A form has the fault of this kind where it is in this zone, with this target of recur, among these functions.
pub data HasFault (ks : List Known) (zone : Zone) (target : Target) : CheckErrorKind → Tree → Type 0 where
  -- a recur without loop or function around it, or outside its tail position, or with a dosync between
  recurs_nowhere : (values : Trees) (m : Mark) → target ≡ Nowhere → HasFault ks zone target RecurNotTail (Recur values m)
  recurs_before_end : (values : Trees) (m : Mark) (k : ℕ) → target ≡ Nearest k false → HasFault ks zone target RecurNotTail (Recur values m)
  recurs_across : (values : Trees) (m : Mark) → target ≡ Across → HasFault ks zone target RecurAcrossDosync (Recur values m)
  -- a recur of another number of values than its target has
  recurs_with_others : (values : Trees) (m : Mark) (k : ℕ) (tail : Bool) → target ≡ Nearest k tail → nat_eq k (count values) ≡ false → HasFault ks zone target RecurCount (Recur values m)
  -- a number of arguments that isn't taken
  operates_on_others : (op : Op) (args : Trees) (m : Mark) → takes op (count args) ≡ false → HasFault ks zone target Arity (Core op args m)
  calls_with_others : (f : ℕ) (args : Trees) (m : Mark) → accepts (nth ks f) (count args) ≡ false → HasFault ks zone target Arity (Call f args m)
  applies_to_others : (callee : Callee) (n : ℕ) (e : Tree) → HasApplied callee n e → callee_takes ks callee n ≡ false → HasFault ks zone target Arity e
  -- a function that isn't pure, where a form on a cell has it applied to the cell's value
  applies_impurely : (form : UpdateForm) (cell : Tree) (f : ℕ) (args : Trees) (m : Mark) → is_pure (nth ks f) ≡ false → HasFault ks zone target NotPure (Update form cell (Function f) args m)
  -- what is for transactions alone, in a future outside them
  calls_outside : (f : ℕ) (args : Trees) (m : Mark) (k : Known) → zone ≡ InFuture → nth ks f ≡ Some k → k.inside ≡ true → HasFault ks zone target InsideOnly (Call f args m)
  -- or sent, wherever that is
  sends_inside : (cell : Tree) (f : ℕ) (args : Trees) (m : Mark) (k : Known) → nth ks f ≡ Some k → k.inside ≡ true → HasFault ks zone target InsideOnly (Send cell (Function f) args m)
  stands_outside : (f : CellForm) (e : Tree) → zone ≡ InFuture → IsForm f e → (rule f).stands ≡ Inside → HasFault ks zone target InsideOnly e
  -- what is for outside alone, in a transaction
  calls_inside : (f : ℕ) (args : Trees) (m : Mark) (k : Known) → zone ≡ InDosync → nth ks f ≡ Some k → k.outside ≡ true → HasFault ks zone target OutsideOnly (Call f args m)
  stands_inside : (f : CellForm) (e : Tree) → zone ≡ InDosync → IsForm f e → (rule f).stands ≡ Outside → HasFault ks zone target OutsideOnly e
  prints_inside : (args : Trees) (m : Mark) → zone ≡ InDosync → HasFault ks zone target OutsideOnly (Println args m)

-- a form that is in this one, which is so, has the fault, and the refusal's place
pub record FaultIn (ks : List Known) (zone : Zone) (target : Target) (tree : Tree) (e : CheckError) : Type 0 where
  pub form_zone : Zone
  pub form_target : Target
  pub form : Tree
  pub stands : Stands form_zone form_target form zone target tree
  pub fault : HasFault ks form_zone form_target e.kind form
  pub place : e.at ≡ place_of form

-- ---- a program

-- a body is one of these
pub data IsBody (b : Body) : List Body → Type 0 where
  body_first : (bs : List Body) → IsBody b (b ∷ bs)
  body_later : (c : Body) (bs : List Body) → IsBody b bs → IsBody b (c ∷ bs)

-- a validator is one of these
abbrev pub IsValidator : Validator → List Validator → Type 0
IsValidator v [] = ⊥
IsValidator v (w ∷ ws) = (v ≡ w) ⊎ IsValidator v ws

-- A callee has the fault of this kind as a validator: it doesn't take one value, or is a function that isn't pure.
pub data ValidatorFault (ks : List Known) (callee : Callee) : CheckErrorKind → Type 0 where
  validates_others : callee_takes ks callee 1 ≡ false → ValidatorFault ks callee Arity
  validates_impurely : (f : ℕ) → callee ≡ Function f → is_pure (nth ks f) ≡ false → ValidatorFault ks callee NotPure

-- one of these validators has the fault, and the refusal's place
pub record FaultOfValidator (ks : List Known) (vs : List Validator) (e : CheckError) : Type 0 where
  pub callee : Callee
  pub span : Span
  pub stands : IsValidator (record { callee = Some callee; span = span }) vs
  pub fault : ValidatorFault ks callee e.kind
  pub place : e.at ≡ span

-- how many nodes these bodies have together
abbrev pub all_nodes : List Body → ℕ
all_nodes [] = 0
all_nodes (b ∷ bs) = nodes b.tree + all_nodes bs

-- The refusal is true of the program: a form of one of its bodies has that fault and that place, or the validator of one of its cells has; or
-- with the body of that place its bodies have more than 200,000 nodes.
pub data IsTrueOf (p : PlainProgram) (e : CheckError) : Type 0 where
  of_form : (b : Body) → IsBody b (in_order p.functions p.threads) → FaultIn (known p.functions) b.zone b.target b.tree e → IsTrueOf p e
  of_validator : FaultOfValidator (known p.functions) (validators_in p.cells p.validator_spans) e → IsTrueOf p e
  of_size : (before : List Body) (b : Body) (behind : List Body) → in_order p.functions p.threads ≡ before ++ b ∷ behind → most_nodes < all_nodes before + nodes b.tree → e.kind ≡ CodeTooLarge → e.at ≡ b.span → IsTrueOf p e
