-- What an emitter has made so far, and what it makes of a tree.
use Rattle.std.specs.Prelude.{◌≡◌, ℕ, zero, suc, ◌+◌, ◌≤◌, max, Bool, true, false, List, [], ◌∷◌, ◌++◌, length, Option, Some, None, slice_set}
use Rattle.txs_value_data.specs.Limits.{most_locals, most_parameters}
use Rattle.txs_value_data.specs.declared.fault.Span.{Span}
use Rattle.txs_value_cell.specs.declared.form.UpdateForm.{UpdateForm}
use Rattle.txs_value_data.specs.declared.op.Callee.{Callee}
use Rattle.txs_value_data.specs.declared.op.Callee.TheVariants.{Core as CoreOp, Function}
use Rattle.txs_value_data.specs.declared.value.Value.{Value}
use Rattle.txs_value_data.specs.Places.{nth}
use Rattle.txs_tree_meaning.specs.Known.{Known}
use Rattle.txs_tree_meaning.specs.Sound.{Zone, in_dosync, SoundTree, SoundAll, SoundLet, SoundDo}
use Rattle.txs_tree_meaning.specs.Tree.{Tree, Const, Local, If, Do, Let, Loop, Recur, Core, Call, VectorOf, Println, Dosync, Look, Put, Update, Send, Trees, none, more, count}
use Rattle.txs_code_meaning.specs.declared.instr.Instr.{Instr}
use Rattle.txs_code_meaning.specs.declared.instr.Instr.TheVariants as instr
use Rattle.txs_gen.specs.Gen.{opening}
use Rattle.txs_gen.specs.Generated.{copies, spans_of, spans_of_all, spans_of_let, spans_of_do, constants_of, constants_in}
use Rattle.txs_gen.specs.declared.emit.Around.{Around}
use Rattle.txs_gen.specs.declared.emit.Emitter.{Emitter}

-- instructions with their spans, the constants that they push, and how many locals and how much stack they use
pub record Emission : Type 0 where
  pub instrs : List Instr
  pub spans : List Span
  pub constants : List Value
  pub locals : ℕ
  pub room : ℕ

-- what an emitter has made, as plain data
abbrev pub emission : Emitter → Emission
emission e = record { instrs = e.instrs.items; spans = e.spans.items; constants = e.constants.items; locals = e.locals; room = e.room }

-- the locals of the nearest loop or function, from base on, are among those that there are
abbrev pub IsWithin : ℕ → Option ℕ → ℕ → Type 0
IsWithin base None d = Unit {0}
IsWithin base (Some n) d = (base + n ≤ d) × (d ≤ most_locals)

-- what holds of functions that are known: they take few arguments, and pure ones are for transactions and for outside
abbrev pub AreLawful : List Known → Type 0
AreLawful ks = (f : ℕ) (k : Known) → nth ks f ≡ Some k → (k.parameters ≤ most_parameters) × (k.pure ≡ true → (k.inside ≡ false) × (k.outside ≡ false))

-- what a tree finds: the functions that are defined, and its zone
pub record Place : Type 0 where
  pub known : List Known
  pub lawful : AreLawful known
  pub zone : Zone

-- the same place inside a transaction
abbrev pub in_transaction : Place → Place
in_transaction p = record p { zone = in_dosync }

-- a sound tree, where the nearest loop's locals begin at base
abbrev pub IsPlaced : ℕ → ℕ → Tree → Type 0
IsPlaced d base t = (p : Place) × (tail : Option ℕ) × IsWithin base tail d × SoundTree p.known p.zone d tail t

-- sound items of a do, where the nearest loop's locals begin at base
abbrev pub IsPlacedDo : ℕ → ℕ → Trees → Type 0
IsPlacedDo d base ts = (p : Place) × (tail : Option ℕ) × IsWithin base tail d × SoundDo p.known p.zone d tail ts

-- sound trees, none of them in tail position
abbrev pub IsPlacedAll : ℕ → Trees → Type 0
IsPlacedAll d ts = (p : Place) × SoundAll p.known p.zone d ts

-- sound values of a let, of which each sees those before it
abbrev pub IsPlacedLet : ℕ → Trees → Type 0
IsPlacedLet d ts = (p : Place) × SoundLet p.known p.zone d ts

-- instructions that begin at a place, and what follows them
abbrev pub then_instrs : ℕ → List Instr → (ℕ → List Instr) → List Instr
then_instrs pc is rest = is ++ rest (pc + length is)

-- a choice, after its test: where it fails, past the first branch and the jump over the second
abbrev pub if_instrs : ℕ → List Instr → (ℕ → List Instr) → List Instr
if_instrs pc a b =
    instr.JumpFalse (pc + 1 + length a + 1) ∷ (a ++ instr.Jump (pc + 1 + length a + 1 + length (b (pc + 1 + length a + 1))) ∷ b (pc + 1 + length a + 1))

-- the topmost values become the locals from i on, the last one first
abbrev pub stores_from : ℕ → ℕ → List Instr
stores_from i zero = []
stores_from i (suc n) = instr.Store (i + n) ∷ stores_from i n

-- what an update calls, on so many values
abbrev pub callee_instrs : Callee → ℕ → List Instr
callee_instrs (CoreOp op) n = instr.Core op n ∷ []
callee_instrs (Function f) n = instr.Call f ∷ []

-- an update of a cell that is on the stack below so many arguments: its open, the operation or call of its callee, and its close
abbrev pub update_instrs : UpdateForm → Callee → ℕ → List Instr
update_instrs form callee n = instr.Open (opening form callee) n ∷ (callee_instrs callee (suc n) ++ instr.Close form ∷ [])

-- The instructions of a tree with so many locals, from a place of the body on. base and start: the first local of the
-- nearest loop or function, and the place of its body. So many constants are there already.
abbrev mutual
  pub instrs_of : Tree → ℕ → ℕ → ℕ → ℕ → ℕ → List Instr
  instrs_of (Const v m) d base start pc k = instr.Const k ∷ []
  instrs_of (Local i m) d base start pc k = instr.Local i ∷ []
  instrs_of (If c a b m) d base start pc k =
      then_instrs pc (instrs_of c d base start pc k) (λ p.
      if_instrs p (instrs_of a d base start (p + 1) (k + length (constants_of c))) (λ q.
      instrs_of b d base start q (k + length (constants_of c) + length (constants_of a))))
  instrs_of (Do items m) d base start pc k = instrs_of_do items d base start pc k
  instrs_of (Let values body m) d base start pc k =
      then_instrs pc (instrs_of_let values d base start pc k) (λ p.
      instrs_of body (d + count values) base start p (k + length (constants_in values)))
  instrs_of (Loop values body m) d base start pc k =
      then_instrs pc (instrs_of_let values d base start pc k) (λ p.
      instrs_of body (d + count values) d p p (k + length (constants_in values)))
  instrs_of (Recur values m) d base start pc k =
      instrs_of_all values d base start pc k ++ (stores_from base (count values) ++ instr.Jump start ∷ [])
  instrs_of (Core op args m) d base start pc k = instrs_of_all args d base start pc k ++ instr.Core op (count args) ∷ []
  instrs_of (Call f args m) d base start pc k = instrs_of_all args d base start pc k ++ instr.Call f ∷ []
  instrs_of (VectorOf items m) d base start pc k = instrs_of_all items d base start pc k ++ instr.Vector (count items) ∷ []
  instrs_of (Println args m) d base start pc k = instrs_of_all args d base start pc k ++ instr.Print (count args) ∷ []
  instrs_of (Dosync body m) d base start pc k = instr.TxBegin ∷ (instrs_of body d base start (pc + 1) k ++ instr.TxEnd ∷ [])
  instrs_of (Look form cell m) d base start pc k = instrs_of cell d base start pc k ++ instr.Look form ∷ []
  instrs_of (Put form cell value m) d base start pc k =
      then_instrs pc (instrs_of cell d base start pc k) (λ p. instrs_of value d base start p (k + length (constants_of cell)) ++ instr.Put form ∷ [])
  instrs_of (Update form cell callee args m) d base start pc k =
      then_instrs pc (instrs_of cell d base start pc k) (λ p.
      instrs_of_all args d base start p (k + length (constants_of cell)) ++ update_instrs form callee (count args))
  instrs_of (Send cell callee args m) d base start pc k =
      then_instrs pc (instrs_of cell d base start pc k) (λ p.
      instrs_of_all args d base start p (k + length (constants_of cell)) ++ instr.Send callee (count args) ∷ [])

  -- the instructions of these, one tree's after another's
  pub instrs_of_all : Trees → ℕ → ℕ → ℕ → ℕ → ℕ → List Instr
  instrs_of_all none d base start pc k = []
  instrs_of_all (more e rest) d base start pc k =
      then_instrs pc (instrs_of e d base start pc k) (λ p. instrs_of_all rest d base start p (k + length (constants_of e)))

  -- each value is stored
  pub instrs_of_let : Trees → ℕ → ℕ → ℕ → ℕ → ℕ → List Instr
  instrs_of_let none d base start pc k = []
  instrs_of_let (more e rest) d base start pc k =
      then_instrs pc (instrs_of e d base start pc k) (λ p.
      instr.Store d ∷ instrs_of_let rest (d + 1) base start (p + 1) (k + length (constants_of e)))

  -- each item but the last is popped
  pub instrs_of_do : Trees → ℕ → ℕ → ℕ → ℕ → ℕ → List Instr
  instrs_of_do none d base start pc k = []
  instrs_of_do (more e none) d base start pc k = instrs_of e d base start pc k
  instrs_of_do (more e (more f rest)) d base start pc k =
      then_instrs pc (instrs_of e d base start pc k) (λ p.
      instr.Pop ∷ instrs_of_do (more f rest) d base start (p + 1) (k + length (constants_of e)))

-- one past the last local that is stored, or 0; a recur stores into locals of its loop, which are there
abbrev mutual
  pub stored : Tree → ℕ → ℕ
  stored (Const v m) d = 0
  stored (Local i m) d = 0
  stored (If c a b m) d = max (stored c d) (max (stored a d) (stored b d))
  stored (Do items m) d = stored_in items d
  stored (Let values body m) d = max (stored_let values d) (stored body (d + count values))
  stored (Loop values body m) d = max (stored_let values d) (stored body (d + count values))
  stored (Recur values m) d = stored_in values d
  stored (Core op args m) d = stored_in args d
  stored (Call f args m) d = stored_in args d
  stored (VectorOf items m) d = stored_in items d
  stored (Println args m) d = stored_in args d
  stored (Dosync body m) d = stored body d
  stored (Look form cell m) d = stored cell d
  stored (Put form cell value m) d = max (stored cell d) (stored value d)
  stored (Update form cell callee args m) d = max (stored cell d) (stored_in args d)
  stored (Send cell callee args m) d = max (stored cell d) (stored_in args d)

  -- one past the last local that is stored in these
  pub stored_in : Trees → ℕ → ℕ
  stored_in none d = 0
  stored_in (more e rest) d = max (stored e d) (stored_in rest d)

  -- the same where each value becomes a local itself
  pub stored_let : Trees → ℕ → ℕ
  stored_let none d = 0
  stored_let (more e rest) d = max (stored e d) (max (d + 1) (stored_let rest (d + 1)))

-- How much room a tree's code is given on the stack, where so many values are on it already: as high as it is at most.
-- A recur is given the room of a value too, as if it left one. 0 where nothing is pushed.
abbrev mutual
  pub top : Tree → ℕ → ℕ
  top (Const v m) h = h + 1
  top (Local i m) h = h + 1
  top (If c a b m) h = max (top c h) (max (top a h) (top b h))
  top (Do items m) h = top_in items h
  top (Let values body m) h = max (top_in values h) (top body h)
  top (Loop values body m) h = max (top_in values h) (top body h)
  top (Recur values m) h = max (top_args values h) (h + 1)
  top (Core op args m) h = top_args args h
  top (Call f args m) h = max (top_args args h) (h + 1)
  top (VectorOf items m) h = max (top_args items h) (h + 1)
  top (Println args m) h = max (top_args args h) (h + 1)
  top (Dosync body m) h = top body h
  top (Look form cell m) h = top cell h
  top (Put form cell value m) h = max (top cell h) (top value (h + 1))
  top (Update form cell callee args m) h = max (top cell h) (max (top_args args (h + 1)) (h + count args + 2))
  top (Send cell callee args m) h = max (top cell h) (top_args args (h + 1))

  -- one after another
  pub top_in : Trees → ℕ → ℕ
  top_in none h = 0
  top_in (more e rest) h = max (top e h) (top_in rest h)

  -- one above another
  pub top_args : Trees → ℕ → ℕ
  top_args none h = 0
  top_args (more e rest) h = max (top e h) (top_args rest (h + 1))

-- the same place with one value more on the stack
abbrev pub above : Around → Around
above at = record at { height = at.height + 1 }

-- what there is with so much more
unfoldable pub emits : Tree → Around → Emission → Emission
emits t at e = record {
  instrs = e.instrs ++ instrs_of t at.depth at.base at.start (length e.instrs) (length e.constants);
  spans = e.spans ++ spans_of t;
  constants = e.constants ++ constants_of t;
  locals = max e.locals (stored t at.depth);
  room = max e.room (top t at.height);
}

-- what there is with the code of these, whose values are on the stack one above another
unfoldable pub emits_all : Trees → Around → Emission → Emission
emits_all ts at e = record {
  instrs = e.instrs ++ instrs_of_all ts at.depth at.base at.start (length e.instrs) (length e.constants);
  spans = e.spans ++ spans_of_all ts;
  constants = e.constants ++ constants_in ts;
  locals = max e.locals (stored_in ts at.depth);
  room = max e.room (top_args ts at.height);
}

-- what there is with the code of these, each of which is stored as a local
unfoldable pub emits_let : Trees → Span → Around → Emission → Emission
emits_let ts span at e = record {
  instrs = e.instrs ++ instrs_of_let ts at.depth at.base at.start (length e.instrs) (length e.constants);
  spans = e.spans ++ spans_of_let span ts;
  constants = e.constants ++ constants_in ts;
  locals = max e.locals (stored_let ts at.depth);
  room = max e.room (top_in ts at.height);
}

-- what there is with the code of these, of which each but the last is popped
unfoldable pub emits_do : Trees → Span → Around → Emission → Emission
emits_do ts span at e = record {
  instrs = e.instrs ++ instrs_of_do ts at.depth at.base at.start (length e.instrs) (length e.constants);
  spans = e.spans ++ spans_of_do span ts;
  constants = e.constants ++ constants_in ts;
  locals = max e.locals (stored_in ts at.depth);
  room = max e.room (top_in ts at.height);
}

-- what there is with the code of a choice; here and in the five after it, whether the result is wanted changes nothing
unfoldable pub emits_if : Tree → Tree → Tree → Span → Around → Emission → Emission
emits_if c a b span at e = emits (If c a b (record { span = span; wanted = true })) at e

-- what there is with the code of values that become locals, and of a body that has them
unfoldable pub emits_bound : Trees → Tree → Span → Around → Emission → Emission
emits_bound values body span at e = emits (Let values body (record { span = span; wanted = true })) at e

-- what there is with the code of a loop
unfoldable pub emits_loop : Trees → Tree → Span → Around → Emission → Emission
emits_loop values body span at e = emits (Loop values body (record { span = span; wanted = true })) at e

-- what there is with the code of a dosync
unfoldable pub emits_dosync : Tree → Span → Around → Emission → Emission
emits_dosync body span at e = emits (Dosync body (record { span = span; wanted = true })) at e

-- what there is with the code of an update
unfoldable pub emits_update : UpdateForm → Tree → Callee → Trees → Span → Around → Emission → Emission
emits_update form cell callee args span at e = emits (Update form cell callee args (record { span = span; wanted = true })) at e

-- what there is with the code of a recur
unfoldable pub emits_recur : Trees → Span → Around → Emission → Emission
emits_recur values span at e = emits (Recur values (record { span = span; wanted = true })) at e

-- one more instruction
abbrev pub with_instr : Instr → Span → Emission → Emission
with_instr i span e = record e { instrs = e.instrs ++ i ∷ []; spans = e.spans ++ span ∷ [] }

-- one more constant
abbrev pub with_constant : Value → Emission → Emission
with_constant v e = record e { constants = e.constants ++ v ∷ [] }

-- so many values are on the stack
abbrev pub with_room : ℕ → Emission → Emission
with_room h e = record e { room = max e.room h }

-- so many locals are there
abbrev pub with_locals : ℕ → Emission → Emission
with_locals n e = record e { locals = max e.locals n }

-- a pop, but for the last item
abbrev pub with_pop : Bool → Span → Emission → Emission
with_pop true span e = e
with_pop false span e = with_instr instr.Pop span e

-- the topmost values are stored as locals from i on
abbrev pub with_stores : ℕ → ℕ → Span → Emission → Emission
with_stores i n span e = record e { instrs = e.instrs ++ stores_from i n; spans = e.spans ++ copies n span }

-- a call of what an update names
abbrev pub with_call : Callee → ℕ → Span → Emission → Emission
with_call callee n span e = record e { instrs = e.instrs ++ callee_instrs callee n; spans = e.spans ++ span ∷ [] }

-- an update of a cell that is on the stack below so many arguments
abbrev pub with_update : UpdateForm → Callee → ℕ → Span → Emission → Emission
with_update form callee n span e = record e { instrs = e.instrs ++ update_instrs form callee n; spans = e.spans ++ copies 3 span }

-- another instruction at a place
abbrev pub with_set : ℕ → Instr → Emission → Emission
with_set place i e = record e { instrs = slice_set e.instrs place i }
