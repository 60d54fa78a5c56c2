-- Which programs the checks refuse, and with what: the first refusal in source order.
use Rattle.std.specs.Prelude.{◌≡◌, ℕ, suc, Bool, true, false, not, ◌-◌, ◌&&◌, nat_lt, nat_le, nat_eq, if◌then◌else◌, List, [], ◌∷◌, ◌++◌, map, take, drop, Option, Some, None, Result, Ok, Err}
use Rattle.txs_value_apply.specs.Core.{takes}
use Rattle.txs_value_cell.specs.Forms.{rule, may_stand}
use Rattle.txs_value_data.specs.Limits.{most_nodes}
use Rattle.txs_value_data.specs.Places.{nth}
use Rattle.txs_value_data.specs.declared.fault.Span.{Span}
use Rattle.txs_value_cell.specs.declared.cell.CellDefinition.{CellDefinition}
use Rattle.txs_value_cell.specs.declared.form.CellForm.{CellForm}
use Rattle.txs_value_cell.specs.declared.form.CellForm.TheVariants as form_of
use Rattle.txs_value_cell.specs.declared.form.Standing.{Standing}
use Rattle.txs_value_cell.specs.declared.form.Standing.TheVariants.{Outside}
use Rattle.txs_value_data.specs.declared.op.Op.{Op}
use Rattle.txs_value_data.specs.declared.op.Callee.{Callee}
use Rattle.txs_value_data.specs.declared.op.Callee.TheVariants.{Core as CoreOp, Function}
use Rattle.txs_tree_meaning.specs.Known.{Known, is_pure, known}
use Rattle.txs_tree_meaning.specs.Sound.{nodes}
use Rattle.txs_tree_meaning.specs.Tree.{Tree, Mark, Const, Local, If, Do, Let, Loop, Recur, Core, Call, VectorOf, Println, Dosync, Look, Put, Update, Send, Trees, none, more, count, PlainFunction, PlainThread, PlainProgram}
use Rattle.txs_check.specs.declared.error.CheckError.{CheckError}
use Rattle.txs_check.specs.declared.error.CheckErrorKind.{CheckErrorKind}
use Rattle.txs_check.specs.declared.error.CheckErrorKind.TheVariants.{RecurNotTail, RecurCount, RecurAcrossDosync, Arity, NotPure, InsideOnly, OutsideOnly, CodeTooLarge}
use Rattle.txs_check.specs.declared.place.Target.{Target}
use Rattle.txs_check.specs.declared.place.Target.TheVariants.{Nowhere, Across, Nearest}
use Rattle.txs_check.specs.declared.place.Zone.{Zone}
use Rattle.txs_check.specs.declared.place.Zone.TheVariants.{InFunction, InFuture, InDosync}

-- nothing is refused, or this is the first refusal
abbrev pub Checked : Type 0
Checked = Result (Unit {0}) CheckError

-- nothing is refused
abbrev pub fine : Checked
fine = Ok tt

-- a refusal for this reason at this place
abbrev pub refused : CheckErrorKind → Span → Checked
refused kind at = Err (record { kind = kind; at = at })

-- one after the other: the first refusal is the answer
infixr 10 ◌>>◌
abbrev pub ◌>>◌ : Checked → Checked → Checked
Ok u >> next = next
Err e >> next = Err e

-- refused unless this holds
abbrev pub only : Bool → CheckErrorKind → Span → Checked
only true kind at = fine
only false kind at = refused kind at

-- ---- what a node itself is refused for

-- what a recur meets in a part that isn't in tail position
abbrev pub inner : Target → Target
inner Nowhere = Nowhere
inner Across = Across
inner (Nearest n tail) = Nearest n false

-- and in the body of a dosync, which is a barrier for it
abbrev pub across : Target → Target
across Nowhere = Nowhere
across Across = Across
across (Nearest n tail) = Across

-- a recur of so many values is in tail position of its target, which has as many, and no dosync is between
abbrev pub recurs : Target → ℕ → Span → Checked
recurs Nowhere n at = refused RecurNotTail at
recurs Across n at = refused RecurAcrossDosync at
recurs (Nearest k tail) n at = only tail RecurNotTail at >> only (nat_eq k n) RecurCount at

-- an operation takes so many arguments
abbrev pub operates : Op → ℕ → Span → Checked
operates op n at = only (takes op n) Arity at

-- a function takes as many arguments as it has parameters
abbrev pub accepts : Option Known → ℕ → Bool
accepts None n = false
accepts (Some k) n = nat_eq k.parameters n

-- a function that is for transactions alone isn't called in a future outside them, nor one that is for outside alone in them
abbrev pub zoned : Zone → Option Known → Span → Checked
zoned zone None at = fine
zoned InFunction (Some k) at = fine
zoned InFuture (Some k) at = only (not k.inside) InsideOnly at
zoned InDosync (Some k) at = only (not k.outside) OutsideOnly at

-- a call
abbrev pub calls : List Known → Zone → ℕ → ℕ → Span → Checked
calls ks zone f n at = only (accepts (nth ks f) n) Arity at >> zoned zone (nth ks f) at

-- a callee of so many arguments, the cell's value among them: a function is pure
abbrev pub called : List Known → Callee → ℕ → Span → Checked
called ks (CoreOp op) n at = operates op n at
called ks (Function f) n at = only (accepts (nth ks f) n) Arity at >> only (is_pure (nth ks f)) NotPure at

-- a function that is there isn't for transactions alone
abbrev pub sent_zoned : Option Known → Span → Checked
sent_zoned None at = fine
sent_zoned (Some k) at = only (not k.inside) InsideOnly at

-- a callee that is sent, of so many arguments, the agent's state among them: it runs outside every transaction, wherever its send is
abbrev pub sent : List Known → Callee → ℕ → Span → Checked
sent ks (CoreOp op) n at = operates op n at
sent ks (Function f) n at = only (accepts (nth ks f) n) Arity at >> sent_zoned (nth ks f) at

-- what is for transactions alone isn't in a future outside them, nor is what is for outside alone in them
abbrev pub placed : Zone → Standing → Span → Checked
placed InFunction s at = fine
placed InFuture s at = only (may_stand s false) InsideOnly at
placed InDosync s at = only (may_stand s true) OutsideOnly at

-- a form on a cell is where the table says
abbrev pub formed : Zone → CellForm → Span → Checked
formed zone form at = placed zone (rule form).stands at

-- a form on a cell that applies a callee to so many arguments, the cell's value among them
abbrev pub applied : List Known → Zone → CellForm → Callee → ℕ → Span → Checked
applied ks zone form callee n at = called ks callee n at >> formed zone form at

-- a send of so many arguments, the agent's state among them: of what may be sent, where a send may be
abbrev pub sends : List Known → Zone → Callee → ℕ → Span → Checked
sends ks zone callee n at = sent ks callee n at >> formed zone form_of.Send at

-- the node itself, without its parts
abbrev pub here : List Known → Zone → Target → Tree → Checked
here ks zone target (Const v m) = fine
here ks zone target (Local i m) = fine
here ks zone target (If c a b m) = fine
here ks zone target (Do items m) = fine
here ks zone target (Let values body m) = fine
here ks zone target (Loop values body m) = fine
here ks zone target (Recur values m) = recurs target (count values) m.span
here ks zone target (Core op args m) = operates op (count args) m.span
here ks zone target (Call f args m) = calls ks zone f (count args) m.span
here ks zone target (VectorOf items m) = fine
-- printing is for outside
here ks zone target (Println args m) = placed zone Outside m.span
here ks zone target (Dosync body m) = fine
here ks zone target (Look form cell m) = formed zone (form_of.Look form) m.span
here ks zone target (Put form cell value m) = formed zone (form_of.Put form) m.span
here ks zone target (Update form cell callee args m) = applied ks zone (form_of.Update form) callee (suc (count args)) m.span
here ks zone target (Send cell callee args m) = sends ks zone callee (suc (count args)) m.span

-- ---- the order of branches

-- where a form is in the script
abbrev pub place_of : Tree → Span
place_of (Const v m) = m.span
place_of (Local i m) = m.span
place_of (If c a b m) = m.span
place_of (Do items m) = m.span
place_of (Let values body m) = m.span
place_of (Loop values body m) = m.span
place_of (Recur values m) = m.span
place_of (Core op args m) = m.span
place_of (Call f args m) = m.span
place_of (VectorOf items m) = m.span
place_of (Println args m) = m.span
place_of (Dosync body m) = m.span
place_of (Look form cell m) = m.span
place_of (Put form cell value m) = m.span
place_of (Update form cell callee args m) = m.span
place_of (Send cell callee args m) = m.span

-- Whether the second of two branches is written first, as an `if-not` writes them: by where the choice and its branches begin.
-- A branch that begins where the choice does is made by the expansion, as the rest of a `cond`, and is behind the first.
abbrev pub turned : ℕ → ℕ → ℕ → Bool
turned whole one other = nat_lt whole other && nat_lt other one

-- the same of a choice with this mark
abbrev pub turned_in : Mark → Tree → Tree → Bool
turned_in m a b = turned m.span.from (place_of a).from (place_of b).from

-- one after the other as they are written
abbrev pub in_turn : Bool → Checked → Checked → Checked
in_turn false a b = a >> b
in_turn true a b = b >> a

-- ---- the walk: a node before its parts, the parts as they are written

abbrev mutual
  -- a node, and then its parts: what is refused first
  pub checked : List Known → Zone → Target → Tree → Checked
  checked ks zone target (Const v m) = here ks zone target (Const v m)
  checked ks zone target (Local i m) = here ks zone target (Local i m)
  checked ks zone target (If c a b m) = here ks zone target (If c a b m) >> (checked ks zone (inner target) c >> in_turn (turned_in m a b) (checked ks zone target a) (checked ks zone target b))
  checked ks zone target (Do items m) = here ks zone target (Do items m) >> checked_do ks zone target items
  checked ks zone target (Let values body m) = here ks zone target (Let values body m) >> (checked_all ks zone (inner target) values >> checked ks zone target body)
  -- a loop is the target of its body
  checked ks zone target (Loop values body m) = here ks zone target (Loop values body m) >> (checked_all ks zone (inner target) values >> checked ks zone (Nearest (count values) true) body)
  checked ks zone target (Recur values m) = here ks zone target (Recur values m) >> checked_all ks zone (inner target) values
  checked ks zone target (Core op args m) = here ks zone target (Core op args m) >> checked_all ks zone (inner target) args
  checked ks zone target (Call f args m) = here ks zone target (Call f args m) >> checked_all ks zone (inner target) args
  checked ks zone target (VectorOf items m) = here ks zone target (VectorOf items m) >> checked_all ks zone (inner target) items
  checked ks zone target (Println args m) = here ks zone target (Println args m) >> checked_all ks zone (inner target) args
  checked ks zone target (Dosync body m) = here ks zone target (Dosync body m) >> checked ks InDosync (across target) body
  checked ks zone target (Look form cell m) = here ks zone target (Look form cell m) >> checked ks zone (inner target) cell
  checked ks zone target (Put form cell value m) = here ks zone target (Put form cell value m) >> (checked ks zone (inner target) cell >> checked ks zone (inner target) value)
  checked ks zone target (Update form cell callee args m) = here ks zone target (Update form cell callee args m) >> (checked ks zone (inner target) cell >> checked_all ks zone (inner target) args)
  checked ks zone target (Send cell callee args m) = here ks zone target (Send cell callee args m) >> (checked ks zone (inner target) cell >> checked_all ks zone (inner target) args)

  -- these parts from left to right, none of them in tail position
  pub checked_all : List Known → Zone → Target → Trees → Checked
  checked_all ks zone target none = fine
  checked_all ks zone target (more e rest) = checked ks zone target e >> checked_all ks zone target rest

  -- the last one is where the form does
  pub checked_do : List Known → Zone → Target → Trees → Checked
  checked_do ks zone target none = fine
  checked_do ks zone target (more e none) = checked ks zone target e
  checked_do ks zone target (more e (more f rest)) = checked ks zone (inner target) e >> checked_do ks zone target (more f rest)

-- ---- a program

-- the body of a function or of a future: where it is, what a recur meets there, and the span of the definition or future
pub record Body : Type 0 where
  pub zone : Zone
  pub target : Target
  pub tree : Tree
  pub span : Span

-- a function is a target of recur
abbrev pub function_body : PlainFunction → Body
function_body f = record { zone = InFunction; target = Nearest f.parameters true; tree = f.body; span = f.span }

-- a future is no target of recur, and is outside every transaction
abbrev pub thread_body : PlainThread → Body
thread_body t = record { zone = InFuture; target = Nowhere; tree = t.body; span = t.span }

-- how many of the first threads are before this place of the script
abbrev pub before : ℕ → List PlainThread → ℕ
before from [] = 0
before from (t ∷ ts) = if nat_lt t.span.from from then suc (before from ts) else 0

-- functions and threads, each in script order, together in script order
abbrev pub in_order : List PlainFunction → List PlainThread → List Body
in_order [] ts = map thread_body ts
in_order (f ∷ fs) ts = map thread_body (take (before f.span.from ts) ts) ++ function_body f ∷ in_order fs (drop (before f.span.from ts) ts)

-- the first refusal in a body
abbrev pub checked_body : List Known → Body → Checked
checked_body ks b = checked ks b.zone b.target b.tree

-- the first refusal in these bodies, one after another
abbrev pub checked_bodies : List Known → List Body → Checked
checked_bodies ks [] = fine
checked_bodies ks (b ∷ bs) = checked_body ks b >> checked_bodies ks bs

-- ---- the validators of cells

-- a cell's validator, if it has one, and where it stands
pub record Validator : Type 0 where
  pub callee : Option Callee
  pub span : Span

-- those of these cells, which stand there
abbrev pub validators_in : List CellDefinition → List Span → List Validator
validators_in (c ∷ cs) (at ∷ ats) = record { callee = c.validator; span = at } ∷ validators_in cs ats
validators_in _ _ = []

-- a validator is applied to one value, as a form on a cell applies a callee
abbrev pub validates : List Known → Option Callee → Span → Checked
validates ks None at = fine
validates ks (Some callee) at = called ks callee 1 at

-- what is checked by itself: a body, or a cell's validator
pub data Checkable : Type 0 where
  of_body : Body → Checkable
  of_validator : Validator → Checkable

-- how many of the first validators stand before this place of the script
abbrev pub earlier : ℕ → List Validator → ℕ
earlier from [] = 0
earlier from (v ∷ vs) = if nat_lt v.span.from from then suc (earlier from vs) else 0

-- bodies and validators, each in script order, together in script order
abbrev pub together : List Body → List Validator → List Checkable
together [] vs = map of_validator vs
together (b ∷ bs) vs = map of_validator (take (earlier b.span.from vs) vs) ++ of_body b ∷ together bs (drop (earlier b.span.from vs) vs)

-- the first refusal in a body, or of a validator
abbrev pub checked_one : List Known → Checkable → Checked
checked_one ks (of_body b) = checked_body ks b
checked_one ks (of_validator v) = validates ks v.callee v.span

-- the first refusal in these, one after another
abbrev pub checked_each : List Known → List Checkable → Checked
checked_each ks [] = fine
checked_each ks (c ∷ cs) = checked_one ks c >> checked_each ks cs

-- ---- the size of a program

-- how many of so many nodes are left after those of a body, and after those of all: the first body with more is refused
abbrev pub taken : ℕ → Tree → Span → Result ℕ CheckError
taken left e at = if nat_le (nodes e) left then Ok (left - nodes e) else Err (record { kind = CodeTooLarge; at = at })

-- continues with what is left, unless a body was too much
infixl 10 ◌>>=◌
abbrev pub ◌>>=◌ : Result ℕ CheckError → (ℕ → Result ℕ CheckError) → Result ℕ CheckError
Ok left >>= next = next left
Err e >>= next = Err e

-- how many of so many nodes are left after those of these bodies
abbrev pub room : ℕ → List Body → Result ℕ CheckError
room left [] = Ok left
room left (b ∷ bs) = taken left b.tree b.span >>= λ rest. room rest bs

-- what is left doesn't matter, but that it sufficed
abbrev pub few : Result ℕ CheckError → Checked
few (Ok left) = fine
few (Err e) = Err e

-- the first refusal of a program, if there is one: of a form or of a validator in source order, and then of the size
abbrev pub refusal : PlainProgram → Checked
refusal p =
    let bodies = in_order p.functions p.threads in
    checked_each (known p.functions) (together bodies (validators_in p.cells p.validator_spans)) >> few (room most_nodes bodies)

-- the checks refuse the program so
abbrev pub CheckStops : PlainProgram → CheckError → Type 0
CheckStops p e = refusal p ≡ Err e
