-- Asks with their replies, and when two asks are the same.
use Rattle.std.specs.Prelude.{ℕ, Bool, true, false, ◌&&◌, ◌==◌, nat_lt, List, [], ◌∷◌, Option, Some, None, Result, Ok, Err, if◌then◌else◌}
use Rattle.txs_value_data.specs.Faults.{fault_number}
use Rattle.txs_value_data.specs.Operations.{op_number}
use Rattle.txs_value_data.specs.PlainValue.{kind_out}
use Rattle.txs_value_data.specs.Same.{same_plain}
use Rattle.txs_value_data.specs.View.{plain_of}
use Rattle.txs_value_cell.specs.declared.action.Action.{Action}
use Rattle.txs_value_data.specs.declared.fault.Fault.{Fault}
use Rattle.txs_value_data.specs.declared.fault.Span.{Span}
use Rattle.txs_value_data.specs.declared.op.Callee.{Callee}
use Rattle.txs_value_data.specs.declared.op.Callee.TheVariants.{Core, Function}
use Rattle.txs_value_data.specs.declared.value.CellId.{CellId}
use Rattle.txs_value_data.specs.declared.value.Value.{Value}
use Rattle.txs_world_protocol.specs.declared.ask.Ask.{Ask}
use Rattle.txs_world_protocol.specs.declared.ask.Ask.TheVariants.{Begin, Look, View, Commit, Fail, Peek, Send, Take, Finish, OpenAt, CloseAt, Broke}
use Rattle.txs_world_protocol.specs.declared.ask.Reply.{Reply}

-- the values that a transaction has of its own, by ascending number of their refs
abbrev pub Writes : Type 0
Writes = List (CellId × Value)

-- the transaction's own value of the ref with this number, if it has one
abbrev pub buffered : Writes → ℕ → Option Value
buffered [] k = None
buffered (w ∷ ws) k = if w.0.number == k then Some w.1 else buffered ws k

-- a ref gets a value: in the place of its earlier one, else in order
abbrev pub with_write : Writes → CellId → Value → Writes
with_write [] c v = (c, v) ∷ []
with_write (w ∷ ws) c v =
    if w.0.number == c.number then (c, v) ∷ ws
    else if nat_lt c.number w.0.number then (c, v) ∷ w ∷ ws
    else w ∷ with_write ws c v

-- an ask with its reply
pub record Exchange : Type 0 where
  pub ask : Ask
  pub reply : Reply

-- whether an ask may add an event to its book; the others only read one, or take from a mailbox
abbrev pub may_add_event : Ask → Bool
may_add_event Begin = false
may_add_event (Look c p) = true
may_add_event (View cs) = false
may_add_event (Commit p sets ensured q commuted sends) = true
may_add_event (Fail p q) = true
may_add_event (Peek c) = true
may_add_event (Send x) = true
may_add_event (Take g) = false
may_add_event (Finish g new sends) = true
may_add_event (OpenAt c) = false
may_add_event (CloseAt c p v) = true
may_add_event (Broke c p) = true

-- whether two values are equal
abbrev pub same_value : Value → Value → Bool
same_value v w = same_plain (plain_of v) (plain_of w)

-- whether two cells are the same: of one kind, with one number
abbrev pub same_cell : CellId → CellId → Bool
same_cell c d = kind_out c.kind == kind_out d.kind && c.number == d.number

-- whether two lists of writes are equal, each to the one in its place
abbrev pub same_writes : Writes → Writes → Bool
same_writes [] [] = true
same_writes (w ∷ ws) (x ∷ xs) = same_cell w.0 x.0 && (same_value w.1 x.1 && same_writes ws xs)
same_writes _ _ = false

-- whether two places that may be given are equal
abbrev pub same_place : Option ℕ → Option ℕ → Bool
same_place None None = true
same_place (Some p) (Some q) = p == q
same_place _ _ = false

-- whether two lists of cells are equal, each to the one in its place
abbrev pub same_cells : List CellId → List CellId → Bool
same_cells [] [] = true
same_cells (c ∷ cs) (d ∷ ds) = same_cell c d && same_cells cs ds
same_cells _ _ = false

-- whether two lists of values are equal, each to the one in its place
abbrev pub same_values : List Value → List Value → Bool
same_values [] [] = true
same_values (v ∷ vs) (w ∷ ws) = same_value v w && same_values vs ws
same_values _ _ = false

-- whether two places in a script are equal
abbrev pub same_span : Span → Span → Bool
same_span a b = a.from == b.from && a.to == b.to

-- whether two callees are equal
abbrev pub same_callee : Callee → Callee → Bool
same_callee (Core a) (Core b) = op_number a == op_number b
same_callee (Function f) (Function g) = f == g
same_callee _ _ = false

-- whether two actions are equal
abbrev pub same_action : Action → Action → Bool
same_action a b = same_cell a.agent b.agent && (same_callee a.callee b.callee && (same_values a.args b.args && same_span a.span b.span))

-- whether two lists of actions are equal, each to the one in its place
abbrev pub same_actions : List Action → List Action → Bool
same_actions [] [] = true
same_actions (a ∷ as1) (b ∷ bs) = same_action a b && same_actions as1 bs
same_actions _ _ = false

-- whether two faults are equal
abbrev pub same_fault : Fault → Fault → Bool
same_fault f g = fault_number f.kind == fault_number g.kind && same_span f.span g.span

-- whether two results of an action are equal
abbrev pub same_new : Result Value Fault → Result Value Fault → Bool
same_new (Ok v) (Ok w) = same_value v w
same_new (Err f) (Err g) = same_fault f g
same_new _ _ = false

-- whether two asks are equal, as a test that computes
abbrev pub same_ask : Ask → Ask → Bool
same_ask Begin Begin = true
same_ask (Look c p) (Look d q) = same_cell c d && p == q
same_ask (View cs) (View ds) = same_cells cs ds
same_ask (Commit p ws es q cs xs) (Commit p1 ws1 es1 q1 cs1 xs1) =
    p == p1 && (same_writes ws ws1 && (same_cells es es1 && (q == q1 && (same_writes cs cs1 && same_actions xs xs1))))
same_ask (Fail p q) (Fail p1 q1) = p == p1 && q == q1
same_ask (Peek c) (Peek d) = same_cell c d
same_ask (Send a) (Send b) = same_action a b
same_ask (Take g) (Take h) = same_cell g h
same_ask (Finish g v xs) (Finish h w xs1) = same_cell g h && (same_new v w && same_actions xs xs1)
same_ask (OpenAt c) (OpenAt d) = same_cell c d
same_ask (CloseAt c p v) (CloseAt d q w) = same_cell c d && (same_place p q && same_value v w)
same_ask (Broke c p) (Broke d q) = same_cell c d && p == q
same_ask _ _ = false
