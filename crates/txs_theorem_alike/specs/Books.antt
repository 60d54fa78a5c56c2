-- Shared states that nobody can tell apart, though their journals differ, and places of their journals that tell the same.
use Rattle.std.specs.Prelude.{◌≡◌, ◌≤◌, ℕ, suc, true, false, nat_lt, List, [], ◌∷◌, length, Some, None, if◌then◌else◌}
use Rattle.txs_world_protocol.specs.Ask.{Writes}
use Rattle.txs_world_protocol.specs.SeenEvent.{home}
use Rattle.txs_world_protocol.specs.declared.ask.Ask.{Ask}
use Rattle.txs_world_protocol.specs.declared.ask.Ask.TheVariants as ask
use Rattle.txs_world_protocol.specs.declared.ask.Reply.{Reply}
use Rattle.txs_world_protocol.specs.declared.ask.Reply.TheVariants as reply
use Rattle.txs_world_protocol.specs.declared.event.Event.{Event}
use Rattle.txs_value_data.specs.Limits.{most_events}
use Rattle.txs_value_data.specs.declared.fault.Fault.{Fault}
use Rattle.txs_value_data.specs.declared.value.CellId.{CellId}
use Rattle.txs_value_data.specs.declared.value.Value.{Value}
use Rattle.txs_value_cell.specs.declared.action.Action.{Action}
use Rattle.txs_value_cell.specs.declared.cell.CellDefinition.{CellDefinition}
use Rattle.std.specs.Prelude.{Result}
use Rattle.txs_world_book.specs.Atom.{atom_newest, swapped_since}
use Rattle.txs_world_book.specs.Book.{has_ref, has_agent, has_readable, opening, after, newest, written, times_written, most_older, is_outdated, Mail, mail_after}
use Rattle.txs_world_book.specs.Served.{cells_of}
use Rattle.txs_world_book.specs.declared.cell.StoreCell.{StoreCell}
use Rattle.txs_theorem_runs.specs.Shared.{Shared, atom_of, has_atom, book_for}

-- ---- places

-- a number of writes up to eleven: at eleven the value before them is no longer kept, so that more of them tell nothing
abbrev pub up_to_eleven : ℕ → ℕ
up_to_eleven n = if nat_lt most_older n then suc most_older else n

-- Read points in two books of the store that tell the same of a ref: how often it was written since, up to eleven, and its value there where that is kept.
pub record SameSince (cells : List StoreCell) (b c : List Event) (p q k : ℕ) : Type 0 where
  pub times : up_to_eleven (times_written k p b) ≡ up_to_eleven (times_written k q c)
  pub value : is_outdated k p b ≡ false → after (opening cells) b p k ≡ after (opening cells) c q k

-- read points that tell the same of each ref
pub record SamePoint (cells : List StoreCell) (b c : List Event) (p q : ℕ) : Type 0 where
  pub in_first : p ≤ length b
  pub in_other : q ≤ length c
  pub refs : (r : CellId) → has_ref cells r ≡ true → SameSince cells b c p q r.number

-- views that tell the same: of each ref whether it was written since
pub record SameView (cells : List StoreCell) (b c : List Event) (p q : ℕ) : Type 0 where
  pub in_first : p ≤ length b
  pub in_other : q ≤ length c
  pub refs : (r : CellId) → has_ref cells r ≡ true → written r.number p b ≡ written r.number q c

-- places of open swaps in two books of an atom that tell the same: whether it was swapped since
pub record SameSwap (b c : List Event) (p q : ℕ) : Type 0 where
  pub in_first : p ≤ length b
  pub in_other : q ≤ length c
  pub since : swapped_since p b ≡ swapped_since q c

-- ---- states

-- the same actions wait, and the agent has the same fault or none; how many actions it has run isn't told
pub record SameMail (m n : Mail) : Type 0 where
  pub actions : m.actions ≡ n.actions
  pub fault : m.fault ≡ n.fault

-- states with the same newest values and mail, and of whose agents the same actions are taken
pub record Alike (cells : List CellDefinition) (sh th : Shared) : Type 0 where
  pub store : (c : CellId) → has_readable (cells_of cells) c ≡ true → newest (opening (cells_of cells)) (sh.books 0) c.number ≡ newest (opening (cells_of cells)) (th.books 0) c.number
  pub mail : (g : CellId) → has_agent (cells_of cells) g ≡ true → SameMail (mail_after (cells_of cells) (sh.books 0) g.number) (mail_after (cells_of cells) (th.books 0) g.number)
  pub atoms : (c : CellId) → has_atom cells c ≡ true → atom_newest (atom_of cells c (sh.books (home cells c))) ≡ atom_newest (atom_of cells c (th.books (home cells c)))
  pub taken : sh.taken ≡ th.taken

-- ---- asks and replies

-- the views of commits that commute this tell the same, where it is something
abbrev pub ViewServes : List StoreCell → List Event → List Event → ℕ → ℕ → Writes → Type 0
ViewServes cells b c p q [] = Unit {0}
ViewServes cells b c p q (w ∷ ws) = SameView cells b c p q

-- the same ask in two states, but for places that tell the same
pub data SameAsk (cells : List CellDefinition) (sh th : Shared) : Ask → Ask → Type 0 where
  Begins : SameAsk cells sh th ask.Begin ask.Begin
  Looks : (c : CellId) (p q : ℕ) → SamePoint (cells_of cells) (sh.books 0) (th.books 0) p q → SameAsk cells sh th (ask.Look c p) (ask.Look c q)
  Views : (cs : List CellId) → SameAsk cells sh th (ask.View cs) (ask.View cs)
  Commits : (sets commuted : Writes) (ensured : List CellId) (sends : List Action) (p q v w : ℕ) → SamePoint (cells_of cells) (sh.books 0) (th.books 0) p q → ViewServes (cells_of cells) (sh.books 0) (th.books 0) v w commuted
      → SameAsk cells sh th (ask.Commit p sets ensured v commuted sends) (ask.Commit q sets ensured w commuted sends)
  Fails : (p q v w : ℕ) → SameAsk cells sh th (ask.Fail p v) (ask.Fail q w)
  Peeks : (c : CellId) → SameAsk cells sh th (ask.Peek c) (ask.Peek c)
  Sends : (x : Action) → SameAsk cells sh th (ask.Send x) (ask.Send x)
  Takes : (g : CellId) → SameAsk cells sh th (ask.Take g) (ask.Take g)
  Finishes : (g : CellId) (new : Result Value Fault) (sends : List Action) → SameAsk cells sh th (ask.Finish g new sends) (ask.Finish g new sends)
  Opens : (c : CellId) → SameAsk cells sh th (ask.OpenAt c) (ask.OpenAt c)
  Closes : (c : CellId) (p q : ℕ) (v : Value) → SameSwap (sh.books (home cells c)) (th.books (home cells c)) p q → SameAsk cells sh th (ask.CloseAt c (Some p) v) (ask.CloseAt c (Some q) v)
  Resets : (c : CellId) (v : Value) → SameAsk cells sh th (ask.CloseAt c None v) (ask.CloseAt c None v)
  Breaks : (c : CellId) (p q : ℕ) → SameAsk cells sh th (ask.Broke c p) (ask.Broke c q)

-- The same reply of the book with this number, but for places that are handed out, which tell the same, and for the number of an action.
abbrev pub SameReply : List CellDefinition → Shared → Shared → ℕ → Reply → Reply → Type 0
SameReply cells sh th n (reply.At p) r = (q : ℕ) × (r ≡ reply.At q) × SamePoint (cells_of cells) (sh.books 0) (th.books 0) p q
SameReply cells sh th n (reply.Is v) r = r ≡ reply.Is v
SameReply cells sh th n (reply.Views p vs) r = (q : ℕ) × (r ≡ reply.Views q vs) × SameView (cells_of cells) (sh.books 0) (th.books 0) p q
SameReply cells sh th n reply.Done r = r ≡ reply.Done
SameReply cells sh th n (reply.Retry c) r = r ≡ reply.Retry c
SameReply cells sh th n (reply.Changed c) r = r ≡ reply.Changed c
SameReply cells sh th n (reply.AgentIsFailed g) r = r ≡ reply.AgentIsFailed g
SameReply cells sh th n (reply.Action k x v) r = (j : ℕ) × (r ≡ reply.Action j x v)
SameReply cells sh th n reply.Idle r = r ≡ reply.Idle
SameReply cells sh th n (reply.Opened p v) r = (q : ℕ) × (r ≡ reply.Opened q v) × SameSwap (sh.books n) (th.books n) p q
SameReply cells sh th n reply.Full r = r ≡ reply.Full
SameReply cells sh th n reply.Memory r = r ≡ reply.Memory

-- the book for an ask isn't full
abbrev pub HasRoom : List CellDefinition → Ask → Shared → Type 0
HasRoom cells q sh = nat_lt (length (sh.books (book_for cells q))) most_events ≡ true

-- Later states are alike again, and all places that told the same still do: those of each actor.
pub record StayAlike (cells : List CellDefinition) (sh th sh2 th2 : Shared) : Type 0 where
  pub alike : Alike cells sh2 th2
  pub points : (p q : ℕ) → SamePoint (cells_of cells) (sh.books 0) (th.books 0) p q → SamePoint (cells_of cells) (sh2.books 0) (th2.books 0) p q
  pub views : (p q : ℕ) → SameView (cells_of cells) (sh.books 0) (th.books 0) p q → SameView (cells_of cells) (sh2.books 0) (th2.books 0) p q
  pub swaps : (n p q : ℕ) → SameSwap (sh.books n) (th.books n) p q → SameSwap (sh2.books n) (th2.books n) p q
