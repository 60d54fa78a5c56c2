-- When a committed transaction is one that ran alone at the place of its commit.
use Rattle.std.specs.Prelude.{◌≡◌, ℕ, Bool, true, ◌&&◌, not, List, [], ◌∷◌, ◌++◌, length, Option, None}
use Rattle.txs_world_protocol.specs.Ask.{Writes}
use Rattle.txs_world_protocol.specs.SeenEvent.{SeenEvent}
use Rattle.txs_world_protocol.specs.declared.event.EventKind.{EventKind}
use Rattle.txs_world_protocol.specs.declared.event.EventKind.TheVariants.{Read, Commit, Retry, Fail, Refused, Send, SendRefused, Act, Swap, Broke}
use Rattle.txs_value_cell.specs.Cells.{World, Validators}
use Rattle.txs_value_cell.specs.declared.action.Action.{Action}
use Rattle.txs_frame.specs.Frame.{PlainTxFrame, sends_of_commit}
use Rattle.txs_theorem_threads.specs.Noted.{IsNone, Front}
use Rattle.txs_tree_meaning.specs.Known.{known}
use Rattle.txs_tree_meaning.specs.Meaning.{Completion, Completes, Recurs, Faults, Retries, Waits, OutOfTurns, Invalid, Applies}
use Rattle.txs_tree_meaning.specs.Pure.{nowhere, pure_meaning}
use Rattle.txs_tree_meaning.specs.Sound.{in_dosync, SoundTree}
use Rattle.txs_tree_meaning.specs.Thread.{TxRun, ThreadState, is_held}
use Rattle.txs_tree_meaning.specs.Transaction.{TxState, tx_meaning, final_writes}
use Rattle.txs_tree_meaning.specs.Tree.{PlainFunction}
use Rattle.txs_value_data.specs.declared.value.CellId.{CellId}
use Rattle.txs_value_data.specs.declared.value.Value.{Value}
use Rattle.txs_tree_meaning.specs.Marked.{Marked}

-- whether it set or ensured each of these
abbrev pub are_held : PlainTxFrame → List CellId → Bool
are_held w [] = true
are_held w (c ∷ cs) = is_held w c.number && are_held w cs

-- Whether a transaction is covered: it set or ensured every ref that it read, and used the result of no commute.
abbrev pub is_covered : TxState → Bool
is_covered t = not t.used && are_held t.done t.reads

-- what applies the callees of commutes, with nothing around them
abbrev pub purely : ℕ → List PlainFunction → Applies (Unit {0})
purely n functions callee vs u = pure_meaning n functions callee vs

-- A transaction is serial on a world: the body on that world, with its commutes there, gives these writes and these sends, and the
-- result, if that is wanted.
pub record IsSerial (functions : List PlainFunction) (validators : Validators) (n : ℕ) (x : TxRun) (C : World) (writes : Writes) (sends : List Action) : Type 0 where
  pub result : Value
  pub state : TxState
  pub means : tx_meaning n functions (length functions) x.body x.locals C ≡ Completes result state
  pub writes_same : final_writes (purely n functions) validators nowhere state.done C tt ≡ Completes writes tt
  pub sends_same : state.done.sends ≡ sends
  pub result_same : x.wanted ≡ true → result ≡ x.result

-- A transaction came to its end on a world: its body is in a sound program, whose marks are right, and means what it did there.
pub record Met (functions : List PlainFunction) (n : ℕ) (x : TxRun) (R : World) : Type 0 where
  pub body_sound : SoundTree (known functions) in_dosync (length x.locals) None x.body
  pub body_marked : Marked x.wanted x.body
  pub means : tx_meaning n functions (length functions) x.body x.locals R ≡ Completes x.result x.state

-- It was committed: on the world R it did what it did, and with its commutes on the world C it gives these writes, and the commit's sends are its own; in an
-- action, which holds them, the commit sends nothing.
pub record Committed (functions : List PlainFunction) (validators : Validators) (held : Option (List Action)) (n : ℕ) (x : TxRun) (R C : World) (writes : Writes) (sends : List Action) : Type 0 where
  pub met : Met functions n x R
  pub writes_same : final_writes (purely n functions) validators nowhere x.state.done C tt ≡ Completes writes tt
  pub sends_same : sends_of_commit held x.state.done.sends ≡ sends

-- It was refused: on the world R it did what it did, and its commutes have values on the world Q.
pub record Declined (functions : List PlainFunction) (validators : Validators) (n : ℕ) (x : TxRun) (R Q : World) : Type 0 where
  pub met : Met functions n x R
  pub writes : Writes
  pub writes_there : final_writes (purely n functions) validators nowhere x.state.done Q tt ≡ Completes writes tt

-- two worlds agree on what a transaction set or ensured
abbrev pub AgreeOn : PlainTxFrame → World → World → Type 0
AgreeOn w R C = (k : ℕ) → is_held w k ≡ true → R k ≡ C k

-- ---- the transactions of a thread, or of an action

-- the transaction of an event of this book that is a commit or a refusal, which the store's alone is, and those of the events after it
abbrev pub RunOf : List PlainFunction → Validators → Option (List Action) → ℕ → ℕ → EventKind → World → World → World → (List TxRun → Type 0) → List TxRun → Type 0
RunOf functions validators held n book (Read c) R Q C rest xs = rest xs
RunOf functions validators held n book (Commit at view ws sends) R Q C rest xs = Front (λ x. (book ≡ 0) × Committed functions validators held n x R C ws sends) rest xs
RunOf functions validators held n book (Retry since c cause) R Q C rest xs = rest xs
RunOf functions validators held n book (Fail at view) R Q C rest xs = rest xs
RunOf functions validators held n book (Refused at view g) R Q C rest xs = Front (λ x. (book ≡ 0) × Declined functions validators n x R Q) rest xs
RunOf functions validators held n book (Send x) R Q C rest xs = rest xs
RunOf functions validators held n book (SendRefused g) R Q C rest xs = rest xs
RunOf functions validators held n book (Act g k new sends) R Q C rest xs = rest xs
RunOf functions validators held n book (Swap new) R Q C rest xs = rest xs
RunOf functions validators held n book (Broke at) R Q C rest xs = rest xs

-- these are the transactions of these events, one for each commit and each refusal, in order; an action holds its sends, and a thread none
abbrev pub RunsOf : List PlainFunction → Validators → Option (List Action) → ℕ → List SeenEvent → List TxRun → Type 0
RunsOf functions validators held n [] xs = IsNone xs
RunsOf functions validators held n (e ∷ es) xs = RunOf functions validators held n e.book e.kind e.R e.Q e.C (λ ys. RunsOf functions validators held n es ys) xs

-- A thread or an action has eaten these events, before those to come, and these are their transactions.
pub record Noted (functions : List PlainFunction) (validators : Validators) (held : Option (List Action)) (n : ℕ) (es todo : List SeenEvent) (txs : List TxRun) : Type 0 where
  pub eaten : List SeenEvent
  pub split : es ≡ eaten ++ todo
  pub runs : RunsOf functions validators held n eaten txs

-- so it is where it ends, waits, or needs more turns
abbrev pub EndsNoted : List PlainFunction → Validators → Option (List Action) → ℕ → List SeenEvent → Completion ThreadState Value → Type 0
EndsNoted functions validators held n es (Completes v t) = Noted functions validators held n es t.todo t.txs
EndsNoted functions validators held n es (Recurs vs t) = Unit {0}
EndsNoted functions validators held n es (Faults f t) = Noted functions validators held n es t.todo t.txs
EndsNoted functions validators held n es (Retries t) = Unit {0}
EndsNoted functions validators held n es (Waits t) = Noted functions validators held n es t.todo t.txs
EndsNoted functions validators held n es (OutOfTurns t) = Noted functions validators held n es t.todo t.txs
EndsNoted functions validators held n es Invalid = Unit {0}
