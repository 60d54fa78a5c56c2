-- Which transactions a thread's commits were: the ask of each has the work of its transaction.
use Rattle.std.specs.Prelude.{◌≡◌, List, [], ◌∷◌, Option, Some}
use Rattle.txs_world_protocol.specs.Ask.{Writes, buffered, Exchange}
use Rattle.txs_world_protocol.specs.declared.ask.Ask.{Ask}
use Rattle.txs_world_protocol.specs.declared.ask.Ask.TheVariants as ask
use Rattle.txs_world_protocol.specs.declared.ask.Reply.{Reply}
use Rattle.txs_world_protocol.specs.declared.ask.Reply.TheVariants as reply
use Rattle.txs_frame.specs.Frame.{set_writes, sends_of_commit}
use Rattle.txs_value_cell.specs.declared.action.Action.{Action}
use Rattle.txs_value_data.specs.declared.value.CellId.{CellId}
use Rattle.txs_value_data.specs.declared.value.Value.{Value}
use Rattle.txs_tree_meaning.specs.Meaning.{Completion, Completes, Recurs, Faults, Retries, Waits, OutOfTurns, Invalid}
use Rattle.txs_tree_meaning.specs.Thread.{TxRun, ThreadState}

-- the transactions that a thread's meaning noted, in order
abbrev pub txs_of : Completion ThreadState Value → List TxRun
txs_of (Completes v t) = t.txs
txs_of (Recurs vs t) = t.txs
txs_of (Faults f t) = t.txs
txs_of (Retries t) = t.txs
txs_of (Waits t) = t.txs
txs_of (OutOfTurns t) = t.txs
txs_of Invalid = []

-- there is none
abbrev pub IsNone : List TxRun → Type 0
IsNone [] = Unit {0}
IsNone (x ∷ xs) = ⊥

-- the first is such a one, and such are the others
abbrev pub Front : (TxRun → Type 0) → (List TxRun → Type 0) → List TxRun → Type 0
Front P rest [] = ⊥
Front P rest (x ∷ xs) = P x × rest xs

-- each of these cells is written
abbrev pub AreWritten : List CellId → Writes → Type 0
AreWritten [] ws = Unit {0}
AreWritten (c ∷ cs) ws = ((v : Value) × (buffered ws c.number ≡ Some v)) × AreWritten cs ws

-- An ask commits a transaction: it has the refs that the transaction set, with their values, those that it ensured, and the sends that it
-- held; none in an action, which holds them.
abbrev pub Commits : Option (List Action) → TxRun → Ask → Type 0
Commits held x (ask.Commit at sets ensured view commuted sends) =
    (sets ≡ set_writes x.state.done) × AreWritten x.state.done.sets sets × (ensured ≡ x.state.done.ensures) × (sends ≡ sends_of_commit held x.state.done.sends)
Commits held x _ = ⊥

-- a commit that was done or refused is that of the first of these transactions, and the others are those of what follows
abbrev pub NotedAt : Option (List Action) → Ask → Reply → (List TxRun → Type 0) → List TxRun → Type 0
NotedAt held (ask.Commit at sets ensured view commuted sends) reply.Done rest xs = Front (λ x. Commits held x (ask.Commit at sets ensured view commuted sends)) rest xs
NotedAt held (ask.Commit at sets ensured view commuted sends) (reply.AgentIsFailed g) rest xs = Front (λ x. Commits held x (ask.Commit at sets ensured view commuted sends)) rest xs
NotedAt held _ _ rest xs = rest xs

-- These are the transactions of the commits among these exchanges that were done or refused, one for each, in order. An action holds its
-- sends, and a thread none.
abbrev pub AreNoted : Option (List Action) → List Exchange → List TxRun → Type 0
AreNoted held [] xs = IsNone xs
AreNoted held (e ∷ es) xs = NotedAt held e.ask e.reply (λ ys. AreNoted held es ys) xs
