-- The last tests of an audit in pieces: each thread, each action of an agent that is over, and the end of each agent.
use Rattle.std.specs.Prelude.{◌≡◌, ℕ, suc, Bool, true, ◌&&◌, ◌+◌, ◌-◌, List, [], ◌∷◌, ◌++◌, length, take, drop, Option, Some, None, if◌then◌else◌}
use Rattle.txs_value_data.specs.Places.{nth}
use Rattle.txs_tree_meaning.specs.Tree.{PlainProgram, PlainThread}
use Rattle.txs_theorem_threads.specs.Noted.{txs_of}
use Rattle.txs_value_cell.specs.Agents.{agents_from}
use Rattle.txs_value_data.specs.declared.value.CellId.{CellId}
use Rattle.txs_world_protocol.specs.declared.event.Event.{Event}
use Rattle.txs_world_protocol.specs.declared.event.EventKind.{EventKind}
use Rattle.txs_world_protocol.specs.declared.event.EventKind.TheVariants.{Act}
use Rattle.txs_world_book.specs.Served.{cells_of}
use Rattle.txs_world.specs.Store.{next_action}
use Rattle.txs_theorem_serial.specs.Whole.{is_act}
use Rattle.txs_theorem_runs.specs.Told.{Place}
use Rattle.txs_theorem_audit.specs.Audited.{PlainActorReport, PlainReport, PlainTerms, books_of, Finding, Fine, and_then, answer}
use Rattle.txs_theorem_audit.specs.Explained.{meaning_of}
use Rattle.txs_theorem_audit.specs.Verdict.{atoms_from, fits_sizes, traces_found, store_found, atoms_found, ends_found, order_found, thread_found, action_found, action_prints, agent_end, action_covered, covered_all, verdict}

-- the thread with this number; of the agent with this number among the agents an action that is over, with the events of its trace from one index up to its
-- act at another; and what comes after its last act
pub data Piece : Type 0 where
  OfThread : (a : ℕ) → Piece
  OfAct : (i from at : ℕ) → Piece
  OfEnd : (i from : ℕ) → Piece

-- ---- what is found of a piece, and whether its commits are covered

-- of a thread
abbrev pub thread_finding : PlainProgram → PlainReport → ℕ → ℕ → Option PlainThread → Option PlainActorReport → Finding
thread_finding p r n a None o = Fine
thread_finding p r n a (Some t) None = Fine
thread_finding p r n a (Some t) (Some ran) = thread_found p r n a t ran

abbrev pub thread_serial : PlainProgram → PlainReport → ℕ → Option PlainThread → Option PlainActorReport → Bool
thread_serial p r n None o = true
thread_serial p r n (Some t) None = true
thread_serial p r n (Some t) (Some ran) = covered_all (books_of r) ran.trace (txs_of (meaning_of p r t ran n))

-- of an action that is over: of what came since the act before it, by its act
abbrev pub kind_finding : PlainProgram → PlainReport → ℕ → ℕ → List Place → ℕ → Place → EventKind → Finding
kind_finding p r n a since k q (Act g number new sends) =
    action_found p r n a (k - length since) k (take q.at (books_of r q.book)) g since new sends (next_action (cells_of p.cells) (take q.at (books_of r q.book)) g)
kind_finding p r n a since k q kind = Fine

abbrev pub act_finding : PlainProgram → PlainReport → ℕ → ℕ → List Place → ℕ → Place → Option Event → Finding
act_finding p r n a since k q None = Fine
act_finding p r n a since k q (Some e) = kind_finding p r n a since k q e.kind

-- the part of a trace from one index up to another
abbrev pub part_of : ℕ → ℕ → List Place → List Place
part_of i j ps = drop i (take j ps)

abbrev pub act_finding_at : PlainProgram → PlainReport → ℕ → ℕ → ℕ → ℕ → PlainActorReport → Option Place → Finding
act_finding_at p r n a i k ran None = Fine
act_finding_at p r n a i k ran (Some q) = act_finding p r n a (part_of i k ran.trace) k q (nth (books_of r q.book) q.at)

abbrev pub act_finding_in : PlainProgram → PlainReport → ℕ → ℕ → ℕ → ℕ → Option PlainActorReport → Finding
act_finding_in p r n a i k None = Fine
act_finding_in p r n a i k (Some ran) = act_finding_at p r n a i k ran (nth ran.trace k)

-- what an action prints that is over with this event, before what the others print
abbrev pub kind_prints : PlainProgram → PlainReport → ℕ → Place → List Place → EventKind → (List Place → List ℕ) → List ℕ
kind_prints p r n q since (Act g number new sends) go =
    action_prints p r n (take q.at (books_of r q.book)) g since (next_action (cells_of p.cells) (take q.at (books_of r q.book)) g) ++ go []
kind_prints p r n q since kind go = go (since ++ q ∷ [])

abbrev pub prints_at : PlainProgram → PlainReport → ℕ → Place → List Place → Option Event → (List Place → List ℕ) → List ℕ
prints_at p r n q since None go = go (since ++ q ∷ [])
prints_at p r n q since (Some e) go = kind_prints p r n q since e.kind go

-- what the actions of a trace print that are over, one after another
abbrev pub acts_print : PlainProgram → PlainReport → ℕ → List Place → List Place → List ℕ
acts_print p r n since [] = []
acts_print p r n since (q ∷ qs) = prints_at p r n q since (nth (books_of r q.book) q.at) (λ since1. acts_print p r n since1 qs)

-- of an agent's end
abbrev pub end_finding : PlainProgram → PlainReport → ℕ → ℕ → ℕ → Option CellId → Option PlainActorReport → Finding
end_finding p r n a i None o = Fine
end_finding p r n a i (Some g) None = Fine
end_finding p r n a i (Some g) (Some ran) = agent_end p r n a g (drop i ran.trace) (acts_print p r n [] ran.trace) ran

abbrev pub piece_finding : PlainProgram → PlainReport → ℕ → Piece → Finding
piece_finding p r n (OfThread a) = thread_finding p r n a (nth p.threads a) (nth r.threads a)
piece_finding p r n (OfAct i from at) = act_finding_in p r n (length p.threads + i) from at (nth r.agents i)
piece_finding p r n (OfEnd i from) = end_finding p r n (length p.threads + i) from (nth (agents_from 0 p.cells) i) (nth r.agents i)

-- whether the commits of an action that is over are covered
abbrev pub kind_serial : PlainProgram → PlainReport → ℕ → Place → List Place → EventKind → Bool
kind_serial p r n q since (Act g number new sends) =
    action_covered p r n (take q.at (books_of r q.book)) g since (next_action (cells_of p.cells) (take q.at (books_of r q.book)) g)
kind_serial p r n q since kind = true

abbrev pub event_serial : PlainProgram → PlainReport → ℕ → Place → List Place → Option Event → Bool
event_serial p r n q since None = true
event_serial p r n q since (Some e) = kind_serial p r n q since e.kind

abbrev pub serial_at : PlainProgram → PlainReport → ℕ → List Place → Option Place → Bool
serial_at p r n since None = true
serial_at p r n since (Some q) = event_serial p r n q since (nth (books_of r q.book) q.at)

-- whether those of an action are covered that isn't over
abbrev pub end_serial : PlainProgram → PlainReport → ℕ → ℕ → Option CellId → Option PlainActorReport → Bool
end_serial p r n i None o = true
end_serial p r n i (Some g) None = true
end_serial p r n i (Some g) (Some ran) = action_covered p r n r.book g (drop i ran.trace) (next_action (cells_of p.cells) r.book g)

-- whether those of an agent's action are covered that is over
abbrev pub act_serial : PlainProgram → PlainReport → ℕ → ℕ → ℕ → Option PlainActorReport → Bool
act_serial p r n i k None = true
act_serial p r n i k (Some ran) = serial_at p r n (part_of i k ran.trace) (nth ran.trace k)

abbrev pub piece_serial : PlainProgram → PlainReport → ℕ → Piece → Bool
piece_serial p r n (OfThread a) = thread_serial p r n (nth p.threads a) (nth r.threads a)
piece_serial p r n (OfAct i from at) = act_serial p r n from at (nth r.agents i)
piece_serial p r n (OfEnd i from) = end_serial p r n from (nth (agents_from 0 p.cells) i) (nth r.agents i)

-- of pieces, one after the other
abbrev pub pieces_finding : PlainProgram → PlainReport → ℕ → List Piece → Finding
pieces_finding p r n [] = Fine
pieces_finding p r n (x ∷ xs) = and_then (piece_finding p r n x) (pieces_finding p r n xs)

abbrev pub pieces_serial : PlainProgram → PlainReport → ℕ → List Piece → Bool
pieces_serial p r n [] = true
pieces_serial p r n (x ∷ xs) = piece_serial p r n x && pieces_serial p r n xs

-- ---- all pieces

-- the threads, from this one on
abbrev pub thread_pieces : ℕ → List PlainActorReport → List Piece
thread_pieces a [] = []
thread_pieces a (ran ∷ rans) = OfThread a ∷ thread_pieces (suc a) rans

-- of an agent's trace from the k-th event on, where an action began at the i-th: each action that is over, and the end
abbrev pub act_pieces : (ℕ → List Event) → ℕ → ℕ → ℕ → List Place → List Piece
act_pieces books a i k [] = OfEnd a i ∷ []
act_pieces books a i k (q ∷ qs) = if is_act (nth (books q.book) q.at) then OfAct a i k ∷ act_pieces books a (suc k) (suc k) qs else act_pieces books a i (suc k) qs

-- the agents, from this one on
abbrev pub agent_pieces : (ℕ → List Event) → ℕ → List PlainActorReport → List Piece
agent_pieces books i [] = []
agent_pieces books i (ran ∷ rans) = act_pieces books i 0 0 ran.trace ++ agent_pieces books (suc i) rans

-- in the order of their tests
abbrev pub pieces_of : PlainReport → List Piece
pieces_of r = thread_pieces 0 r.threads ++ agent_pieces (books_of r) 0 r.agents

-- ---- laws

-- what is found of two rows of pieces is what is found of both: so they may be gone through by halves
abbrev pub HalvesAreWhole : Type 0
HalvesAreWhole =
    (p : PlainProgram) (r : PlainReport) (n : ℕ) (xs ys : List Piece)
    → (pieces_finding p r n (xs ++ ys) ≡ and_then (pieces_finding p r n xs) (pieces_finding p r n ys)) × (pieces_serial p r n (xs ++ ys) ≡ (pieces_serial p r n xs && pieces_serial p r n ys))

-- Where the tests before find nothing, the verdict is what is found of all pieces.
abbrev pub PiecesAreAll : Type 0
PiecesAreAll =
    (p : PlainProgram) (w : PlainTerms) (r : PlainReport) (n : ℕ)
    → fits_sizes p r ≡ true → traces_found (books_of r) (suc (length r.atom_books)) 0 (r.threads ++ r.agents) ≡ Fine → store_found p r ≡ Fine → atoms_found p r (atoms_from 0 p.cells) ≡ Fine
    → ends_found p w r ≡ Fine → order_found p r ≡ Fine → verdict p w r n ≡ answer (pieces_finding p r n (pieces_of r)) (pieces_serial p r n (pieces_of r))
