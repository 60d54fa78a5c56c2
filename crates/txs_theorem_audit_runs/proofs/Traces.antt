-- The stage and the trace of an actor that was told one more.
use Rattle.std.proofs.Common.{◌≡◌, ℕ, Bool, true, false, nat_lt, List, [], ◌∷◌, ◌++◌, length, take, if◌then◌else◌, refl, ap, ◌∙◌}
use Rattle.txs_value_cell.specs.declared.cell.CellDefinition.{CellDefinition}
use Rattle.txs_world_protocol.specs.declared.ask.Ask.{Ask}
use Rattle.txs_world_protocol.specs.declared.event.Event.{Event}
use Rattle.txs_theorem_runs.specs.Shared.{book_for, serve_on}
use Rattle.txs_theorem_runs.specs.Stages.{Stage, AsksIn, stage_after}
use Rattle.txs_theorem_runs.specs.Told.{Entry, EntryHolds, AllHold, AreStaged, adding, served_at, trace_of}
use Rattle.txs_theorem_audit_runs.proofs.Comes.{place}
use Rattle.txs_theorem_audit_runs.proofs.Plays.{answer, entry_served}

-- ---- stages

-- the stage after these entries
abbrev pub stage_by : Stage → List Entry → Stage
stage_by st [] = st
stage_by st (e ∷ es) = stage_by (stage_after st e.ask e.reply) es

pub stage_more : (st : Stage) (es : List Entry) (e : Entry) → stage_by st (es ++ e ∷ []) ≡ stage_after (stage_by st es) e.ask e.reply
stage_more st [] e = refl
stage_more st (x ∷ es) e = stage_more (stage_after st x.ask x.reply) es e

-- the last ask came in its stage
pub last_staged : (agent : Bool) (st end : Stage) (es : List Entry) (e : Entry) → AreStaged agent st (es ++ e ∷ []) end → AsksIn agent (stage_by st es) e.ask
last_staged agent st end [] e h = h.0
last_staged agent st end (x ∷ es) e h = last_staged agent (stage_after st x.ask x.reply) end es e h.1

-- ---- traces

pub last_holds : (cells : List CellDefinition) (threads : ℕ) (books : ℕ → List Event) (a : ℕ) (es : List Entry) (e : Entry) → AllHold cells threads books a (es ++ e ∷ []) → EntryHolds cells threads books a e
last_holds cells threads books a [] e h = h.0
last_holds cells threads books a (x ∷ es) e h = last_holds cells threads books a es e h.1

pub trace_more : (cells : List CellDefinition) (books : ℕ → List Event) (a : ℕ) (es : List Entry) (e : Entry) → trace_of cells books a (es ++ e ∷ []) ≡ trace_of cells books a es ++ adding cells books a e []
trace_more cells books a [] e = refl
trace_more cells books a (x ∷ es) e = ap (adding cells books a x) (trace_more cells books a es e) ∙ over (nat_lt x.at (length (served_at cells books a x).book))
  where
    over : (t : Bool) → (if t then record { book = book_for cells x.ask; at = x.at } ∷ (trace_of cells books a es ++ adding cells books a e []) else trace_of cells books a es ++ adding cells books a e [])
        ≡ (if t then record { book = book_for cells x.ask; at = x.at } ∷ trace_of cells books a es else trace_of cells books a es) ++ adding cells books a e []
    over true = refl
    over false = refl

module _ (cells : List CellDefinition) (threads a : ℕ) (books later : ℕ → List Event) (q : Ask) (before : take (length (books (book_for cells q))) (later (book_for cells q)) ≡ books (book_for cells q)) where
  abbrev home : ℕ
  home = book_for cells q

  -- what the entry of the ask adds to the trace
  pub served_adds : (t : Bool) → nat_lt (length (books home)) (length (answer cells threads a books q).book) ≡ t → adding cells later a (entry_served cells threads a books q) [] ≡ (if t then place home (length (books home)) ∷ [] else [])
  served_adds t e =
      ap (λ l. if nat_lt (length (books home)) (length (serve_on cells a q l).book) then place home (length (books home)) ∷ [] else []) before
      ∙ ap (λ b. if b then place home (length (books home)) ∷ [] else []) e
