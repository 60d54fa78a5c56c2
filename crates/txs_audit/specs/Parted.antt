-- What is sought of pieces that are split among workers.
use Rattle.std.specs.Prelude.{List, [], ◌∷◌, Result}
use Rattle.core.specs.declared.thread.PromisedHandle.{PromisedHandle}
use Rattle.txs_audit_evidence.specs.declared.transactions.Found.{Found}
use Rattle.txs_audit.specs.Pieced.{Sought, both, nothing}
use Rattle.txs_audit.specs.declared.judging.Judge as Judge
use Rattle.txs_audit_book.specs.declared.verdict.AuditError.{AuditError}
use Rattle.txs_audit.specs.declared.parts.Part.{Part}

module _ {J : Type 0} (g : Judge.Ghosts J) where
  -- what is sought of a part
  abbrev pub sought_in : Part J → Sought
  sought_in p = g.sought p.judge.now p.turns p.pieces.now

  -- what is sought of the parts of these workers, one after the other
  abbrev pub sought_by : List (PromisedHandle (Result Found AuditError) (Part J)) → Sought
  sought_by [] = nothing
  sought_by (h ∷ hs) = both (sought_in h.promise) (sought_by hs)
