-- An event at its place, by whether it ends a transaction.
use Rattle.std.proofs.Common.{◌≡◌, ◌<◌, ℕ, Bool, true, false, List, [], ◌∷◌, ◌++◌, length, Option, Some, None, refl, sym, ap, ◌∙◌, arith, if◌then◌else◌}
use Rattle.std.specs.Prelude.{not}
use Rattle.txs_world_protocol.specs.declared.event.Event.{Event}
use Rattle.txs_world_protocol.specs.declared.event.EventKind.{EventKind}
use Rattle.txs_world_protocol.specs.declared.event.EventKind.TheVariants.{Read, Commit, Retry, Fail, Refused, Send, SendRefused, Act, Swap, Broke}
use Rattle.txs_world_book.specs.Served.{cells_of}
use Rattle.txs_world_book.specs.declared.cell.StoreCell.{StoreCell}
use Rattle.txs_tree_eval_node.specs.Events.{seen_event, seen_events}
use Rattle.txs_tree_eval_node.specs.declared.seen.Seen.{Seen}
use Rattle.txs_tree_meaning.specs.Right.{is_wrong}
use Rattle.txs_tree_meaning.specs.Tree.{PlainProgram}
use Rattle.txs_theorem_audit.specs.Verdict.{is_end}
use Rattle.txs_audit_evidence.specs.Transacted.{end_in}
use Rattle.txs_audit_event.specs.Lines.{outcome_of}
use Rattle.txs_audit_event.specs.Transactions.{Asked, asked_what, calm_at, calm_what, late_what, other_what, wrong_what}
use Rattle.txs_audit_event.specs.declared.what.What.{What}

-- ---- events that end transactions

abbrev end_by : EventKind → Option EventKind
end_by k = if is_end k then Some k else None

module _ (cells : List StoreCell) (done : List Event) (x : Asked) where
  none_ends : (k : EventKind) → end_by k ≡ None → other_what x ≡ calm_what cells done x k
  none_ends (Read c) e = refl
  none_ends (Commit at view ws sends) e = absurd cc
  none_ends (Retry since c cause) e = refl
  none_ends (Fail at view) e = refl
  none_ends (Refused at view g) e = absurd cc
  none_ends (Send a) e = refl
  none_ends (SendRefused g) e = refl
  none_ends (Act g number new sends) e = refl
  none_ends (Swap new) e = refl
  none_ends (Broke at) e = refl

  one_ends : (k d : EventKind) → end_by k ≡ Some d → calm_what cells done x d ≡ calm_what cells done x k
  one_ends k d e = same (is_end k) e
    where
      some : Some k ≡ Some d → k ≡ d
      some e = cc

      same : (b : Bool) → (if b then Some k else None) ≡ Some d → calm_what cells done x d ≡ calm_what cells done x k
      same true e = sym (ap (calm_what cells done x) (some e))
      same false e = absurd cc

  -- no transaction ended there
  pub calm_none : (o : Option Event) → end_in o ≡ None → other_what x ≡ calm_at cells done x o
  calm_none None e = refl
  calm_none (Some e) is = none_ends e.kind is

  -- one ended there
  pub calm_some : (o : Option Event) (k : EventKind) → end_in o ≡ Some k → calm_what cells done x k ≡ calm_at cells done x o
  calm_some None k e = absurd cc
  calm_some (Some e) k is = one_ends e.kind k is

-- ---- whether it is allowed

module _ (p : PlainProgram) (n : ℕ) (done : List Event) (e : Option Event) (x : Asked) where
  abbrev wrong : Bool
  wrong = is_wrong (x.means (x.front ++ x.event ∷ []))

  abbrev by : Bool → What
  by b = if b then wrong_what p n x x.event.kind else late_what (cells_of p.cells) done x e (outcome_of (x.means x.front))

  not_wrong : (b w : Bool) → b ≡ not w → b ≡ true → false ≡ w
  not_wrong b true e f = sym e ∙ f
  not_wrong b false e f = refl

  so_wrong : (b w : Bool) → b ≡ not w → b ≡ false → true ≡ w
  so_wrong b true e f = refl
  so_wrong b false e f = sym e ∙ f

  pub asked_late : (b : Bool) → b ≡ not wrong → b ≡ true → late_what (cells_of p.cells) done x e (outcome_of (x.means x.front)) ≡ asked_what p n done e x
  asked_late b same on = ap by (not_wrong b wrong same on)

  pub asked_wrong : (b : Bool) → b ≡ not wrong → b ≡ false → wrong_what p n x x.event.kind ≡ asked_what p n done e x
  asked_wrong b same off = ap by (so_wrong b wrong same off)

-- ---- one event more

pub some_more : (xs all : List Seen) (x : Seen) → seen_events all ≡ seen_events xs ++ seen_event x ∷ [] → 0 < length all
some_more [] [] x e = absurd cc
some_more (y ∷ xs) [] x e = absurd cc
some_more xs (z ∷ all) x e = omega arith
