-- What is in an agent's mail is for that agent.
use Rattle.std.proofs.lemmas.Bool.{false≢true}
use Rattle.std.proofs.Common.{◌≡◌, ◌==◌, ℕ, zero, suc, Bool, true, false, List, [], ◌∷◌, ◌++◌, take, drop, Option, Some, None, Result, Ok, Err, refl, sym, ap, ◌∙◌, subst, if◌then◌else◌}
use Rattle.txs_world_protocol.specs.declared.event.Event.{Event}
use Rattle.txs_world_protocol.specs.declared.event.EventKind.{EventKind}
use Rattle.txs_world_protocol.specs.declared.event.EventKind.TheVariants as event
use Rattle.txs_value_data.proofs.SameLemmas.{and_both, numbers}
use Rattle.txs_value_data.specs.Places.{nth}
use Rattle.txs_value_data.specs.declared.fault.Fault.{Fault}
use Rattle.txs_value_cell.specs.declared.action.Action.{Action}
use Rattle.txs_value_data.specs.declared.value.CellId.{CellId}
use Rattle.txs_value_data.specs.declared.value.Value.{Value}
use Rattle.txs_world_book.specs.Book.{has_agent, are_sends, is_failed, is_there, Mail, no_mail, sent_to, acted, mail_changed, mail_from, mail_after, goes_on, Each, LegalKind, Legal}
use Rattle.txs_world_book.specs.declared.cell.StoreCell.{StoreCell}
use Rattle.txs_world.specs.Store.{first_action, next_action}
use Rattle.txs_theorem_runs.proofs.Acting.{agent_there, same_id}
use Rattle.txs_theorem_runs.proofs.Sent.{AreSuch, SendsWell, next_such}

-- ---- by its number

abbrev action_or : Action → Option Action → Action
action_or x None = x
action_or x (Some y) = y

module _ (k : ℕ) where
  -- these actions are for the agent with this number
  abbrev AreTo : List Action → Type 0
  AreTo [] = Unit {0}
  AreTo (x ∷ xs) = (x.agent.number ≡ k) × AreTo xs

  to_append : (xs ys : List Action) → AreTo xs → AreTo ys → AreTo (xs ++ ys)
  to_append [] ys h i = i
  to_append (x ∷ xs) ys h i = (h.0, to_append xs ys h.1 i)

  to_sent : (xs : List Action) → AreTo (sent_to k xs)
  to_sent [] = tt
  to_sent (x ∷ xs) = go (x.agent.number == k) refl (to_sent xs)
    where
      go : (b : Bool) → (x.agent.number == k) ≡ b → AreTo (sent_to k xs) → AreTo (if b then x ∷ sent_to k xs else sent_to k xs)
      go true e r = (numbers x.agent.number k e, r)
      go false e r = r

  to_drop : (xs : List Action) → AreTo xs → AreTo (drop 1 xs)
  to_drop [] h = tt
  to_drop (x ∷ xs) h = h.1

  to_acted : (goes : Bool) (new : Result Value Fault) (m : Mail) → AreTo m.actions → AreTo (acted goes new m).actions
  to_acted goes (Ok v) m h = to_drop m.actions h
  to_acted true (Err f) m h = to_drop m.actions h
  to_acted false (Err f) m h = to_drop m.actions h

  to_changed : (goes : Bool) (d : EventKind) (m : Mail) → AreTo m.actions → AreTo (mail_changed goes k d m).actions
  to_changed goes (event.Read c) m h = h
  to_changed goes (event.Commit at view ws sends) m h = to_append m.actions (sent_to k sends) h (to_sent sends)
  to_changed goes (event.Retry since c cause) m h = h
  to_changed goes (event.Fail at view) m h = h
  to_changed goes (event.Refused at view g) m h = h
  to_changed goes (event.Send x) m h = to_append m.actions (sent_to k (x ∷ [])) h (to_sent (x ∷ []))
  to_changed goes (event.SendRefused g) m h = h
  to_changed goes (event.Act g n new sends) m h = to_append (if g.number == k then acted goes new m else m).actions (sent_to k sends) (go (g.number == k)) (to_sent sends)
    where
      go : (b : Bool) → AreTo (if b then acted goes new m else m).actions
      go true = to_acted goes new m h
      go false = h
  to_changed goes (event.Swap new) m h = h
  to_changed goes (event.Broke at) m h = h

  to_mail : (goes : Bool) (m : Mail) (es : List Event) → AreTo m.actions → AreTo (mail_from goes k m es).actions
  to_mail goes m [] h = h
  to_mail goes m (e ∷ es) h = to_mail goes (mail_changed goes k e.kind m) es (to_changed goes e.kind m h)

  first_to : (b : Bool) (xs : List Action) (x : Action) → AreTo xs → first_action b xs ≡ Some x → x.agent.number ≡ k
  first_to true xs x h e = absurd (false≢true (ap is_there e))
  first_to false [] x h e = absurd (false≢true (ap is_there e))
  first_to false (y ∷ xs) x h e = subst (λ z. z.agent.number ≡ k) (ap (action_or x) e) h.0

-- ---- by its kind

module _ (cells : List StoreCell) where
  abbrev IsFor : Action → Type 0
  IsFor x = has_agent cells x.agent ≡ true

  are_for : (xs : List Action) → are_sends cells xs ≡ true → AreSuch IsFor xs
  are_for [] h = tt
  are_for (x ∷ xs) h = let b = and_both (has_agent cells x.agent) (are_sends cells xs) h in (b.0, are_for xs b.1)

  legal_such : (done : List Event) (a : ℕ) (d : EventKind) → LegalKind cells done a d → SendsWell IsFor d
  legal_such done a (event.Read c) h = tt
  legal_such done a (event.Commit at view ws sends) h = are_for sends h.1
  legal_such done a (event.Retry since c cause) h = tt
  legal_such done a (event.Fail at view) h = tt
  legal_such done a (event.Refused at view g) h = tt
  legal_such done a (event.Send x) h = h.0
  legal_such done a (event.SendRefused g) h = tt
  legal_such done a (event.Act g n new sends) h = are_for sends h.5
  legal_such done a (event.Swap new) h = tt
  legal_such done a (event.Broke at) h = tt

  all_such : (k : ℕ) (done es : List Event) → Each (λ d e. LegalKind cells d e.actor e.kind) done es → Each (λ d e. SendsWell IsFor e.kind) done (take k es)
  all_such zero done [] h = tt
  all_such zero done (e ∷ es) h = tt
  all_such (suc k) done [] h = tt
  all_such (suc k) done (e ∷ es) h = (legal_such done e.actor e.kind h.0, all_such k (done ++ e ∷ []) es h.1)

  -- what an agent runs next is for it, after any events of a legal book
  pub next_own : (threads : ℕ) (book : List Event) → Legal cells threads book → (g : CellId) → has_agent cells g ≡ true → (k : ℕ) (x : Action) → next_action cells (take k book) g ≡ Some x → x.agent ≡ g
  next_own threads book legal g has k x e =
      let h : has_agent cells x.agent ≡ true = next_such IsFor cells (take k book) g x (all_such k [] book legal.each) e in
      same_id x.agent g ((agent_there cells x.agent h).0 ∙ sym (agent_there cells g has).0)
      (first_to g.number (is_failed cells (take k book) g) (mail_after cells (take k book) g.number).actions x (to_mail g.number (goes_on (nth cells g.number)) no_mail (take k book) tt) e)
