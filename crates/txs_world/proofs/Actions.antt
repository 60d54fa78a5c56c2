-- The action that an agent runs next stays so until the agent has run one.
use Rattle.std.proofs.Common.{◌≡◌, ℕ, suc, nat_le, Bool, true, false, not, ◌&&◌, ◌==◌, List, [], ◌∷◌, ◌++◌, length, Option, Some, None, Result, Ok, Err, refl, sym, ap, subst, ◌∙◌, append_assoc, if◌then◌else◌}
use Rattle.std.proofs.lemmas.Bool.{false≢true}
use Rattle.txs_world_protocol.specs.Ask.{Writes, buffered}
use Rattle.txs_world_protocol.specs.declared.event.Event.{Event}
use Rattle.txs_world_protocol.specs.declared.event.EventKind.{EventKind}
use Rattle.txs_world_protocol.specs.declared.event.EventKind.TheVariants.{Read, Commit, Retry, Fail, Refused, Send, SendRefused, Act, Swap, Broke}
use Rattle.txs_value_cell.specs.Cells.{World}
use Rattle.txs_value_cell.specs.Forms.{same_kind}
use Rattle.txs_value_data.specs.Places.{nth}
use Rattle.txs_value_cell.specs.declared.action.Action.{Action}
use Rattle.txs_value_data.specs.declared.fault.Fault.{Fault}
use Rattle.txs_value_data.specs.declared.value.CellId.{CellId}
use Rattle.txs_value_data.specs.declared.value.CellKind.{CellKind}
use Rattle.txs_value_data.specs.declared.value.CellKind.TheVariants.{Ref, Atom, Agent}
use Rattle.txs_value_data.specs.declared.value.Value.{Value}
use Rattle.txs_world_book.specs.Book.{is_of_kind, has_cell, has_ref, has_agent, cells_in, are_refs, opening, goes_on, state_of, writes_to, is_there, after, newest, Mail, no_mail, sent_to, acted, mail_changed, mail_after, LegalKind, Each}
use Rattle.txs_world.specs.Laws.{acts_for, no_acts}
use Rattle.txs_world.specs.Store.{first_action, next_action}
use Rattle.txs_world_book.specs.declared.cell.StoreCell.{StoreCell}
use Rattle.txs_world_book.proofs.Growth.{after_last, mail_last}
use Rattle.txs_world.proofs.Mailing.{equal}
use Rattle.txs_world_book.proofs.Outcomes.{both}
use Rattle.txs_world_book.proofs.Older.{unset}

-- ---- the agent's state

two_kinds : (k : CellKind) → same_kind Ref k ≡ true → same_kind Agent k ≡ true → ⊥
two_kinds Ref p q = false≢true q
two_kinds Atom p q = false≢true p
two_kinds Agent p q = false≢true p

-- a cell isn't both a ref and an agent
not_both : (o : Option StoreCell) (j k : CellKind) → same_kind j Ref ≡ true → is_of_kind j o ≡ true → same_kind k Agent ≡ true → is_of_kind k o ≡ true → ⊥
not_both None j k p q r s = false≢true q
not_both (Some c) Ref Agent p q r s = two_kinds c.kind q s
not_both (Some c) Ref Ref p q r s = false≢true r
not_both (Some c) Ref Atom p q r s = false≢true r
not_both (Some c) Atom k p q r s = false≢true p
not_both (Some c) Agent k p q r s = false≢true p

-- what refs are written leaves an agent
unwritten_agent : (cells : List StoreCell) (n : ℕ) (ws : Writes) (g : CellId) → has_agent cells g ≡ true → are_refs cells n (cells_in ws) ≡ true → is_there (buffered ws g.number) ≡ false
unwritten_agent cells n [] g has h = refl
unwritten_agent cells n (w ∷ ws) g has h = go (unwritten_agent cells (suc w.0.number) ws g has (both (nat_le n w.0.number) (are_refs cells (suc w.0.number) (cells_in ws)) (both (has_ref cells w.0) (nat_le n w.0.number && are_refs cells (suc w.0.number) (cells_in ws)) h).1).1) (w.0.number == g.number) refl
  where
    go : is_there (buffered ws g.number) ≡ false → (t : Bool) → (w.0.number == g.number) ≡ t → is_there (if t then Some w.1 else buffered ws g.number) ≡ false
    go r true e =
        let a = both (same_kind w.0.kind Ref) (has_cell cells w.0) (both (has_ref cells w.0) _ h).0 in
        let b = both (same_kind g.kind Agent) (has_cell cells g) has in
        absurd (not_both (nth cells g.number) w.0.kind g.kind a.0 (subst (λ k. is_of_kind w.0.kind (nth cells k) ≡ true) (equal w.0.number g.number e) a.1) b.0 b.1)
    go r false e = r

state_unwritten : (k : ℕ) (g : CellId) (new : Result Value Fault) → (g.number == k) ≡ false → is_there (buffered (state_of g new) k) ≡ false
state_unwritten k g (Ok v) e = ap (λ t. is_there (if t then Some v else None)) e
state_unwritten k g (Err f) e = refl

unwritten_by : (cells : List StoreCell) (done : List Event) (a : ℕ) (d : EventKind) (g : CellId) → LegalKind cells done a d → has_agent cells g ≡ true → acts_for g.number d ≡ false → writes_to d g.number ≡ false
unwritten_by cells done a (Read c) g l has e = refl
unwritten_by cells done a (Commit at view ws sends) g l has e = unwritten_agent cells 0 ws g has l.0
unwritten_by cells done a (Retry since c cause) g l has e = refl
unwritten_by cells done a (Fail at view) g l has e = refl
unwritten_by cells done a (Refused at view h) g l has e = refl
unwritten_by cells done a (Send x) g l has e = refl
unwritten_by cells done a (SendRefused h) g l has e = refl
unwritten_by cells done a (Act h n new sends) g l has e = state_unwritten g.number h new e
unwritten_by cells done a (Swap new) g l has e = refl
unwritten_by cells done a (Broke at) g l has e = refl

-- ---- the agent's mail

first_more : (b : Bool) (xs ys : List Action) (x : Action) → first_action b xs ≡ Some x → first_action b (xs ++ ys) ≡ Some x
first_more true xs ys x h = h
first_more false [] ys x h = absurd (false≢true (ap is_there h))
first_more false (y ∷ xs) ys x h = h

-- what an agent with this mail runs next, as its number tells
abbrev pub Runs : Mail → ℕ → Action → Type 0
Runs m n x = (first_action (is_there m.fault) m.actions ≡ Some x) × (m.acts ≡ n)

runs_changed : (goes : Bool) (k : ℕ) (d : EventKind) (m : Mail) (n : ℕ) (x : Action) → acts_for k d ≡ false → Runs m n x → Runs (mail_changed goes k d m) n x
runs_changed goes k (Read c) m n x e h = h
runs_changed goes k (Commit at view ws sends) m n x e h = (first_more (is_there m.fault) m.actions (sent_to k sends) x h.0, h.1)
runs_changed goes k (Retry since c cause) m n x e h = h
runs_changed goes k (Fail at view) m n x e h = h
runs_changed goes k (Refused at view g) m n x e h = h
runs_changed goes k (Send y) m n x e h = (first_more (is_there m.fault) m.actions (sent_to k (y ∷ [])) x h.0, h.1)
runs_changed goes k (SendRefused g) m n x e h = h
runs_changed goes k (Act g i new sends) m n x e h =
    let c : Mail = if g.number == k then acted goes new m else m in
    let r : Runs c n x = subst (λ t. Runs (if t then acted goes new m else m) n x) (sym e) h in (first_more (is_there c.fault) c.actions (sent_to k sends) x r.0, r.1)
runs_changed goes k (Swap new) m n x e h = h
runs_changed goes k (Broke at) m n x e h = h

-- ---- both, over events

-- what stays
abbrev pub Stands : List StoreCell → CellId → Action → ℕ → Value → List Event → Type 0
Stands cells g x n v book = Runs (mail_after cells book g.number) n x × (newest (opening cells) book g.number ≡ v)

stands_more : (cells : List StoreCell) (g : CellId) (x : Action) (n : ℕ) (v : Value) (done : List Event) (e : Event) → LegalKind cells done e.actor e.kind → has_agent cells g ≡ true → acts_for g.number e.kind ≡ false → Stands cells g x n v done
    → Stands cells g x n v (done ++ e ∷ [])
stands_more cells g x n v done e l has off h =
    let k = g.number in
    let goes = goes_on (nth cells k) in
    let w = opening cells in (
      subst (λ m. Runs m n x) (sym (mail_last goes k no_mail done e)) (runs_changed goes k e.kind (mail_after cells done k) n x off h.0),
      ap (λ (R : World). R k) (after_last w done e) ∙ unset e.kind (after w done (length done)) k (unwritten_by cells done e.actor e.kind g l has off) ∙ h.1,
    )

append_none : (xs : List Event) → xs ++ [] ≡ xs
append_none [] = refl
append_none (x ∷ xs) = ap (λ l. x ∷ l) (append_none xs)

not_false : (b : Bool) → not b ≡ true → b ≡ false
not_false true h = absurd (false≢true h)
not_false false h = refl

stands_on : (cells : List StoreCell) (g : CellId) (x : Action) (n : ℕ) (v : Value) (done more : List Event) → Each (λ l e. LegalKind cells l e.actor e.kind) done more → has_agent cells g ≡ true → no_acts g.number more ≡ true → Stands cells g x n v done
    → Stands cells g x n v (done ++ more)
stands_on cells g x n v done [] l has off h = subst (Stands cells g x n v) (sym (append_none done)) h
stands_on cells g x n v done (e ∷ es) l has off h =
    let o = both (not (acts_for g.number e.kind)) (no_acts g.number es) off in
    subst (Stands cells g x n v) (append_assoc done (e ∷ []) es)
    (stands_on cells g x n v (done ++ e ∷ []) es l.1 has o.1 (stands_more cells g x n v done e l.0 has (not_false (acts_for g.number e.kind) o.0) h))

-- of the events of a longer book, those behind the first ones
each_behind : (P : List Event → Event → Type 0) (done es more : List Event) → Each P done (es ++ more) → Each P (done ++ es) more
each_behind P done [] more h = subst (λ l. Each P l more) (sym (append_none done)) h
each_behind P done (e ∷ es) more h = subst (λ l. Each P l more) (append_assoc done (e ∷ []) es) (each_behind P (done ++ e ∷ []) es more h.1)

pub action_stays : (cells : List StoreCell) (book more : List Event) (g : CellId) (x : Action) → Each (λ l e. LegalKind cells l e.actor e.kind) [] (book ++ more) → has_agent cells g ≡ true → no_acts g.number more ≡ true → next_action cells book g ≡ Some x
    → (next_action cells (book ++ more) g ≡ Some x) × ((mail_after cells (book ++ more) g.number).acts ≡ (mail_after cells book g.number).acts) × (newest (opening cells) (book ++ more) g.number ≡ newest (opening cells) book g.number)
action_stays cells book more g x l has off h =
    let r = stands_on cells g x (mail_after cells book g.number).acts (newest (opening cells) book g.number) book more (each_behind (λ d e. LegalKind cells d e.actor e.kind) [] book more l) has off ((h, refl), refl) in
    (r.0.0, r.0.1, r.1)
