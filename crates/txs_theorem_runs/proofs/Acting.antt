-- Each action that an agent hands in is what its callee means on the state that the agent found.
use Rattle.std.proofs.Common.{◌≡◌, ◌+◌, ℕ, zero, suc, Bool, true, false, not, ◌&&◌, ◌==◌, nat_lt, List, [], ◌∷◌, ◌++◌, map, drop, Option, Some, None, Result, Ok, Err, refl, sym, ap, ◌∙◌, subst, arith, if◌then◌else◌, append_assoc}
use Rattle.std.proofs.lemmas.Bool.{false≢true, ltb-true}
use Rattle.txs_world_protocol.specs.declared.event.Event.{Event}
use Rattle.txs_world_protocol.specs.declared.event.EventKind.{EventKind}
use Rattle.txs_world_protocol.specs.declared.event.EventKind.TheVariants as event
use Rattle.txs_value_data.proofs.SameLemmas.{numbers}
use Rattle.txs_value_cell.specs.Forms.{same_kind}
use Rattle.txs_value_data.specs.Places.{nth}
use Rattle.txs_value_cell.specs.declared.action.Action.{Action}
use Rattle.txs_value_data.specs.declared.fault.Fault.{Fault}
use Rattle.txs_value_data.specs.declared.value.CellId.{CellId}
use Rattle.txs_value_data.specs.declared.value.CellKind.{CellKind}
use Rattle.txs_value_data.specs.declared.value.CellKind.TheVariants.{Ref, Atom, Agent}
use Rattle.txs_value_data.specs.declared.value.Value.{Value}
use Rattle.txs_tree_meaning.specs.Tree.{PlainFunction}
use Rattle.txs_theorem_threads.specs.FollowsAgent.{SoundAction}
use Rattle.txs_world_book.proofs.Outcomes.{both}
use Rattle.txs_world_book.specs.Book.{has_agent, has_cell, is_of_kind, is_there, is_failed, agents_below, Mail, no_mail, sent_to, acted, mail_changed, mail_from, mail_after, goes_on, makes, Each, Legal}
use Rattle.txs_world_book.specs.Book as world
use Rattle.txs_world.specs.Laws.{acts_for, no_acts}
use Rattle.txs_world.specs.Store.{first_action, next_action}
use Rattle.txs_world_book.specs.declared.cell.StoreCell.{StoreCell}
use Rattle.txs_theorem_runs.specs.Agents.{AreSound, SendsSound, AllSound}
use Rattle.txs_theorem_runs.specs.Told.{Entry, exchange_of}
use Rattle.txs_theorem_runs.proofs.Growing.{AreOwn}

-- ---- lists

pub append_nil : {A : Type 0} (xs : List A) → xs ++ [] ≡ xs
append_nil [] = refl
append_nil (x ∷ xs) = ap (λ l. x ∷ l) (append_nil xs)

pub map_append : (xs : List Entry) (e : Entry) → map exchange_of (xs ++ e ∷ []) ≡ map exchange_of xs ++ exchange_of e ∷ []
map_append [] e = refl
map_append (x ∷ xs) e = ap (λ l. exchange_of x ∷ l) (map_append xs e)

abbrev action_or : Action → Option Action → Action
action_or x None = x
action_or x (Some y) = y

-- ---- the mail

module _ (functions : List PlainFunction) where
  pub sound_append : (xs ys : List Action) → AreSound functions xs → AreSound functions ys → AreSound functions (xs ++ ys)
  sound_append [] ys h k = k
  sound_append (x ∷ xs) ys h k = (h.0, sound_append xs ys h.1 k)

  sound_sent : (k : ℕ) (xs : List Action) → AreSound functions xs → AreSound functions (sent_to k xs)
  sound_sent k [] h = tt
  sound_sent k (x ∷ xs) h = go (x.agent.number == k) (sound_sent k xs h.1)
    where
      go : (b : Bool) → AreSound functions (sent_to k xs) → AreSound functions (if b then x ∷ sent_to k xs else sent_to k xs)
      go true r = (h.0, r)
      go false r = r

  sound_drop : (xs : List Action) → AreSound functions xs → AreSound functions (drop 1 xs)
  sound_drop [] h = tt
  sound_drop (x ∷ xs) h = h.1

  sound_acted : (goes : Bool) (new : Result Value Fault) (m : Mail) → AreSound functions m.actions → AreSound functions (acted goes new m).actions
  sound_acted goes (Ok v) m h = sound_drop m.actions h
  sound_acted true (Err f) m h = sound_drop m.actions h
  sound_acted false (Err f) m h = sound_drop m.actions h

  sound_changed : (goes : Bool) (k : ℕ) (d : EventKind) (m : Mail) → SendsSound functions d → AreSound functions m.actions → AreSound functions (mail_changed goes k d m).actions
  sound_changed goes k (event.Read c) m s h = h
  sound_changed goes k (event.Commit at view ws sends) m s h = sound_append m.actions (sent_to k sends) h (sound_sent k sends s)
  sound_changed goes k (event.Retry since c cause) m s h = h
  sound_changed goes k (event.Fail at view) m s h = h
  sound_changed goes k (event.Refused at view g) m s h = h
  sound_changed goes k (event.Send x) m s h = sound_append m.actions (sent_to k (x ∷ [])) h (sound_sent k (x ∷ []) (s, tt))
  sound_changed goes k (event.SendRefused g) m s h = h
  sound_changed goes k (event.Act g n new sends) m s h = sound_append (if g.number == k then acted goes new m else m).actions (sent_to k sends) (go (g.number == k)) (sound_sent k sends s)
    where
      go : (b : Bool) → AreSound functions (if b then acted goes new m else m).actions
      go true = sound_acted goes new m h
      go false = h
  sound_changed goes k (event.Swap new) m s h = h
  sound_changed goes k (event.Broke at) m s h = h

  sound_mail : (goes : Bool) (k : ℕ) (m : Mail) (done es : List Event) → AreSound functions m.actions → Each (λ l e. SendsSound functions e.kind) done es → AreSound functions (mail_from goes k m es).actions
  sound_mail goes k m done [] h s = h
  sound_mail goes k m done (e ∷ es) h s = sound_mail goes k (mail_changed goes k e.kind m) (done ++ e ∷ []) es (sound_changed goes k e.kind m s.0 h) s.1

  first_sound : (b : Bool) (xs : List Action) (x : Action) → AreSound functions xs → first_action b xs ≡ Some x → SoundAction functions x
  first_sound true xs x h e = absurd (false≢true (ap is_there e))
  first_sound false [] x h e = absurd (false≢true (ap is_there e))
  first_sound false (y ∷ xs) x h e = subst (SoundAction functions) (ap (action_or x) e) h.0

  -- what an agent runs next is sound, where all that was sent is
  pub next_sound : (cells : List StoreCell) (book : List Event) (g : CellId) (x : Action) → AllSound functions book → next_action cells book g ≡ Some x → SoundAction functions x
  next_sound cells book g x s e =
      first_sound (is_failed cells book g) (mail_after cells book g.number).actions x (sound_mail (goes_on (nth cells g.number)) g.number no_mail [] book tt s) e

-- ---- agents' numbers

pub agent_turned : (k : CellKind) → same_kind Agent k ≡ true → same_kind k Agent ≡ true
agent_turned Ref h = absurd (false≢true h)
agent_turned Atom h = absurd (false≢true h)
agent_turned Agent h = refl

is_agent_kind : (k : CellKind) → same_kind k Agent ≡ true → k ≡ Agent
is_agent_kind Ref h = absurd (false≢true h)
is_agent_kind Atom h = absurd (false≢true h)
is_agent_kind Agent h = refl

abbrev pub agent_at : List StoreCell → ℕ → Bool
agent_at cells k = is_of_kind Agent (nth cells k)

-- agents with as many agents before them are the same
one_number : (cells : List StoreCell) (j k : ℕ) → agent_at cells j ≡ true → agent_at cells k ≡ true → agents_below cells j ≡ agents_below cells k → j ≡ k
one_number [] j k hj hk e = absurd (false≢true hj)
one_number (d ∷ ds) zero zero hj hk e = refl
one_number (d ∷ ds) zero (suc k) hj hk e = absurd (go (same_kind d.kind Agent) (agent_turned d.kind hj) e)
  where
    go : (b : Bool) → b ≡ true → 0 ≡ (if b then suc (agents_below ds k) else agents_below ds k) → ⊥
    go true h e = omega (arith, e)
    go false h e = absurd (false≢true h)
one_number (d ∷ ds) (suc j) zero hj hk e = absurd (go (same_kind d.kind Agent) (agent_turned d.kind hk) e)
  where
    go : (b : Bool) → b ≡ true → (if b then suc (agents_below ds j) else agents_below ds j) ≡ 0 → ⊥
    go true h e = omega (arith, e)
    go false h e = absurd (false≢true h)
one_number (d ∷ ds) (suc j) (suc k) hj hk e = ap suc (one_number ds j k hj hk (go (same_kind d.kind Agent) e))
  where
    go : (b : Bool) → (if b then suc (agents_below ds j) else agents_below ds j) ≡ (if b then suc (agents_below ds k) else agents_below ds k) → agents_below ds j ≡ agents_below ds k
    go true e = omega (arith, e)
    go false e = e

pub same_id : (c d : CellId) → c.kind ≡ d.kind → c.number ≡ d.number → c ≡ d
same_id c d p q = rw (p, q) refl

pub agent_there : (cells : List StoreCell) (g : CellId) → has_agent cells g ≡ true → (g.kind ≡ Agent) × (agent_at cells g.number ≡ true)
agent_there cells g h =
    let b = both (same_kind g.kind Agent) (has_cell cells g) h in
    let k = is_agent_kind g.kind b.0 in
    (k, subst (λ i. is_of_kind i (nth cells g.number) ≡ true) k b.1)

less_sum : (m i j : ℕ) → m + i ≡ m + j → i ≡ j
less_sum m i j h = omega (arith, h)

-- two agents of one actor are one
pub one_agent : (cells : List StoreCell) (threads : ℕ) (g h : CellId) → has_agent cells g ≡ true → has_agent cells h ≡ true → world.actor_of threads cells g ≡ world.actor_of threads cells h → g ≡ h
one_agent cells threads g h hg hh e =
    let x = agent_there cells g hg in
    let y = agent_there cells h hh in
    same_id g h (x.0 ∙ sym y.0) (one_number cells g.number h.number x.1 y.1 (less_sum threads (agents_below cells g.number) (agents_below cells h.number) e))

-- an agent's actor isn't a thread's
pub no_thread : (m n : ℕ) → nat_lt (m + n) m ≡ true → ⊥
no_thread m n h = let z = ltb-true (m + n) m h in omega (arith, z)

-- ---- other actors

append_none : (xs : List Event) → xs ++ [] ≡ xs
append_none [] = refl
append_none (x ∷ xs) = ap (λ l. x ∷ l) (append_none xs)

pub each_behind : (P : List Event → Event → Type 0) (done es more : List Event) → Each P done (es ++ more) → Each P (done ++ es) more
each_behind P done [] more h = subst (λ l. Each P l more) (sym (append_none done)) h
each_behind P done (e ∷ es) more h = subst (λ l. Each P l more) (append_assoc done (e ∷ []) es) (each_behind P (done ++ e ∷ []) es more h.1)

module _ (cells : List StoreCell) (threads : ℕ) (g : CellId) where
  abbrev a : ℕ
  a = world.actor_of threads cells g

  -- another actor makes no action of this agent
  not_acts : (b : ℕ) (d : EventKind) → (b ≡ a → ⊥) → makes cells threads b d ≡ true → acts_for g.number d ≡ false
  not_acts b (event.Read c) n m = refl
  not_acts b (event.Commit at view ws sends) n m = refl
  not_acts b (event.Retry since c cause) n m = refl
  not_acts b (event.Fail at view) n m = refl
  not_acts b (event.Refused at view h) n m = refl
  not_acts b (event.Send x) n m = refl
  not_acts b (event.SendRefused h) n m = refl
  not_acts b (event.Act h i new sends) n m = go (h.number == g.number) refl
    where
      go : (t : Bool) → (h.number == g.number) ≡ t → t ≡ false
      go true e = absurd (n (numbers b (world.actor_of threads cells h) m ∙ ap (λ k. threads + agents_below cells k) (numbers h.number g.number e)))
      go false e = refl
  not_acts b (event.Swap new) n m = refl
  not_acts b (event.Broke at) n m = refl

  none_act : (b : ℕ) (done es : List Event) → (b ≡ a → ⊥) → AreOwn b es → Each (λ l e. makes cells threads e.actor e.kind ≡ true) done es → no_acts g.number es ≡ true
  none_act b done [] n own m = refl
  none_act b done (e ∷ es) n own m =
      ap (λ t. not t && no_acts g.number es) (not_acts b e.kind n (subst (λ i. makes cells threads i e.kind ≡ true) own.0 m.0)) ∙ none_act b (done ++ e ∷ []) es n own.1 m.1

  pub others_act_not : (b : ℕ) (book more : List Event) → (b ≡ a → ⊥) → AreOwn b more → Legal cells threads (book ++ more) → no_acts g.number more ≡ true
  others_act_not b book more n own l = none_act b book more n own (each_behind (λ d e. makes cells threads e.actor e.kind ≡ true) [] book more l.made)
