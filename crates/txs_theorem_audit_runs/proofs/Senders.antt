-- Which events sent an agent its actions: of each action that it has run or that waits there is one, and it stays so as the book grows.
use Rattle.std.proofs.Common.{◌≡◌, ◌<◌, ◌+◌, ℕ, zero, suc, Bool, true, false, not, ◌==◌, List, [], ◌∷◌, ◌++◌, length, replicate, drop, Option, Some, None, Result, Ok, Err, if◌then◌else◌, refl, sym, ap, ◌∙◌, subst, arith, append_assoc}
use Rattle.std.proofs.lemmas.Bool.{false≢true}
use Rattle.std.proofs.lemmas.List.{append-nil, length-append, length-replicate}
use Rattle.txs_value_data.specs.Places.{nth}
use Rattle.txs_value_data.specs.declared.fault.Fault.{Fault}
use Rattle.txs_value_cell.specs.declared.action.Action.{Action}
use Rattle.txs_value_data.specs.declared.value.CellId.{CellId}
use Rattle.txs_value_data.specs.declared.value.Value.{Value}
use Rattle.txs_value_data.proofs.SameLemmas.{numbers, number-itself}
use Rattle.txs_world_protocol.specs.declared.event.Event.{Event}
use Rattle.txs_world_protocol.specs.declared.event.EventKind.{EventKind}
use Rattle.txs_world_protocol.specs.declared.event.EventKind.TheVariants as event
use Rattle.txs_world_book.specs.Book.{Mail, no_mail, sent_to, mailed, acted, mail_changed, mail_from, mail_after, goes_on, waits, has_agent, makes, LegalKind, Each, Legal}
use Rattle.txs_world_book.specs.Book as world
use Rattle.txs_world_book.proofs.Growth.{mail_last}
use Rattle.txs_world_book.proofs.Outcomes.{both}
use Rattle.txs_world_book.specs.declared.cell.StoreCell.{StoreCell}
use Rattle.txs_world.specs.Laws.{acts_for, no_acts}
use Rattle.txs_world.specs.Store.{first_action, next_action}
use Rattle.txs_theorem_runs.specs.Told.{Place}
use Rattle.txs_theorem_runs.proofs.Acting.{one_agent, each_behind}
use Rattle.txs_theorem_runs.proofs.Booked.{item_at}
use Rattle.txs_theorem_serial.specs.Order.{is_over, acts_behind, sent_by, senders_from, as_list, sender_of}
use Rattle.txs_theorem_audit_runs.proofs.Times.{Time, IsPast, AllPast}
use Rattle.txs_theorem_audit_runs.proofs.Walk.{IsSent}

-- ---- lists

abbrev is_some : {A : Type 0} → Option A → Type 0
is_some None = ⊥
is_some (Some x) = Unit {0}

pub nth_front : {A : Type 0} (xs ys : List A) (j : ℕ) (x : A) → nth xs j ≡ Some x → nth (xs ++ ys) j ≡ Some x
nth_front [] ys j x e = absurd (subst is_some (sym e) tt)
nth_front (y ∷ xs) ys zero x e = e
nth_front (y ∷ xs) ys (suc j) x e = nth_front xs ys j x e

pub nth_within : {A : Type 0} (xs : List A) (j : ℕ) (x : A) → nth xs j ≡ Some x → j < length xs
nth_within [] j x e = absurd (subst is_some (sym e) tt)
nth_within (y ∷ xs) zero x e = omega arith
nth_within (y ∷ xs) (suc j) x e = let h = nth_within xs j x e in omega (arith, h)

pub nth_last : {A : Type 0} (xs : List A) (x : A) → nth (xs ++ x ∷ []) (length xs) ≡ Some x
nth_last [] x = refl
nth_last (y ∷ xs) x = nth_last xs x

-- ---- as the book grows

senders_append : (g k : ℕ) (es more : List Event) → senders_from g k (es ++ more) ≡ senders_from g k es ++ senders_from g (k + length es) more
senders_append g k [] more = let e : k ≡ k + 0 = omega arith in ap (λ n. senders_from g n more) e
senders_append g k (e ∷ es) more =
    let n : suc k + length es ≡ k + length (e ∷ es) = omega arith in
    let here = replicate (length (sent_to g (sent_by e.kind))) (record { book = 0; at = k }) in
    ap (λ ps. here ++ ps) (senders_append g (suc k) es more) ∙ ap (λ i. here ++ (senders_from g (suc k) es ++ senders_from g i more)) n
    ∙ sym (append_assoc here (senders_from g (suc k) es) (senders_from g (k + length (e ∷ es)) more))

-- who sent an action stays so
pub sender_stays : (g : ℕ) (book more : List Event) (j : ℕ) → IsSent true (sender_of g book j) → sender_of g (book ++ more) j ≡ sender_of g book j
sender_stays g book more j h = ap (λ ps. as_list (nth ps j)) (senders_append g 0 book more) ∙ go (nth (senders_from g 0 book) j) refl h
  where
    go : (o : Option Place) → nth (senders_from g 0 book) j ≡ o → IsSent true (as_list o) → as_list (nth (senders_from g 0 book ++ senders_from g (0 + length book) more) j) ≡ as_list o
    go None e k = absurd k
    go (Some p) e k = ap as_list (nth_front (senders_from g 0 book) (senders_from g (0 + length book) more) j p e)

-- ---- the senders are in the book

past_append : (time : Time) (now : ℕ) (ps qs : List Place) → AllPast time now ps → AllPast time now qs → AllPast time now (ps ++ qs)
past_append time now [] qs h k = k
past_append time now (p ∷ ps) qs h k = (h.0, past_append time now ps qs h.1 k)

past_replicate : (time : Time) (now : ℕ) (n : ℕ) (p : Place) → IsPast time now p → AllPast time now (replicate n p)
past_replicate time now zero p h = tt
past_replicate time now (suc n) p h = (h, past_replicate time now n p h)

senders_past : (time : Time) (now : ℕ) (g k : ℕ) (es : List Event) → ((i : ℕ) → i < k + length es → time 0 i < now) → AllPast time now (senders_from g k es)
senders_past time now g k [] h = tt
senders_past time now g k (e ∷ es) h =
    past_append time now (replicate (length (sent_to g (sent_by e.kind))) (record { book = 0; at = k })) (senders_from g (suc k) es)
    (past_replicate time now (length (sent_to g (sent_by e.kind))) (record { book = 0; at = k }) (h k (omega arith)))
    (senders_past time now g (suc k) es (λ i l. h i (omega (arith, l))))

nth_past : (time : Time) (now : ℕ) (ps : List Place) (j : ℕ) → AllPast time now ps → AllPast time now (as_list (nth ps j))
nth_past time now [] j h = tt
nth_past time now (p ∷ ps) zero h = (h.0, tt)
nth_past time now (p ∷ ps) (suc j) h = nth_past time now ps j h.1

pub sender_past : (time : Time) (now : ℕ) (g : ℕ) (book : List Event) (j : ℕ) → ((i : ℕ) → i < length book → time 0 i < now) → AllPast time now (sender_of g book j)
sender_past time now g book j h = nth_past time now (senders_from g 0 book) j (senders_past time now g 0 book (λ i l. h i (omega (arith, l))))

-- ---- the actions of an agent

-- how many actions came to the agent: those that it has run, and those that wait
abbrev came : Mail → ℕ
came m = m.acts + length m.actions

came_mailed : (xs : List Action) (m : Mail) → came (mailed xs m) ≡ length xs + came m
came_mailed xs m = let h = length-append m.actions xs in omega (arith, h)

waits_drop : (xs : List Action) → waits xs ≡ true → suc (length (drop 1 xs)) ≡ length xs
waits_drop [] h = absurd (false≢true h)
waits_drop (x ∷ xs) h = refl

came_acted : (goes : Bool) (new : Result Value Fault) (m : Mail) → waits m.actions ≡ true → came (acted goes new m) ≡ came m
came_acted goes (Ok v) m h = let e = waits_drop m.actions h in omega (arith, e)
came_acted true (Err f) m h = let e = waits_drop m.actions h in omega (arith, e)
came_acted false (Err f) m h = let e = waits_drop m.actions h in omega (arith, e)

none_came : (m : Mail) → came m ≡ 0 + came m
none_came m = omega arith

came_changed : (goes : Bool) (k : ℕ) (kind : EventKind) (m : Mail) → (acts_for k kind ≡ true → waits m.actions ≡ true) → came (mail_changed goes k kind m) ≡ length (sent_to k (sent_by kind)) + came m
came_changed goes k (event.Read c) m h = none_came m
came_changed goes k (event.Commit at view ws sends) m h = came_mailed (sent_to k sends) m
came_changed goes k (event.Retry since c cause) m h = none_came m
came_changed goes k (event.Fail at view) m h = none_came m
came_changed goes k (event.Refused at view g) m h = none_came m
came_changed goes k (event.Send x) m h = came_mailed (sent_to k (x ∷ [])) m
came_changed goes k (event.SendRefused g) m h = none_came m
came_changed goes k (event.Act g n new sends) m h =
    came_mailed (sent_to k sends) (if g.number == k then acted goes new m else m) ∙ ap (λ i. length (sent_to k sends) + i) (go (g.number == k) refl)
  where
    go : (b : Bool) → (g.number == k) ≡ b → came (if b then acted goes new m else m) ≡ came m
    go true e = came_acted goes new m (h e)
    go false e = refl
came_changed goes k (event.Swap new) m h = none_came m
came_changed goes k (event.Broke at) m h = none_came m

module _ (cells : List StoreCell) where
  abbrev mail : List Event → ℕ → Mail
  mail book k = mail_after cells book k

  -- an agent runs what waits
  act_waits : (done : List Event) (a k : ℕ) (kind : EventKind) → LegalKind cells done a kind → acts_for k kind ≡ true → waits (mail done k).actions ≡ true
  act_waits done a k (event.Read c) l h = absurd (false≢true h)
  act_waits done a k (event.Commit at view ws sends) l h = absurd (false≢true h)
  act_waits done a k (event.Retry since c cause) l h = absurd (false≢true h)
  act_waits done a k (event.Fail at view) l h = absurd (false≢true h)
  act_waits done a k (event.Refused at view g) l h = absurd (false≢true h)
  act_waits done a k (event.Send x) l h = absurd (false≢true h)
  act_waits done a k (event.SendRefused g) l h = absurd (false≢true h)
  act_waits done a k (event.Act g n new sends) l h = subst (λ i. waits (mail done i).actions ≡ true) (numbers g.number k h) l.2
  act_waits done a k (event.Swap new) l h = absurd l
  act_waits done a k (event.Broke at) l h = absurd l

  -- of each action that came there is a sender
  senders_many : (k n : ℕ) (done es : List Event) → Each (λ l e. LegalKind cells l e.actor e.kind) done es → length (senders_from k n es) + came (mail done k) ≡ came (mail (done ++ es) k)
  senders_many k n done [] l = sym (none_came (mail done k)) ∙ ap (λ b. came (mail b k)) (sym (append-nil done))
  senders_many k n done (e ∷ es) l =
      let place : Place = record { book = 0; at = n } in
      let here = replicate (length (sent_to k (sent_by e.kind))) place in
      let long = length-append here (senders_from k (suc n) es) in
      let many = length-replicate (length (sent_to k (sent_by e.kind))) place in
      let step = ap came (mail_last (goes_on (nth cells k)) k no_mail done e) ∙ came_changed (goes_on (nth cells k)) k e.kind (mail done k) (act_waits done e.actor k e.kind l.0) in
      let rest = senders_many k (suc n) (done ++ e ∷ []) es l.1 in
      let whole = ap (λ b. came (mail b k)) (append_assoc done (e ∷ []) es) in
      omega (arith, long, many, step, rest, whole)

  -- so an action that waits was sent
  pub waiting_sent : (threads : ℕ) (book : List Event) (k : ℕ) → Legal cells threads book → waits (mail book k).actions ≡ true → IsSent true (sender_of k book (mail book k).acts)
  waiting_sent threads book k l h = subst (λ o. IsSent true (as_list o)) (sym found.1) tt
    where
      less : (xs : List Action) (n i : ℕ) → waits xs ≡ true → i ≡ n + length xs → n < i
      less [] n i w e = absurd (false≢true w)
      less (x ∷ xs) n i w e = omega (arith, e)

      found : (p : Place) × (nth (senders_from k 0 book) (mail book k).acts ≡ Some p)
      found =
          let many = senders_many k 0 [] book l.each in
          item_at (senders_from k 0 book) (mail book k).acts (less (mail book k).actions (mail book k).acts (length (senders_from k 0 book)) h (omega (arith, many)))

  first_waits : (b : Bool) (xs : List Action) (x : Action) → first_action b xs ≡ Some x → waits xs ≡ true
  first_waits true xs x e = absurd (subst is_some (sym e) tt)
  first_waits false [] x e = absurd (subst is_some (sym e) tt)
  first_waits false (y ∷ xs) x e = refl

  -- and so what an agent runs next
  pub next_sent : (threads : ℕ) (book : List Event) (g : CellId) (x : Action) → Legal cells threads book → next_action cells book g ≡ Some x → IsSent true (sender_of g.number book (mail book g.number).acts)
  next_sent threads book g x l e = waiting_sent threads book g.number l (first_waits (world.is_failed cells book g) (mail book g.number).actions x e)

-- ---- how many actions an agent has run

acts_acted : (goes : Bool) (new : Result Value Fault) (m : Mail) → (acted goes new m).acts ≡ suc m.acts
acts_acted goes (Ok v) m = refl
acts_acted true (Err f) m = refl
acts_acted false (Err f) m = refl

acts_changed : (goes : Bool) (k : ℕ) (kind : EventKind) (m : Mail) → (mail_changed goes k kind m).acts ≡ (if acts_for k kind then suc m.acts else m.acts)
acts_changed goes k (event.Read c) m = refl
acts_changed goes k (event.Commit at view ws sends) m = refl
acts_changed goes k (event.Retry since c cause) m = refl
acts_changed goes k (event.Fail at view) m = refl
acts_changed goes k (event.Refused at view g) m = refl
acts_changed goes k (event.Send x) m = refl
acts_changed goes k (event.SendRefused g) m = refl
acts_changed goes k (event.Act g n new sends) m = go (g.number == k)
  where
    go : (b : Bool) → (if b then acted goes new m else m).acts ≡ (if b then suc m.acts else m.acts)
    go true = acts_acted goes new m
    go false = refl
acts_changed goes k (event.Swap new) m = refl
acts_changed goes k (event.Broke at) m = refl

not_false : (b : Bool) → not b ≡ true → b ≡ false
not_false true h = absurd (false≢true h)
not_false false h = refl

acts_from : (goes : Bool) (k : ℕ) (m : Mail) (es : List Event) → no_acts k es ≡ true → (mail_from goes k m es).acts ≡ m.acts
acts_from goes k m [] h = refl
acts_from goes k m (e ∷ es) h =
    let o = both (not (acts_for k e.kind)) (no_acts k es) h in
    acts_from goes k (mail_changed goes k e.kind m) es o.1 ∙ acts_changed goes k e.kind m ∙ ap (λ b. if b then suc m.acts else m.acts) (not_false (acts_for k e.kind) o.0)

from_append : (goes : Bool) (k : ℕ) (m : Mail) (es more : List Event) → mail_from goes k m (es ++ more) ≡ mail_from goes k (mail_from goes k m es) more
from_append goes k m [] more = refl
from_append goes k m (e ∷ es) more = from_append goes k (mail_changed goes k e.kind m) es more

-- where none of the events is an action of the agent it has run as many as before
pub acts_stay : (cells : List StoreCell) (book more : List Event) (k : ℕ) → no_acts k more ≡ true → (mail_after cells (book ++ more) k).acts ≡ (mail_after cells book k).acts
acts_stay cells book more k h = ap (λ (m : Mail). m.acts) (from_append (goes_on (nth cells k)) k no_mail book more) ∙ acts_from (goes_on (nth cells k)) k (mail_after cells book k) more h

-- of the agent's actor an action is the agent's own
own_acts : (cells : List StoreCell) (threads : ℕ) (done : List Event) (g : CellId) (a : ℕ) (kind : EventKind) → has_agent cells g ≡ true → a ≡ world.actor_of threads cells g → makes cells threads a kind ≡ true → LegalKind cells done a kind
    → acts_for g.number kind ≡ is_over kind
own_acts cells threads done g a (event.Read c) has own m l = refl
own_acts cells threads done g a (event.Commit at view ws sends) has own m l = refl
own_acts cells threads done g a (event.Retry since c cause) has own m l = refl
own_acts cells threads done g a (event.Fail at view) has own m l = refl
own_acts cells threads done g a (event.Refused at view h) has own m l = refl
own_acts cells threads done g a (event.Send x) has own m l = refl
own_acts cells threads done g a (event.SendRefused h) has own m l = refl
own_acts cells threads done g a (event.Act h n new sends) has own m l =
    let same : h ≡ g = one_agent cells threads h g l.0 has (sym (numbers a (world.actor_of threads cells h) m) ∙ own) in
    ap (λ (d : CellId). d.number == g.number) same ∙ number-itself g.number
own_acts cells threads done g a (event.Swap new) has own m l = refl
own_acts cells threads done g a (event.Broke at) has own m l = refl

-- behind its actor's event it has run one more where that is an action
pub acts_own : (cells : List StoreCell) (threads : ℕ) (book : List Event) (e : Event) (g : CellId) → has_agent cells g ≡ true → e.actor ≡ world.actor_of threads cells g → Legal cells threads (book ++ e ∷ [])
    → (mail_after cells (book ++ e ∷ []) g.number).acts ≡ acts_behind (mail_after cells book g.number).acts e.kind
acts_own cells threads book e g has own l =
    let made = (each_behind (λ d x. makes cells threads x.actor x.kind ≡ true) [] book (e ∷ []) l.made).0 in
    let legal = (each_behind (λ d x. LegalKind cells d x.actor x.kind) [] book (e ∷ []) l.each).0 in
    let m = mail_after cells book g.number in
    ap (λ (x : Mail). x.acts) (mail_last (goes_on (nth cells g.number)) g.number no_mail book e) ∙ acts_changed (goes_on (nth cells g.number)) g.number e.kind m
    ∙ ap (λ b. if b then suc m.acts else m.acts) (own_acts cells threads book g e.actor e.kind has own made legal)
