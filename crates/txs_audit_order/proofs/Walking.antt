-- What traces say of the order of events, one place, entry or cell after the other.
use Rattle.std.proofs.Common.{◌≡◌, ◌<◌, ◌≤◌, ◌+◌, ℕ, zero, suc, Bool, true, false, List, [], ◌∷◌, ◌++◌, length, map, get_or, drop, Option, Some, None, refl, sym, ap, ◌∙◌, subst, arith, if◌then◌else◌}
use Rattle.std.proofs.Math.Path.{fun_ext}
use Rattle.std.proofs.lemmas.List.{drop_more}
use Rattle.txs_value_data.specs.Places.{nth}
use Rattle.txs_value_cell.specs.Agents.{agents_from, with_agent}
use Rattle.txs_value_cell.specs.declared.cell.CellDefinition.{CellDefinition}
use Rattle.txs_value_data.specs.declared.value.CellId.{CellId}
use Rattle.txs_value_data.specs.declared.value.CellKind.{CellKind}
use Rattle.txs_value_data.specs.declared.value.CellKind.TheVariants.{Ref, Atom, Agent}
use Rattle.txs_world_protocol.specs.declared.event.Event.{Event}
use Rattle.txs_world_protocol.specs.declared.event.EventKind.{EventKind}
use Rattle.txs_world_protocol.specs.declared.event.Place as event
use Rattle.txs_world_protocol.specs.declared.report.ActorReport.{ActorReport}
use Rattle.txs_theorem_runs.specs.Told.{Place}
use Rattle.txs_theorem_serial.specs.Order.{Link, acts_behind, actor_links, agent_links, as_list, behind_event, event_links, is_over, links_between, links_to, next_event, no_sender, point_of, sender_of, senders_from, thread_links, trace_links}
use Rattle.txs_audit_order.specs.declared.links.Before.{Before}
use Rattle.txs_audit_order.specs.declared.traces.Known.{Known}
use Rattle.txs_audit_order.specs.Linked.{IsBehind, IsCell, agent_said, agents_to, behind_as, cell_said, links_in, next_of, sender_in, sent_place, spots_as, with_links}
use Rattle.txs_audit_order.specs.Ordered.{place_as, traces_in}
use Rattle.txs_audit_order.specs.Sent.{in_store}
use Rattle.txs_audit_order.proofs.Linking.{links_append}

-- ---- places

next_same : (b : ℕ) (book : List Event) (o : Option ℕ) → next_of b (length book) o ≡ next_event b book o
next_same b book None = refl
next_same b book (Some k) = refl

acts_more : (j i : ℕ) (t : Bool) → j ≤ i → (if t then suc j else j) ≤ i + 1
acts_more j i true le = omega (arith, le)
acts_more j i false le = omega (arith, le)

-- an event behind which so many actions are over
pub acts_few : (senders : List ℕ) (known now : Known) (q : Place) (kind : EventKind) (i : ℕ) → IsBehind senders known q kind now → known.acts ≤ i → now.acts ≤ i + 1
acts_few senders known now q kind i h le = subst (λ n. n ≤ i + 1) (sym h.acts) (acts_more known.acts i (is_over kind) le)

-- what the places of a trace say from the i-th on, as far as what is known behind those before it goes
abbrev pub said_from : (ℕ → List Event) → List ℕ → Known → List event.Place → List Link
said_from books senders known ps = trace_links books (sender_in senders) known.acts (spots_as known.last) (behind_as known.behind) (map place_as ps)

-- a place with an event
pub place_said : (books : ℕ → List Event) (senders : List ℕ) (trace : List event.Place) (i : ℕ) (p : event.Place) (known now : Known) (rows new : List (List Before)) (e : Event)
    → drop i trace ≡ p ∷ drop (i + 1) trace → nth (books p.book) p.at ≡ Some e → new ≡ with_links rows (links_in known (place_as p) (length (books p.book)) e.kind)
    → IsBehind senders known (place_as p) e.kind now
    → with_links new (said_from books senders now (drop (i + 1) trace)) ≡ with_links rows (said_from books senders known (drop i trace))
place_said books senders trace i p known now rows new e there at is h =
    ap (λ j. with_links new (go j (spots_as now.last) (behind_as now.behind))) h.acts
    ∙ ap (λ l. with_links new (go (acts_behind known.acts e.kind) l (behind_as now.behind))) h.last
    ∙ ap (λ b. with_links new (go (acts_behind known.acts e.kind) (q ∷ []) b)) h.behind
    ∙ ap (λ r. with_links r others) is
    ∙ sym (links_append rows (links_in known q (length (books p.book)) e.kind) others)
    ∙ ap (λ l. with_links rows ((links_to (spots_as known.last) q ++ (links_to (behind_as known.behind) q ++ links_between (behind_as known.behind) l)) ++ others)) (next_same p.book (books p.book) (point_of e.kind))
    ∙ ap (λ o. with_links rows (event_links books (sender_in senders) known.acts (spots_as known.last) (behind_as known.behind) q o go)) (sym at)
    ∙ ap (λ ps. with_links rows (said_from books senders known ps)) (sym there)
  where
    q : Place
    q = place_as p

    go : ℕ → List Place → List Place → List Link
    go j last behind = trace_links books (sender_in senders) j last behind (map place_as (drop (i + 1) trace))

    others : List Link
    others = go (acts_behind known.acts e.kind) (q ∷ []) (behind_event (sender_in senders) known.acts (behind_as known.behind) q e.kind)

-- a place without an event
pub no_place_said : (books : ℕ → List Event) (senders : List ℕ) (trace : List event.Place) (i : ℕ) (p : event.Place) (known : Known) (rows : List (List Before))
    → drop i trace ≡ p ∷ drop (i + 1) trace → nth (books p.book) p.at ≡ None → with_links rows (said_from books senders known (drop (i + 1) trace)) ≡ with_links rows (said_from books senders known (drop i trace))
no_place_said books senders trace i p known rows there at =
    ap (λ o. with_links rows (event_links books (sender_in senders) known.acts (spots_as known.last) (behind_as known.behind) (place_as p) o (λ j last behind. trace_links books (sender_in senders) j last behind (map place_as (drop (i + 1) trace))))) (sym at)
    ∙ ap (λ ps. with_links rows (said_from books senders known ps)) (sym there)

-- ---- threads

-- an entry of a thread
pub thread_said : (books : ℕ → List Event) (rans : List ActorReport) (i : ℕ) (ran : ActorReport) (trace : List event.Place) (rows new : List (List Before)) → i < length rans → ran ≡ get_or rans i ran → trace ≡ ran.trace.items
    → new ≡ with_links rows (actor_links books (sender_in []) (map place_as trace))
    → with_links new (thread_links books (traces_in (drop (i + 1) rans))) ≡ with_links rows (thread_links books (traces_in (drop i rans)))
thread_said books rans i ran trace rows new lt is it put =
    ap (λ r. with_links r others) (put ∙ ap (λ t. with_links rows (actor_links books no_sender (map place_as t))) it)
    ∙ sym (links_append rows (actor_links books no_sender (map place_as ran.trace.items)) others)
    ∙ ap (λ rs. with_links rows (thread_links books (traces_in rs))) (sym (drop_more rans i ran lt ∙ ap (λ x. x ∷ drop (i + 1) rans) (sym is)))
  where
    others : List Link
    others = thread_links books (traces_in (drop (i + 1) rans))

-- ---- agents

sent_same : (ks : List ℕ) (j : ℕ) → sent_place (nth ks j) ≡ as_list (nth (map in_store ks) j)
sent_same [] j = refl
sent_same (k ∷ ks) zero = refl
sent_same (k ∷ ks) (suc j) = sent_same ks j

-- who sent the actions of an agent
sender_same : (senders : List ℕ) (g : ℕ) (book : List Event) → map in_store senders ≡ senders_from g 0 book → sender_in senders ≡ sender_of g book
sender_same senders g book is = fun_ext (λ j. sent_same senders j ∙ ap (λ l. as_list (nth l j)) is)

drop_here : {A : Type 0} (xs : List A) (k : ℕ) (x : A) → nth xs k ≡ Some x → drop k xs ≡ x ∷ drop (suc k) xs
drop_here [] k x is = absurd (cc)
drop_here (y ∷ xs) zero x is = (let e : y ≡ x = cc in ap (λ z. z ∷ xs) e)
drop_here (y ∷ xs) (suc k) x is = drop_here xs k x is

drop_past : {A : Type 0} (xs : List A) (k : ℕ) → nth xs k ≡ None → drop k xs ≡ []
drop_past [] zero is = refl
drop_past [] (suc k) is = refl
drop_past (y ∷ xs) zero is = absurd (cc)
drop_past (y ∷ xs) (suc k) is = drop_past xs k is

drop_next : {A : Type 0} (xs : List A) (k : ℕ) → nth xs k ≡ None → drop (suc k) xs ≡ []
drop_next [] k is = refl
drop_next (y ∷ xs) zero is = absurd (cc)
drop_next (y ∷ xs) (suc k) is = drop_next xs k is

no_traces : (books : ℕ → List Event) (gs : List CellId) → agent_links books gs [] ≡ []
no_traces books [] = refl
no_traces books (g ∷ gs) = refl

-- an agent's cell, by the entry that there is
agent_goes : (books : ℕ → List Event) (senders : List ℕ) (traces : List (List Place)) (i agent : ℕ) (gs : List CellId) (rows : List (List Before)) → map in_store senders ≡ senders_from i 0 (books 0)
    → (o : Option (List Place)) → nth traces agent ≡ o
    → with_links (with_links rows (agent_said books (sender_in senders) o)) (agent_links books gs (drop (suc agent) traces)) ≡ with_links rows (agent_links books (record { kind = Agent; number = i } ∷ gs) (drop agent traces))
agent_goes books senders traces i agent gs rows sent None e =
    ap (λ ts. with_links rows (agent_links books gs ts)) (drop_next traces agent e) ∙ ap (with_links rows) (no_traces books gs)
    ∙ ap (λ ts. with_links rows (agent_links books (record { kind = Agent; number = i } ∷ gs) ts)) (sym (drop_past traces agent e))
agent_goes books senders traces i agent gs rows sent (Some t) e =
    sym (links_append rows (actor_links books (sender_in senders) t) others)
    ∙ ap (λ s. with_links rows (actor_links books s t ++ others)) (sender_same senders i (books 0) sent)
    ∙ ap (λ ts. with_links rows (agent_links books (record { kind = Agent; number = i } ∷ gs) ts)) (sym (drop_here traces agent t e))
  where
    others : List Link
    others = agent_links books gs (drop (suc agent) traces)

-- a cell, by its kind
cell_goes : (books : ℕ → List Event) (senders : List ℕ) (traces : List (List Place)) (i agent : ℕ) (gs : List CellId) (rows : List (List Before)) → map in_store senders ≡ senders_from i 0 (books 0)
    → (kind : CellKind)
    → with_links (with_links rows (cell_said books senders traces kind agent)) (agent_links books gs (drop (agents_to kind agent) traces)) ≡ with_links rows (agent_links books (with_agent kind i gs) (drop agent traces))
cell_goes books senders traces i agent gs rows sent Ref = refl
cell_goes books senders traces i agent gs rows sent Atom = refl
cell_goes books senders traces i agent gs rows sent Agent = agent_goes books senders traces i agent gs rows sent (nth traces agent) refl

-- one cell more
pub cell_moves : (books : ℕ → List Event) (senders : List ℕ) (traces : List (List Place)) (cells : List CellDefinition) (i agent next : ℕ) (cell : CellDefinition) (rows new : List (List Before)) → i < length cells → cell ≡ get_or cells i cell
    → map in_store senders ≡ senders_from i 0 (books 0) → IsCell books senders traces cell.kind agent rows new next
    → with_links new (agent_links books (agents_from (i + 1) (drop (i + 1) cells)) (drop next traces)) ≡ with_links rows (agent_links books (agents_from i (drop i cells)) (drop agent traces))
cell_moves books senders traces cells i agent next cell rows new lt is sent h =
    ap (λ r. with_links r (agent_links books (agents_from (i + 1) rest) (drop next traces))) h.rows_are
    ∙ ap (λ n. with_links (with_links rows (cell_said books senders traces cell.kind agent)) (agent_links books (agents_from (i + 1) rest) (drop n traces))) h.next_is
    ∙ ap (λ n. with_links (with_links rows (cell_said books senders traces cell.kind agent)) (agent_links books (agents_from n rest) (drop (agents_to cell.kind agent) traces))) one
    ∙ cell_goes books senders traces i agent (agents_from (suc i) rest) rows sent cell.kind
    ∙ ap (λ ds. with_links rows (agent_links books (agents_from i ds) (drop agent traces))) (sym (drop_more cells i cell lt ∙ ap (λ x. x ∷ rest) (sym is)))
  where
    rest : List CellDefinition
    rest = drop (i + 1) cells

    one : i + 1 ≡ suc i
    one = omega arith

to_few : (kind : CellKind) (agent i : ℕ) → agent ≤ i → agents_to kind agent ≤ i + 1
to_few Ref agent i le = omega (arith, le)
to_few Atom agent i le = omega (arith, le)
to_few Agent agent i le = omega (arith, le)

pub agents_few : (books : ℕ → List Event) (senders : List ℕ) (traces : List (List Place)) (kind : CellKind) (i agent next : ℕ) (rows new : List (List Before)) → agent ≤ i → IsCell books senders traces kind agent rows new next → next ≤ i + 1
agents_few books senders traces kind i agent next rows new le h = subst (λ n. n ≤ i + 1) (sym h.next_is) (to_few kind agent i le)
