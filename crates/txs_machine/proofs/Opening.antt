-- The actors of agents before their first turns.
use Rattle.std.proofs.Common.{◌≡◌, ◌<◌, ◌≤◌, ◌+◌, ℕ, zero, suc, true, false, List, [], ◌∷◌, ◌++◌, length, get_or, take, drop, Some, refl, sym, ap, subst, ◌∙◌, arith}
use Rattle.std.proofs.lemmas.Bool.{false≢true}
use Rattle.txs_value_cell.specs.Forms.{same_kind}
use Rattle.txs_value_data.specs.Places.{nth}
use Rattle.txs_value_cell.specs.declared.cell.CellDefinition.{CellDefinition}
use Rattle.txs_value_data.specs.declared.value.CellId.{CellId}
use Rattle.txs_value_data.specs.declared.value.CellKind.{CellKind}
use Rattle.txs_value_data.specs.declared.value.CellKind.TheVariants.{Ref, Atom, Agent}
use Rattle.txs_code_meaning.specs.PlainCode.{PlainCode}
use Rattle.txs_machine_actor.specs.PlainActor.{Lives}
use Rattle.txs_value_cell.proofs.AgentsLemmas.{agents_few}
use Rattle.txs_value_cell.specs.Agents.{agents_from, with_agent}
use Rattle.txs_machine_actor.specs.Turns.{IsNew}
use Rattle.txs_machine.specs.Agents.{agents_of}
use Rattle.txs_machine.specs.Playing.{AreNew}
use Rattle.txs_machine.specs.Plays.{AreOpenedFor}
use Rattle.txs_machine.specs.Running.{AreAttending, IsAgentAt, IsAttending, attendants}
use Rattle.txs_machine.specs.declared.player.AgentPlayer.{AgentPlayer}
use Rattle.txs_machine.proofs.Limits.{new_limited}
use Rattle.txs_machine.proofs.Playing.{nth_read, taken_read}
use Rattle.txs_machine.proofs.Together.{agent_at, as_attending}

-- the actor of an agent before its first turn
pub new_attending : (code : PlainCode) (g : CellId) (k limit : ℕ) (x : AgentPlayer) → x.agent ≡ g → IsAgentAt code g k → Lives code x.player.actor → IsNew code k limit x.player.actor → IsAttending code g k limit x
new_attending code g k limit x e at lives new = record {
  agent = e;
  at = at;
  lives = lives;
  free = new.unasking;
  number = new.number;
  limited = new_limited limit x.player.actor new.limited new.unended new.unused;
}

-- one more of them
pub attending_more : (code : PlainCode) (limit k : ℕ) (gs : List CellId) (xs : List AgentPlayer) (g : CellId) (x : AgentPlayer) → AreAttending code limit k gs xs → IsAttending code g (k + length xs) limit x
    → AreAttending code limit k (gs ++ g ∷ []) (xs ++ x ∷ [])
attending_more code limit k [] [] g x h a = let e : k + 0 ≡ k = omega arith in (subst (λ n. IsAttending code g n limit x) e a, tt)
attending_more code limit k [] (y ∷ xs) g x h a = absurd h
attending_more code limit k (i ∷ gs) [] g x h a = absurd h
attending_more code limit k (i ∷ gs) (y ∷ xs) g x h a =
    let e : k + suc (length xs) ≡ suc k + length xs = omega arith in
    (h.0, attending_more code limit (suc k) gs xs g x h.1 (subst (λ n. IsAttending code g n limit x) e a))

pub new_more : (code : PlainCode) (limit k : ℕ) (xs : List AgentPlayer) (x : AgentPlayer) → AreNew code limit k (attendants xs) → IsNew code (k + length xs) limit x.player.actor → x.player.trace.items ≡ [] → AreNew code limit k (attendants (xs ++ x ∷ []))
new_more code limit k [] x h new none = let e : k + 0 ≡ k = omega arith in (subst (λ n. IsNew code n limit x.player.actor) e new, none, tt)
new_more code limit k (y ∷ xs) x h new none =
    let e : k + suc (length xs) ≡ suc k + length xs = omega arith in
    (h.0, h.1, new_more code limit (suc k) xs x h.2 (subst (λ n. IsNew code n limit x.player.actor) e new) none)

-- one more of both
pub one_opened : (code : PlainCode) (limit k : ℕ) (gs : List CellId) (xs : List AgentPlayer) (g : CellId) (x : AgentPlayer) → AreOpenedFor code limit k gs xs → (n : ℕ) → n ≡ length xs → IsAttending code g (k + n) limit x
    → IsNew code (k + n) limit x.player.actor → x.player.trace.items ≡ [] → AreOpenedFor code limit k (gs ++ g ∷ []) (xs ++ x ∷ [])
one_opened code limit k gs xs g x h n len a new none = record {
  attending = attending_more code limit k gs xs g x h.attending (subst (λ m. IsAttending code g (k + m) limit x) len a);
  opened = new_more code limit k xs x h.opened (subst (λ m. IsNew code (k + m) limit x.player.actor) len new) none;
}

with_append : (k : CellKind) (n : ℕ) (gs hs : List CellId) → with_agent k n (gs ++ hs) ≡ with_agent k n gs ++ hs
with_append Ref n gs hs = refl
with_append Atom n gs hs = refl
with_append Agent n gs hs = refl

-- the agents of cells behind others
agents_append : (n : ℕ) (ds es : List CellDefinition) → agents_from n (ds ++ es) ≡ agents_from n ds ++ agents_from (n + length ds) es
agents_append n [] es = let e : n ≡ n + 0 = omega arith in ap (λ m. agents_from m es) e
agents_append n (d ∷ ds) es =
    let e : suc n + length ds ≡ n + suc (length ds) = omega arith in
    ap (with_agent d.kind n) (agents_append (suc n) ds es) ∙ with_append d.kind n (agents_from (suc n) ds) (agents_from (suc n + length ds) es)
    ∙ ap (λ m. with_agent d.kind n (agents_from (suc n) ds) ++ agents_from m es) e

-- a cell that is no agent adds none
pub others_add : (ds : List CellDefinition) (d : CellDefinition) → same_kind d.kind Agent ≡ false → agents_from 0 (ds ++ d ∷ []) ≡ agents_from 0 ds
others_add ds d e = agents_append 0 ds (d ∷ []) ∙ ap (λ l. agents_from 0 ds ++ l) (go d.kind e) ∙ nil (agents_from 0 ds)
  where
    nil : {A : Type 0} (xs : List A) → xs ++ [] ≡ xs
    nil [] = refl
    nil (x ∷ xs) = ap (λ l. x ∷ l) (nil xs)

    go : (k : CellKind) → same_kind k Agent ≡ false → with_agent k (0 + length ds) [] ≡ []
    go Ref f = refl
    go Atom f = refl
    go Agent f = absurd (false≢true (sym f))

agent_kind : (k : CellKind) (n : ℕ) (gs : List CellId) → same_kind k Agent ≡ true → with_agent k n gs ≡ record { kind = Agent; number = n } ∷ gs
agent_kind Ref n gs e = absurd (false≢true e)
agent_kind Atom n gs e = absurd (false≢true e)
agent_kind Agent n gs e = refl

-- an agent adds itself
pub agent_adds : (ds : List CellDefinition) (d : CellDefinition) → same_kind d.kind Agent ≡ true → agents_from 0 (ds ++ d ∷ []) ≡ agents_from 0 ds ++ record { kind = Agent; number = length ds } ∷ []
agent_adds ds d e =
    let n : 0 + length ds ≡ length ds = omega arith in
    agents_append 0 ds (d ∷ []) ∙ ap (λ l. agents_from 0 ds ++ l) (ap (λ m. with_agent d.kind m []) n ∙ agent_kind d.kind (length ds) [] e)

nth_behind : {A : Type 0} (xs ys : List A) (y : A) → nth (xs ++ y ∷ ys) (length xs) ≡ Some y
nth_behind [] ys y = refl
nth_behind (x ∷ xs) ys y = nth_behind xs ys y

split_at : {A : Type 0} (xs : List A) (i : ℕ) (x : A) → nth xs i ≡ Some x → xs ≡ take i xs ++ x ∷ drop (suc i) xs
split_at [] i x e = cc
split_at (y ∷ xs) zero x e = let f : y ≡ x = cc in ap (λ z. z ∷ xs) f
split_at (y ∷ xs) (suc i) x e = ap (λ l. y ∷ l) (split_at xs i x e)

length_taken : {A : Type 0} (xs : List A) (i : ℕ) (x : A) → nth xs i ≡ Some x → length (take i xs) ≡ i
length_taken [] i x e = cc
length_taken (y ∷ xs) zero x e = refl
length_taken (y ∷ xs) (suc i) x e = ap suc (length_taken xs i x e)

-- the next of the agents is at its place
pub next_agent : (code : PlainCode) (i : ℕ) (d : CellDefinition) → nth code.cells i ≡ Some d → same_kind d.kind Agent ≡ true → IsAgentAt code (record { kind = Agent; number = i }) (length code.threads + length (agents_from 0 (take i code.cells)))
next_agent code i d e k = agent_at code (length before) (record { kind = Agent; number = i }) (ap (λ l. nth l (length before)) whole ∙ nth_behind before behind (record { kind = Agent; number = i }))
  where
    before : List CellId
    before = agents_from 0 (take i code.cells)

    behind : List CellId
    behind = agents_from (suc i) (drop (suc i) code.cells)

    many : 0 + length (take i code.cells) ≡ i
    many = let n = length_taken code.cells i d e in omega (arith, n)

    whole : agents_of code ≡ before ++ record { kind = Agent; number = i } ∷ behind
    whole =
        ap (agents_from 0) (split_at code.cells i d e) ∙ agents_append 0 (take i code.cells) (d ∷ drop (suc i) code.cells)
        ∙ ap (λ n. before ++ with_agent d.kind n (agents_from (suc n) (drop (suc i) code.cells))) many
        ∙ ap (λ l. before ++ l) (agent_kind d.kind i behind k)

-- it has the number behind the threads and the agents before it
pub agent_placed : (code : PlainCode) (limit k i : ℕ) (xs : List AgentPlayer) (d : CellDefinition) → i < length code.cells → d ≡ get_or code.cells i d → same_kind d.kind Agent ≡ true → k ≡ length code.threads → (n : ℕ) → n ≡ length xs
    → AreOpenedFor code limit k (agents_from 0 (take i code.cells)) xs → IsAgentAt code (record { kind = Agent; number = i }) (k + n)
agent_placed code limit k i xs d there read kind many n len h =
    let same = as_attending code limit k (agents_from 0 (take i code.cells)) xs h.attending in
    subst (λ (m : ℕ). IsAgentAt code (record { kind = Agent; number = i }) m) (omega (arith, many, same, len)) (next_agent code i d (nth_read code.cells i d there read) kind)

-- all of a list
pub take_whole : {A : Type 0} (xs : List A) (i : ℕ) → length xs ≤ i → take i xs ≡ xs
take_whole [] zero h = refl
take_whole [] (suc i) h = refl
take_whole (x ∷ xs) zero h = absurd (omega (arith, h))
take_whole (x ∷ xs) (suc i) h = ap (λ l. x ∷ l) (take_whole xs i (omega (arith, h)))

taken_few : {A : Type 0} (xs : List A) (i : ℕ) → length (take i xs) ≤ length xs
taken_few [] zero = omega arith
taken_few [] (suc i) = omega arith
taken_few (x ∷ xs) zero = omega arith
taken_few (x ∷ xs) (suc i) = let r = taken_few xs i in omega (arith, r)

pub agents_fit : (code : PlainCode) (limit k i : ℕ) (xs : List AgentPlayer) → AreAttending code limit k (agents_from 0 (take i code.cells)) xs → length xs ≤ length code.cells
agents_fit code limit k i xs h =
    let m = as_attending code limit k (agents_from 0 (take i code.cells)) xs h in
    let a = agents_few 0 (take i code.cells) in
    let b = taken_few code.cells i in
    omega (arith, m, a, b)

-- the agents up to a cell
pub agents_same : (cells : List CellDefinition) (i : ℕ) (d : CellDefinition) → i < length cells → d ≡ get_or cells i d → same_kind d.kind Agent ≡ false → agents_from 0 (take (i + 1) cells) ≡ agents_from 0 (take i cells)
agents_same cells i d l e k = ap (agents_from 0) (taken_read cells i d l e) ∙ others_add (take i cells) d k

pub agents_next : (cells : List CellDefinition) (i : ℕ) (d : CellDefinition) → i < length cells → d ≡ get_or cells i d → same_kind d.kind Agent ≡ true → agents_from 0 (take (i + 1) cells) ≡ agents_from 0 (take i cells) ++ record { kind = Agent; number = i } ∷ []
agents_next cells i d l e k =
    ap (agents_from 0) (taken_read cells i d l e) ∙ agent_adds (take i cells) d k
    ∙ ap (λ n. agents_from 0 (take i cells) ++ record { kind = Agent; number = n } ∷ []) (length_taken cells i d (nth_read cells i d l e))
