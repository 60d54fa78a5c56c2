-- What is in an agent's mail the code sent: so the agent may run it. And all values in the books of such a run name defined cells alone.
use Rattle.std.proofs.Common.{◌≡◌, ◌<◌, ◌+◌, ℕ, zero, suc, Bool, true, false, not, nat_lt, List, [], ◌∷◌, length, Option, Some, None, refl, sym, ap, subst, ◌∙◌, ◌⊎◌, inl, inr, arith}
use Rattle.std.proofs.lemmas.Bool.Decides.{nat_tests}
use Rattle.txs_world_protocol.specs.Ask.{Exchange}
use Rattle.txs_value_apply.specs.Core.{takes}
use Rattle.txs_value_data.specs.Places.{nth}
use Rattle.txs_value_cell.specs.declared.action.Action.{Action}
use Rattle.txs_value_data.specs.declared.fault.Span.{Span}
use Rattle.txs_value_data.specs.declared.op.Callee.{Callee}
use Rattle.txs_value_data.specs.declared.op.Callee.TheVariants as callee
use Rattle.txs_value_data.specs.declared.value.CellId.{CellId}
use Rattle.txs_value_data.specs.declared.value.CellKind.TheVariants.{Agent}
use Rattle.txs_value_data.specs.declared.value.Value.{Value}
use Rattle.txs_code_meaning.specs.Machine.{PlainInstr, SendOf, ThreadCode, agent_code, instr_at, fetch, Configuration, Unfinished, run}
use Rattle.txs_code_meaning.specs.Opening.{opening}
use Rattle.txs_code_meaning.specs.OwnCells.{NamesOwnCells}
use Rattle.txs_code_meaning.specs.PlainCode.{CodeBody, PlainCode, parameters_of, plain_instr, plain_instrs, plain_bodies, function_codes, thread_code, library_of}
use Rattle.txs_code_meaning.specs.WellTyped.{Functions, FunctionKind, a_thread, a_function, CalleeTakes, MayBeSent, WellTypedBody, WellTypedThreads, WellTypedFunctions, WellTyped}
use Rattle.txs_code_meaning.specs.declared.instr.Instr.{Instr}
use Rattle.txs_code_meaning.specs.declared.instr.Instr.TheVariants as instr
use Rattle.txs_machine_actor.specs.PlainActor.{CanSend, MayRun, functions_of, own_body, code_of}
use Rattle.txs_world.specs.Laws.{ServeKeeps}
use Rattle.txs_world_book.specs.Book.{actors}
use Rattle.txs_world_book.specs.Served.{cells_of}
use Rattle.txs_world.specs.Store.{next_action}
use Rattle.txs_theorem_runs.specs.Run.{Play}
use Rattle.txs_theorem_runs.specs.Shared.{Shared}
use Rattle.txs_theorem_runs.specs.Staged.{StagedActor}
use Rattle.txs_theorem_runs.proofs.Asker.{agent_of}
use Rattle.txs_theorem_runs.proofs.Known.{standing_staged}
use Rattle.txs_theorem_runs.proofs.Lawful.{run_known}
use Rattle.txs_theorem_runs.proofs.Sent.{AllSuch, CodeSendsSuch, next_such, run_sends}
use Rattle.txs_theorem_runs.proofs.ServedKnown.{BookKnown}
use Rattle.txs_theorem_runs.proofs.Told.{fresh_stands}
use Rattle.txs_theorem_runs.proofs.Typed.{agent_sends, thread_sends, typed_agents_stand, typed_stands}
use Rattle.txs_world_shared.specs.SharedState.{PlainShared}
use Rattle.txs_machine.specs.RunOver.{books_of}
use Rattle.txs_machine.specs.Running.{IsRunBy}
use Rattle.txs_machine.specs.declared.player.AgentPlayer.{AgentPlayer}
use Rattle.txs_machine.specs.declared.player.Player.{Player}
use Rattle.txs_machine.proofs.OwnCells.{code_known}
use Rattle.txs_machine.proofs.RunOver.{ValuesKnown}
use Rattle.txs_machine.proofs.Together.{agent_acts, agent_at}
use Rattle.txs_value_cell.specs.Cells.{validators_of}

abbrev is_some : {A : Type 0} → Option A → Type 0
is_some None = ⊥
is_some (Some x) = Unit {0}

abbrev or_else : {A : Type 0} → A → Option A → A
or_else d None = d
or_else d (Some x) = x

-- ---- sends

-- the callee of a send
abbrev callee_of : Option PlainInstr → Option Callee
callee_of (Some (SendOf f n span)) = Some f
callee_of _ = None

-- and how many arguments it has
abbrev count_of : Option PlainInstr → Option ℕ
count_of (Some (SendOf f n span)) = Some n
count_of _ = None

-- what the machine sees as a send is one
send_there : (ps : List ℕ) (ks : List Value) (i : Instr) (span : Span) (f : Callee) (n : ℕ) (at : Span) → Some (plain_instr ps ks i span) ≡ Some (SendOf f n at) → i ≡ instr.Send f n
send_there ps ks (instr.Send g m) span f n at e = ap (λ h. instr.Send h m) (ap (or_else g) (ap callee_of e)) ∙ ap (λ k. instr.Send f k) (ap (or_else m) (ap count_of e))
send_there ps ks (instr.Const k) span f n at e = absurd (subst is_some (sym (ap callee_of e)) tt)
send_there ps ks (instr.Local k) span f n at e = absurd (subst is_some (sym (ap callee_of e)) tt)
send_there ps ks (instr.Store k) span f n at e = absurd (subst is_some (sym (ap callee_of e)) tt)
send_there ps ks instr.Pop span f n at e = absurd (subst is_some (sym (ap callee_of e)) tt)
send_there ps ks (instr.Jump to) span f n at e = absurd (subst is_some (sym (ap callee_of e)) tt)
send_there ps ks (instr.JumpFalse to) span f n at e = absurd (subst is_some (sym (ap callee_of e)) tt)
send_there ps ks (instr.Core op k) span f n at e = absurd (subst is_some (sym (ap callee_of e)) tt)
send_there ps ks (instr.Call g) span f n at e = absurd (subst is_some (sym (ap callee_of e)) tt)
send_there ps ks instr.Return span f n at e = absurd (subst is_some (sym (ap callee_of e)) tt)
send_there ps ks (instr.Vector k) span f n at e = absurd (subst is_some (sym (ap callee_of e)) tt)
send_there ps ks (instr.Print k) span f n at e = absurd (subst is_some (sym (ap callee_of e)) tt)
send_there ps ks (instr.Look look) span f n at e = absurd (subst is_some (sym (ap callee_of e)) tt)
send_there ps ks (instr.Put put) span f n at e = absurd (subst is_some (sym (ap callee_of e)) tt)
send_there ps ks instr.TxBegin span f n at e = absurd (subst is_some (sym (ap callee_of e)) tt)
send_there ps ks instr.TxEnd span f n at e = absurd (subst is_some (sym (ap callee_of e)) tt)
send_there ps ks (instr.Open form k) span f n at e = absurd (subst is_some (sym (ap callee_of e)) tt)
send_there ps ks (instr.Close form) span f n at e = absurd (subst is_some (sym (ap callee_of e)) tt)
send_there ps ks instr.Halt span f n at e = absurd (subst is_some (sym (ap callee_of e)) tt)

-- ---- instructions as the machine sees them

-- at a place of these instructions the machine sees nothing, or one of them with its span
abbrev IsSeen : List ℕ → List Value → List Instr → Option PlainInstr → ℕ → Type 0
IsSeen ps ks is o at = (o ≡ None) ⊎ ((i : Instr) × (span : Span) × (o ≡ Some (plain_instr ps ks i span)) × (nth is at ≡ Some i))

seen_at : (ps : List ℕ) (ks : List Value) (is : List Instr) (spans : List Span) (at : ℕ) → IsSeen ps ks is (nth (plain_instrs ps ks is spans) at) at
seen_at ps ks [] spans at = inl refl
seen_at ps ks (i ∷ is) [] at = inl refl
seen_at ps ks (i ∷ is) (span ∷ spans) zero = inr (i, span, refl, refl)
seen_at ps ks (i ∷ is) (span ∷ spans) (suc at) = seen_at ps ks is spans at

-- so in a function
seen_in : (ps : List ℕ) (ks : List Value) (bs : List CodeBody) (f : ℕ) (b : CodeBody) (at : ℕ) → nth bs f ≡ Some b → IsSeen ps ks b.instrs (instr_at (nth (plain_bodies ps ks bs) f) at) at
seen_in ps ks [] f b at e = absurd (subst is_some (sym e) tt)
seen_in ps ks (x ∷ bs) zero b at e = subst (λ (y : CodeBody). IsSeen ps ks y.instrs (nth (plain_instrs ps ks x.instrs x.spans) at) at) (ap (or_else x) e) (seen_at ps ks x.instrs x.spans at)
seen_in ps ks (x ∷ bs) (suc f) b at e = seen_in ps ks bs f b at e

-- a function whose instruction the machine sees is there
seen_body : (ps : List ℕ) (ks : List Value) (bs : List CodeBody) (f at : ℕ) (i : PlainInstr) → instr_at (nth (plain_bodies ps ks bs) f) at ≡ Some i → (b : CodeBody) × (nth bs f ≡ Some b)
seen_body ps ks [] f at i e = absurd (subst is_some (sym e) tt)
seen_body ps ks (x ∷ bs) zero at i e = (x, refl)
seen_body ps ks (x ∷ bs) (suc f) at i e = seen_body ps ks bs f at i e

-- ---- bodies of well-typed code

thread_typed : (fs : Functions) (ks : List Value) (bs : List CodeBody) (rooms : List ℕ) → WellTypedThreads fs ks bs rooms → (k : ℕ) (b : CodeBody) → nth bs k ≡ Some b → (room : ℕ) × WellTypedBody fs a_thread (length fs.parameters) ks b room
thread_typed fs ks [] rooms h k b e = absurd (subst is_some (sym e) tt)
thread_typed fs ks (x ∷ bs) [] h k b e = absurd h
thread_typed fs ks (x ∷ bs) (room ∷ rooms) h zero b e = (room, subst (λ y. WellTypedBody fs a_thread (length fs.parameters) ks y room) (ap (or_else x) e) h.1)
thread_typed fs ks (x ∷ bs) (room ∷ rooms) h (suc k) b e = thread_typed fs ks bs rooms h.2 k b e

-- a function, with what it is for
record TypedFunction (fs : Functions) (ks : List Value) (b : CodeBody) (kind : FunctionKind) : Type 0 where
  callable : ℕ
  room : ℕ
  typed : WellTypedBody fs (a_function kind) callable ks b room

by_body : (fs : Functions) (n : ℕ) (ks : List Value) (bs : List CodeBody) (kinds : List FunctionKind) (rooms : List ℕ) → WellTypedFunctions fs n ks bs kinds rooms → (f : ℕ) (b : CodeBody) → nth bs f ≡ Some b → (kind : FunctionKind) × TypedFunction fs ks b kind
by_body fs n ks [] kinds rooms h f b e = absurd (subst is_some (sym e) tt)
by_body fs n ks (x ∷ bs) [] rooms h f b e = absurd h
by_body fs n ks (x ∷ bs) (kind ∷ kinds) [] h f b e = absurd h
by_body fs n ks (x ∷ bs) (kind ∷ kinds) (room ∷ rooms) h zero b e = (kind, subst (λ y. TypedFunction fs ks y kind) (ap (or_else x) e) (record { callable = n; room = room; typed = h.1 }))
by_body fs n ks (x ∷ bs) (kind ∷ kinds) (room ∷ rooms) h (suc f) b e = by_body fs (suc n) ks bs kinds rooms h.2 f b e

-- a callee that may be sent, and takes so many values and one more for the state, can be
can_send : (code : PlainCode) (kinds : List FunctionKind) (fs : ℕ) (f : Callee) (n : ℕ) → CalleeTakes fs (parameters_of code.functions) f (n + 1) → MayBeSent kinds f → CanSend (functions_of code kinds) f n
can_send code kinds fs (callee.Core op) n h p = let e : n + 1 ≡ suc n = omega arith in subst (λ m. takes op m ≡ true) e h
can_send code kinds fs (callee.Function g) n h p = let e : n + 1 ≡ suc n = omega arith in (p, subst (λ m. nth (parameters_of code.functions) g ≡ Some m) e h.1)

-- a send's callee takes its arguments, and one more
takes_so : (ps : List ℕ) (ks : List Value) (is : List Instr) (o : Option PlainInstr) (at : ℕ) (f : Callee) (n : ℕ) (span : Span) → o ≡ Some (SendOf f n span) → IsSeen ps ks is o at → nth is at ≡ Some (instr.Send f n)
takes_so ps ks is o at f n span e (inl h) = absurd (subst is_some (sym e ∙ h) tt)
takes_so ps ks is o at f n span e (inr s) = s.3 ∙ ap (λ i. Some i) (send_there ps ks s.0 s.1 f n span (sym s.2 ∙ e))

-- so it is in a function
function_takes : (code : PlainCode) (function_rooms thread_rooms : List ℕ) (w : WellTyped code function_rooms thread_rooms) (g at : ℕ) (f : Callee) (n : ℕ) (span : Span)
    → instr_at (nth (plain_bodies (parameters_of code.functions) code.constants code.functions) g) at ≡ Some (SendOf f n span) → (m : ℕ) × CalleeTakes m (parameters_of code.functions) f (n + 1)
function_takes code function_rooms thread_rooms w g at f n span e =
    let ps = parameters_of code.functions in
    let b = seen_body ps code.constants code.functions g at (SendOf f n span) e in
    let x = by_body (functions_of code w.kinds) 0 code.constants code.functions w.kinds function_rooms w.functions g b.0 b.1 in
    (x.1.callable, x.1.typed.lawful at (instr.Send f n) (takes_so ps code.constants b.0.instrs (instr_at (nth (plain_bodies ps code.constants code.functions) g) at) at f n span e (seen_in ps code.constants code.functions g b.0 at b.1)))

-- ---- what a thread sends

module _ (code : PlainCode) (k : ℕ) (main : CodeBody) (there : nth code.threads k ≡ Some main) (function_rooms thread_rooms : List ℕ) (w : WellTyped code function_rooms thread_rooms) where
  abbrev fs : Functions
  fs = functions_of code w.kinds

  abbrev ps : List ℕ
  ps = parameters_of code.functions

  send_takes : (body at : ℕ) (f : Callee) (n : ℕ) (span : Span) → fetch (thread_code code main) body at ≡ Some (SendOf f n span) → (m : ℕ) × CalleeTakes m ps f (n + 1)
  send_takes zero at f n span e =
      let x = thread_typed fs code.constants code.threads thread_rooms w.threads k main there in
      (length ps, x.1.lawful at (instr.Send f n) (takes_so ps code.constants main.instrs (nth (plain_instrs ps code.constants main.instrs main.spans) at) at f n span e (seen_at ps code.constants main.instrs main.spans at)))
  send_takes (suc g) at f n span e = function_takes code function_rooms thread_rooms w g at f n span e

  send_applies : (m : ℕ) (xs : List Exchange) (c : Configuration) → run (thread_code code main) m (opening (thread_code code main) xs) ≡ Unfinished c → (f : Callee) (n : ℕ) (span : Span) → fetch (thread_code code main) c.body c.place ≡ Some (SendOf f n span) → CanSend fs f n
  send_applies m xs c e f n span i =
      let t = send_takes c.body c.place f n span i in
      can_send code w.kinds t.0 f n t.1 (thread_sends code function_rooms thread_rooms w k main there (record { kind = Agent; number = 0 }) m xs c e f n span i)

-- ---- what an agent's action sends

module _ (code : PlainCode) (g : CellId) (function_rooms thread_rooms : List ℕ) (w : WellTyped code function_rooms thread_rooms) where
  agent_takes : (body at : ℕ) (f : Callee) (n : ℕ) (span : Span) → fetch (agent_code (library_of code) g) body at ≡ Some (SendOf f n span) → (m : ℕ) × CalleeTakes m (parameters_of code.functions) f (n + 1)
  agent_takes zero zero f n span e = absurd (subst is_some (sym (ap callee_of e)) tt)
  agent_takes zero (suc zero) f n span e = absurd (subst is_some (sym (ap callee_of e)) tt)
  agent_takes zero (suc (suc zero)) f n span e = absurd (subst is_some (sym (ap callee_of e)) tt)
  agent_takes zero (suc (suc (suc at))) f n span e = absurd (subst is_some (sym e) tt)
  agent_takes (suc h) at f n span e = function_takes code function_rooms thread_rooms w h at f n span e

  agent_applies : (m : ℕ) (xs : List Exchange) (c : Configuration) → run (agent_code (library_of code) g) m (opening (agent_code (library_of code) g) xs) ≡ Unfinished c → (f : Callee) (n : ℕ) (span : Span) → fetch (agent_code (library_of code) g) c.body c.place ≡ Some (SendOf f n span)
      → CanSend (functions_of code w.kinds) f n
  agent_applies m xs c e f n span i =
      let t = agent_takes c.body c.place f n span i in
      can_send code w.kinds t.0 f n t.1 (agent_sends code function_rooms thread_rooms w g m xs c e f n span i)

body_there : (bs : List CodeBody) (k : ℕ) → k < length bs → (b : CodeBody) × (nth bs k ≡ Some b)
body_there [] k h = absurd (omega (arith, h))
body_there (b ∷ bs) zero h = (b, refl)
body_there (b ∷ bs) (suc k) h = body_there bs k (omega (arith, h))

-- the code of a thread, or of the agent behind them
by_actor : (P : Bool → ThreadCode → Type 0) (code : PlainCode) (k : ℕ) → nat_lt k (actors (length code.threads) (cells_of code.cells)) ≡ true
    → ((b : CodeBody) → nth code.threads k ≡ Some b → P false (thread_code code b)) → ((g : CellId) → P true (agent_code (library_of code) g)) → P (not (nat_lt k (length code.threads))) (code_of code k)
by_actor P code k lt of_thread of_agent = go (nat_lt k (length code.threads)) refl
  where
    go : (t : Bool) → nat_lt k (length code.threads) ≡ t → P (not t) (code_of code k)
    go true e =
        let below : k < length code.threads = grind (arith, nat_tests, e) in
        let b = body_there code.threads k below in
        subst (λ o. P false (record { functions = function_codes code; validators = validators_of code.cells; main = own_body code k o })) (sym b.1) (of_thread b.0 b.1)
    go false e =
        let x = agent_of code.cells (length code.threads) k e lt in
        let a = agent_acts code x.agent x.has in
        subst (P true) (sym (ap (code_of code) (x.is ∙ a.2) ∙ (agent_at code a.0 x.agent a.1).acts)) (of_agent x.agent)

-- actors send such actions alone as an agent may run
sends_may : (code : PlainCode) (k : ℕ) → nat_lt k (actors (length code.threads) (cells_of code.cells)) ≡ true → CodeSendsSuch (MayRun code) (code_of code k)
sends_may code k lt =
    by_actor (λ agent c. CodeSendsSuch (MayRun code) c) code k lt
    (λ b there m xs c e f n span i g vs many function_rooms thread_rooms w.
    subst (CanSend (functions_of code w.kinds) f) (sym many) (send_applies code k b there function_rooms thread_rooms w m xs c e f n span i))
    (λ h m xs c e f n span i g vs many function_rooms thread_rooms w.
    subst (CanSend (functions_of code w.kinds) f) (sym many) (agent_applies code h function_rooms thread_rooms w m xs c e f n span i))

-- ---- the books of a run

actors_staged : (code : PlainCode) (function_rooms thread_rooms : List ℕ) → WellTyped code function_rooms thread_rooms → (k : ℕ) → nat_lt k (actors (length code.threads) (cells_of code.cells)) ≡ true → StagedActor (not (nat_lt k (length code.threads))) (code_of code k)
actors_staged code function_rooms thread_rooms w k lt =
    by_actor StagedActor code k lt (λ b there. standing_staged false (thread_code code b) (typed_stands code function_rooms thread_rooms k b w there))
    (λ g. standing_staged true (agent_code (library_of code) g) (typed_agents_stand code function_rooms thread_rooms g w))

-- what an agent runs next it may run
pub next_may : ServeKeeps → (code : PlainCode) (function_rooms thread_rooms : List ℕ) → WellTyped code function_rooms thread_rooms → (s : PlainShared) (xs : List Player) (gs : List AgentPlayer) (turns : List Play) → IsRunBy code s xs gs turns
    → (g : CellId) (x : Action) → next_action (cells_of code.cells) (books_of s 0) g ≡ Some x → MayRun code x
next_may keeps code function_rooms thread_rooms w s xs gs turns r g x e =
    next_such (MayRun code) (cells_of code.cells) (books_of s 0) g x
    (subst (λ (sh : Shared). AllSuch (MayRun code) (sh.books 0)) (sym r.shared)
    (run_sends (MayRun code) code.cells (length code.threads) (code_of code) (sends_may code) keeps fresh_stands (actors_staged code function_rooms thread_rooms w) turns)) e

-- all values of the books name defined cells alone
pub values_known : ServeKeeps → (code : PlainCode) → NamesOwnCells code → (s : PlainShared) (xs : List Player) (gs : List AgentPlayer) (turns : List Play) → IsRunBy code s xs gs turns → ValuesKnown code (books_of s)
values_known keeps code mine s xs gs turns r opened n =
    subst (λ (sh : Shared). BookKnown code.cells opened (sh.books n)) (sym r.shared)
    (run_known keeps fresh_stands code.cells (length code.threads) (code_of code) turns opened (λ a. code_known code a mine) n)
