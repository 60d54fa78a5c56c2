-- A thread's transactions are those of the commits among its exchanges.
use Rattle.std.proofs.Common.{ℕ, List, [], Option, None, refl, sym, ap, subst, ◌≡◌, ◌∷◌, ◌++◌, ◌∙◌}
use Rattle.std.proofs.lemmas.List.{append_assoc, append-nil}
use Rattle.txs_world_protocol.specs.Ask.{Exchange}
use Rattle.txs_world_protocol.specs.SeenEvent.{SeenEvent}
use Rattle.txs_world_protocol.specs.declared.ask.Ask.{Ask}
use Rattle.txs_world_protocol.specs.declared.ask.Ask.TheVariants as ask
use Rattle.txs_world_protocol.specs.declared.ask.Reply.{Reply}
use Rattle.txs_world_protocol.specs.declared.ask.Reply.TheVariants as reply
use Rattle.txs_value_cell.specs.declared.action.Action.{Action}
use Rattle.txs_value_cell.specs.declared.cell.CellDefinition.{CellDefinition}
use Rattle.txs_value_data.specs.declared.value.Value.{Value}
use Rattle.txs_tree_meaning.specs.Meaning.{Completion, Completes, Recurs, Faults, Retries, Waits, OutOfTurns, Invalid}
use Rattle.txs_tree_meaning.specs.Sound.{SoundSource}
use Rattle.txs_tree_meaning.specs.Thread.{TxRun, ThreadState, thread_meaning}
use Rattle.txs_tree_meaning.specs.Tree.{ThreadSource}
use Rattle.txs_code_meaning.specs.ActorState.{ActorState}
use Rattle.txs_code_meaning.specs.Machine.{ThreadCode, Ended, Failed, Asking, Unfinished, Stuck, Outcome}
use Rattle.txs_code_meaning.specs.Opening.{target}
use Rattle.txs_theorem_threads.proofs.Account.{Account, account_link, after_reply, Noting, HasWaitedOn, asked_noted}
use Rattle.txs_theorem_threads.proofs.Fitted.{reply_then}
use Rattle.txs_theorem_threads.proofs.Follow.{none_left}
use Rattle.txs_theorem_threads.proofs.Related.{Related}
use Rattle.txs_theorem_threads.proofs.Threads.{thread_related}
use Rattle.txs_theorem_threads.proofs.Whole.{grown_to, consumed_grown}
use Rattle.txs_theorem_threads.proofs.Worlds.{asked_of}
use Rattle.txs_theorem_threads.specs.Behaves.{source, IsMeant, outcome_of, Behaves}
use Rattle.txs_theorem_threads.specs.Noted.{txs_of, NotedAt, AreNoted}
use Rattle.txs_theorem_threads.specs.RepliesFit.{Phase, Out, RepliesFit, Halt, Going, Stopped, Short, Rerun, halted, Consumed}

-- ---- exchanges behind others

at_both : (from : Option (List Action)) (q : Ask) (r : Reply) (rest next : List TxRun → Type 0) (xs ys : List TxRun) → ((zs : List TxRun) → rest zs → next (zs ++ ys)) → NotedAt from q r rest xs → NotedAt from q r next (xs ++ ys)
at_both from (ask.Commit p ws rs v cs sends) reply.Done rest next [] ys k h = absurd h
at_both from (ask.Commit p ws rs v cs sends) reply.Done rest next (x ∷ xs) ys k h = (h.0, k xs h.1)
at_both from (ask.Commit p ws rs v cs sends) (reply.AgentIsFailed g) rest next [] ys k h = absurd h
at_both from (ask.Commit p ws rs v cs sends) (reply.AgentIsFailed g) rest next (x ∷ xs) ys k h = (h.0, k xs h.1)
at_both from _ _ rest next xs ys k h = k xs h

pub noted_both : (from : Option (List Action)) (es fs : List Exchange) (xs ys : List TxRun) → AreNoted from es xs → AreNoted from fs ys → AreNoted from (es ++ fs) (xs ++ ys)
noted_both from [] fs [] ys h k = k
noted_both from [] fs (x ∷ xs) ys h k = absurd h
noted_both from (e ∷ es) fs xs ys h k = at_both from e.ask e.reply (λ zs. AreNoted from es zs) (λ zs. AreNoted from (es ++ fs) zs) xs ys (λ zs r. noted_both from es fs zs ys r k) h

-- of the exchanges before these the transactions are noted
abbrev Before : Option (List Action) → List Exchange → List Exchange → List TxRun → Type 0
Before from whole xs txs = (before : List Exchange) × (whole ≡ before ++ xs) × AreNoted from before txs

one_more : (from : Option (List Action)) (whole xs : List Exchange) (x : Exchange) (txs ys : List TxRun) → Before from whole (x ∷ xs) txs → AreNoted from (x ∷ []) ys → Before from whole xs (txs ++ ys)
one_more from whole xs x txs ys h k = (h.0 ++ x ∷ [], h.1 ∙ sym (append_assoc h.0 (x ∷ []) xs), noted_both from h.0 (x ∷ []) txs ys h.2 k)

pub all_noted : (from : Option (List Action)) (whole xs : List Exchange) (txs : List TxRun) → Before from whole xs txs → xs ≡ [] → AreNoted from whole txs
all_noted from whole xs txs h e = subst (λ l. AreNoted from l txs) (sym (h.1 ∙ ap (λ l. h.0 ++ l) e ∙ append-nil h.0)) h.2

-- ---- what a thread is where its tree waits or needs turns

abbrev HaltNoted : Option (List Action) → List Exchange → Halt ThreadState → Type 0
HaltNoted from whole Going = ⊥
HaltNoted from whole (Stopped t) = AreNoted from whole t.txs
HaltNoted from whole (Short t) = AreNoted from whole t.txs
HaltNoted from whole (Rerun t) = ⊥

pub halt_noted : (from : Option (List Action)) (whole : List Exchange) (before out : List ℕ) (txs : List TxRun) (o : Halt ThreadState) → AreNoted from whole txs → HasWaitedOn before out txs o → HaltNoted from whole o
halt_noted from whole before out txs Going n h = absurd h
halt_noted from whole before out txs (Stopped t) n h = subst (AreNoted from whole) (sym h.2) n
halt_noted from whole before out txs (Short t) n h = absurd h
halt_noted from whole before out txs (Rerun t) n h = absurd h

halted_noted : (from : Option (List Action)) (whole : List Exchange) (y : Completion ThreadState Value) → HaltNoted from whole (halted y) → AreNoted from whole (txs_of y)
halted_noted from whole (Completes v t) h = absurd h
halted_noted from whole (Recurs vs t) h = absurd h
halted_noted from whole (Faults f t) h = absurd h
halted_noted from whole (Retries t) h = absurd h
halted_noted from whole (Waits t) h = h
halted_noted from whole (OutOfTurns t) h = h
halted_noted from whole Invalid h = absurd h

-- ---- exchanges that fit, with the transactions that are noted

module _ (cells : List CellDefinition) (before : List ℕ) (from : Option (List Action)) (whole : List Exchange) where
  abbrev NotedFit : Noting
  NotedFit txs ph xs es = RepliesFit cells ph xs es × Before from whole xs txs

  -- behind one more exchange
  pub behind : (q : Ask) (r : Reply) (xs : List Exchange) (txs : List TxRun) → Before from whole (record { ask = q; reply = r } ∷ xs) txs → (ph : Phase) (es : List SeenEvent) → RepliesFit cells ph xs es → after_reply from NotedFit txs q r xs ph es
  behind (ask.Commit p ws rs v cs sends) reply.Done xs txs h ph es f = λ x c. (f, one_more from whole xs (record { ask = ask.Commit p ws rs v cs sends; reply = reply.Done }) txs (x ∷ []) h (c, tt))
  behind (ask.Commit p ws rs v cs sends) (reply.AgentIsFailed g) xs txs h ph es f = λ x c. (f, one_more from whole xs (record { ask = ask.Commit p ws rs v cs sends; reply = reply.AgentIsFailed g }) txs (x ∷ []) h (c, tt))
  behind q r xs txs h ph es f = (f, subst (Before from whole xs) (append-nil txs) (one_more from whole xs (record { ask = q; reply = r }) txs [] h tt))

  abbrev pub noting : Account cells
  noting = record {
    before = before;
    from = from;
    fits = NotedFit;
    splits = λ txs ph q r xs es h. reply_then cells ph q r (λ ph1 es1. RepliesFit cells ph1 xs es1) (after_reply from NotedFit txs q r xs) (behind q r xs txs h.1) es h.0;
    tail = [];
    waits = λ s o. s.todo ≡ [] → HaltNoted from whole o;
    short = λ s o. s.todo ≡ [] → HaltNoted from whole o;
    waits_loose = λ s h o e. absurd (h e);
    short_loose = λ s h o e. absurd (h e);
    short_here = λ s t es f td pr e. all_noted from whole s.todo t.txs f.1 e;
    waiting = λ txs ph s es y own f h e.
        subst (λ l. HaltNoted from whole (halted (y l))) (sym (none_left cells ph s.todo es f.0 e))
        (halt_noted from whole before s.printed txs (halted (y [])) (all_noted from whole s.todo txs f.1 e) (asked_noted (asked_of cells s.wants) before s.printed txs (halted (y [])) h));
    shortage = λ txs ph s es y f h ends e. subst (λ l. HaltNoted from whole (halted (y l))) (sym (none_left cells ph s.todo es f.0 e)) (halt_noted from whole before s.printed txs (halted (y [])) (all_noted from whole s.todo txs f.1 e) h);
  }

  -- the tree's answer, with all exchanges consumed, as the thread's
  pub noted_so : (x : Completion ActorState Value) (y : Completion ThreadState Value) → Related (account_link cells noting) x y → IsMeant x → Consumed (outcome_of x) → AreNoted from whole (txs_of y)
  noted_so (Completes v s) (Completes w t) h m e = all_noted from whole s.todo t.txs h.1.3.1 e
  noted_so (Completes v s) _ h m e = absurd h
  noted_so (Recurs vs s) y h m e = absurd m
  noted_so (Faults f s) (Faults g t) h m e = all_noted from whole s.todo t.txs h.1.4.1 e
  noted_so (Faults f s) _ h m e = absurd h
  noted_so (Retries s) y h m e = absurd m
  noted_so (Waits s) y h m e = halted_noted from whole y (h e)
  noted_so (OutOfTurns s) y h m e = halted_noted from whole y (h e)
  noted_so Invalid y h m e = absurd m

module _ (code : ThreadCode) (p : ThreadSource) (behaves : Behaves code p) (sound : SoundSource p) where
  -- where the machine has consumed all exchanges, so has the tree
  consumed_too : (todo : List Exchange) (m : ℕ) (o : Outcome) → target code m todo ≡ o → IsMeant (source p m todo) → Consumed o → Consumed (outcome_of (source p m todo))
  consumed_too todo m (Unfinished s) e t c = consumed_grown s (outcome_of (source p m todo)) (grown_to code p behaves sound todo m s (source p m todo) refl t e) c
  consumed_too todo m (Ended s) e t c = subst Consumed (sym (behaves.only todo m (Ended s) tt e t)) c
  consumed_too todo m (Failed x s) e t c = subst Consumed (sym (behaves.only todo m (Failed x s) tt e t)) c
  consumed_too todo m (Asking s) e t c = subst Consumed (sym (behaves.only todo m (Asking s) tt e t)) c
  consumed_too todo m Stuck e t c = subst Consumed (sym (behaves.only todo m Stuck tt e t)) c

  pub noted : (todo : List Exchange) (es : List SeenEvent) (m : ℕ) (o : Outcome) → target code m todo ≡ o → RepliesFit p.cells Out todo es → IsMeant (source p m todo) → Consumed o → AreNoted None todo (txs_of (thread_meaning p m es))
  noted todo es m o e f t c =
      subst (λ l. AreNoted None todo (txs_of (thread_meaning p m l))) (append-nil es)
      (noted_so p.cells [] None todo (source p m todo) (thread_meaning p m (es ++ [])) (thread_related p sound (noting p.cells [] None todo) m todo es (refl, refl, refl) (f, ([], refl, tt))) t (consumed_too todo m o e t c))
