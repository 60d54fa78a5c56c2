-- A sound thread's tree on replies that fit is the thread on their events.
use Rattle.std.proofs.Common.{List, [], None, refl, sym, ap, subst, ◌≡◌, ◌++◌, ◌∙◌}
use Rattle.std.proofs.lemmas.List.{append-nil}
use Rattle.txs_world_protocol.specs.Ask.{Exchange}
use Rattle.txs_world_protocol.specs.SeenEvent.{SeenEvent}
use Rattle.txs_value_cell.specs.declared.cell.CellDefinition.{CellDefinition}
use Rattle.txs_value_data.specs.declared.value.Value.{Value}
use Rattle.txs_tree_meaning.specs.Meaning.{Completion, Completes, Recurs, Faults, Retries, Waits, OutOfTurns, Invalid}
use Rattle.txs_tree_meaning.specs.Thread.{ThreadState, thread_meaning}
use Rattle.txs_code_meaning.specs.ActorState.{ActorState}
use Rattle.txs_theorem_threads.proofs.Account.{Account, account_link, plain_splits, asked_loose, asked_on, own_asked, waited_on, waited_plain, waited_eaten}
use Rattle.txs_theorem_threads.proofs.Related.{Related}
use Rattle.txs_theorem_threads.proofs.Threads.{thread_related}
use Rattle.txs_theorem_threads.proofs.Worlds.{asked_of, fit_splits}
use Rattle.txs_theorem_threads.specs.Behaves.{source}
use Rattle.txs_theorem_threads.specs.RepliesFit.{Phase, Out, RepliesFit, halted, HasAsked, HasEaten, Agrees, TreeFollows}

-- no event is left where no exchange is
pub none_left : (cells : List CellDefinition) (ph : Phase) (xs : List Exchange) (es : List SeenEvent) → RepliesFit cells ph xs es → xs ≡ [] → es ++ [] ≡ []
none_left cells ph xs es f e = append-nil es ∙ subst (λ l. RepliesFit cells ph l es) e f

-- the events are those of the exchanges
abbrev exact : (cells : List CellDefinition) → Account cells
exact cells = record {
  before = [];
  from = None;
  fits = λ txs. RepliesFit cells;
  splits = plain_splits cells None (RepliesFit cells) (fit_splits cells);
  tail = [];
  waits = λ s o. s.todo ≡ [] → HasAsked cells s.wants s.printed o;
  short = λ s o. s.todo ≡ [] → HasEaten s.printed o;
  waits_loose = λ s h o e. absurd (asked_loose cells s.wants s.printed (h e));
  short_loose = λ s h o e. absurd (h e);
  short_here = λ s t es fits td pr e. (td ∙ none_left cells Out s.todo es fits e, pr);
  waiting = λ txs ph s es y own fits h e.
      subst (λ l. HasAsked cells s.wants s.printed (halted (y l))) (sym (none_left cells ph s.todo es fits e)) (own_asked cells s.wants s.printed (halted (y [])) own (asked_on (asked_of cells s.wants) [] s.printed txs (halted (y [])) h));
  shortage = λ txs ph s es y fits h ends e. subst (λ l. HasEaten s.printed (halted (y l))) (sym (none_left cells ph s.todo es fits e)) (waited_eaten s.printed (halted (y [])) (waited_plain s.printed (halted (y [])) (waited_on [] s.printed txs (halted (y [])) h)));
}

-- what is left of the events
left_over : (cells : List CellDefinition) (ph : Phase) (s : ActorState) (t : ThreadState) (es : List SeenEvent) → t.todo ≡ es ++ [] → RepliesFit cells ph s.todo es → RepliesFit cells ph s.todo t.todo
left_over cells ph s t es td fits = subst (RepliesFit cells ph s.todo) (sym (td ∙ append-nil es)) fits

agrees : (cells : List CellDefinition) (x : Completion ActorState Value) (y : Completion ThreadState Value) → Related (account_link cells (exact cells)) x y → Agrees cells x y
agrees cells (Completes v s) (Completes w t) h = (t, ap (λ u. Completes u t) (sym h.0), h.1.0.0, left_over cells Out s t h.1.1 h.1.2 h.1.3)
agrees cells (Completes v s) _ h = absurd h
agrees cells (Recurs vs s) y h = tt
agrees cells (Faults f s) (Faults g t) h = (t, ap (λ u. Faults u t) (sym h.0), h.1.0, (h.1.1, left_over cells h.1.1 s t h.1.2 h.1.3 h.1.4))
agrees cells (Faults f s) _ h = absurd h
agrees cells (Retries s) y h = tt
agrees cells (Waits s) y h = h
agrees cells (OutOfTurns s) y h = h
agrees cells Invalid y h = tt

pub tree_follows : TreeFollows
tree_follows p n todo es sound fits =
    subst (λ l. Agrees p.cells (source p n todo) (thread_meaning p n l)) (append-nil es)
    (agrees p.cells (source p n todo) (thread_meaning p n (es ++ [])) (thread_related p sound (exact p.cells) n todo es (refl, refl, refl) fits))
