-- A program explains all that its threads and its agents did in one run.
use Rattle.std.proofs.Common.{◌≡◌, ℕ, zero, suc, Bool, true, false, nat_lt, List, [], ◌∷◌, length, Some, None, refl, sym, subst, arith}
use Rattle.std.proofs.lemmas.Bool.Decides.{nat_tests}
use Rattle.txs_value_data.specs.Places.{nth}
use Rattle.txs_tree_meaning.specs.Tree.{PlainThread, PlainProgram}
use Rattle.txs_code_meaning.specs.Machine.{Library, ThreadCode, agent_code}
use Rattle.txs_code_meaning.specs.PlainCode.{library_of}
use Rattle.txs_theorem_threads.specs.Follows.{Follows}
use Rattle.txs_theorem_threads.specs.FollowsAll.{source_of, FollowsAll}
use Rattle.txs_theorem_threads.specs.Sends.{CodeSendsSound, CodesSendSound, AgentsSendSound}
use Rattle.txs_world.specs.Laws.{ServeKeeps, ActionStays, RefusedIsUndisturbed}
use Rattle.txs_theorem_runs.specs.Agents.{ActorsSendSound}
use Rattle.txs_theorem_runs.specs.Refused.{RefusalsUndisturbed}
use Rattle.txs_theorem_runs.specs.Told.{history_of}
use Rattle.txs_theorem_runs.proofs.Undisturbed.{entries_undisturbed}
use Rattle.txs_theorem_threads.specs.Noted.{txs_of}
use Rattle.txs_tree_meaning.specs.Thread.{thread_meaning}
use Rattle.txs_theorem_runs.specs.Explains.{RunHolds, code_or_none, ProgramExplains}
use Rattle.txs_theorem_runs.specs.Report.{ActorTraced, RunsProgram, CodesStaged, TypedAreStaged, RunReported}
use Rattle.txs_theorem_runs.specs.Run.{State, Play, plays}
use Rattle.txs_theorem_runs.specs.Staged.{StagedCode}
use Rattle.txs_theorem_runs.specs.Standing.{StandingCode}
use Rattle.txs_theorem_runs.proofs.Agents.{run_acts_mean}
use Rattle.txs_theorem_runs.proofs.Asker.{AgentOf, agent_of}
use Rattle.txs_theorem_runs.proofs.Known.{standing_staged}
use Rattle.txs_theorem_runs.proofs.Refused.{run_refusals}
use Rattle.txs_theorem_runs.proofs.Tracing.{run_traced}
use Rattle.txs_theorem_runs.proofs.Typed as typed
use Rattle.txs_theorem_runs.proofs.Whole.{Lower, FreshStands, has_code, run_explained}

-- a code there is for each number below their count
pub code_below : (cs : List ThreadCode) (a : ℕ) → nat_lt a (length cs) ≡ true → (c : ThreadCode) × (nth cs a ≡ Some c)
code_below [] a lt = absurd (grind (arith, nat_tests, lt))
code_below (c ∷ cs) zero lt = (c, refl)
code_below (c ∷ cs) (suc a) lt = code_below cs a (grind (arith, nat_tests, lt))

pub typed_staged : TypedAreStaged
typed_staged code function_rooms thread_rooms well = (
  λ i c e. standing_staged false c (subst (λ o. StandingCode (code_or_none o)) e (typed.typed_actors_stand code function_rooms thread_rooms i well)),
  λ g. standing_staged true (agent_code (library_of code) g) (typed.typed_agents_stand code function_rooms thread_rooms g well),
)

module _ (p : PlainProgram) (threads : List ThreadCode) (functions : Library) (codes : ℕ → ThreadCode) (ys : List Play)
    (f : FollowsAll threads p) (stage : CodesStaged threads) (by : CodesSendSound p.functions threads) (agents_by : AgentsSendSound p.functions functions) (run : RunsProgram p threads functions codes) where
  -- the code of each actor, thread or agent, sends only what a program may send
  pub actors_send : ActorsSendSound p.cells (length p.threads) codes p.functions
  actors_send a lt = by_kind (nat_lt a (length p.threads)) refl
    where
      of_agent : (x : AgentOf p.cells (length p.threads) a) → CodeSendsSound p.functions (codes a)
      of_agent x = subst (λ i. CodeSendsSound p.functions (codes i)) (sym x.is) (subst (CodeSendsSound p.functions) (sym (run.agents_run x.agent x.has)) (agents_by x.agent))

      by_kind : (b : Bool) → nat_lt a (length p.threads) ≡ b → CodeSendsSound p.functions (codes a)
      by_kind true i =
          let c = code_below threads a (subst (λ n. nat_lt a n ≡ true) (sym f.as_many) i) in
          subst (CodeSendsSound p.functions) (sym (run.threads_run a c.0 c.1)) (by a c.0 c.1)
      by_kind false i = of_agent (agent_of p.cells (length p.threads) a i lt)

  module _ (i : ℕ) (t : PlainThread) (e : nth p.threads i ≡ Some t) where
    code : (c : ThreadCode) × (nth threads i ≡ Some c)
    code = has_code threads p.threads i t f.as_many e

    pub thread_staged : StagedCode (codes i)
    thread_staged = subst StagedCode (sym (run.threads_run i code.0 code.1)) (stage i code.0 code.1)

    pub thread_follows : Follows (codes i) (source_of p t)
    thread_follows = subst (λ c. Follows c (source_of p t)) (sym (run.threads_run i code.0 code.1)) (f.each i code.0 t code.1 e)

  program_explains : RunHolds p.cells (length p.threads) codes (plays p.cells (length p.threads) codes ys) → ProgramExplains p (plays p.cells (length p.threads) codes ys)
  program_explains h = record {
    books = h.books;
    threads = λ i t e. (h.actors i (thread_staged i t e)).means (source_of p t) refl (thread_follows i t e);
    noted = λ i t e. (h.actors i (thread_staged i t e)).noted (source_of p t) refl (thread_follows i t e);
    traced = λ i t e. (h.actors i (thread_staged i t e)).traced;
    undisturbed = λ i t e. (h.actors i (thread_staged i t e)).undisturbed;
  }

pub run_reported : Lower → ServeKeeps → ActionStays → RefusedIsUndisturbed → FreshStands → RunReported
run_reported lower keeps stays refused fresh p threads functions codes ys f agents staged agents_staged sends agents_send run = record {
  threads = program;
  agents = run_acts_mean lower refused keeps stays fresh p.cells (length p.threads) codes functions p.functions ys agents run.agents_run agents_staged (actors_send p threads functions codes ys f staged sends agents_send run);
  traced = traces;
  refused = refusals;
  transactions = λ i t e. entries_undisturbed None p.cells st.shared.books i (length p.threads) (st.actors i).entries (txs_of (thread_meaning (source_of p t) (st.actors i).turns (history_of p.cells st.shared.books i (st.actors i).entries)))
      (traces i).hold (program.undisturbed i t e) (refusals i t e) (program.noted i t e);
}
  where
    st : State
    st = plays p.cells (length p.threads) codes ys

    program : ProgramExplains p st
    program = program_explains p threads functions codes ys f staged sends agents_send run (run_explained lower keeps fresh p.cells (length p.threads) codes ys)

    traces : (a : ℕ) → ActorTraced p.cells (length p.threads) st.shared.books a (st.actors a)
    traces = run_traced keeps fresh p.cells (length p.threads) codes ys

    refusals : (i : ℕ) (t : PlainThread) → nth p.threads i ≡ Some t → RefusalsUndisturbed p.cells st.shared.books (st.actors i).entries
    refusals i t e = run_refusals refused keeps fresh p.cells (length p.threads) codes ys i (thread_staged p threads functions codes ys f staged sends agents_send run i t e)
