-- What is answered, where the evaluators tell it.
use Rattle.std.proofs.Common.{◌≡◌, ◌<◌, ◌==◌, ◌⊎◌, inr, ℕ, suc, ◌-◌, Bool, true, false, List, [], ◌∷◌, ◌++◌, length, take, Some, refl, sym, ap, ◌∙◌, subst, arith}
use Rattle.std.specs.Prelude.{not}
use Rattle.std.proofs.lemmas.Bool.{eqb-true}
use Rattle.txs_value_data.specs.Places.{nth}
use Rattle.txs_value_cell.specs.declared.action.Action.{Action}
use Rattle.txs_value_data.specs.declared.value.Value.{Value}
use Rattle.txs_world_protocol.specs.SeenEvent.{SeenEvent}
use Rattle.txs_tree_eval.specs.ActionTold.{TellsAction}
use Rattle.txs_tree_eval.specs.Told.{Tells}
use Rattle.txs_tree_eval.specs.declared.action.ActionMeaning.{ActionMeaning}
use Rattle.txs_tree_eval.specs.declared.meaning.Needs.TheVariants.{Turns}
use Rattle.txs_tree_eval.specs.declared.meaning.ThreadMeaning.{ThreadMeaning}
use Rattle.txs_tree_eval_node.specs.Events.{seen_event, seen_events}
use Rattle.txs_tree_eval_node.specs.declared.seen.Seen.{Seen}
use Rattle.txs_tree_meaning.specs.Meaning.{Completion}
use Rattle.txs_tree_meaning.specs.Right.{eats_right, right_events, right_meaning}
use Rattle.txs_tree_meaning.specs.Thread.{ThreadState, action_in, around_action, thread_meaning}
use Rattle.txs_tree_meaning.specs.Tree.{PlainProgram, PlainThread}
use Rattle.txs_tree_meaning.specs.View.{Parts, program_of}
use Rattle.txs_theorem_threads.specs.FollowsAll.{source_of}
use Rattle.txs_theorem_audit.specs.Verdict.{least_of, printed_by}
use Rattle.txs_theorem_audit.specs.Evaluated.{prints_by}
use Rattle.txs_audit_book.proofs.Sources.{all_but_last}
use Rattle.txs_audit_evidence.proofs.Sized.{threads_many}
use Rattle.txs_audit_evidence.proofs.ThreadFound.{thread_there}
use Rattle.txs_audit_event.specs.Meant.{Known, MayDo, TellsMeant, doer_means, of_action, of_thread, thread_means}
use Rattle.txs_audit_event.specs.declared.meant.Doer.TheVariants as doer
use Rattle.txs_audit_event.specs.declared.meant.Meant.{Meant}
use Rattle.txs_audit_event.proofs.Meaning.{action_tells, prints_so, thread_tells}

-- as many events are told of as there are
many : (xs : List Seen) → length (seen_events xs) ≡ length xs
many [] = refl
many (x ∷ xs) = ap suc (many xs)

-- ---- threads and actions

pub thread_answered : (p : Parts) (i n : ℕ) → i < length p.threads → (xs : List Seen) (m : ThreadMeaning) (a : Meant) → a ≡ of_thread m
    → ((t : PlainThread) → nth (program_of p).threads i ≡ Some t → Tells m (source_of (program_of p) t) n (seen_events xs)) → TellsMeant a (length xs) (doer_means (program_of p) n (doer.Thread i) (seen_events xs))
thread_answered p i n lt xs m a is tells =
    let there = thread_there p i lt in
    let t = there.0 in
    let s = source_of (program_of p) t in
    let es = seen_events xs in
    let told = thread_tells m (length es) (eats_right s n [] es) (right_meaning s n es) (thread_meaning s n es) (tells t there.1) in
    let means : thread_means (program_of p) n (nth (program_of p).threads i) es ≡ thread_meaning s n es = ap (λ o. thread_means (program_of p) n o es) there.1 in
    subst (λ c. TellsMeant a (length xs) c) (sym means) (subst (λ k. TellsMeant a k (thread_meaning s n es)) (many xs) (subst (λ z. TellsMeant z (length es) (thread_meaning s n es)) (sym is) told))

pub action_answered : (p : PlainProgram) (n : ℕ) (x : Action) (v : Value) (xs : List Seen) (m : ActionMeaning) (a : Meant) → a ≡ of_action m → TellsAction m p x.callee x.span (v ∷ x.args) n (seen_events xs)
    → TellsMeant a (length xs) (action_in (around_action p.cells p.functions n) x.callee x.span (v ∷ x.args) (seen_events xs))
action_answered p n x v xs m a is tells =
    let es = seen_events xs in
    let f = action_in (around_action p.cells p.functions n) x.callee x.span (v ∷ x.args) in
    let told = action_tells m (length es) (right_events f [] es) (f (take (right_events f [] es) es)) (f es) tells in
    subst (λ k. TellsMeant a k (f es)) (many xs) (subst (λ z. TellsMeant z (length es) (f es)) (sym is) told)

-- a thread that may be asked about is there
pub there_of : (p : Parts) (i : ℕ) → MayDo (program_of p) (doer.Thread i) → i < length p.threads
there_of p i may = subst (λ k. i < k) (threads_many p.threads) may

pub of_there : (p : Parts) (i : ℕ) → i < length p.threads → MayDo (program_of p) (doer.Thread i)
of_there p i lt = subst (λ k. i < k) (sym (threads_many p.threads)) lt

-- ---- turns

pub known_by : (m : Meant) (k bound most : ℕ) (w : Bool) → (w ≡ true → bound < most) → (w ≡ false → (bound ≡ most) ⊎ (m.needs ≡ Turns → ⊥)) → Known m k bound most (not w)
known_by m k bound most true more enough = more refl
known_by m k bound most false more enough = inr (enough refl)

-- ---- what is printed at least

pub least_none : (m : List SeenEvent → Completion ThreadState Value) (xs : List Seen) → (length xs == 0) ≡ true → [] ≡ least_of m (seen_events xs)
least_none m [] none = refl
least_none m (x ∷ xs) none = (let z = eqb-true (length (x ∷ xs)) 0 none in absurd (omega (arith, z)))

pub least_some : (m : List SeenEvent → Completion ThreadState Value) (xs before : List Seen) (a : Meant) (k : ℕ) → (length xs == 0) ≡ false → before ≡ take (length xs - 1) xs → TellsMeant a k (m (seen_events before))
    → prints_by a.needs a.printed ≡ least_of m (seen_events xs)
least_some m [] before a k some is tells = absurd cc
least_some m (x ∷ xs) before a k some is tells = prints_so a k (m (seen_events before)) tells ∙ ap (λ l. printed_by (m l)) (ap seen_events is ∙ all_but_last x xs)

-- ---- one event more

pub seen_behind : (xs : List Seen) (x : Seen) → seen_events (xs ++ x ∷ []) ≡ seen_events xs ++ seen_event x ∷ []
seen_behind [] x = refl
seen_behind (y ∷ xs) x = ap (λ l. seen_event y ∷ l) (seen_behind xs x)
