-- The end of a thread, by what is answered of it.
use Rattle.std.proofs.Common.{◌≡◌, ℕ, zero, suc, ◌-◌, ◌==◌, Bool, false, List, [], ◌∷◌, length, take, Option, Some, IfSome, refl, sym, ap, ◌∙◌, subst, arith}
use Rattle.txs_value_data.specs.Places.{nth}
use Rattle.txs_world_protocol.specs.declared.event.Outcome.{Outcome}
use Rattle.txs_tree_eval.specs.Told.{Tells, source_in, thread_source}
use Rattle.txs_tree_eval.specs.declared.meaning.ThreadMeaning.{ThreadMeaning}
use Rattle.txs_world_protocol.specs.declared.report.ActorReport.{ActorReport}
use Rattle.txs_tree_meaning.specs.Thread.{thread_meaning}
use Rattle.txs_theorem_audit.specs.Audited.{ran_as}
use Rattle.txs_tree_eval.specs.declared.meaning.Needs.{Needs}
use Rattle.txs_tree_eval.specs.declared.meaning.Needs.TheVariants as needs
use Rattle.txs_tree_eval_node.specs.Events.{seen_event, seen_events}
use Rattle.txs_tree_eval_node.specs.declared.seen.Seen.{Seen}
use Rattle.txs_tree_meaning.specs.Known.{Known, known}
use Rattle.txs_tree_meaning.specs.Sound.{Sound, SoundSource, SoundThread, SoundThreads}
use Rattle.txs_tree_meaning.specs.Tree.{PlainProgram, PlainThread, ThreadSource}
use Rattle.txs_theorem_threads.specs.FollowsAll.{source_of}
use Rattle.txs_theorem_audit.specs.Verdict.{begins, but_last, end_found, least_printed, printed_by}
use Rattle.txs_theorem_audit.specs.Evaluated.{EndBy, LeastBy, end_by, least_by, part_by}
use Rattle.txs_audit_book.specs.Ended.{end_with}

one_sound : (ks : List Known) (ts : List PlainThread) → SoundThreads ks ts → (k : ℕ) (t : PlainThread) → nth ts k ≡ Some t → SoundThread ks t
one_sound ks [] h k t e = absurd cc
one_sound ks (x ∷ xs) h zero t e = subst (λ o. IfSome o (SoundThread ks)) e h.0
one_sound ks (x ∷ xs) h (suc k) t e = one_sound ks xs h.1 k t e

-- a thread of a sound program is sound
pub source_sound : (p : PlainProgram) → Sound p → (k : ℕ) (t : PlainThread) → nth p.threads k ≡ Some t → SoundSource (source_of p t)
source_sound p h k t e = record { functions = h.functions; cells = h.cells; main = (one_sound (known p.functions) p.threads h.threads k t e).0 }

-- what is said of the thread with this number
pub source_told : (p : PlainProgram) (k : ℕ) (t : PlainThread) → nth p.threads k ≡ Some t → (P : ThreadSource → Type 0) → IfSome (thread_source p k) P → P (source_of p t)
source_told p k t e P h = subst (λ o. IfSome (source_in p o) P) e h

less_one : (n : ℕ) → suc n - 1 ≡ n
less_one n = omega arith

by_length : (e : Seen) (es : List Seen) → seen_events (take (length es) (e ∷ es)) ≡ but_last (seen_events (e ∷ es))
by_length e [] = refl
by_length e (d ∷ es) = ap (λ l. seen_event e ∷ l) (by_length d es)

-- all events but the last
pub all_but_last : (e : Seen) (es : List Seen) → seen_events (take (length (e ∷ es) - 1) (e ∷ es)) ≡ but_last (seen_events (e ∷ es))
all_but_last e es = ap (λ k. seen_events (take k (e ∷ es))) (less_one (length es)) ∙ by_length e es

-- the end that is found, where it is known whether the thread was stopped and printed a part
pub end_is : (a k : ℕ) (o : Option Outcome) (out least : List ℕ) (lack : Needs) (ends : Option Outcome) (whole : List ℕ) (eaten : ℕ)
    → end_by a k o out least lack ends whole eaten ≡ end_with a k o out (part_by o out whole least) lack ends whole eaten
end_is a k o out least needs.Nothing ends whole eaten = refl
end_is a k o out least needs.Event ends whole eaten = refl
end_is a k o out least needs.Turns ends whole eaten = refl
end_is a k o out least needs.Wrong ends whole eaten = refl

-- as many events are told of as there are
many : (es : List Seen) → length (seen_events es) ≡ length es
many [] = refl
many (e ∷ es) = ap suc (many es)

-- ---- what was printed at least

-- where there are some it is told by what is answered on all but the last
pub least_some : LeastBy → (p : PlainProgram) (k n : ℕ) (t : PlainThread) → nth p.threads k ≡ Some t → (es before : List Seen) (m : ThreadMeaning) (out : List ℕ) → (length es == 0) ≡ false → before ≡ take (length es - 1) es
    → IfSome (thread_source p k) (λ s. Tells m s n (seen_events before)) → least_by m.needs m.printed out ≡ begins (least_printed (source_of p t) n (seen_events es)) out
least_some law p k n t e [] before m out some is tells = absurd cc
least_some law p k n t e (x ∷ es) before m out some is tells =
    let told = source_told p k t e (λ s. Tells m s n (seen_events before)) tells in
    sym (law (source_of p t) n (seen_events before) m out told)
    ∙ ap (λ l. begins (printed_by (thread_meaning (source_of p t) n l)) out) (ap seen_events is ∙ all_but_last x es)

-- ---- the end

pub end_told : EndBy → (p : PlainProgram) → Sound p → (k n : ℕ) (t : PlainThread) → nth p.threads k ≡ Some t → (es : List Seen) (ran : ActorReport) (m : ThreadMeaning) (part : Bool)
    → part ≡ part_by ran.outcome ran.printed.items m.printed (least_printed (source_of p t) n (seen_events es)) → Tells m (source_of p t) n (seen_events es)
    → end_with k (length es) ran.outcome ran.printed.items part m.needs m.outcome m.printed m.eaten ≡ end_found (source_of p t) n k (seen_events es) (ran_as ran) (thread_meaning (source_of p t) n (seen_events es))
end_told law p sound k n t e es ran m part is tells =
    ap (λ b. end_with k (length es) ran.outcome ran.printed.items b m.needs m.outcome m.printed m.eaten) is
    ∙ sym (end_is k (length es) ran.outcome ran.printed.items (least_printed (source_of p t) n (seen_events es)) m.needs m.outcome m.printed m.eaten)
    ∙ ap (λ q. end_by k q ran.outcome ran.printed.items (least_printed (source_of p t) n (seen_events es)) m.needs m.outcome m.printed m.eaten) (sym (many es))
    ∙ sym (law (source_of p t) n k (seen_events es) (ran_as ran) m (source_sound p sound k t e) tells)
