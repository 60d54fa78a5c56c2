-- Functions and threads folded, one after the other.
use Rattle.std.proofs.Common.{◌≡◌, ℕ, ◌+◌, ◌<◌, List, [], ◌∷◌, ◌++◌, length, get_or, take, refl, sym, ap, ◌∙◌}
use Rattle.std.proofs.lemmas.List.{take_more}
use Rattle.txs_tree_meaning.specs.Tree.{PlainFunction, PlainThread}
use Rattle.txs_tree_meaning.specs.View.{function_of, functions_of, thread_of, threads_of}
use Rattle.txs_tree_meaning.specs.declared.node.Function.{Function}
use Rattle.txs_tree_meaning.specs.declared.node.Thread.{Thread}
use Rattle.txs_tree_meaning.proofs.Copies.{functions_behind, threads_behind}
use Rattle.txs_opt.specs.Fold.{folded_function, folded_functions, folded_thread, folded_threads}

folded_behind : (fs : List PlainFunction) (f : PlainFunction) → folded_functions (fs ++ f ∷ []) ≡ folded_functions fs ++ folded_function f ∷ []
folded_behind [] f = refl
folded_behind (g ∷ fs) f = ap (λ l. folded_function g ∷ l) (folded_behind fs f)

-- one more function folded
pub functions_more : (fs anew later : List Function) (i : ℕ) (f made : Function) → i < length fs → f ≡ get_or fs i f → functions_of anew ≡ folded_functions (functions_of (take i fs)) → later ≡ anew ++ made ∷ [] → function_of made ≡ folded_function (function_of f)
    → functions_of later ≡ folded_functions (functions_of (take (i + 1) fs))
functions_more fs anew later i f made lt at so_far put same =
    ap functions_of put ∙ functions_behind anew made ∙ ap (λ l. l ++ function_of made ∷ []) so_far ∙ ap (λ (x : PlainFunction). folded_functions (functions_of (take i fs)) ++ x ∷ []) same
    ∙ sym (folded_behind (functions_of (take i fs)) (function_of f)) ∙ ap folded_functions (sym (functions_behind (take i fs) f))
    ∙ ap (λ l. folded_functions (functions_of l)) (ap (λ (x : Function). take i fs ++ x ∷ []) at ∙ sym (take_more fs i f lt))

folded_thread_behind : (ts : List PlainThread) (t : PlainThread) → folded_threads (ts ++ t ∷ []) ≡ folded_threads ts ++ folded_thread t ∷ []
folded_thread_behind [] t = refl
folded_thread_behind (u ∷ ts) t = ap (λ l. folded_thread u ∷ l) (folded_thread_behind ts t)

-- one more thread folded
pub threads_more : (ts anew later : List Thread) (i : ℕ) (t made : Thread) → i < length ts → t ≡ get_or ts i t → threads_of anew ≡ folded_threads (threads_of (take i ts)) → later ≡ anew ++ made ∷ [] → thread_of made ≡ folded_thread (thread_of t)
    → threads_of later ≡ folded_threads (threads_of (take (i + 1) ts))
threads_more ts anew later i t made lt at so_far put same =
    ap threads_of put ∙ threads_behind anew made ∙ ap (λ l. l ++ thread_of made ∷ []) so_far ∙ ap (λ (x : PlainThread). folded_threads (threads_of (take i ts)) ++ x ∷ []) same
    ∙ sym (folded_thread_behind (threads_of (take i ts)) (thread_of t)) ∙ ap folded_threads (sym (threads_behind (take i ts) t))
    ∙ ap (λ l. folded_threads (threads_of l)) (ap (λ (x : Thread). take i ts ++ x ∷ []) at ∙ sym (take_more ts i t lt))
