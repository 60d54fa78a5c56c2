-- Functions, threads and cells copied, one after the other; and what a sound program's bodies name.
use Rattle.std.proofs.Common.{◌≡◌, ℕ, zero, suc, ◌+◌, ◌<◌, ◌≤◌, List, [], ◌∷◌, ◌++◌, length, get_or, take, refl, sym, ap, ◌∙◌, subst, arith}
use Rattle.std.proofs.lemmas.List.{take_more}
use Rattle.txs_value_data.specs.Limits.{most_locals}
use Rattle.txs_tree_meaning.specs.Known.{Known, known_of}
use Rattle.txs_tree_meaning.specs.Scoped.{ScopedFunctions, ScopedThreads}
use Rattle.txs_tree_meaning.specs.Tree.{PlainFunction, PlainThread}
use Rattle.txs_tree_meaning.specs.View.{tree_of, function_of, functions_of, thread_of, threads_of}
use Rattle.txs_tree_meaning.specs.declared.node.Function.{Function}
use Rattle.txs_tree_meaning.specs.declared.node.Thread.{Thread}
use Rattle.txs_tree_meaning.specs.Locals.{top, reach}
use Rattle.txs_tree_meaning.proofs.Locals.{top_reach, reach_scoped}

pub functions_behind : (fs : List Function) (f : Function) → functions_of (fs ++ f ∷ []) ≡ functions_of fs ++ function_of f ∷ []
functions_behind [] f = refl
functions_behind (g ∷ fs) f = ap (λ l. function_of g ∷ l) (functions_behind fs f)

pub threads_behind : (ts : List Thread) (t : Thread) → threads_of (ts ++ t ∷ []) ≡ threads_of ts ++ thread_of t ∷ []
threads_behind [] t = refl
threads_behind (u ∷ ts) t = ap (λ l. thread_of u ∷ l) (threads_behind ts t)

-- one more function copied
pub functions_more : (fs anew later : List Function) (i : ℕ) (f made : Function) → i < length fs → f ≡ get_or fs i f → functions_of anew ≡ functions_of (take i fs) → later ≡ anew ++ made ∷ [] → function_of made ≡ function_of f
    → functions_of later ≡ functions_of (take (i + 1) fs)
functions_more fs anew later i f made lt at so_far put same =
    ap functions_of put ∙ functions_behind anew made ∙ ap (λ l. l ++ function_of made ∷ []) so_far ∙ ap (λ (x : PlainFunction). functions_of (take i fs) ++ x ∷ []) same
    ∙ sym (functions_behind (take i fs) f) ∙ ap functions_of (ap (λ (x : Function). take i fs ++ x ∷ []) at ∙ sym (take_more fs i f lt))

-- one more thread copied
pub threads_more : (ts anew later : List Thread) (i : ℕ) (t made : Thread) → i < length ts → t ≡ get_or ts i t → threads_of anew ≡ threads_of (take i ts) → later ≡ anew ++ made ∷ [] → thread_of made ≡ thread_of t
    → threads_of later ≡ threads_of (take (i + 1) ts)
threads_more ts anew later i t made lt at so_far put same =
    ap threads_of put ∙ threads_behind anew made ∙ ap (λ l. l ++ thread_of made ∷ []) so_far ∙ ap (λ (x : PlainThread). threads_of (take i ts) ++ x ∷ []) same
    ∙ sym (threads_behind (take i ts) t) ∙ ap threads_of (ap (λ (x : Thread). take i ts ++ x ∷ []) at ∙ sym (take_more ts i t lt))

-- a function's body keeps the limit on locals
pub function_reach : (fs : List Function) (ks : List Known) (i : ℕ) (f : Function) → ScopedFunctions ks (functions_of fs) → i < length fs → f ≡ get_or fs i f → reach f.parameters (tree_of f.body) ≤ most_locals
function_reach [] ks i f h lt at = absurd (omega (arith, lt))
function_reach (g ∷ fs) ks zero f h lt at =
    subst (λ (x : Function). reach x.parameters (tree_of x.body) ≤ most_locals) (sym at) (reach_scoped ks (tree_of g.body) g.parameters (omega (arith, h.0.0)) h.0.1)
function_reach (g ∷ fs) ks (suc i) f h lt at = function_reach fs (ks ++ known_of ks (function_of g) ∷ []) i f h.1 (omega (arith, lt)) at

-- so does a thread's
pub thread_reach : (ts : List Thread) (ks : List Known) (i : ℕ) (t : Thread) → ScopedThreads ks (threads_of ts) → i < length ts → t ≡ get_or ts i t → reach 0 (tree_of t.body) ≤ most_locals
thread_reach [] ks i t h lt at = absurd (omega (arith, lt))
thread_reach (u ∷ ts) ks zero t h lt at = subst (λ (x : Thread). reach 0 (tree_of x.body) ≤ most_locals) (sym at) (reach_scoped ks (tree_of u.body) 0 (omega arith) h.0.0)
thread_reach (u ∷ ts) ks (suc i) t h lt at = thread_reach ts ks i t h.1 (omega (arith, lt)) at

pub function_top : (fs : List Function) (ks : List Known) (i : ℕ) (f : Function) → ScopedFunctions ks (functions_of fs) → i < length fs → f ≡ get_or fs i f → top (tree_of f.body) ≤ 256
function_top fs ks i f h lt at = omega (arith, function_reach fs ks i f h lt at, top_reach (tree_of f.body) f.parameters)

pub thread_top : (ts : List Thread) (ks : List Known) (i : ℕ) (t : Thread) → ScopedThreads ks (threads_of ts) → i < length ts → t ≡ get_or ts i t → top (tree_of t.body) ≤ 256
thread_top ts ks i t h lt at = omega (arith, thread_reach ts ks i t h lt at, top_reach (tree_of t.body) 0)
