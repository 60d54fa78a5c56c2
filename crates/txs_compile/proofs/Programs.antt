-- Code of an optimised program.
use Rattle.std.proofs.Common.{◌≡◌, ℕ, zero, suc, ◌<◌, List, [], ◌∷◌, length, Some, refl, ap, ◌∙◌, arith}
use Rattle.txs_value_data.specs.Places.{nth}
use Rattle.txs_tree_meaning.proofs.Callable.{nth-length}
use Rattle.txs_tree_meaning.specs.Sound.{Sound}
use Rattle.txs_tree_meaning.specs.Tree.{PlainThread, PlainProgram}
use Rattle.txs_tree_meaning.specs.Everywhere.{Facts, InProgram}
use Rattle.txs_code_meaning.specs.Machine.{ThreadCode}
use Rattle.txs_theorem_threads.specs.FollowsAll.{source_of, BehavesAll}
use Rattle.txs_opt.specs.Fold.{folded_thread, folded_program}
use Rattle.txs_opt.specs.Inline.{inlined, functions_inlined, budget_of, inlined_program}
use Rattle.txs_opt.specs.Keeps.{MeansSame, folded_source, inlined_source}
use Rattle.txs_opt.proofs.FoldedEverywhere.{KeptByOperations, folded_program_has}
use Rattle.txs_opt.proofs.FoldedSound.{folded_program_sound}
use Rattle.txs_opt.proofs.InlinedEverywhere.{inlined_program_has}
use Rattle.txs_opt.proofs.InlinedSound.{inlined_program_sound}
use Rattle.txs_opt.proofs.WholePrograms.{thread_some, nth_folded, length_folded, thread_at, length_inlined, folded_means, inlined_means}
use Rattle.txs_compile.proofs.Behaving.{behaves_before}
use Rattle.txs_compile.proofs.Sources.{fold_kept, inline_kept}
use Rattle.txs_opt.specs.Optimised.{optimised}

folded_before : (codes : List ThreadCode) (p : PlainProgram) → BehavesAll codes (folded_program p) → BehavesAll codes p
folded_before codes p b = record {
  as_many = b.as_many ∙ length_folded p.threads;
  each = λ i c t at there. behaves_before c (source_of p t) (folded_source (source_of p t)) (fold_kept (source_of p t)) (b.each i c (folded_thread t) at (nth_folded p.threads i ∙ ap thread_some there));
}

inlined_before : (codes : List ThreadCode) (limit : ℕ) (p : PlainProgram) → BehavesAll codes (inlined_program limit p) → BehavesAll codes p
inlined_before codes limit p b =
    let x = functions_inlined [] (budget_of limit p) p.functions in
    record {
      as_many = b.as_many ∙ length_inlined x.functions p.threads x.budget;
      each = λ i c t at there.
          let r = thread_at x.functions p.threads x.budget i t there in
          behaves_before c (source_of p t) (inlined_source (budget_of limit p) r.left (source_of p t)) (inline_kept (budget_of limit p) r.left (source_of p t)) (b.each i c (record t { body = (inlined x.functions 0 r.left t.body).tree }) at r.found);
    }

pub all_before : (codes : List ThreadCode) (limit : ℕ) (p : PlainProgram) → BehavesAll codes (optimised limit p) → BehavesAll codes p
all_before codes limit p b = folded_before codes p (inlined_before codes limit (folded_program p) (folded_before codes (inlined_program limit (folded_program p)) b))

pub optimised_sound : (limit : ℕ) (p : PlainProgram) → Sound p → Sound (optimised limit p)
optimised_sound limit p h = folded_program_sound (inlined_program limit (folded_program p)) (inlined_program_sound limit (folded_program p) (folded_program_sound p h))

-- ---- it means the same

-- an item of a list that is as long as the index asks
record ItemAt (ts : List PlainThread) (i : ℕ) : Type 0 where
  thread : PlainThread
  found : nth ts i ≡ Some thread

item_at : (ts : List PlainThread) (i : ℕ) → i < length ts → ItemAt ts i
item_at [] i lt = absurd (omega (arith, lt))
item_at (t ∷ ts) zero lt = record { thread = t; found = refl }
item_at (t ∷ ts) (suc i) lt =
    let r = item_at ts i (omega (arith, lt)) in
    record { thread = r.thread; found = r.found }

means_trans : (p q r : PlainProgram) → MeansSame p q → MeansSame q r → MeansSame p r
means_trans p q r h j = record {
  cells = j.cells ∙ h.cells;
  as_many = j.as_many ∙ h.as_many;
  pure = λ n callee vs. j.pure n callee vs ∙ h.pure n callee vs;
  threads = λ i t u at there n es.
      let v = item_at q.threads i (omega (arith, nth-length p.threads i t at, h.as_many)) in
      j.threads i v.thread u v.found there n es ∙ h.threads i t v.thread at v.found n es;
  actions = λ a v n es. j.actions a v n es ∙ h.actions a v n es;
}

pub optimised_means : (limit : ℕ) (p : PlainProgram) → Sound p → MeansSame p (optimised limit p)
optimised_means limit p h =
    let q = folded_program p in
    let r = inlined_program limit q in
    means_trans p q (optimised limit p) (folded_means p) (means_trans q r (optimised limit p) (inlined_means limit q (folded_program_sound p h)) (folded_means r))

-- ---- what holds everywhere in it

pub optimised_has : (F : Facts) → KeptByOperations F → (limit : ℕ) (p : PlainProgram) → InProgram F p → InProgram F (optimised limit p)
optimised_has F kept limit p h =
    let q = folded_program p in
    let r = inlined_program limit q in
    folded_program_has F kept r (inlined_program_has F limit q (folded_program_has F kept p h))
