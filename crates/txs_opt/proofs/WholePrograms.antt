-- Whole programs mean the same, folded and with calls inlined.
use Rattle.std.proofs.Common.{◌≡◌, ℕ, zero, suc, List, [], ◌∷◌, length, Option, Some, None, refl, sym, ap, ◌∙◌, subst}
use Rattle.txs_value_data.specs.Places.{nth}
use Rattle.txs_tree_meaning.proofs.Callable.{missing, same_some, nth-length}
use Rattle.txs_tree_meaning.specs.Known.{Known, known}
use Rattle.txs_tree_meaning.specs.Sound.{Sound, SoundThread, SoundThreads}
use Rattle.txs_tree_meaning.specs.Thread.{thread_meaning}
use Rattle.txs_tree_meaning.specs.Tree.{PlainFunction, PlainThread, PlainProgram}
use Rattle.txs_opt.specs.Fold.{folded_thread, folded_threads, folded_program}
use Rattle.txs_opt.specs.Inline.{inlined, functions_inlined, threads_inlined, budget_of, inlined_program}
use Rattle.txs_opt.specs.Keeps.{MeansSame, source_in}
use Rattle.txs_opt.specs.Observed.{observed_end}
use Rattle.txs_opt.proofs.Actions.{action_folded, action_inlined}
use Rattle.txs_opt.proofs.FoldedProgram.{pure_folded, thread_folded}
use Rattle.txs_opt.proofs.InlinedMeanings.{pure_inlined, thread_inlined}
use Rattle.txs_opt.proofs.ScopedOf.{number, sound_under}
use Rattle.txs_opt.proofs.Weights.{weight, pure_ones, few_pure, light, weighs_under, main_below, validators_light}

abbrev pub thread_some : Option PlainThread → Option PlainThread
thread_some None = None
thread_some (Some t) = Some (folded_thread t)

pub nth_folded : (ts : List PlainThread) (i : ℕ) → nth (folded_threads ts) i ≡ thread_some (nth ts i)
nth_folded [] i = refl
nth_folded (t ∷ ts) zero = refl
nth_folded (t ∷ ts) (suc i) = nth_folded ts i

pub length_folded : (ts : List PlainThread) → length (folded_threads ts) ≡ length ts
length_folded [] = refl
length_folded (t ∷ ts) = ap suc (length_folded ts)

pub folded_means : (p : PlainProgram) → MeansSame p (folded_program p)
folded_means p = record {
  cells = refl;
  as_many = length_folded p.threads;
  pure = λ n callee vs. pure_folded n p.functions callee vs;
  threads = λ i t u at there n es.
      let same : folded_thread t ≡ u = same_some (folded_thread t) u (sym (nth_folded p.threads i ∙ ap thread_some at) ∙ there) in
      subst (λ (x : PlainThread). observed_end (thread_meaning (source_in (folded_program p) x) n es) ≡ observed_end (thread_meaning (source_in p t) n es)) same (thread_folded (source_in p t) n es);
  actions = λ a v n es. action_folded p.cells p.functions n a v es;
}

-- a thread with its calls inlined is where the thread was
pub record At (gs : List PlainFunction) (ts : List PlainThread) (i : ℕ) (t : PlainThread) : Type 0 where
  pub left : ℕ
  pub found : nth ts i ≡ Some (record t { body = (inlined gs 0 left t.body).tree })

pub thread_at : (gs : List PlainFunction) (ts : List PlainThread) (budget i : ℕ) (t : PlainThread) → nth ts i ≡ Some t → At gs (threads_inlined gs budget ts) i t
thread_at gs [] budget i t is = absurd (missing t is)
thread_at gs (u ∷ ts) budget zero t is = record { left = budget; found = ap (λ (x : PlainThread). Some (record x { body = (inlined gs 0 budget x.body).tree })) (same_some u t is) }
thread_at gs (u ∷ ts) budget (suc i) t is =
    let r = thread_at gs ts (inlined gs 0 budget u.body).budget i t is in
    record { left = r.left; found = r.found }

pub length_inlined : (gs : List PlainFunction) (ts : List PlainThread) (budget : ℕ) → length (threads_inlined gs budget ts) ≡ length ts
length_inlined gs [] budget = refl
length_inlined gs (t ∷ ts) budget = ap suc (length_inlined gs ts (inlined gs 0 budget t.body).budget)

thread_sound : (ks : List Known) (ts : List PlainThread) (i : ℕ) (t : PlainThread) → SoundThreads ks ts → nth ts i ≡ Some t → SoundThread ks t
thread_sound ks [] i t h is = absurd (missing t is)
thread_sound ks (u ∷ ts) zero t h is = subst (λ (x : PlainThread). SoundThread ks x) (same_some u t is) h.0
thread_sound ks (u ∷ ts) (suc i) t h is = thread_sound ks ts i t h.1 is

pub inlined_means : (limit : ℕ) (p : PlainProgram) → Sound p → MeansSame p (inlined_program limit p)
inlined_means limit p sound =
    let fs = p.functions in
    let budget = budget_of limit p in
    let x = functions_inlined [] budget fs in
    let under = sound_under fs sound.functions in
    record {
      cells = refl;
      as_many = length_inlined x.functions p.threads x.budget;
      pure = λ n callee vs. pure_inlined number 0 n fs budget under (λ f fun is. nth-length fs f fun is) callee vs;
      threads = λ i t u at there n es.
          let r = thread_at x.functions p.threads x.budget i t at in
          let same : record t { body = (inlined x.functions 0 r.left t.body).tree } ≡ u = same_some (record t { body = (inlined x.functions 0 r.left t.body).tree }) u (sym r.found ∙ there) in
          subst (λ (y : PlainThread). observed_end (thread_meaning (source_in (inlined_program limit p) y) n es) ≡ observed_end (thread_meaning (source_in p t) n es)) same
          (thread_inlined (weight fs) (pure_ones fs) (source_in p t) budget r.left n es (weighs_under fs sound.functions) (validators_light fs p.cells sound.cells) (main_below fs sound.functions t.body (thread_sound (known fs) p.threads i t sound.threads at).0));
      actions = λ a v n es.
          action_inlined (weight fs) (pure_ones fs) p.cells fs budget n (weighs_under fs sound.functions) (validators_light fs p.cells sound.cells) (few_pure fs) (λ f fun is. light fs f (nth-length fs f fun is)) a v es;
    }
