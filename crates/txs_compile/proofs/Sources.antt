-- On replies an optimised thread does what the thread did.
use Rattle.std.proofs.Common.{◌≡◌, ℕ, false, List, [], length, refl, sym, ◌∙◌, subst, arith}
use Rattle.txs_world_protocol.specs.Ask.{Exchange}
use Rattle.txs_value_cell.specs.Cells.{Validators, validators_of}
use Rattle.txs_tree_meaning.specs.Meaning.{closed, Effects, eval, call_at}
use Rattle.txs_tree_meaning.specs.Tree.{PlainFunction, ThreadSource}
use Rattle.txs_code_meaning.specs.ActorState.{ActorState}
use Rattle.txs_code_meaning.specs.Opening.{fresh}
use Rattle.txs_theorem_threads.specs.Behaves.{source}
use Rattle.txs_theorem_threads.specs.OnReplies.{on_replies}
use Rattle.txs_opt.specs.Fold.{folded, folded_functions}
use Rattle.txs_opt.specs.Inline.{inlined, functions_inlined}
use Rattle.txs_opt.specs.Keeps.{folded_source, inlined_source}
use Rattle.txs_opt.proofs.Below.{Each, any_below}
use Rattle.txs_opt.proofs.FoldedProgram.{bodies_folded, length_folded}
use Rattle.txs_opt.proofs.InlinedFunctions.{length_inlined}
use Rattle.txs_opt.proofs.InlinedProgram.{Bodies, bodies_inlined}
use Rattle.txs_opt.proofs.Like.{Like, closed_like}
use Rattle.txs_opt.proofs.OneWorld.{Any}
use Rattle.txs_compile.proofs.Replies.{K, reply_forms, reply_ends}

abbrev pub fx : Validators → ℕ → Effects ActorState
fx va d = on_replies va

-- where the first isn't invalid, the second is the same
abbrev pub SourceKept : ThreadSource → ThreadSource → ℕ → List Exchange → Type 0
SourceKept p q n todo = Like K (source p n todo) (source q n todo)

pub fold_kept : (p : ThreadSource) (n : ℕ) (todo : List Exchange) → SourceKept p (folded_source p) n todo
fold_kept p n todo =
    let va = validators_of p.cells in
    let gs = folded_functions p.functions in
    let d = length p.functions in
    subst (λ j. Like K (source p n todo) (closed (eval (on_replies va) (call_at (fx va) n gs j) n false (folded p.main) [] (fresh todo)))) (sym (length_folded p.functions))
    (closed_like ActorState K (eval (on_replies va) (call_at (fx va) n p.functions d) n false p.main [] (fresh todo)) (eval (on_replies va) (call_at (fx va) n gs d) n false (folded p.main) [] (fresh todo))
    (bodies_folded ActorState K (λ j. Any) (fx va) (fx va) n p.functions (λ j. reply_forms va) (λ j e env. tt) d false p.main [] (fresh todo) (fresh todo) refl))

-- no condition on what bodies call
pub each_bodies : (gs : List PlainFunction) → Bodies (λ j. Each) gs
each_bodies gs d f fun found may = any_below fun.body

pub inline_kept : (budget left : ℕ) (p : ThreadSource) (m : ℕ) (todo : List Exchange) → SourceKept p (inlined_source budget left p) m todo
inline_kept budget left p m todo =
    let va = validators_of p.cells in
    let fs = p.functions in
    let gs = (functions_inlined [] budget fs).functions in
    let d = length fs in
    let same : length fs ≡ length gs = omega (arith, length_inlined fs [] budget) in
    let main = (inlined gs 0 left p.main).tree in
    subst (λ j. Like K (source p m todo) (closed (eval (on_replies va) (call_at (fx va) m gs j) m false main [] (fresh todo)))) same
    (closed_like ActorState K (eval (on_replies va) (call_at (fx va) m fs d) m false p.main [] (fresh todo)) (eval (on_replies va) (call_at (fx va) m gs d) m false main [] (fresh todo))
    (bodies_inlined ActorState K (λ j. Each) (λ f h. tt) (λ j f h. tt) (λ s t r. refl) (λ s t u p1 q1. p1 ∙ q1) (λ j. Any) (λ j. Any) (λ j. Any) (fx va) (fx va) m fs budget (each_bodies fs) (each_bodies gs) (λ j. reply_forms va) (λ j front within c l e env low is. tt)
    (λ j. reply_forms va) (λ j e env low. tt) (λ j c i e env env1 low w. tt) (λ j. reply_forms va) (λ j e env low. tt) (λ j. reply_ends va) d gs (λ f fun is. is) false p.main [] 0 left (any_below p.main) refl (fresh todo) (fresh todo) refl))
