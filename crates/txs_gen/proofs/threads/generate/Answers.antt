use Rattle.std.proofs.Common.{◌≡◌, Result, Ok, Err, IfOk, arith, ◌+◌, ◌≤◌, ◌++◌, [], length, refl, sym, ap, ◌∙◌, subst}
use Rattle.txs_tree_meaning.specs.Known.{known}
use Rattle.txs_tree_meaning.specs.Sound.{SoundFunctions, SoundThreads, nodes_of_functions, nodes_of_all}
use Rattle.txs_tree_meaning.specs.View.{functions_of, threads_of, program_of}
use Rattle.txs_code_meaning.specs.OwnCells.{NamesOwnCells}
use Rattle.txs_code_meaning.specs.WellTyped.{WellTyped}
use Rattle.txs_gen.specs.Bodies.{functions_from, function_rooms, threads_from, thread_rooms}
use Rattle.txs_gen.specs.Generated.{constants_of_functions, constants_of_threads, IsCodeOf}
use Rattle.txs_gen.proofs.Bodies.{code_from, code_is, code_right, code_well_typed, functions_nodes, lawful_none, lawful_from}
use Rattle.txs_gen.proofs.OwnCells.{code_names_own_cells}
use Rattle.txs_gen.proofs.threads.generate.Goals as goal

pub functions_code-requires : goal.functions_code-requires
functions_code-requires c =
    let sound = c.threads-threads.ensures.sound in
    let e = c.functions.ensures in
    record {
      part = ([], lawful_none, subst (λ l. SoundFunctions [] (functions_of l)) (sym e) sound.functions);
      few = subst (λ l. nodes_of_functions (functions_of l) ≤ 200000) (sym e) (omega (arith, sound.few_nodes));
    }

pub threads_code-requires : goal.threads_code-requires
threads_code-requires c =
    let sound = c.threads-threads.ensures.sound in
    let fs = functions_of c.args.program.now.functions in
    let e = c.threads-threads.ensures.value in
    let cs = c.in_ok-of_functions.ensures.constants ∙ ap (λ l. constants_of_functions (functions_of l)) c.functions.ensures in
    record {
      part = (known fs, lawful_from [] lawful_none fs sound.functions, subst (λ l. SoundThreads (known fs) (threads_of l)) (sym e) sound.threads);
      few = omega (arith, ap length cs, functions_nodes fs, subst (λ l. nodes_of_functions fs + nodes_of_all (threads_of l) ≤ 200000) (sym e) sound.few_nodes);
    }

pub seal-requires : goal.seal-requires
seal-requires c =
    let sound = c.threads-threads.ensures.sound in
    let zs = c.args.program.now.cells in
    let fs = functions_of c.args.program.now.functions in
    let ts = threads_of c.args.program.now.threads in
    let f = ap functions_of c.functions.ensures in
    let t = ap threads_of c.threads-threads.ensures.value in
    let a = c.in_ok-of_functions.ensures in
    let b = c.in_ok-of_threads.ensures in
    let before = a.constants ∙ ap constants_of_functions f in
    let constants = b.constants ∙ ap (λ l. l ++ constants_of_threads (threads_of c.threads-threads.result.now)) before ∙ ap (λ l. constants_of_functions fs ++ constants_of_threads l) t in
    let functions = a.bodies ∙ ap (λ l. functions_from l 0) f in
    let threads = b.bodies ∙ ap (λ l. threads_from (threads_of c.threads-threads.result.now) (length l)) before ∙ ap (λ l. threads_from l (length (constants_of_functions fs))) t in
    let code = c.new-code.ensures ∙ code_is _ zs _ (constants_of_functions fs ++ constants_of_threads ts) _ (functions_from fs 0) _ (threads_from ts (length (constants_of_functions fs))) (c.in_ok-cells.ensures ∙ c.cells.ensures) constants functions threads in
    record {
      typed = subst (λ x. WellTyped x c.in_ok-of_functions.of_functions.rooms.items c.in_ok-of_threads.of_threads.rooms.items) (sym code)
          (subst (λ r. WellTyped (code_from zs fs ts) r c.in_ok-of_threads.of_threads.rooms.items) (sym (a.rooms ∙ ap function_rooms f))
          (subst (λ r. WellTyped (code_from zs fs ts) (function_rooms fs) r) (sym (b.rooms ∙ ap thread_rooms t)) (code_well_typed zs fs ts sound.functions sound.threads sound.cells)));
      own_cells = subst NamesOwnCells (sym code) (code_names_own_cells (code_from zs fs ts) (program_of c.args.program.now) (code_right zs fs ts sound.functions sound.threads (program_of c.args.program.now) refl refl refl) c.requires);
    }

-- what follows from what holds of a result
if_ok : {A B : Type 0} (P Q : A → Type 0) → ((a : A) → P a → Q a) → (r : Result A B) → IfOk r P → IfOk r Q
if_ok P Q h (Ok a) p = h a p
if_ok P Q h (Err e) p = tt

pub returns : goal.returns
returns c =
    let sound = c.threads-threads.ensures.sound in
    let zs = c.args.program.now.cells in
    let fs = functions_of c.args.program.now.functions in
    let ts = threads_of c.args.program.now.threads in
    let f = ap functions_of c.functions.ensures in
    let t = ap threads_of c.threads-threads.ensures.value in
    let a = c.in_ok-of_functions.ensures in
    let b = c.in_ok-of_threads.ensures in
    let before = a.constants ∙ ap constants_of_functions f in
    let constants = b.constants ∙ ap (λ l. l ++ constants_of_threads (threads_of c.threads-threads.result.now)) before ∙ ap (λ l. constants_of_functions fs ++ constants_of_threads l) t in
    let functions = a.bodies ∙ ap (λ l. functions_from l 0) f in
    let threads = b.bodies ∙ ap (λ l. threads_from (threads_of c.threads-threads.result.now) (length l)) before ∙ ap (λ l. threads_from l (length (constants_of_functions fs))) t in
    let code = c.new-code.ensures ∙ code_is _ zs _ (constants_of_functions fs ++ constants_of_threads ts) _ (functions_from fs 0) _ (threads_from ts (length (constants_of_functions fs))) (c.in_ok-cells.ensures ∙ c.cells.ensures) constants functions threads in
    if_ok (λ v. v ≡ c.new-code.result) (λ v. IsCodeOf v (program_of c.args.program.now)) (λ v e. subst (λ x. IsCodeOf x (program_of c.args.program.now)) (sym (e ∙ code)) (code_right zs fs ts sound.functions sound.threads (program_of c.args.program.now) refl refl refl)) c.seal.result c.seal.ensures
