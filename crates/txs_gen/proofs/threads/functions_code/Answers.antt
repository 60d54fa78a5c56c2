use Rattle.std.proofs.Common.{arith, ◌+◌, Some, [], ◌∷◌, ◌++◌, length, drop, sym, ap, ◌∙◌, subst, append_assoc, length-append}
use Rattle.std.proofs.lemmas.List.{append-nil}
use Rattle.txs_tree_meaning.specs.Known.{known_of}
use Rattle.txs_tree_meaning.specs.Sound.{in_function, nodes_of_functions}
use Rattle.txs_tree_meaning.specs.View.{function_of, functions_of}
use Rattle.txs_code_meaning.specs.declared.instr.Instr.TheVariants.{Return}
use Rattle.txs_gen.specs.Bodies.{made_at, functions_from, function_rooms, AreSoundFunctions}
use Rattle.txs_gen.specs.Emission.{Emission, Place}
use Rattle.txs_gen.specs.Generated.{constants_of, constants_of_functions}
use Rattle.txs_gen.proofs.Bodies.{made_body, finished_body, finished_constants, finished_room, finished_spans, finished_instrs, function_as_many, lawful_more, functions_left, no_functions_left}
use Rattle.txs_gen.proofs.Emissions.{constants_nodes}
use Rattle.txs_gen.proofs.threads.functions_code.Goals as goal

pub loop-function-init : goal.loop-function-init
loop-function-init c =
    let fs = functions_of c.args.functions.now in
    let n = c.new-constants.ensures.items in
    record {
      bodies = ap (λ l. l ++ functions_from fs (length c.new-constants.result.items)) c.new-bodies.ensures.items ∙ ap (λ l. functions_from fs (length l)) n;
      rooms = ap (λ l. l ++ function_rooms fs) c.new-rooms.ensures.items;
      constants = ap (λ l. l ++ constants_of_functions fs) n;
      part = c.requires.part;
      few = omega (arith, ap length n, c.requires.few);
    }

pub body_code-requires : goal.body_code-requires
body_code-requires c =
    let e = functions_left c.args.functions.now c.loop-function.function-index c.function-item.result c.loop-function-test.true c.function-item.is in
    let p = subst (λ l. AreSoundFunctions l) e c.loop-function.invariant.part in
    let place : Place = record { known = p.0; lawful = p.1; zone = in_function } in
    record {
      part = (place, Some c.function-item.result.parameters, (omega arith, omega (arith, p.2.0.0)), p.2.0.1);
      few_constants = omega (arith, ap nodes_of_functions e, c.loop-function.invariant.few);
    }

pub new-requires : goal.new-requires
new-requires c =
    let f = function_of c.function-item.result in
    let cs = c.loop-function.constants.items in
    let e = functions_left c.args.functions.now c.loop-function.function-index c.function-item.result c.loop-function-test.true c.function-item.is in
    let p = subst (λ l. AreSoundFunctions l) e c.loop-function.invariant.part in
    ap (λ (x : Emission). length x.spans) c.in_ok-made.ensures
    ∙ finished_spans f.parameters f.body Return f.span cs ∙ function_as_many f cs p.0 p.1 p.2.0 ∙ sym (finished_instrs f.parameters f.body Return f.span cs)
    ∙ sym (ap (λ (x : Emission). length x.instrs) c.in_ok-made.ensures)

pub loop-function-preserved : goal.loop-function-preserved
loop-function-preserved c =
    let fs = c.args.functions.now in
    let i = c.loop-function.function-index in
    let f = function_of c.function-item.result in
    let rest = functions_of (drop (i + 1) fs) in
    let cs = c.loop-function.constants.items in
    let bs = c.loop-function.bodies.items in
    let rs = c.loop-function.rooms.items in
    let k = c.in_ok-made.made.constants.items in
    let e = functions_left fs i c.function-item.result c.loop-function-test.true c.function-item.is in
    let p = subst (λ l. AreSoundFunctions l) e c.loop-function.invariant.part in
    let made = c.in_ok-made.ensures in
    let body = c.new.ensures ∙ ap (made_body f.parameters) made ∙ finished_body f.parameters f.body Return f.span cs in
    let room = ap (λ (x : Emission). x.room) made ∙ finished_room f.parameters f.body Return f.span cs in
    let more = ap (λ (x : Emission). x.constants) made ∙ finished_constants f.parameters f.body Return f.span cs in
    let count = ap length more ∙ length-append cs (constants_of f.body) in
    record {
      bodies = ap (λ l. l ++ functions_from rest (length k)) c.in_ok-push.ensures.items
          ∙ append_assoc bs (c.new.result ∷ []) (functions_from rest (length k))
          ∙ ap (λ x. bs ++ x ∷ functions_from rest (length k)) body
          ∙ ap (λ n. bs ++ made_at f.parameters f.body Return f.span (length cs) ∷ functions_from rest n) count
          ∙ ap (λ l. bs ++ functions_from l (length cs)) (sym e)
          ∙ c.loop-function.invariant.bodies;
      rooms = ap (λ l. l ++ function_rooms rest) c.in_ok-push-2.ensures.items
          ∙ append_assoc rs (c.in_ok-made.made.room ∷ []) (function_rooms rest)
          ∙ ap (λ x. rs ++ x ∷ function_rooms rest) room
          ∙ ap (λ l. rs ++ function_rooms l) (sym e)
          ∙ c.loop-function.invariant.rooms;
      constants = ap (λ l. l ++ constants_of_functions rest) more
          ∙ append_assoc cs (constants_of f.body) (constants_of_functions rest)
          ∙ ap (λ l. cs ++ constants_of_functions l) (sym e)
          ∙ c.loop-function.invariant.constants;
      part = (p.0 ++ known_of p.0 f ∷ [], lawful_more p.0 p.1 f p.2.0, p.2.1);
      few = omega (arith, count, constants_nodes f.body, ap nodes_of_functions e, c.loop-function.invariant.few);
    }

pub returns : goal.returns
returns c =
    let e = no_functions_left c.args.functions.now c.loop-function.function-index c.loop-function-test.false in
    let bs = c.loop-function.bodies.items in
    let rs = c.loop-function.rooms.items in
    let cs = c.loop-function.constants.items in
    record {
      constants = sym (append-nil cs) ∙ ap (λ l. cs ++ constants_of_functions l) (sym e) ∙ c.loop-function.invariant.constants;
      bodies = sym (append-nil bs) ∙ ap (λ l. bs ++ functions_from l (length cs)) (sym e) ∙ c.loop-function.invariant.bodies;
      rooms = sym (append-nil rs) ∙ ap (λ l. rs ++ function_rooms l) (sym e) ∙ c.loop-function.invariant.rooms;
    }
