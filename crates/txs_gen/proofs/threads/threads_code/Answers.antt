use Rattle.std.proofs.Common.{arith, ◌+◌, None, [], ◌∷◌, ◌++◌, length, drop, refl, sym, ap, ◌∙◌, subst, append_assoc, length-append}
use Rattle.std.proofs.lemmas.List.{append-nil}
use Rattle.txs_tree_meaning.specs.Sound.{in_thread, nodes_of_all}
use Rattle.txs_tree_meaning.specs.View.{thread_of, threads_of}
use Rattle.txs_code_meaning.specs.declared.instr.Instr.TheVariants.{Halt}
use Rattle.txs_gen.specs.Bodies.{made_at, threads_from, thread_rooms, AreSoundThreads}
use Rattle.txs_gen.specs.Emission.{Emission, Place}
use Rattle.txs_gen.specs.Generated.{constants_of, constants_of_threads}
use Rattle.txs_gen.proofs.Bodies.{made_body, finished_body, finished_constants, finished_room, finished_spans, finished_instrs, thread_as_many, threads_left, no_threads_left}
use Rattle.txs_gen.proofs.Emissions.{constants_nodes}
use Rattle.txs_gen.proofs.threads.threads_code.Goals as goal

pub loop-thread-init : goal.loop-thread-init
loop-thread-init c =
    let ts = threads_of c.args.threads.now in
    record {
      bodies = ap (λ l. l ++ threads_from ts (length c.args.before.items)) c.new-bodies.ensures.items;
      rooms = ap (λ l. l ++ thread_rooms ts) c.new-rooms.ensures.items;
      constants = refl;
      part = c.requires.part;
      few = c.requires.few;
    }

pub body_code-requires : goal.body_code-requires
body_code-requires c =
    let e = threads_left c.args.threads.now c.loop-thread.thread-index c.thread-item.result c.loop-thread-test.true c.thread-item.is in
    let p = subst (λ l. AreSoundThreads l) e c.loop-thread.invariant.part in
    let place : Place = record { known = p.0; lawful = p.1; zone = in_thread } in
    record {
      part = (place, None, tt, p.2.0.0);
      few_constants = omega (arith, ap nodes_of_all e, c.loop-thread.invariant.few);
    }

pub new-requires : goal.new-requires
new-requires c =
    let t = thread_of c.thread-item.result in
    let cs = c.loop-thread.constants.items in
    let e = threads_left c.args.threads.now c.loop-thread.thread-index c.thread-item.result c.loop-thread-test.true c.thread-item.is in
    let p = subst (λ l. AreSoundThreads l) e c.loop-thread.invariant.part in
    ap (λ (x : Emission). length x.spans) c.in_ok-made.ensures
    ∙ finished_spans 0 t.body Halt t.span cs ∙ thread_as_many t cs p.0 p.1 p.2.0.0 ∙ sym (finished_instrs 0 t.body Halt t.span cs)
    ∙ sym (ap (λ (x : Emission). length x.instrs) c.in_ok-made.ensures)

pub loop-thread-preserved : goal.loop-thread-preserved
loop-thread-preserved c =
    let ts = c.args.threads.now in
    let i = c.loop-thread.thread-index in
    let t = thread_of c.thread-item.result in
    let rest = threads_of (drop (i + 1) ts) in
    let cs = c.loop-thread.constants.items in
    let bs = c.loop-thread.bodies.items in
    let rs = c.loop-thread.rooms.items in
    let k = c.in_ok-made.made.constants.items in
    let e = threads_left ts i c.thread-item.result c.loop-thread-test.true c.thread-item.is in
    let p = subst (λ l. AreSoundThreads l) e c.loop-thread.invariant.part in
    let made = c.in_ok-made.ensures in
    let body = c.new.ensures ∙ ap (made_body 0) made ∙ finished_body 0 t.body Halt t.span cs in
    let room = ap (λ (x : Emission). x.room) made ∙ finished_room 0 t.body Halt t.span cs in
    let more = ap (λ (x : Emission). x.constants) made ∙ finished_constants 0 t.body Halt t.span cs in
    let count = ap length more ∙ length-append cs (constants_of t.body) in
    record {
      bodies = ap (λ l. l ++ threads_from rest (length k)) c.in_ok-push.ensures.items
          ∙ append_assoc bs (c.new.result ∷ []) (threads_from rest (length k))
          ∙ ap (λ x. bs ++ x ∷ threads_from rest (length k)) body
          ∙ ap (λ n. bs ++ made_at 0 t.body Halt t.span (length cs) ∷ threads_from rest n) count
          ∙ ap (λ l. bs ++ threads_from l (length cs)) (sym e)
          ∙ c.loop-thread.invariant.bodies;
      rooms = ap (λ l. l ++ thread_rooms rest) c.in_ok-push-2.ensures.items
          ∙ append_assoc rs (c.in_ok-made.made.room ∷ []) (thread_rooms rest)
          ∙ ap (λ x. rs ++ x ∷ thread_rooms rest) room
          ∙ ap (λ l. rs ++ thread_rooms l) (sym e)
          ∙ c.loop-thread.invariant.rooms;
      constants = ap (λ l. l ++ constants_of_threads rest) more
          ∙ append_assoc cs (constants_of t.body) (constants_of_threads rest)
          ∙ ap (λ l. cs ++ constants_of_threads l) (sym e)
          ∙ c.loop-thread.invariant.constants;
      part = (p.0, p.1, p.2.1);
      few = omega (arith, count, constants_nodes t.body, ap nodes_of_all e, c.loop-thread.invariant.few);
    }

pub returns : goal.returns
returns c =
    let e = no_threads_left c.args.threads.now c.loop-thread.thread-index c.loop-thread-test.false in
    let bs = c.loop-thread.bodies.items in
    let rs = c.loop-thread.rooms.items in
    let cs = c.loop-thread.constants.items in
    record {
      constants = sym (append-nil cs) ∙ ap (λ l. cs ++ constants_of_threads l) (sym e) ∙ c.loop-thread.invariant.constants;
      bodies = sym (append-nil bs) ∙ ap (λ l. bs ++ threads_from l (length cs)) (sym e) ∙ c.loop-thread.invariant.bodies;
      rooms = sym (append-nil rs) ∙ ap (λ l. rs ++ thread_rooms l) (sym e) ∙ c.loop-thread.invariant.rooms;
    }
