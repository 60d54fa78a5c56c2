use Rattle.std.proofs.Common.{◌≡◌, ◌+◌, ◌∙◌, ℕ, List, [], None, get_or, refl, sym, ap, subst, arith, inl}
use Rattle.txs_code_meaning.specs.PlainCode.{PlainCode, CodeBody}
use Rattle.txs_code_meaning.specs.Machine.{nils}
use Rattle.txs_frame.specs.Frame.{empty_frame}
use Rattle.txs_machine_actor.specs.PlainActor.{PlainActor, Runs, functions_of}
use Rattle.txs_machine_stack.specs.PlainFrame.{PlainStack}
use Rattle.txs_machine_actor.specs.Turns.{IsNew}
use Rattle.txs_machine_transaction.specs.declared.state.Transaction.TheVariants.{Outside}
use Rattle.txs_machine_transaction.specs.declared.role.Role.TheVariants.{Thread}
use Rattle.txs_machine_actor.proofs.Openings.{rooms_as_many, is_new, new_runs}
use Rattle.txs_machine_actor.proofs.actor.Actor.thread.Goals as goal

pub bounds-rooms-from : goal.bounds-rooms-from
bounds-rooms-from c =
    let d = c.args.code.now in
    let w = c.rooms.ensures in
    let n = rooms_as_many (functions_of d w.kinds) d.constants d.threads c.rooms.result.1.now w.threads in
    omega (arith, n, c.requires, c.from-2.ensures)

pub returns-clause-new : goal.returns-clause-new
returns-clause-new c =
    let d = c.args.code.now in
    let b = c.index-threads-from.result in
    let l = c.from-locals.result in
    let is : b ≡ get_or d.threads c.args.k b =
    c.index-threads-from.is ∙ ap (λ (ts : List CodeBody). get_or ts c.from.result b) (c.threads.ensures ∙ ap (λ (e : PlainCode). e.threads) c.code.ensures.value) ∙ ap (λ (i : ℕ). get_or d.threads i b) c.from.ensures in
    let sized : l ≡ b.locals = c.from-locals.ensures ∙ c.locals.ensures in
    let new : PlainStack → PlainActor =
    λ s. record { number = c.args.k; role = Thread; body = s.body; frames = s.frames; locals = s.locals; place = s.place; values = s.values; printed = []; at = 0; view = 0; done = empty_frame; commuting = None; accepted = None; tx = Outside; pending = None; outcome = None; steps = 0; limit = c.args.max_steps; room = s.room } in
    subst (λ (x : PlainActor). IsNew d c.args.k c.args.max_steps x) (sym c.fresh.ensures)
    (subst (λ (s : PlainStack). IsNew d c.args.k c.args.max_steps (new s)) (sym c.in_ok-stack.ensures)
    (is_new d c.args.k l c.args.max_steps (l + get_or c.rooms.result.1.now c.from-2.result 0) (nils l) [] [] empty_frame b is c.requires sized refl refl refl refl))

pub returns-clause-lives : goal.returns-clause-lives
returns-clause-lives c =
    let d = c.args.code.now in
    let b = c.index-threads-from.result in
    let l = c.from-locals.result in
    let rooms = c.rooms.result.1.now in
    let is : b ≡ get_or d.threads c.args.k b =
    c.index-threads-from.is ∙ ap (λ (ts : List CodeBody). get_or ts c.from.result b) (c.threads.ensures ∙ ap (λ (e : PlainCode). e.threads) c.code.ensures.value) ∙ ap (λ (i : ℕ). get_or d.threads i b) c.from.ensures in
    let sized : l ≡ b.locals = c.from-locals.ensures ∙ c.locals.ensures in
    let new : PlainStack → PlainActor =
    λ s. record { number = c.args.k; role = Thread; body = s.body; frames = s.frames; locals = s.locals; place = s.place; values = s.values; printed = []; at = 0; view = 0; done = empty_frame; commuting = None; accepted = None; tx = Outside; pending = None; outcome = None; steps = 0; limit = c.args.max_steps; room = s.room } in
    let roomy : l + get_or rooms c.from-2.result 0 ≡ l + get_or rooms c.args.k 0 = ap (λ (i : ℕ). l + get_or rooms i 0) c.from-2.ensures in
    inl (subst (λ (x : PlainActor). Runs d x) (sym c.fresh.ensures) (subst (λ (s : PlainStack). Runs d (new s)) (sym c.in_ok-stack.ensures)
    (new_runs d c.args.k l c.args.max_steps (l + get_or rooms c.from-2.result 0) (nils l) [] [] empty_frame b is c.requires sized refl refl refl refl c.rooms.result.0.now rooms c.rooms.ensures roomy)))
