use Rattle.std.proofs.Common.{◌∙◌, ◌<◌, ◌∷◌, [], sym, ap, subst, refl, arith, length, length-append, Some}
use Rattle.std.proofs.lemmas.Result.{err_from_is_err_and}
use Rattle.txs_code_meaning.specs.PlainCode.{CodeBody, parameters_of}
use Rattle.txs_verify.specs.Going.{AllJumpWithin}
use Rattle.txs_verify.specs.Verdict.{AreWalkedThreads}
use Rattle.txs_verify.proofs.Lists.{nth_is}
use Rattle.txs_verify.proofs.Roomy.{jumps_of, stop_of, thread_more}
use Rattle.txs_verify.proofs.bodies.add_thread.Goals as goal

pub walk_body-requires-clause-jumps : goal.walk_body-requires-clause-jumps
walk_body-requires-clause-jumps c =
    let bs = c.args.threads.now in
    let body : CodeBody = c.index-threads-n.result in
    let stands = nth_is bs c.args.n body c.requires.place ∙ ap Some (sym c.index-threads-n.is) in
    subst (λ is. AllJumpWithin is) (sym c.instrs.ensures) (jumps_of _ (parameters_of c.args.functions.now) body (c.requires.right body stands))

pub returns-in_err-room-clause-wrong : goal.returns-in_err-room-clause-wrong
returns-in_err-room-clause-wrong c =
    let bs = c.args.threads.now in
    let body : CodeBody = c.index-threads-n.result in
    let stands = nth_is bs c.args.n body c.requires.place ∙ ap Some (sym c.index-threads-n.is) in
    let p = err_from_is_err_and c.from_residual.result c.from_residual.ensures.1 in
    rw (p.1, p.2) (stop_of _ (parameters_of c.args.functions.now) c.args.kinds.now c.args.kinds.now c.instrs.result.now bs c.args.n body refl c.instrs.ensures stands c.in_err-room.field-0.0 c.in_err-room.ensures.wrong)

pub returns-clause-walked : goal.returns-clause-walked
returns-clause-walked c =
    let bs = c.args.threads.now in
    let ps = parameters_of c.args.functions.now in
    let body : CodeBody = c.index-threads-n.result in
    let stands = nth_is bs c.args.n body c.requires.place ∙ ap Some (sym c.index-threads-n.is) in
    let more = thread_more c.args.kinds.now ps bs c.args.rooms.now.items c.args.n body c.instrs.result.now _ c.in_ok-room.room c.requires.walked c.instrs.ensures stands c.requires.many c.in_ok-room.ensures.walked in
    subst (λ x. AreWalkedThreads c.args.kinds.now ps bs x) (sym c.in_ok-push.ensures.items) more

pub walk_body-requires-clause-few : goal.walk_body-requires-clause-few
walk_body-requires-clause-few c =
    let bs = c.args.threads.now in
    let body : CodeBody = c.index-threads-n.result in
    let stands = nth_is bs c.args.n body c.requires.place ∙ ap Some (sym c.index-threads-n.is) in
    subst (λ is. length is < 4294967295) (sym c.instrs.ensures) (c.requires.few body stands)

pub returns-clause-many : goal.returns-clause-many
returns-clause-many c = omega (arith, ap length c.in_ok-push.ensures.items, length-append c.args.rooms.now.items (c.in_ok-room.room ∷ []), c.requires.many)
