use Rattle.std.proofs.Common.{◌∙◌, ◌<◌, ◌++◌, ◌∷◌, [], sym, ap, subst, arith, length, length-append, Some}
use Rattle.std.proofs.lemmas.Result.{err_from_is_err_and}
use Rattle.txs_code_meaning.specs.PlainCode.{CodeBody, parameters_of}
use Rattle.txs_verify.specs.Going.{AllJumpWithin}
use Rattle.txs_verify.specs.Verdict.{AreWalked}
use Rattle.txs_verify.proofs.Ends.{stays}
use Rattle.txs_verify.proofs.Lists.{nth_is}
use Rattle.txs_verify.proofs.Roomy.{jumps_of, stop_of, function_more}
use Rattle.txs_verify.proofs.bodies.add_function.Goals as goal

pub walk_body-requires-clause-jumps : goal.walk_body-requires-clause-jumps
walk_body-requires-clause-jumps c =
    let fs = c.args.functions.now in
    let body : CodeBody = c.index-functions-n.result in
    let stands = nth_is fs c.args.n body c.requires.place ∙ ap Some (sym c.index-functions-n.is) in
    subst (λ is. AllJumpWithin is) (sym c.instrs.ensures) (jumps_of c.args.n (parameters_of fs) body (c.requires.right body stands))

pub returns-in_err-kind-clause-wrong : goal.returns-in_err-kind-clause-wrong
returns-in_err-kind-clause-wrong c =
    let fs = c.args.functions.now in
    let body : CodeBody = c.index-functions-n.result in
    let stands = nth_is fs c.args.n body c.requires.place ∙ ap Some (sym c.index-functions-n.is) in
    let p = err_from_is_err_and c.from_residual.result c.from_residual.ensures.1 in
    rw (p.1, p.2) (stop_of _ (parameters_of fs) c.args.kinds.now.items c.as_slice.result.now c.instrs.result.now fs c.args.n body c.as_slice.ensures.value c.instrs.ensures stands c.in_err-kind.field-0.0 c.in_err-kind.ensures.wrong)

pub returns-clause-walked : goal.returns-clause-walked
returns-clause-walked c =
    let fs = c.args.functions.now in
    let ps = parameters_of fs in
    let body : CodeBody = c.index-functions-n.result in
    let stands = nth_is fs c.args.n body c.requires.place ∙ ap Some (sym c.index-functions-n.is) in
    let more = function_more ps fs c.args.kinds.now.items c.as_slice.result.now c.args.rooms.now.items c.args.n body c.instrs.result.now c.in_ok-kind.kind c.in_ok-kind.room c.requires.walked c.as_slice.ensures.value c.instrs.ensures stands c.requires.many c.in_ok-kind.ensures.walked in
    subst (λ x. AreWalked ps fs x c.push-2.new.self.items) (sym c.in_ok-push.ensures.items) (subst (λ x. AreWalked ps fs (c.args.kinds.now.items ++ c.in_ok-kind.kind ∷ []) x) (sym c.in_ok-push-2.ensures.items) more)

pub walk_body-requires-clause-few : goal.walk_body-requires-clause-few
walk_body-requires-clause-few c =
    let fs = c.args.functions.now in
    let body : CodeBody = c.index-functions-n.result in
    let stands = nth_is fs c.args.n body c.requires.place ∙ ap Some (sym c.index-functions-n.is) in
    subst (λ is. length is < 4294967295) (sym c.instrs.ensures) (c.requires.few body stands)

pub returns-clause-many : goal.returns-clause-many
returns-clause-many c = omega (arith, ap length c.in_ok-push.ensures.items, length-append c.args.kinds.now.items (c.in_ok-kind.kind ∷ []), c.requires.many)

pub returns-in_err-kind-clause-kept : goal.returns-in_err-kind-clause-kept
returns-in_err-kind-clause-kept c =
    let p = err_from_is_err_and c.from_residual.result c.from_residual.ensures.1 in
    rw (p.1, p.2) (stays c.args.kinds.now.items c.in_err-kind.field-0.0)
