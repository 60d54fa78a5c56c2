use Rattle.std.proofs.Common.{[], length, ap, sym, subst}
use Rattle.std.proofs.lemmas.Result.{err_from_is_err_and}
use Rattle.txs_code_meaning.specs.PlainCode.{parameters_of}
use Rattle.txs_verify.specs.Verdict.{AreWalked}
use Rattle.txs_verify.proofs.Ends.{function_wrong}
use Rattle.txs_verify.proofs.Roomy.{walked_none}
use Rattle.txs_verify.proofs.bodies.walk_functions.Goals as goal

pub loop-n-init : goal.loop-n-init
loop-n-init c =
    let fs = c.args.functions.now in
    let ps = parameters_of fs in
    record {
      many = ap length c.requires.none;
      walked = subst (λ x. AreWalked ps fs x c.args.rooms.now.items) (sym c.requires.none) (subst (λ x. AreWalked ps fs [] x) (sym c.requires.no_rooms) (walked_none ps fs));
    }

pub returns-in_err-function_at-clause-wrong : goal.returns-in_err-function_at-clause-wrong
returns-in_err-function_at-clause-wrong c =
    let p = err_from_is_err_and c.from_residual.result c.from_residual.ensures.1 in
    rw (p.1, p.2) (function_wrong c.args.functions.now c.loop-n.kinds.items c.function_at.new.kinds.items c.loop-n.rooms.items c.loop-n.n c.in_err-function_at.field-0.0 c.loop-n.invariant.walked c.loop-n.invariant.many c.in_err-function_at.ensures.wrong c.in_err-function_at.ensures.kept)

pub function_at-requires-clause-few : goal.function_at-requires-clause-few
function_at-requires-clause-few c = c.requires.few
