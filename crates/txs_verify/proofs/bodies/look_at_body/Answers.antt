use Rattle.std.proofs.Common.{◌≡◌, ◌<◌, Option, Some, None, sym, ap, subst, ◌∙◌}
use Rattle.txs_value_data.specs.Places.{nth}
use Rattle.txs_code_meaning.specs.PlainCode.{CodeBody, parameters_of}
use Rattle.txs_verify.specs.Alone.{IsRight, IsRightBody, IsWrongAlone}
use Rattle.txs_verify.proofs.Lists.{nth_is}
use Rattle.txs_verify.proofs.bodies.look_at_body.Goals as goal

abbrev else_body : CodeBody → Option CodeBody → CodeBody
else_body d None = d
else_body d (Some b) = b

pub returns-in-Err-clause-first : goal.returns-in-Err-clause-first
returns-in-Err-clause-first c b e at i lt st =
    let x = c.index-bodies-n.result in
    let ps = parameters_of c.args.functions.now in
    let read : nth c.args.bodies.now c.args.n ≡ Some x = nth_is c.args.bodies.now c.args.n x c.requires.place ∙ ap Some (sym c.index-bodies-n.is) in
    let same : x ≡ b = ap (else_body x) (sym read ∙ e) in
    let placed : c.stopped.result.at ≡ c.in-Err.refusal.at = ap (λ r. r.at) c.stopped.ensures in
    let right : IsRight c.callable-callable.result ps x at i = c.in-Err.ensures.first at i (subst (λ n. at < n) placed lt) (subst (λ y. nth y.instrs at ≡ Some i) (sym same) st) in
    subst (λ k. IsRight k ps b at i) c.callable-callable.ensures (subst (λ y. IsRight c.callable-callable.result ps y at i) same right)

pub look_alone-requires : goal.look_alone-requires
look_alone-requires c =
    let x = c.index-bodies-n.result in
    c.requires.few x (nth_is c.args.bodies.now c.args.n x c.requires.place ∙ ap Some (sym c.index-bodies-n.is))

pub returns-in-Ok-clause-right : goal.returns-in-Ok-clause-right
returns-in-Ok-clause-right c = λ b e.
    (let x = c.index-bodies-n.result in
    let ps = parameters_of c.args.functions.now in
    let read : nth c.args.bodies.now c.args.n ≡ Some x = nth_is c.args.bodies.now c.args.n x c.requires.place ∙ ap Some (sym c.index-bodies-n.is) in
    let same : x ≡ b = ap (else_body x) (sym read ∙ e) in
    subst (λ k. IsRightBody k ps b) c.callable-callable.ensures (subst (λ y. IsRightBody c.callable-callable.result ps y) same c.in-Ok.ensures.right))

pub returns-in-Err-clause-wrong : goal.returns-in-Err-clause-wrong
returns-in-Err-clause-wrong c = λ b e.
    (let x = c.index-bodies-n.result in
    let ps = parameters_of c.args.functions.now in
    let n = c.callable-callable.result in
    let at = c.stopped.result.at in
    let read : nth c.args.bodies.now c.args.n ≡ Some x = nth_is c.args.bodies.now c.args.n x c.requires.place ∙ ap Some (sym c.index-bodies-n.is) in
    let same : x ≡ b = ap (else_body x) (sym read ∙ e) in
    let why : c.stopped.result.kind ≡ c.in-Err.refusal.kind = ap (λ r. r.kind) c.stopped.ensures in
    let placed : at ≡ c.in-Err.refusal.at = ap (λ r. r.at) c.stopped.ensures in
    let there = subst (λ p. IsWrongAlone n ps x c.in-Err.refusal.kind p) (sym placed) c.in-Err.ensures.wrong in
    let told = subst (λ k. IsWrongAlone n ps x k at) (sym why) there in
    subst (λ m. IsWrongAlone m ps b c.stopped.result.kind at) c.callable-callable.ensures (subst (λ y. IsWrongAlone n ps y c.stopped.result.kind at) same told))
