use Rattle.std.proofs.Common.{◌≡◌, ◌<◌, length, get_or, refl, rules}
use Rattle.std.proofs.lemmas.Bool.{false≢true}
use Rattle.txs_world_shared.proofs.Apart.{like_more, like_here, like_rest}
use Rattle.txs_world_shared.proofs.joining.open_like.Goals as goal

pub returns-then-not-opens_like : goal.returns-then-not-opens_like
returns-then-not-opens_like c =
    let xs = c.args.atoms.now in
    let ys = c.args.others.now in
    let i = c.loop-i.i in
    let x = c.index-atoms-i.result in
    let y = c.index-others-i.result in
    let lx : i < length xs = search rules in
    let ly : i < length ys = search rules in
    let rx : x ≡ get_or xs i x = search rules in
    let ry : y ≡ get_or ys i y = search rules in
    (λ e. absurd (false≢true e), λ e. c.if-not-opens_like.ensures.1 (like_here xs ys i x y lx ly rx ry (c.loop-i.invariant.on e)))

pub loop-i-preserved : goal.loop-i-preserved
loop-i-preserved c =
    let xs = c.args.atoms.now in
    let ys = c.args.others.now in
    let i = c.loop-i.i in
    let x = c.index-atoms-i.result in
    let y = c.index-others-i.result in
    let lx : i < length xs = search rules in
    let ly : i < length ys = search rules in
    let rx : x ≡ get_or xs i x = search rules in
    let ry : y ≡ get_or ys i y = search rules in
    record {
      on = λ e. like_rest xs ys i x y lx ly rx ry (c.loop-i.invariant.on e);
      back = λ h. c.loop-i.invariant.back (like_more xs ys i x y lx ly rx ry (c.if-not-opens_like.ensures.0 refl) h);
    }
