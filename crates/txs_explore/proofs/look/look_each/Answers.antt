use Rattle.std.proofs.Common.{◌≡◌, ◌++◌, ◌∷◌, [], rules, sym, subst}
use Rattle.txs_explore.specs.Looked.{AreFresh, AreLooks}
use Rattle.txs_explore.proofs.Looks.{first_fresh, looks_more, no_looks, rest_fresh}
use Rattle.txs_explore.proofs.look.look_each.Goals as goal

pub loop-player-init : goal.loop-player-init
loop-player-init c =
    let same : c.into_iter-player-iterator.result.rest.items ≡ c.args.players.items = search rules in
    record {
      looks = subst (AreLooks c.args.code.now []) (sym c.new-looks.ensures.items) (no_looks c.args.code.now);
      fresh = subst (AreFresh c.args.code.now c.args.max_steps) (sym same) c.requires.fresh;
    }

pub look_at-requires-clause-fresh : goal.look_at-requires-clause-fresh
look_at-requires-clause-fresh c =
    let h = c.loop-player in
    let rest : h.player-iterator.rest.items ≡ c.in-Some.player ∷ c.next.new.self.rest.items = search rules in
    first_fresh c.args.code.now c.args.max_steps h.player-iterator.rest.items c.in-Some.player c.next.new.self.rest.items rest h.invariant.fresh

pub loop-player-preserved : goal.loop-player-preserved
loop-player-preserved c =
    let h = c.loop-player in
    let x = c.in-Some.player in
    let rest : h.player-iterator.rest.items ≡ x ∷ c.next.new.self.rest.items = search rules in
    record {
      looks = subst (AreLooks c.args.code.now (h.yielded ++ x ∷ [])) (sym c.in_ok-push.ensures.items) (looks_more c.args.code.now h.yielded h.looks.items x c.in_ok-look.look h.invariant.looks c.in_ok-look.ensures);
      fresh = rest_fresh c.args.code.now c.args.max_steps h.player-iterator.rest.items x c.next.new.self.rest.items rest h.invariant.fresh;
    }
