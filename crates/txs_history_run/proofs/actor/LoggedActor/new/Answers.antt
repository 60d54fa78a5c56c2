use Rattle.std.proofs.Common.{subst}
use Rattle.txs_code_meaning.specs.PlainCode.{PlainCode}
use Rattle.txs_history_run.specs.Actor.{IsFollowing}
use Rattle.txs_history_run.proofs.Turning.{new_following}
use Rattle.txs_history_run.proofs.actor.LoggedActor.new.Goals as goal

pub invariant_of-result : goal.invariant_of-result
invariant_of-result g c =
    let code = c.args.code.now in
    let a = c.args.actor in
    let f : IsFollowing code a c.new.result.items 0 c.args.past = new_following c.actors_run.ensures c.typed_stands.ensures code _ _ g.J.Run.limit a c.new.result.items c.args.past c.rooms.ensures c.requires.lives c.requires.new c.new.ensures.items in (
      c.requires.code,
      c.requires.callees,
      record {
        limit_is = c.requires.new.limited;
        in_step = subst (λ (d : PlainCode). IsFollowing d a c.new.result.items 0 c.args.past) c.requires.code f;
        room = tt;
      },
      tt,
    )
