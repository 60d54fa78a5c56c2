use Rattle.std.proofs.Common.{◌≡◌, ◌+◌, List, length, rules, refl, sym, subst, inl, inr, arith}
use Rattle.txs_machine.specs.Playing.{AllEnded, IsUnended}
use Rattle.txs_machine.specs.Agents.{agents_of}
use Rattle.txs_machine.specs.Running.{AreAttending, IsWorking}
use Rattle.txs_machine.specs.declared.player.AgentPlayer.{AgentPlayer}
use Rattle.txs_machine.proofs.Scheduled.{all_before}
use Rattle.txs_machine.proofs.Working.{thread_there}
use Rattle.txs_machine.proofs.schedule.first_live.Goals as goal

pub returns-in-Some-clause-live : goal.returns-in-Some-clause-live
returns-in-Some-clause-live c =
    let unended : IsUnended c.in-Some.k c.args.players.now.threads.items = search rules in
    (c.in-Some.k, omega arith, inl (thread_there c.args.players.now.threads.items c.in-Some.k unended))

pub returns-then-is_any_working-clause-live : goal.returns-then-is_any_working-clause-live
returns-then-is_any_working-clause-live c =
    let len : c.len.result ≡ length c.args.players.now.threads.items = search rules in
    let e = c.is_any_working.ensures.working (search rules) in
    let w : IsWorking c.args.code.now c.args.shared.now e.0 c.args.players.now.agents.items = subst (IsWorking c.args.code.now c.args.shared.now e.0) c.as_slice-2.ensures.value e.1 in
    (length c.args.players.now.threads.items + e.0, omega (arith, len), inr (e.0, refl, w.0, w.1, w.2, w.3))

pub returns-then-is_any_working-clause-before : goal.returns-then-is_any_working-clause-before
returns-then-is_any_working-clause-before c = all_before c.len.result c.args.players.now.threads.items (subst AllEnded c.as_slice.ensures.value (c.in_default.ensures.ended (search rules)))

pub returns-clause-ended : goal.returns-clause-ended
returns-clause-ended c e = subst AllEnded c.as_slice.ensures.value (c.in_default.ensures.ended (search rules))

pub is_any_working-requires-clause-attending : goal.is_any_working-requires-clause-attending
is_any_working-requires-clause-attending c =
    let code = c.args.code.now in
    let limit = c.requires.playing.0 in
    let k = length code.threads in
    (limit, k, subst (λ (xs : List AgentPlayer). AreAttending code limit k (agents_of code) xs) (sym c.as_slice-2.ensures.value) c.requires.playing.1.1.agents)
