use Rattle.std.proofs.Common.{length, ap, sym, ◌∙◌}
use Rattle.txs_code_meaning.specs.PlainCode.{PlainCode}
use Rattle.txs_history_run.specs.Settled.{ArePlayersOf}
use Rattle.txs_history_run.proofs.Report.{report_of}
use Rattle.txs_history_run.proofs.ending.report_back.Goals as goal

pub returns : goal.returns
returns g c =
    let code = c.args.code.now in
    let actors = c.args.actors.items in
    let all = c.in_ok-all.all in
    let e = c.in_ok-all.ensures in
    let players : ArePlayersOf code actors all = record {
      threads = e.threads ∙ ap length (c.threads.ensures ∙ ap (λ (p : PlainCode). p.threads) c.code.ensures.value);
      agents = e.agents ∙ c.requires.agents;
      players = sym c.in_ok-players.ensures ∙ e.players;
    } in
    report_of code actors all c.report_all.result players c.report_all.ensures.threads c.report_all.ensures.agents
