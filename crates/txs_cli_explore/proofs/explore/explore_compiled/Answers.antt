use Rattle.std.proofs.Common.{◌∙◌, List, ap, subst}
use Rattle.txs_audit_book.specs.Answered.{finishing}
use Rattle.txs_cli_audit.specs.Audit.{HasNoAnswer}
use Rattle.txs_cli_report.specs.Lent.{script_of, told_of}
use Rattle.txs_cli_report.specs.Told.{Told}
use Rattle.txs_explore.specs.declared.ways.Way.{Way}
use Rattle.txs_machine.specs.declared.schedule.Entries.{Entries}
use Rattle.txs_world_shared.specs.SharedState.{PlainShared}
use Rattle.txs_cli_explore.proofs.LastLine.{is_runnable}
use Rattle.txs_cli_explore.proofs.Scripts.{is_script}
use Rattle.txs_cli_explore.proofs.Ran.{some_at}
use Rattle.txs_cli_explore.proofs.explore.explore_compiled.Goals as goal
use Rattle.txs_cli_explore.specs.Explored.{ComesBy, IsExplored, OutcomeTells, OutcomesTell, WayHas, lists_in, texts_in}
use Rattle.txs_cli_explore.specs.Outcomes.{AreOutcomes}
use Rattle.txs_cli_explore.specs.declared.outcomes.Outcome.{Outcome}

pub search-requires-clause-few : goal.search-requires-clause-few
search-requires-clause-few g c = is_runnable c.args.compiled.now.1 c.requires.form

pub returns : goal.returns
returns g c =
    let x = c.args.exploring in
    let parts = c.args.compiled.now.0 in
    let code = c.args.compiled.now.1 in
    let e = c.in_ok-explored.explored in
    let outcomes = c.in-Some.outcomes in
    let told = told_of c.in_ok-told.told in
    let tells : PlainShared → Entries → Told → Type 0 = OutcomeTells x.audit (λ p r e. HasNoAnswer (goal.A-post g c.args.auditor.now) p r (finishing x.steps) 4 e) (script_of c.args.script) x.steps parts code in
    let is : IsExplored code x.steps tells x.same (texts_in c.in_ok-lists.lists.items) told = record {
      script = is_script code x.steps c.rooms-rooms.result.0.now c.rooms-rooms.result.1.now c.rooms-rooms.ensures c.requires.own_cells;
      ways = e.ways.items;
      runs = c.in_ok-explored.ensures.runs;
      whole = e.whole;
      all = c.in_ok-explored.ensures.all;
      within = e.within;
      few = c.in_ok-explored.ensures.few;
      asks = c.in_ok-explored.asks;
      outcomes = outcomes.items;
      are = subst (λ (ws : List Way). AreOutcomes ComesBy (WayHas code x.steps tells) ws outcomes.items) c.as_slice-ways.ensures.value
          (some_at c.in_ok-outcomes.field-0 outcomes (λ v. AreOutcomes ComesBy (WayHas code x.steps tells) c.as_slice-ways.result.now v.items) c.in-Some.is c.in_ok-outcomes.ensures);
      told = subst (λ (os : List Outcome). OutcomesTell e.whole e.within c.in_ok-explored.asks x.same os told) c.as_slice-outcomes.ensures.value c.in_ok-told.ensures;
      listed = c.in_ok-lists.ensures ∙ ap lists_in c.as_slice-outcomes.ensures.value;
    }
    in
    is
