use Rattle.std.proofs.Common.{◌≡◌, ◌≤◌, ◌<◌, ◌+◌, ◌++◌, ℕ, List, [], length, drop, get_or, rules, refl, sym, ap, ◌∙◌, subst}
use Rattle.std.proofs.lemmas.List.{append-nil, drop_all}
use Rattle.txs_world_protocol.specs.declared.report.ActorReport.{ActorReport}
use Rattle.txs_cli_report.specs.Lent.{script_of}
use Rattle.txs_cli_report.specs.Lines.{AreLessons, status_from}
use Rattle.txs_cli_report.proofs.Threads.{lessons_more, status_more}
use Rattle.txs_cli_report.proofs.told.of_ends.Goals as goal

pub loop-k-preserved : goal.loop-k-preserved
loop-k-preserved c =
    let script = script_of c.args.script in
    let rs = c.args.report.now.threads.items in
    let k = c.loop-k.k in
    let r = c.thread-item.result in
    let e = c.in_ok-add_thread.ensures in
    let so_far = c.loop-k.invariant in
    let within : k < length rs = search rules in
    let read : r ≡ get_or rs k r = search rules in
    record {
      output = e.output ∙ so_far.output;
      errors = subst (λ (es : List ℕ). (rest : List ℕ) → AreLessons script (k + 1) (drop (k + 1) rs) rest → AreLessons script 0 rs (es ++ rest)) (sym e.errors.2)
          (lessons_more script k rs r c.loop-k.told.errors.items e.errors.0 within read so_far.errors e.errors.1);
      status = subst (λ (m : ℕ). status_from m (drop (k + 1) rs) ≡ status_from 0 rs) (sym e.status) (status_more rs k r c.loop-k.told.status within read so_far.status);
    }

-- behind the last thread no lines are to come
pub returns-clause-errors : goal.returns-clause-errors
returns-clause-errors c =
    let script = script_of c.args.script in
    let rs = c.args.report.now.threads.items in
    let k = c.loop-k.k in
    let past : length rs ≤ k = search rules in
    subst (λ es. AreLessons script 0 rs es) (append-nil c.loop-k.told.errors.items)
    (c.loop-k.invariant.errors [] (subst (λ l. AreLessons script k l []) (sym (drop_all k rs past)) refl))

pub returns-clause-output : goal.returns-clause-output
returns-clause-output c = c.loop-k.invariant.output

pub returns-clause-status : goal.returns-clause-status
returns-clause-status c =
    let rs = c.args.report.now.threads.items in
    let k = c.loop-k.k in
    let past : length rs ≤ k = search rules in
    ap (λ (l : List ActorReport). status_from c.loop-k.told.status l) (sym (drop_all k rs past)) ∙ c.loop-k.invariant.status
