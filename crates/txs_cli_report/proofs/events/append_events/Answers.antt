use Rattle.std.proofs.Common.{[], arith, refl, sym}
use Rattle.std.proofs.lemmas.Grind.{common_steps}
use Rattle.std.proofs.lemmas.List.{append-nil}
use Rattle.txs_value_data.proofs.PrintedLemmas.{Extends-after}
use Rattle.txs_cli_report.proofs.events.append_events.Goals as goal

pub returns-in_err-write_event-clause-kept : goal.returns-in_err-write_event-clause-kept
returns-in_err-write_event-clause-kept c =
    let so_far = c.loop-place.invariant.kept in
    Extends-after c.args.output.now.items so_far.more c.loop-place.output.items c.write_event.new.output.items so_far.is c.write_event.ensures.kept

pub loop-place-preserved : goal.loop-place-preserved
loop-place-preserved c =
    let so_far = c.loop-place.invariant.kept in
    record {
      lines = grind (arith, common_steps, c.loop-place.invariant.lines);
      kept = Extends-after c.args.output.now.items so_far.more c.loop-place.output.items c.write_event.new.output.items so_far.is c.write_event.ensures.kept;
    }

pub loop-place-init : goal.loop-place-init
loop-place-init c = record { lines = refl; kept = record { more = []; is = sym (append-nil c.args.output.now.items) } }

pub returns-clause-kept : goal.returns-clause-kept
returns-clause-kept c = c.loop-place.invariant.kept
