use Rattle.std.proofs.Common.{◌<◌, ◌≤◌, ◌+◌, ◌∙◌, ◌∷◌, List, length, get_or, drop, rules, sym, ap, subst, arith}
use Rattle.std.proofs.lemmas.List.{drop_more, drop_all, length-replicate}
use Rattle.txs_cli_events.specs.declared.seen.Noted.{Noted}
use Rattle.txs_cli_events.specs.Noted.{RestOfPrints}
use Rattle.txs_cli_events.proofs.Counting.{print_begun, nothing}
use Rattle.txs_cli_events.proofs.check.are_printed.Goals as goal

pub loop-note-init : goal.loop-note-init
loop-note-init c =
    let items = c.in_ok-counts.ensures.items_if_clones_equal (λ y e. e) in
    let many = ap length items ∙ length-replicate _ _ in
    record {
      one_each = omega (arith, many);
      rest = λ h. print_begun c.args.report.now _ c.args.notes.now (subst (λ l. RestOfPrints c.args.report.now l c.args.notes.now) items h);
    }

pub loop-note-preserved : goal.loop-note-preserved
loop-note-preserved c =
    let r = c.args.report.now in
    let notes = c.args.notes.now in
    let i = c.loop-note.note-index in
    let within : i < length notes = search rules in
    let next : (xs : List Noted) → RestOfPrints r c.is_next_print.new.counts.items xs → RestOfPrints r c.loop-note.counts.items (get_or notes i nothing ∷ xs) = c.is_next_print.ensures.next c.if-not-is_next_print.false in
    record {
      one_each = c.is_next_print.ensures.one_each ∙ c.loop-note.invariant.one_each;
      rest = λ h. c.loop-note.invariant.rest (subst (λ l. RestOfPrints r c.loop-note.counts.items l) (sym (drop_more notes i nothing within)) (next (drop (i + 1) notes) h));
    }

pub returns : goal.returns
returns c = λ t.
    (let past : length c.args.notes.now ≤ c.loop-note.note-index = search rules in
    c.loop-note.invariant.rest (subst (λ l. RestOfPrints c.args.report.now c.loop-note.counts.items l) (sym (drop_all c.loop-note.note-index c.args.notes.now past)) (λ k. tt)))
