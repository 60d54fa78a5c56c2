use Rattle.std.proofs.Common.{◌≡◌, ◌∙◌, ◌&&◌, [], ap, arith, drop, false, length, sym, true}
use Rattle.std.proofs.lemmas.List.{length-map}
use Rattle.txs_world.specs.Store.{next_action}
use Rattle.txs_world_book.specs.Served.{cells_of}
use Rattle.txs_tree_meaning.specs.View.{program_of}
use Rattle.txs_theorem_audit.specs.Audited.{Off, place_of, ran_as}
use Rattle.txs_theorem_audit.specs.Pieces.{acts_print}
use Rattle.txs_theorem_audit.specs.Verdict.{action_covered, begins, is_full_stop, is_stopped, rest_found}
use Rattle.txs_theorem_audit.proofs.Findings.{off_fine}
use Rattle.txs_audit_order.specs.Named.{plain_trace}
use Rattle.txs_audit_evidence.proofs.Printing.{and_no, begins_few, end_holds, end_off, left_long}
use Rattle.txs_audit_evidence.proofs.ThreadFound.{so}
use Rattle.txs_audit_evidence.proofs.acts.ended.Goals as goal

pub returns-then-not-is_stopped : goal.returns-then-not-is_stopped
returns-then-not-is_stopped c =
    let b = c.args.books.now in
    let ran = c.args.ran.now in
    let long = ap length c.as_slice-trace.ensures.value ∙ sym (length-map ran.trace.items place_of) in
    let holds = is_stopped ran.outcome && begins (acts_print (program_of b.program) b.report c.args.turns [] (plain_trace ran.trace.items)) ran.printed.items in
    let not : holds ≡ false = ap (λ t. t && begins (acts_print (program_of b.program) b.report c.args.turns [] (plain_trace ran.trace.items)) ran.printed.items) (sym c.is_stopped.ensures ∙ c.if-not-is_stopped.true) in
    let off = c.off.ensures ∙ ap (Off c.args.actor) long in
    record {
      finding = off ∙ end_off (program_of b.program) b.report c.args.turns c.args.actor c.args.agent (drop c.args.from (plain_trace ran.trace.items)) (acts_print (program_of b.program) b.report c.args.turns [] (plain_trace ran.trace.items)) (ran_as ran) not;
      serial = λ fine. off_fine c.args.actor (length (plain_trace ran.trace.items)) (sym off ∙ fine);
    }

pub returns-then-not-begins : goal.returns-then-not-begins
returns-then-not-begins c =
    let b = c.args.books.now in
    let ran = c.args.ran.now in
    let outs = acts_print (program_of b.program) b.report c.args.turns [] (plain_trace ran.trace.items) in
    let printed = c.as_slice.ensures.value ∙ c.in_ok-outs.ensures ∙ ap (λ l. acts_print (program_of b.program) b.report c.args.turns [] (plain_trace l)) c.as_slice-trace.ensures.value in
    let long = ap length c.as_slice-trace.ensures.value ∙ sym (length-map ran.trace.items place_of) in
    let begun : begins outs ran.printed.items ≡ false = sym (ap (begins c.as_slice.result.now) c.as_slice-printed.ensures.value ∙ ap (λ l. begins l ran.printed.items) printed) ∙ sym c.begins.ensures ∙ c.if-not-begins.true in
    let not = ap (λ t. is_stopped ran.outcome && t) begun ∙ and_no (is_stopped ran.outcome) in
    let off = c.off-then-not-begins.ensures ∙ ap (Off c.args.actor) long in
    record {
      finding = off ∙ end_off (program_of b.program) b.report c.args.turns c.args.actor c.args.agent (drop c.args.from (plain_trace ran.trace.items)) outs (ran_as ran) not;
      serial = λ fine. off_fine c.args.actor (length (plain_trace ran.trace.items)) (sym off ∙ fine);
    }

pub split_at-requires : goal.split_at-requires
split_at-requires c =
    let few = begins_few c.as_slice.result.now c.as_slice-printed.result.now (sym c.begins.ensures ∙ c.if-not-begins.false) in
    let same = ap length c.as_slice.ensures.value in
    omega (arith, few, same)

pub rest_found-requires-clause-within : goal.rest_found-requires-clause-within
rest_found-requires-clause-within c =
    let same = ap length c.as_slice-trace.ensures.value in
    omega (arith, same, c.requires.within)

pub returns-clause-finding : goal.returns-clause-finding
returns-clause-finding c =
    let b = c.args.books.now in
    let p = program_of b.program in
    let r = b.report in
    let n = c.args.turns in
    let ran = c.args.ran.now in
    let g = c.args.agent in
    let from = c.args.from in
    let same = c.as_slice-trace.ensures.value in
    let outs = acts_print p r n [] (plain_trace ran.trace.items) in
    let printed = c.as_slice.ensures.value ∙ c.in_ok-outs.ensures ∙ ap (λ l. acts_print p r n [] (plain_trace l)) same in
    let begun : begins outs ran.printed.items ≡ true = sym (ap (begins c.as_slice.result.now) c.as_slice-printed.ensures.value ∙ ap (λ l. begins l ran.printed.items) printed) ∙ sym c.begins.ensures ∙ c.if-not-begins.false in
    let holds : (is_stopped ran.outcome && begins outs ran.printed.items) ≡ true = ap (λ t. t && begins outs ran.printed.items) (sym c.is_stopped.ensures ∙ c.if-not-is_stopped.false) ∙ begun in
    let long = length-map ran.trace.items place_of in
    let left = left_long (plain_trace ran.trace.items) from (omega (arith, long, c.requires.within)) in
    let size = c.in_ok-outs.outs.ok.0 in
    let many : c.len.result ≡ length c.in_ok-outs.outs.items = omega (arith, size, c.len.ensures) in
    let out = c.split_at.ensures.back ∙ ap (λ m. drop m c.as_slice-printed.result.now) (many ∙ ap length (c.in_ok-outs.ensures ∙ ap (λ l. acts_print p r n [] (plain_trace l)) same)) ∙ ap (drop (length outs)) c.as_slice-printed.ensures.value in
    so c.rest_found.result c.rest_found.ensures.finding
    (λ f is.
    is ∙ ap (λ l. rest_found p r n c.is_full_stop-full.result c.args.actor from (length l) g (drop from (plain_trace l)) c.split_at.result.1.now) same
    ∙ ap (λ s. rest_found p r n s c.args.actor from (length ran.trace.items) g (drop from (plain_trace ran.trace.items)) c.split_at.result.1.now) c.is_full_stop-full.ensures
    ∙ ap (rest_found p r n (is_full_stop ran.outcome) c.args.actor from (length ran.trace.items) g (drop from (plain_trace ran.trace.items))) out
    ∙ ap (λ m. rest_found p r n (is_full_stop ran.outcome) c.args.actor from m g (drop from (plain_trace ran.trace.items)) (drop (length outs) ran.printed.items)) (sym long)
    ∙ ap (λ m. rest_found p r n (is_full_stop ran.outcome) c.args.actor m (length (plain_trace ran.trace.items)) g (drop from (plain_trace ran.trace.items)) (drop (length outs) ran.printed.items)) (sym left)
    ∙ end_holds p r n c.args.actor g (drop from (plain_trace ran.trace.items)) outs (ran_as ran) holds)

pub returns-clause-serial : goal.returns-clause-serial
returns-clause-serial c =
    let b = c.args.books.now in
    let p = program_of b.program in
    let r = b.report in
    let n = c.args.turns in
    let g = c.args.agent in
    so c.rest_found.result c.rest_found.ensures.serial (λ f is fine. is fine ∙ ap (λ l. action_covered p r n r.book g (drop c.args.from (plain_trace l)) (next_action (cells_of b.program.cells) r.book g)) c.as_slice-trace.ensures.value)
