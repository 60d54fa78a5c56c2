use Rattle.std.proofs.Common.{rules, ◌≡◌, ◌≢◌, Err, IfErr, sym, ap, ◌∙◌, subst}
use Rattle.txs_tree_meaning.specs.Known.{known}
use Rattle.txs_tree_meaning.specs.View.{functions_of, threads_of, program_of}
use Rattle.txs_check.specs.Errors.{out_of_memory}
use Rattle.txs_check.specs.Refused.{◌>>◌, CheckStops, few, fine, in_order, refusal, room, validators_in}
use Rattle.txs_check.specs.Walked.{walked}
use Rattle.txs_check.specs.Signatures.{bare, known_as}
use Rattle.txs_check.specs.declared.error.CheckErrorKind.TheVariants.{Memory}
use Rattle.txs_check.proofs.Laws.{no_want, refusal_of}
use Rattle.txs_check.proofs.program.check_raw.Goals as goal

pub returns-in_err-check_bodies-clause-stops : goal.returns-in_err-check_bodies-clause-stops
returns-in_err-check_bodies-clause-stops c =
    let fs = c.functions-functions.result.now in
    let ts = c.threads-threads.result.now in
    let ks = known_as c.as_slice.result.now in
    let bs = in_order (functions_of fs) (threads_of ts) in
    let vs = validators_in c.cells.result.now c.validator_spans.result.now in
    let size = few (room 200000 bs) in
    let same : bare ks ≡ bare (known (functions_of fs)) = ap (λ l. bare (known_as l)) c.as_slice.ensures.value ∙ c.in_ok-signatures.ensures in
    let given : refusal (program_of (record { cells = c.cells.result.now; validator_spans = c.validator_spans.result.now; functions = fs; threads = ts })) ≡ refusal (program_of c.args.raw.now) =
    λ i. refusal (program_of (record { cells = c.cells.ensures i; validator_spans = c.validator_spans.ensures i; functions = c.functions-functions.ensures.value i; threads = c.threads-threads.ensures i })) in
    let whole : refusal (program_of c.args.raw.now) ≡ walked ks bs vs >> size = sym given ∙ refusal_of c.cells.result.now c.validator_spans.result.now fs ts ks same in
    let e = c.in_err-check_bodies.field-0.0 in
    let refused : c.from_residual-in_err-check_bodies.result ≡ Err e = search rules in
    let stops : CheckStops (program_of c.args.raw.now) e = whole ∙ ap (λ x. x >> size) (sym c.in_err-check_bodies.ensures) in
    subst (λ r. IfErr r (λ x. x.kind ≢ Memory → CheckStops (program_of c.args.raw.now) x)) (sym refused) (λ ne. stops)

pub returns-in_err-check_bodies-clause-memory : goal.returns-in_err-check_bodies-clause-memory
returns-in_err-check_bodies-clause-memory c =
    let fs = c.functions-functions.result.now in
    let ts = c.threads-threads.result.now in
    let ks = known_as c.as_slice.result.now in
    let bs = in_order (functions_of fs) (threads_of ts) in
    let vs = validators_in c.cells.result.now c.validator_spans.result.now in
    let size = few (room 200000 bs) in
    let same : bare ks ≡ bare (known (functions_of fs)) = ap (λ l. bare (known_as l)) c.as_slice.ensures.value ∙ c.in_ok-signatures.ensures in
    let given : refusal (program_of (record { cells = c.cells.result.now; validator_spans = c.validator_spans.result.now; functions = fs; threads = ts })) ≡ refusal (program_of c.args.raw.now) =
    λ i. refusal (program_of (record { cells = c.cells.ensures i; validator_spans = c.validator_spans.ensures i; functions = c.functions-functions.ensures.value i; threads = c.threads-threads.ensures i })) in
    let whole : refusal (program_of c.args.raw.now) ≡ walked ks bs vs >> size = sym given ∙ refusal_of c.cells.result.now c.validator_spans.result.now fs ts ks same in
    let e = c.in_err-check_bodies.field-0.0 in
    let refused : c.from_residual-in_err-check_bodies.result ≡ Err e = search rules in
    let stops : CheckStops (program_of c.args.raw.now) e = whole ∙ ap (λ x. x >> size) (sym c.in_err-check_bodies.ensures) in
    subst (λ r. IfErr r (λ x. x.kind ≡ Memory → x ≡ out_of_memory)) (sym refused) (λ is. absurd (no_want (program_of c.args.raw.now) e stops is))

pub returns-in_err-room_after_all-clause-stops : goal.returns-in_err-room_after_all-clause-stops
returns-in_err-room_after_all-clause-stops c =
    let fs = c.functions-functions.result.now in
    let ts = c.threads-threads.result.now in
    let ks = known_as c.as_slice.result.now in
    let bs = in_order (functions_of fs) (threads_of ts) in
    let vs = validators_in c.cells.result.now c.validator_spans.result.now in
    let size = few (room 200000 bs) in
    let same : bare ks ≡ bare (known (functions_of fs)) = ap (λ l. bare (known_as l)) c.as_slice.ensures.value ∙ c.in_ok-signatures.ensures in
    let given : refusal (program_of (record { cells = c.cells.result.now; validator_spans = c.validator_spans.result.now; functions = fs; threads = ts })) ≡ refusal (program_of c.args.raw.now) =
    λ i. refusal (program_of (record { cells = c.cells.ensures i; validator_spans = c.validator_spans.ensures i; functions = c.functions-functions.ensures.value i; threads = c.threads-threads.ensures i })) in
    let whole : refusal (program_of c.args.raw.now) ≡ walked ks bs vs >> size = sym given ∙ refusal_of c.cells.result.now c.validator_spans.result.now fs ts ks same in
    let e = c.in_err-room_after_all.field-0.0 in
    let refused : c.from_residual-in_err-room_after_all.result ≡ Err e = search rules in
    let stops : CheckStops (program_of c.args.raw.now) e = whole ∙ ap (λ x. x >> size) (sym c.in_ok-check_bodies.ensures) ∙ ap few (sym c.in_err-room_after_all.ensures) in
    subst (λ r. IfErr r (λ x. x.kind ≢ Memory → CheckStops (program_of c.args.raw.now) x)) (sym refused) (λ ne. stops)

pub returns-in_err-room_after_all-clause-memory : goal.returns-in_err-room_after_all-clause-memory
returns-in_err-room_after_all-clause-memory c =
    let fs = c.functions-functions.result.now in
    let ts = c.threads-threads.result.now in
    let ks = known_as c.as_slice.result.now in
    let bs = in_order (functions_of fs) (threads_of ts) in
    let vs = validators_in c.cells.result.now c.validator_spans.result.now in
    let size = few (room 200000 bs) in
    let same : bare ks ≡ bare (known (functions_of fs)) = ap (λ l. bare (known_as l)) c.as_slice.ensures.value ∙ c.in_ok-signatures.ensures in
    let given : refusal (program_of (record { cells = c.cells.result.now; validator_spans = c.validator_spans.result.now; functions = fs; threads = ts })) ≡ refusal (program_of c.args.raw.now) =
    λ i. refusal (program_of (record { cells = c.cells.ensures i; validator_spans = c.validator_spans.ensures i; functions = c.functions-functions.ensures.value i; threads = c.threads-threads.ensures i })) in
    let whole : refusal (program_of c.args.raw.now) ≡ walked ks bs vs >> size = sym given ∙ refusal_of c.cells.result.now c.validator_spans.result.now fs ts ks same in
    let e = c.in_err-room_after_all.field-0.0 in
    let refused : c.from_residual-in_err-room_after_all.result ≡ Err e = search rules in
    let stops : CheckStops (program_of c.args.raw.now) e = whole ∙ ap (λ x. x >> size) (sym c.in_ok-check_bodies.ensures) ∙ ap few (sym c.in_err-room_after_all.ensures) in
    subst (λ r. IfErr r (λ x. x.kind ≡ Memory → x ≡ out_of_memory)) (sym refused) (λ is. absurd (no_want (program_of c.args.raw.now) e stops is))

pub returns-clause-sound : goal.returns-clause-sound
returns-clause-sound c =
    let fs = c.functions-functions.result.now in
    let ts = c.threads-threads.result.now in
    let ks = known_as c.as_slice.result.now in
    let bs = in_order (functions_of fs) (threads_of ts) in
    let vs = validators_in c.cells.result.now c.validator_spans.result.now in
    let size = few (room 200000 bs) in
    let same : bare ks ≡ bare (known (functions_of fs)) = ap (λ l. bare (known_as l)) c.as_slice.ensures.value ∙ c.in_ok-signatures.ensures in
    let given : refusal (program_of (record { cells = c.cells.result.now; validator_spans = c.validator_spans.result.now; functions = fs; threads = ts })) ≡ refusal (program_of c.args.raw.now) =
    λ i. refusal (program_of (record { cells = c.cells.ensures i; validator_spans = c.validator_spans.ensures i; functions = c.functions-functions.ensures.value i; threads = c.threads-threads.ensures i })) in
    let whole : refusal (program_of c.args.raw.now) ≡ walked ks bs vs >> size = sym given ∙ refusal_of c.cells.result.now c.validator_spans.result.now fs ts ks same in
    let none : refusal (program_of c.args.raw.now) ≡ fine = whole ∙ ap (λ x. x >> size) (sym c.in_ok-check_bodies.ensures) ∙ ap few (sym c.in_ok-room_after_all.ensures) in
    (c.sound_where_nothing_refuses.ensures (program_of c.args.raw.now) c.functions-functions.ensures.scoped).0 none
