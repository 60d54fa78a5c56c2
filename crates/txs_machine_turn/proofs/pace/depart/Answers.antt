use Rattle.std.proofs.Common.{◌+◌, ℕ, sym, subst}
use Rattle.txs_value_data.specs.declared.fault.Span.{Span}
use Rattle.txs_code_meaning.specs.declared.instr.Instr.{Instr}
use Rattle.txs_machine_loop.specs.Flat.{instr_at, span_at}
use Rattle.txs_machine_actor.specs.PlainActor.{PlainActor}
use Rattle.txs_machine_actor.specs.Turns.{CanLeave, Leaves}
use Rattle.txs_machine_actor.proofs.Striding.{departs}
use Rattle.txs_machine_turn.proofs.pace.depart.Goals as goal

pub at_hand-instr-requires-clause-unended : goal.at_hand-instr-requires-clause-unended
at_hand-instr-requires-clause-unended c = c.requires.may.0

pub count-requires : goal.count-requires
count-requires c = (c.requires.may.1, c.requires.may.2)

pub leave-requires-clause-can : goal.leave-requires-clause-can
leave-requires-clause-can c =
    let a = c.args.actor.now in
    let d = c.args.code.now in
    let h = c.at_hand-instr.ensures in
    let i = c.at_hand-instr.result.0 in
    let v = departs d a c.requires.may c.requires.answered c.requires.runs c.requires.leaves h.body h.is h.as_many in
    subst (λ (y : PlainActor). CanLeave d y i) (sym c.count.ensures) (subst (λ (j : Instr). CanLeave d (record a { steps = a.steps + 1 }) j) (sym h.instr) v.can)

pub returns-clause-turns : goal.returns-clause-turns
returns-clause-turns c =
    let a = c.args.actor.now in
    let d = c.args.code.now in
    let h = c.at_hand-instr.ensures in
    let i = c.at_hand-instr.result.0 in
    let span = c.at_hand-instr.result.1 in
    let next = c.at_hand-instr.result.2 in
    let b = h.body in
    let v = departs d a c.requires.may c.requires.answered c.requires.runs c.requires.leaves b h.is h.as_many in
    let t = c.leave.new.turn in
    let z = c.leave.new.actor in
    let h1 = subst (λ (y : PlainActor). Leaves d y i span next t z) c.count.ensures c.leave.ensures in
    let h2 = subst (λ (y : Instr). Leaves d (record a { steps = a.steps + 1 }) y span next t z) h.instr h1 in
    let h3 = subst (λ (y : Span). Leaves d (record a { steps = a.steps + 1 }) (instr_at b.instrs a.place) y next t z) h.spanned h2 in
    let h4 = subst (λ (y : ℕ). Leaves d (record a { steps = a.steps + 1 }) (instr_at b.instrs a.place) (span_at b.spans a.place) y t z) h.behind h3 in
    (v.so (λ x. c.requires.stays (b, h.is, record { returns = x.returns; first = x.first; acting = x.acting })) t z h4).0

pub returns-clause-runs : goal.returns-clause-runs
returns-clause-runs c =
    let a = c.args.actor.now in
    let d = c.args.code.now in
    let h = c.at_hand-instr.ensures in
    let i = c.at_hand-instr.result.0 in
    let span = c.at_hand-instr.result.1 in
    let next = c.at_hand-instr.result.2 in
    let b = h.body in
    let v = departs d a c.requires.may c.requires.answered c.requires.runs c.requires.leaves b h.is h.as_many in
    let t = c.leave.new.turn in
    let z = c.leave.new.actor in
    let h1 = subst (λ (y : PlainActor). Leaves d y i span next t z) c.count.ensures c.leave.ensures in
    let h2 = subst (λ (y : Instr). Leaves d (record a { steps = a.steps + 1 }) y span next t z) h.instr h1 in
    let h3 = subst (λ (y : Span). Leaves d (record a { steps = a.steps + 1 }) (instr_at b.instrs a.place) y next t z) h.spanned h2 in
    let h4 = subst (λ (y : ℕ). Leaves d (record a { steps = a.steps + 1 }) (instr_at b.instrs a.place) (span_at b.spans a.place) y t z) h.behind h3 in
    (v.so (λ x. c.requires.stays (b, h.is, record { returns = x.returns; first = x.first; acting = x.acting })) t z h4).1
