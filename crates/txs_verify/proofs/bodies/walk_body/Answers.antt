use Rattle.std.proofs.Common.{◌≡◌, Some, arith, inr, length, subst}
use Rattle.txs_code_meaning.specs.PlainCode.{parameters_of}
use Rattle.txs_verify.specs.Marks.{mark_at}
use Rattle.txs_verify.specs.Standing.{IsSeen, IsWrong}
use Rattle.txs_verify.specs.Verdict.{IsLeastRoom, IsRoomFor}
use Rattle.txs_verify.proofs.Stands.{stands_wrongly}
use Rattle.txs_verify.proofs.bodies.walk_body.Goals as goal

pub room_for-requires : goal.room_for-requires
room_for-requires c = λ p m e. omega (arith, c.in_ok-marks.ensures.low p m (subst (λ ms. mark_at ms p ≡ Some m) c.as_slice-places.ensures.value e), c.requires.few)

pub returns-in-Ok-clause-walked : goal.returns-in-Ok-clause-walked
returns-in-Ok-clause-walked c =
    let is = c.args.instrs.now in
    let same = c.as_slice-places.ensures.value in
    record {
      marks = c.in_ok-marks.marks.items;
      closed = c.in_ok-marks.ensures.closed;
      reached = c.in_ok-marks.ensures.reached;
      seen = subst (λ ms. IsSeen c.args.kinds.now c.args.thread is ms (length is) c.in-Ok.kind) same c.in-Ok.ensures.seen;
      roomy = subst (λ ms. IsRoomFor ms c.room_for.result) same c.room_for.ensures.roomy;
      least = subst (λ ms. IsLeastRoom ms c.room_for.result) same c.room_for.ensures.least;
    }

pub returns-clause-wrong : goal.returns-clause-wrong
returns-clause-wrong c =
    let ks = c.args.kinds.now in
    let thread = c.args.thread in
    let is = c.args.instrs.now in
    inr (stands_wrongly ks thread (parameters_of c.args.functions.now) is c.in_ok-marks.marks.items c.in-Err.refusal c.in_ok-marks.ensures.reached (subst (λ ms. IsWrong ks thread is ms c.in-Err.refusal) c.as_slice-places.ensures.value c.in-Err.ensures.wrong))
