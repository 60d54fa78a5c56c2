use Rattle.std.proofs.Common.{◌≡◌, ◌<◌, ◌+◌, ◌∙◌, List, length, rules, sym, subst}
use Rattle.txs_code_meaning.specs.PlainCode.{CodeBody, parameters_of}
use Rattle.txs_verify.specs.Going.{AllJumpWithin, AreReached}
use Rattle.txs_code_meaning.specs.declared.instr.Instr.{Instr}
use Rattle.txs_verify.specs.Marks.{Marks, IsClosed}
use Rattle.txs_history_run.specs.Callees.{IsSentAt, IsSentBefore, IsSentIn, MarksMore, SendWithin}
use Rattle.txs_history_run.proofs.Sent.{all_jump, all_places, before_none, place_more, same_more, send_within, two_more}
use Rattle.txs_history_run.proofs.callees.mark_body.Goals as goal

pub mark_places-requires-clause-jumps : goal.mark_places-requires-clause-jumps
mark_places-requires-clause-jumps c =
    subst AllJumpWithin (sym c.instrs-instrs.ensures) (all_jump c.args.code.now _ _ c.rooms.ensures c.args.body.now c.requires.of)

pub loop-at-init : goal.loop-at-init
loop-at-init c = before_none c.args.body.now.instrs c.in-Ok.places.items c.args.marks.now.items

pub mark_place-requires-clause-sends : goal.mark_place-requires-clause-sends
mark_place-requires-clause-sends c =
    let code = c.args.code.now in
    let many : length c.loop-at.marks.items ≡ length code.functions = c.loop-at.invariant.many ∙ c.requires.many in
    subst (λ n. SendWithin n c.instrs-instrs.result.now) (sym many) (subst (SendWithin (length code.functions)) (sym c.instrs-instrs.ensures) (send_within code _ _ c.rooms.ensures c.args.body.now c.requires.of))

pub loop-at-preserved : goal.loop-at-preserved
loop-at-preserved c =
    let is = c.args.body.now.instrs in
    let ms = c.in-Ok.places.items in
    let at = c.loop-at.at in
    let mid = c.loop-at.marks.items in
    let later = c.mark_place.new.marks.items in
    let marked : MarksMore (IsSentAt is ms at) mid later =
    subst (λ (l : List Instr). MarksMore (IsSentAt l ms at) mid later) c.instrs-instrs.ensures (subst (λ (ps : Marks). MarksMore (IsSentAt c.instrs-instrs.result.now ps at) mid later) c.as_slice.ensures.value c.mark_place.ensures) in
    two_more (IsSentBefore is ms at) (IsSentAt is ms at) (IsSentBefore is ms (at + 1)) c.args.marks.now.items mid later (place_more is ms at) c.loop-at.invariant marked

pub returns-clause-more : goal.returns-clause-more
returns-clause-more c =
    let code = c.args.code.now in
    let b = c.args.body.now in
    let ms = c.in-Ok.places.items in
    let before = c.args.marks.now.items in
    let later = c.loop-at.marks.items in
    let few : length b.instrs < 4294967295 = search rules in
    let fs : c.functions.result.now ≡ code.functions = search rules in
    let closed : IsClosed (parameters_of code.functions) b.instrs ms =
    subst (λ (bs : List CodeBody). IsClosed (parameters_of bs) b.instrs ms) fs (subst (λ (l : List Instr). IsClosed (parameters_of c.functions.result.now) l ms) c.instrs-instrs.ensures c.in-Ok.ensures.closed) in
    let reached : AreReached (parameters_of code.functions) b.instrs ms =
    subst (λ (bs : List CodeBody). AreReached (parameters_of bs) b.instrs ms) fs (subst (λ (l : List Instr). AreReached (parameters_of c.functions.result.now) l ms) c.instrs-instrs.ensures c.in-Ok.ensures.reached) in
    let end : c.loop-at.at ≡ length b.instrs = search rules in
    let marked = subst (λ n. MarksMore (IsSentBefore b.instrs ms n) before later) end c.loop-at.invariant in
    same_more (IsSentBefore b.instrs ms (length b.instrs)) (IsSentIn code b) before later (all_places code b ms few closed reached) marked
