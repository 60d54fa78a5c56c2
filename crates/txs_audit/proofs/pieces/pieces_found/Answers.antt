use Rattle.std.proofs.Common.{◌&&◌, ◌+◌, ◌∙◌, ap, drop, get_or, refl, sym}
use Rattle.std.proofs.lemmas.List.{get_or_default}
use Rattle.txs_audit.specs.Pieced.{pieces_as, sought_of}
use Rattle.txs_audit.specs.declared.pieces.Piece.{Piece}
use Rattle.txs_audit.specs.declared.pieces.Piece.TheVariants.{Thread}
use Rattle.txs_audit.proofs.Piecewise.{found_end, found_here, found_more}
use Rattle.txs_audit.proofs.pieces.pieces_found.Goals as goal

pub loop-piece-init : goal.loop-piece-init
loop-piece-init c = (refl, refl)

pub returns-then-not-is_fine : goal.returns-then-not-is_fine
returns-then-not-is_fine c =
    let ps = c.args.pieces.now in
    let i = c.loop-piece.piece-index in
    let lt = c.loop-piece-test.true in
    let x : Piece = get_or ps i (Thread 0) in
    found_here c.args.books.now c.args.turns ps i x lt (get_or_default ps i (Thread 0) x lt) c.loop-piece.invariant.0 c.in_ok-found.found c.in_ok-found.ensures (sym c.is_fine.ensures ∙ c.if-not-is_fine.true)

pub loop-piece-preserved : goal.loop-piece-preserved
loop-piece-preserved c =
    let ps = c.args.pieces.now in
    let i = c.loop-piece.piece-index in
    let lt = c.loop-piece-test.true in
    let x : Piece = get_or ps i (Thread 0) in
    let more = found_more c.args.books.now c.args.turns ps i x lt (get_or_default ps i (Thread 0) x lt) c.loop-piece.serial c.loop-piece.invariant c.in_ok-found.found c.in_ok-found.ensures (sym c.is_fine.ensures ∙ c.if-not-is_fine.false) in
    let rest = (sought_of c.args.books.now c.args.turns (pieces_as (drop (i + 1) ps))).serial in
    (more.0, ap (λ z. z && rest) c.are_both-serial.ensures ∙ more.1)

pub returns : goal.returns
returns c = found_end c.args.books.now c.args.turns c.args.pieces.now c.loop-piece.piece-index c.loop-piece-test.false c.loop-piece.serial c.loop-piece.invariant
