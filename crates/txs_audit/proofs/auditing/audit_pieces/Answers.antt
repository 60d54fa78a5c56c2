use denote.Exit
use denote.Param.Send.{arg_sync, param_sync}
use mir.Syntax.{erased}
use Rattle.std.proofs.Common.{◌∙◌, ap}
use Rattle.txs_theorem_audit.specs.Audited.{answer}
use Rattle.txs_audit.specs.Pieced.{pieces_as, sought_of}
use Rattle.txs_audit.proofs.Crossing.{books_sync}
use Rattle.txs_audit.proofs.Parting.{answered}
use Rattle.txs_audit.proofs.auditing.audit_pieces.Goals as goal

pub found_by-requires-sync-J : goal.found_by-requires-sync-J
found_by-requires-sync-J g c κs lives = param_sync 1 _ (arg_sync _ Exit.no _ (books_sync (record { mir = erased; lft = _ })))

pub returns : goal.returns
returns g c =
    let b = c.args.books.now in
    let n = c.args.turns in
    let s = sought_of b n (pieces_as c.as_slice.result.now) in
    c.verdict_of.ensures
    ∙ answered s c.in_ok-found.found c.in_ok-found.ensures
    ∙ ap (λ l. answer (sought_of b n l).finding (sought_of b n l).serial) (ap pieces_as c.as_slice.ensures.value ∙ c.in_ok-pieces.ensures)
