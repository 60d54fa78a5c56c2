use Rattle.std.proofs.Common.{◌∙◌, List, ap, get_or, sym}
use Rattle.std.proofs.lemmas.List.{get_or_default}
use Rattle.txs_value_data.specs.Places.{nth}
use Rattle.txs_value_data.specs.declared.value.CellId.{CellId}
use Rattle.txs_value_data.specs.declared.value.CellKind.TheVariants.{Ref}
use Rattle.txs_audit_book.proofs.Numbering.{agent_inside}
use Rattle.txs_audit_evidence.proofs.Sized.{nth_at}
use Rattle.txs_audit_evidence.proofs.ends.agents_off.Goals as goal

pub is_idle-requires : goal.is_idle-requires
is_idle-requires c =
    let gs : List CellId = c.args.agents.now in
    let i = c.loop-i.i in
    let none : CellId = record { kind = Ref; number = 0 } in
    let g : CellId = get_or gs i none in
    agent_inside c.args.books.now.program.cells i g (ap (λ l. nth l i) (sym c.requires.all) ∙ nth_at gs i g c.loop-i-test.true (get_or_default gs i none g c.loop-i-test.true))
