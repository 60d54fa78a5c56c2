use Rattle.std.proofs.Common.{◌∙◌, List, ap, get_or, refl, sym}
use Rattle.std.proofs.lemmas.List.{get_or_default}
use Rattle.txs_value_data.specs.Places.{nth}
use Rattle.txs_value_data.specs.declared.value.CellId.{CellId}
use Rattle.txs_value_data.specs.declared.value.CellKind.TheVariants.{Ref}
use Rattle.txs_tree_meaning.specs.View.{program_of}
use Rattle.txs_theorem_audit.specs.Audited.{report_as}
use Rattle.txs_audit_evidence.proofs.Sized.{nth_at}
use Rattle.txs_audit_difference.proofs.Leaving.{atoms_end, atoms_on, atoms_open, atoms_so}
use Rattle.txs_audit_difference.proofs.books.atoms_told.Goals as goal

pub loop-n-init : goal.loop-n-init
loop-n-init c = refl

pub atom_told-requires-clause-there : goal.atom_told-requires-clause-there
atom_told-requires-clause-there c =
    let atoms : List CellId = c.args.atoms.now in
    let n = c.loop-n.n in
    let none : CellId = record { kind = Ref; number = 0 } in
    let cell : CellId = get_or atoms n none in
    ap (λ l. nth l n) (sym c.requires.all) ∙ nth_at atoms n cell c.loop-n-test.true (get_or_default atoms n none cell c.loop-n-test.true)

pub returns-in-Open : goal.returns-in-Open
returns-in-Open c =
    let atoms : List CellId = c.args.atoms.now in
    let n = c.loop-n.n in
    let none : CellId = record { kind = Ref; number = 0 } in
    let cell : CellId = get_or atoms n none in
    let lt = c.loop-n-test.true in
    atoms_open (program_of c.args.program.now) (report_as c.args.report.now) atoms n cell lt (get_or_default atoms n none cell lt) (sym c.in-Open.is ∙ c.in_ok-atom_told.ensures) ∙ c.loop-n.invariant

pub returns-in-So : goal.returns-in-So
returns-in-So c =
    let atoms : List CellId = c.args.atoms.now in
    let n = c.loop-n.n in
    let none : CellId = record { kind = Ref; number = 0 } in
    let cell : CellId = get_or atoms n none in
    let lt = c.loop-n-test.true in
    atoms_so (program_of c.args.program.now) (report_as c.args.report.now) atoms n c.in-So.differs cell lt (get_or_default atoms n none cell lt) (sym c.in-So.is ∙ c.in_ok-atom_told.ensures) ∙ c.loop-n.invariant

pub loop-n-preserved : goal.loop-n-preserved
loop-n-preserved c =
    let atoms : List CellId = c.args.atoms.now in
    let n = c.loop-n.n in
    let none : CellId = record { kind = Ref; number = 0 } in
    let cell : CellId = get_or atoms n none in
    let lt = c.loop-n-test.true in
    atoms_on (program_of c.args.program.now) (report_as c.args.report.now) atoms n cell lt (get_or_default atoms n none cell lt) (sym c.in-Clear.is ∙ c.in_ok-atom_told.ensures) ∙ c.loop-n.invariant

pub returns : goal.returns
returns c = atoms_end (program_of c.args.program.now) (report_as c.args.report.now) c.args.atoms.now c.loop-n.n c.loop-n-test.false ∙ c.loop-n.invariant
