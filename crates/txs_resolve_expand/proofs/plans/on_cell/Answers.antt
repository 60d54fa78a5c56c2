use Rattle.std.proofs.Common.{◌≡◌, List, Option, Some, sym, ap, ◌∙◌}
use Rattle.txs_value_cell.specs.declared.form.CellForm.{CellForm}
use Rattle.txs_value_cell.specs.declared.form.CellForm.TheVariants as on_cell
use Rattle.txs_reader.specs.declared.form.Form.{Form}
use Rattle.txs_reader.specs.Tree.{first, tree}
use Rattle.txs_resolve_expand.specs.Expressions.{cell_form, of_family}
use Rattle.txs_resolve_expand.specs.Parts.{plain, told}
use Rattle.txs_resolve_expand.proofs.Tables.{family_none}
use Rattle.txs_resolve_expand.proofs.plans.on_cell.Goals as goal

pub returns-in_err-form-clause-core : goal.returns-in_err-form-clause-core
returns-in_err-form-clause-core c s =
    ap (told s) c.from_residual.ensures ∙ ap (λ (o : Option CellForm). of_family o s.span (plain c.args.args.now)) c.in_err-form.ensures

pub returns-in_err-cell-clause-core : goal.returns-in_err-cell-clause-core
returns-in_err-cell-clause-core c s =
    ap (told s) c.from_residual-in_err-cell.ensures ∙ family_none (cell_form c.args.name) s.span c.args.args.now c.in_err-cell.ensures.cases

pub returns-in-Look-clause-core : goal.returns-in-Look-clause-core
returns-in-Look-clause-core c s =
    let named : cell_form c.args.name ≡ Some (on_cell.Look c.in-Look.look) = sym c.in_ok-form.ensures ∙ ap (λ (f : CellForm). Some f) c.in-Look.is in
    c.reading.ensures.core s
    ∙ sym (ap (λ (l : List Form). of_family (cell_form c.args.name) s.span (plain l)) c.in_ok-cell.ensures.cases.0
    ∙ ap (λ (o : Option CellForm). of_family o s.span (first (tree c.in_ok-cell.cell.now) (plain c.in_ok-cell.behind.now))) named)

pub returns-in-Look-clause-fits : goal.returns-in-Look-clause-fits
returns-in-Look-clause-fits c = c.reading.ensures.fits

pub returns-in-Put-clause-core : goal.returns-in-Put-clause-core
returns-in-Put-clause-core c s =
    let named : cell_form c.args.name ≡ Some (on_cell.Put c.in-Put.put) = sym c.in_ok-form.ensures ∙ ap (λ (f : CellForm). Some f) c.in-Put.is in
    c.putting.ensures.core s
    ∙ sym (ap (λ (l : List Form). of_family (cell_form c.args.name) s.span (plain l)) c.in_ok-cell.ensures.cases.0
    ∙ ap (λ (o : Option CellForm). of_family o s.span (first (tree c.in_ok-cell.cell.now) (plain c.in_ok-cell.behind.now))) named)

pub returns-in-Put-clause-fits : goal.returns-in-Put-clause-fits
returns-in-Put-clause-fits c = c.putting.ensures.fits

pub returns-in-Update-clause-core : goal.returns-in-Update-clause-core
returns-in-Update-clause-core c s =
    let named : cell_form c.args.name ≡ Some (on_cell.Update c.in-Update.update) = sym c.in_ok-form.ensures ∙ ap (λ (f : CellForm). Some f) c.in-Update.is in
    c.changing.ensures.core s
    ∙ sym (ap (λ (l : List Form). of_family (cell_form c.args.name) s.span (plain l)) c.in_ok-cell.ensures.cases.0
    ∙ ap (λ (o : Option CellForm). of_family o s.span (first (tree c.in_ok-cell.cell.now) (plain c.in_ok-cell.behind.now))) named)

pub returns-in-Update-clause-fits : goal.returns-in-Update-clause-fits
returns-in-Update-clause-fits c = c.changing.ensures.fits

pub returns-in-Send-clause-core : goal.returns-in-Send-clause-core
returns-in-Send-clause-core c s =
    let named : cell_form c.args.name ≡ Some on_cell.Send = sym c.in_ok-form.ensures ∙ ap (λ (f : CellForm). Some f) c.in-Send.is in
    c.changing-in-Send.ensures.core s
    ∙ sym (ap (λ (l : List Form). of_family (cell_form c.args.name) s.span (plain l)) c.in_ok-cell.ensures.cases.0
    ∙ ap (λ (o : Option CellForm). of_family o s.span (first (tree c.in_ok-cell.cell.now) (plain c.in_ok-cell.behind.now))) named)

pub returns-in-Send-clause-fits : goal.returns-in-Send-clause-fits
returns-in-Send-clause-fits c = c.changing-in-Send.ensures.fits
