use Rattle.std.proofs.Common.{◌≡◌, ◌∙◌, ◌++◌, Bool, List, ap, rules}
use Rattle.std.specs.Int.{w16}
use Rattle.txs_value_cell.specs.declared.cell.CellDefinition.{CellDefinition}
use Rattle.txs_code_decode.specs.CellForm.{cell_bytes}
use Rattle.txs_code_meaning.specs.Validating.{has_validator}
use Rattle.txs_code_decode.specs.CodeForm.{counted_bytes, magic_bytes}
use Rattle.txs_code_decode.proofs.FormLemmas.{code_put}
use Rattle.txs_code_encode.proofs.encoding.written.Goals as goal

pub put_cells-requires-clause-few : goal.put_cells-requires-clause-few
put_cells-requires-clause-few c = rw c.cells-cells.ensures c.requires.few_cells

pub put_cells-requires-clause-writable : goal.put_cells-requires-clause-writable
put_cells-requires-clause-writable c = rw c.cells-cells.ensures c.requires.cells

pub put_constants-requires-clause-few : goal.put_constants-requires-clause-few
put_constants-requires-clause-few c = rw c.constants.ensures c.requires.few_constants

pub put_constants-requires-clause-writable : goal.put_constants-requires-clause-writable
put_constants-requires-clause-writable c = rw c.constants.ensures c.requires.constants

pub put_bodies-requires-clause-few : goal.put_bodies-requires-clause-few
put_bodies-requires-clause-few c = rw c.functions.ensures c.requires.few_functions

pub put_bodies-requires-clause-short : goal.put_bodies-requires-clause-short
put_bodies-requires-clause-short c = rw c.functions.ensures c.requires.functions

pub put_bodies-requires-2-clause-few : goal.put_bodies-requires-2-clause-few
put_bodies-requires-2-clause-few c = rw c.threads.ensures c.requires.few_threads

pub put_bodies-requires-2-clause-short : goal.put_bodies-requires-2-clause-short
put_bodies-requires-2-clause-short c = rw c.threads.ensures c.requires.threads

pub returns : goal.returns
returns c =
    let told = c.has_validator-validated.ensures ∙ ap has_validator c.cells-cells.ensures in
    let begun : c.extend_from_slice.new.self.items ≡ c.magic.result.now = search rules in
    let e0 = begun ∙ c.magic.ensures ∙ ap magic_bytes told in
    let e1 =
    c.in_ok-put_cells.ensures
    ∙ ap (λ (b : Bool). c.extend_from_slice.new.self.items ++ counted_bytes w16 (cell_bytes b) c.cells-cells.result.now) told
    ∙ ap (λ (ds : List CellDefinition). c.extend_from_slice.new.self.items ++ counted_bytes w16 (cell_bytes (has_validator c.args.code.now.cells)) ds) c.cells-cells.ensures
    in
    let e2 = rw c.constants.ensures at c.in_ok-put_constants.ensures in
    let e3 = rw c.functions.ensures at c.in_ok-put_bodies.ensures in
    let e4 = rw c.threads.ensures at c.in_ok-put_bodies-2.ensures in
    code_put c.args.code.now c.extend_from_slice.new.self.items c.put_cells.new.out.items c.put_constants.new.out.items c.put_bodies.new.out.items c.put_bodies-2.new.out.items e0 e1 e2 e3 e4
