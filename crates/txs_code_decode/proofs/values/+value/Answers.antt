use Rattle.std.proofs.Common.{◌≡◌, ◌-◌, List, [], ◌∷◌, ◌++◌, sym, ap, subst, ◌∙◌, Ok, rules, arith}
use Rattle.std.proofs.lemmas.List.{map_push}
use Rattle.txs_value_data.specs.PlainValue.{PlainValue, vector, plain_row}
use Rattle.txs_value_data.specs.View.{plain_of, plains_of}
use Rattle.txs_code_decode.specs.CellForm.{kinds_of}
use Rattle.txs_code_decode.specs.declared.tag.Tag.TheVariants as tag
use Rattle.txs_code_decode.specs.Format.{Read, Gives, many_at}
use Rattle.txs_code_decode.specs.ValueForm.{value_format}
use Rattle.txs_code_decode.proofs.Many.{goes_on, ends, is_done}
use Rattle.txs_code_decode.proofs.ValueLemmas.{int_fails, int_reads, is_vector, value_fails, value_tagged, vector_reads, vector_room, vector_tagged}
use Rattle.txs_code_decode.proofs.values.+value.Goals as goal

pub value_at-returns-in-Err : goal.value_at-returns-in-Err
value_at-returns-in-Err t c =
    value_fails c.args.cells (kinds_of c.args.defined.now) c.args.room c.args.bytes.now c.in-Err.stop c.in-Err.ensures

pub value_at-vector_at-requires : goal.value_at-vector_at-requires
value_at-vector_at-requires t c =
    let some = vector_room c.args.cells c.args.room c.args.bytes.now c.in-Ok.tag c.in-Ok.rest.now c.in-Ok.ensures c.in-Vector.is in
    search (rules, some)

pub value_at-returns-in-Nil : goal.value_at-returns-in-Nil
value_at-returns-in-Nil t c = value_tagged c.args.cells (kinds_of c.args.defined.now) c.args.room c.args.bytes.now c.in-Ok.tag tag.Nil c.in-Ok.rest.now c.in-Ok.ensures c.in-Nil.is

pub value_at-returns-in-False : goal.value_at-returns-in-False
value_at-returns-in-False t c = value_tagged c.args.cells (kinds_of c.args.defined.now) c.args.room c.args.bytes.now c.in-Ok.tag tag.False c.in-Ok.rest.now c.in-Ok.ensures c.in-False.is

pub value_at-returns-in-True : goal.value_at-returns-in-True
value_at-returns-in-True t c = value_tagged c.args.cells (kinds_of c.args.defined.now) c.args.room c.args.bytes.now c.in-Ok.tag tag.True c.in-Ok.rest.now c.in-Ok.ensures c.in-True.is

pub value_at-returns-in-Ok-u64_at : goal.value_at-returns-in-Ok-u64_at
value_at-returns-in-Ok-u64_at t c =
    let told = int_reads c.args.cells (kinds_of c.args.defined.now) c.args.room c.args.bytes.now c.in-Ok.tag c.in-Ok.rest.now c.in-Ok-u64_at.number c.in-Ok-u64_at.rest.now c.in-Ok.ensures c.in-Int.is c.in-Ok-u64_at.ensures in
    search (rules, told)

pub value_at-returns-in-Err-u64_at : goal.value_at-returns-in-Err-u64_at
value_at-returns-in-Err-u64_at t c =
    int_fails c.args.cells (kinds_of c.args.defined.now) c.args.room c.args.bytes.now c.in-Ok.tag c.in-Ok.rest.now c.in-Err-u64_at.stop c.in-Ok.ensures c.in-Int.is c.in-Err-u64_at.ensures

pub value_at-returns-in-Key : goal.value_at-returns-in-Key
value_at-returns-in-Key t c =
    let e = value_tagged c.args.cells (kinds_of c.args.defined.now) c.args.room c.args.bytes.now c.in-Ok.tag tag.Key c.in-Ok.rest.now c.in-Ok.ensures c.in-Key.is in
    subst (λ (r : Read PlainValue). Gives (λ x. (plain_of x.0, x.1.now)) c.keyword_at.result r) (sym e) c.keyword_at.ensures

pub value_at-returns-in-Text : goal.value_at-returns-in-Text
value_at-returns-in-Text t c =
    let e = value_tagged c.args.cells (kinds_of c.args.defined.now) c.args.room c.args.bytes.now c.in-Ok.tag tag.Text c.in-Ok.rest.now c.in-Ok.ensures c.in-Text.is in
    subst (λ (r : Read PlainValue). Gives (λ x. (plain_of x.0, x.1.now)) c.text_at.result r) (sym e) c.text_at.ensures

pub value_at-returns-in-Cell : goal.value_at-returns-in-Cell
value_at-returns-in-Cell t c =
    let e = value_tagged c.args.cells (kinds_of c.args.defined.now) c.args.room c.args.bytes.now c.in-Ok.tag tag.Cell c.in-Ok.rest.now c.in-Ok.ensures c.in-Cell.is in
    subst (λ (r : Read PlainValue). Gives (λ x. (plain_of x.0, x.1.now)) c.cell_at.result r) (sym e) c.cell_at.ensures

pub value_at-returns-in-Vector : goal.value_at-returns-in-Vector
value_at-returns-in-Vector t c =
    let e = vector_tagged c.args.cells (kinds_of c.args.defined.now) c.args.room c.args.bytes.now c.in-Ok.tag c.in-Ok.rest.now c.in-Ok.ensures c.in-Vector.is in
    subst (λ (r : Read PlainValue). Gives (λ x. (plain_of x.0, x.1.now)) c.vector_at.result r) (sym e) c.vector_at.ensures

pub values_at-returns-in-Err : goal.values_at-returns-in-Err
values_at-returns-in-Err t c =
    let read = (value_format c.args.cells (kinds_of c.args.defined.now) c.args.room).read in
    ends read c.in-Err.stop (plains_of c.loop.values.items) c.args.count c.loop.counter c.loop.rest.now (many_at read c.args.count c.args.bytes.now) c.loop-test.true c.in-Err.ensures c.loop.invariant

pub values_at-loop-preserved : goal.values_at-loop-preserved
values_at-loop-preserved t c =
    let v = c.in-Ok.value in
    let read = (value_format c.args.cells (kinds_of c.args.defined.now) c.args.room).read in
    let e : plains_of c.push.new.self.items ≡ plains_of c.loop.values.items ++ plain_of v ∷ [] = rw c.in_ok-push-in-Ok.ensures.items (map_push _ c.loop.values.items v) in
    rw e (goes_on read (plains_of c.loop.values.items) c.args.count c.loop.counter c.loop.rest.now (plain_of v) c.in-Ok.after.now (many_at read c.args.count c.args.bytes.now) c.loop-test.true c.in-Ok.ensures c.loop.invariant)

pub values_at-returns : goal.values_at-returns
values_at-returns t c =
    let read = (value_format c.args.cells (kinds_of c.args.defined.now) c.args.room).read in
    is_done read (plains_of c.loop.values.items) c.args.count c.loop.counter c.loop.rest.now (many_at read c.args.count c.args.bytes.now) c.loop-test.false c.loop.invariant

pub vector_at-from_vec-requires : goal.vector_at-from_vec-requires
vector_at-from_vec-requires t c =
    is_vector c.args.cells (kinds_of c.args.defined.now) (c.args.room - 1) c.args.bytes.now c.in_ok-count.rest.now c.in-Ok.rest.now c.in_ok-count.count (plains_of c.in-Ok.values.items) (omega (arith, c.requires.room)) (λ i. omega (arith, c.type_inv.bytes i)) c.in_ok-count.ensures c.in-Ok.ensures

pub vector_at-returns-in_ok-from_vec-in-Ok : goal.vector_at-returns-in_ok-from_vec-in-Ok
vector_at-returns-in_ok-from_vec-in-Ok t c =
    let kinds = kinds_of c.args.defined.now in
    let told = vector_reads kinds (value_format c.args.cells kinds (c.args.room - 1)) c.args.bytes.now c.in_ok-count.rest.now c.in-Ok.rest.now c.in_ok-count.count (plains_of c.in-Ok.values.items) c.in_ok-count.ensures c.in-Ok.ensures in
    told ∙ ap (λ (ds : List PlainValue). Ok (vector (plain_row ds), c.in-Ok.rest.now)) (sym c.in_ok-from_vec-in-Ok.ensures)

pub values_at-room_for-requires : goal.values_at-room_for-requires
values_at-room_for-requires t c = omega arith
