use Rattle.std.proofs.Common.{◌≡◌, List, Some, subst}
use Rattle.std.proofs.lemmas.Result.{err_from_is_err_and}
use Rattle.txs_code_meaning.specs.PlainCode.{CodeBody}
use Rattle.txs_value_data.specs.Places.{nth}
use Rattle.txs_verify.proofs.Ends.{walk_refused, thread_refused, all_typed}
use Rattle.txs_verify.proofs.Fewest.{least_rooms}
use Rattle.txs_verify.proofs.IllTyped.{ill_typed_or, ill_alone, ill_cell, ill_thread, cell_refused, function_alone, thread_alone}
use Rattle.txs_verify.proofs.bodies.verify_code.Goals as goal

pub returns-in_err-walk_with_validators-clause-refused : goal.returns-in_err-walk_with_validators-clause-refused
returns-in_err-walk_with_validators-clause-refused c =
    let p = err_from_is_err_and c.from_residual-in_err-walk_with_validators.result c.from_residual-in_err-walk_with_validators.ensures.1 in
    rw (p.1, p.2) (walk_refused c.args.code.now c.cells-cells.result.now c.functions-functions.result.now c.threads-threads.result.now c.cells-cells.ensures c.functions-functions.ensures c.threads-threads.ensures c.in_ok-look_at_counts.ensures.right c.in_ok-look_at_bodies.ensures.right c.in_ok-look_at_bodies-2.ensures.right c.in_err-walk_with_validators.field-0.0 c.in_err-walk_with_validators.ensures.wrong)

pub returns-in_err-walk_threads-clause-refused : goal.returns-in_err-walk_threads-clause-refused
returns-in_err-walk_threads-clause-refused c =
    let p = err_from_is_err_and c.from_residual-in_err-walk_threads.result c.from_residual-in_err-walk_threads.ensures.1 in
    rw (p.1, p.2) (thread_refused c.args.code.now c.cells-cells.result.now c.functions-functions.result.now c.threads-threads.result.now c.cells-cells.ensures c.functions-functions.ensures c.threads-threads.ensures c.in_ok-look_at_counts.ensures.right c.in_ok-look_at_bodies.ensures.right c.in_ok-look_at_bodies-2.ensures.right c.walk_with_validators.new.kinds.items c.as_slice.result.now c.walk_with_validators.new.rooms.items c.in_err-walk_threads.field-0.0 c.as_slice.ensures.value c.in_ok-walk_with_validators.ensures.walked c.in_ok-walk_with_validators.ensures.many c.in_ok-walk_with_validators.ensures.pure c.in_err-walk_threads.ensures.wrong)

pub returns-clause-typed : goal.returns-clause-typed
returns-clause-typed c = all_typed c.args.code.now c.cells-cells.result.now c.functions-functions.result.now c.threads-threads.result.now c.cells-cells.ensures c.functions-functions.ensures c.threads-threads.ensures c.in_ok-look_at_counts.ensures.right c.in_ok-look_at_bodies.ensures.right c.in_ok-look_at_bodies-2.ensures.right c.walk_with_validators.new.kinds.items c.as_slice.result.now c.walk_with_validators.new.rooms.items c.walk_threads.new.rooms.items c.requires c.as_slice.ensures.value c.in_ok-walk_with_validators.ensures.pure c.in_ok-walk_with_validators.ensures.walked c.in_ok-walk_with_validators.ensures.many c.in_ok-walk_threads.ensures.walked c.in_ok-walk_threads.ensures.many

pub returns-clause-least : goal.returns-clause-least
returns-clause-least c = least_rooms c.args.code.now c.functions-functions.result.now c.threads-threads.result.now c.functions-functions.ensures c.threads-threads.ensures c.walk_with_validators.new.kinds.items c.as_slice.result.now c.walk_with_validators.new.rooms.items c.walk_threads.new.rooms.items c.as_slice.ensures.value c.in_ok-walk_with_validators.ensures.walked c.in_ok-walk_with_validators.ensures.many c.in_ok-walk_threads.ensures.walked c.in_ok-walk_threads.ensures.many

pub returns-in_err-look_at_bodies-clause-ill_typed : goal.returns-in_err-look_at_bodies-clause-ill_typed
returns-in_err-look_at_bodies-clause-ill_typed c =
    let p = err_from_is_err_and c.from_residual-in_err-look_at_bodies.result c.from_residual-in_err-look_at_bodies.ensures.1 in
    rw (p.1, p.2) (ill_alone c.args.code.now c.cells-cells.result.now c.functions-functions.result.now c.threads-threads.result.now c.cells-cells.ensures c.functions-functions.ensures c.threads-threads.ensures c.in_err-look_at_bodies.field-0.0 c.in_ok-look_at_counts.ensures.right c.in_err-look_at_bodies.ensures.wrong)

pub returns-in_err-look_at_bodies-2-clause-ill_typed : goal.returns-in_err-look_at_bodies-2-clause-ill_typed
returns-in_err-look_at_bodies-2-clause-ill_typed c =
    let p = err_from_is_err_and c.from_residual-in_err-look_at_bodies-2.result c.from_residual-in_err-look_at_bodies-2.ensures.1 in
    rw (p.1, p.2) (ill_thread c.args.code.now c.cells-cells.result.now c.functions-functions.result.now c.threads-threads.result.now c.cells-cells.ensures c.functions-functions.ensures c.threads-threads.ensures c.in_err-look_at_bodies-2.field-0.0 c.in_ok-look_at_counts.ensures.right c.in_ok-look_at_bodies.ensures.right c.in_err-look_at_bodies-2.ensures.wrong)

pub returns-in_err-walk_with_validators-clause-ill_typed : goal.returns-in_err-walk_with_validators-clause-ill_typed
returns-in_err-walk_with_validators-clause-ill_typed c =
    let p = err_from_is_err_and c.from_residual-in_err-walk_with_validators.result c.from_residual-in_err-walk_with_validators.ensures.1 in
    let e = c.in_err-walk_with_validators.field-0.0 in
    rw (p.1, p.2) (ill_typed_or c.args.code.now e (walk_refused c.args.code.now c.cells-cells.result.now c.functions-functions.result.now c.threads-threads.result.now c.cells-cells.ensures c.functions-functions.ensures c.threads-threads.ensures c.in_ok-look_at_counts.ensures.right c.in_ok-look_at_bodies.ensures.right c.in_ok-look_at_bodies-2.ensures.right e c.in_err-walk_with_validators.ensures.wrong))

pub returns-in_err-walk_threads-clause-ill_typed : goal.returns-in_err-walk_threads-clause-ill_typed
returns-in_err-walk_threads-clause-ill_typed c =
    let p = err_from_is_err_and c.from_residual-in_err-walk_threads.result c.from_residual-in_err-walk_threads.ensures.1 in
    let e = c.in_err-walk_threads.field-0.0 in
    rw (p.1, p.2) (ill_typed_or c.args.code.now e (thread_refused c.args.code.now c.cells-cells.result.now c.functions-functions.result.now c.threads-threads.result.now c.cells-cells.ensures c.functions-functions.ensures c.threads-threads.ensures c.in_ok-look_at_counts.ensures.right c.in_ok-look_at_bodies.ensures.right c.in_ok-look_at_bodies-2.ensures.right c.walk_with_validators.new.kinds.items c.as_slice.result.now c.walk_with_validators.new.rooms.items e c.as_slice.ensures.value c.in_ok-walk_with_validators.ensures.walked c.in_ok-walk_with_validators.ensures.many c.in_ok-walk_with_validators.ensures.pure c.in_err-walk_threads.ensures.wrong))

pub returns-in_err-look_at_bodies-2-clause-refused : goal.returns-in_err-look_at_bodies-2-clause-refused
returns-in_err-look_at_bodies-2-clause-refused c =
    let p = err_from_is_err_and c.from_residual-in_err-look_at_bodies-2.result c.from_residual-in_err-look_at_bodies-2.ensures.1 in
    rw (p.1, p.2) (thread_alone c.args.code.now c.cells-cells.result.now c.functions-functions.result.now c.threads-threads.result.now c.cells-cells.ensures c.functions-functions.ensures c.threads-threads.ensures c.in_err-look_at_bodies-2.field-0.0 c.in_ok-look_at_counts.ensures.right c.in_ok-look_at_bodies.ensures.right c.in_err-look_at_bodies-2.ensures.wrong)

-- no body has too many instructions
pub look_at_bodies-requires : goal.look_at_bodies-requires
look_at_bodies-requires c = λ n b stands. (c.requires.functions n b (subst (λ (fs : List CodeBody). nth fs n ≡ Some b) c.functions-functions.ensures stands)).few

pub look_at_bodies-requires-2 : goal.look_at_bodies-requires-2
look_at_bodies-requires-2 c = λ n b stands. (c.requires.threads n b (subst (λ (ts : List CodeBody). nth ts n ≡ Some b) c.threads-threads.ensures stands)).few

pub walk_with_validators-requires-clause-few : goal.walk_with_validators-requires-clause-few
walk_with_validators-requires-clause-few c = λ n b stands. (c.requires.functions n b (subst (λ (fs : List CodeBody). nth fs n ≡ Some b) c.functions-functions.ensures stands)).few

pub walk_threads-requires-clause-few : goal.walk_threads-requires-clause-few
walk_threads-requires-clause-few c = λ n b stands. (c.requires.threads n b (subst (λ (ts : List CodeBody). nth ts n ≡ Some b) c.threads-threads.ensures stands)).few

pub returns-in_err-look_at_bodies-clause-refused : goal.returns-in_err-look_at_bodies-clause-refused
returns-in_err-look_at_bodies-clause-refused c =
    let p = err_from_is_err_and c.from_residual-in_err-look_at_bodies.result c.from_residual-in_err-look_at_bodies.ensures.1 in
    rw (p.1, p.2) (function_alone c.args.code.now c.cells-cells.result.now c.functions-functions.result.now c.threads-threads.result.now c.cells-cells.ensures c.functions-functions.ensures c.threads-threads.ensures c.in_err-look_at_bodies.field-0.0 c.in_ok-look_at_counts.ensures.right c.in_err-look_at_bodies.ensures.wrong)

pub returns-in_err-look_at_counts-clause-refused : goal.returns-in_err-look_at_counts-clause-refused
returns-in_err-look_at_counts-clause-refused c =
    let p = err_from_is_err_and c.from_residual.result c.from_residual.ensures.1 in
    rw (p.1, p.2) (cell_refused c.args.code.now c.cells-cells.result.now c.functions-functions.result.now c.threads-threads.result.now c.cells-cells.ensures c.functions-functions.ensures c.threads-threads.ensures c.in_err-look_at_counts.field-0.0 c.in_err-look_at_counts.ensures.wrong)

pub returns-in_err-look_at_counts-clause-ill_typed : goal.returns-in_err-look_at_counts-clause-ill_typed
returns-in_err-look_at_counts-clause-ill_typed c =
    let p = err_from_is_err_and c.from_residual.result c.from_residual.ensures.1 in
    rw (p.1, p.2) (ill_cell c.args.code.now c.cells-cells.result.now c.functions-functions.result.now c.threads-threads.result.now c.cells-cells.ensures c.functions-functions.ensures c.threads-threads.ensures c.in_err-look_at_counts.field-0.0 c.in_err-look_at_counts.ensures.wrong)
