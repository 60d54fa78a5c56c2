use Rattle.std.proofs.Common.{◌≡◌, ◌≤◌, ◌+◌, ◌-◌, ◌∷◌, [], List, Err, Ok, drop, length, length-append, sym, ap, ◌∙◌, subst, arith, rules, Vec, Global}
use Rattle.std.proofs.lemmas.Result.{err_from_is_err_and}
use Rattle.txs_value_data.specs.declared.value.Value.{Value}
use Rattle.txs_value_data.specs.declared.value.Value.TheVariants.{Vector}
use Rattle.txs_value_data.specs.PlainValue.{PlainValue, row_depth, plain_row}
use Rattle.txs_value_data.specs.View.{plains_of}
use Rattle.txs_value_data.proofs.ItemsLemmas.{length-plains_of}
use Rattle.txs_reader.specs.declared.form.Bracket.TheVariants.{Square}
use Rattle.txs_reader.specs.declared.form.Form.{Group, the_lemmas}
use Rattle.txs_reader.specs.Tree.{tree}
use Rattle.txs_resolve.specs.BodyGiven.{Gives}
use Rattle.txs_resolve.specs.Literals.{literal, literals}
use Rattle.txs_resolve_expand.specs.Parts.{plain}
use Rattle.txs_resolve.proofs.Stops.{failed}
use Rattle.txs_resolve_expand.proofs.Rows.{then_err, then_ok}
use Rattle.txs_resolve.proofs.Literals.{flat_low, values_after, values_end, literals_step, literals_stop, deeper, square_roomless, square_wide, square_fits}
use Rattle.txs_resolve.proofs.values.+literal.Goals.{literal-then-room-eq0-via-then-room-eq0, literal-then-room-eq0-via-else-room-eq0+then-len-gt-MOST_ITEMS}
use Rattle.txs_resolve.proofs.values.+literal.Goals as goal

pub literal-returns-then-room-eq0-clause-value : goal.literal-returns-then-room-eq0-clause-value
literal-returns-then-room-eq0-clause-value t c =
    let forms = c.in-Group-Square-default-default.forms in
    let at = c.in-Group-Square-default-default.span in
    let whole : c.args.form.now ≡ Group Square forms at = search (rules, the_lemmas) in
    subst (λ st. Gives (λ (v : Value). v) (Err st) (literal c.args.room (tree c.args.form.now))) (sym c.refused.ensures)
    (elim c.then-room-eq0.branch [
      | literal-then-room-eq0-via-then-room-eq0 w ↦ square_roomless c.args.room c.args.form.now forms at whole w.if-room-eq0.true
      | literal-then-room-eq0-via-else-room-eq0+then-len-gt-MOST_ITEMS w ↦ square_wide c.args.room c.args.form.now forms at whole (omega (arith, w.len.ensures, forms.ok, w.if-len-gt-MOST_ITEMS.true))
    ])

pub literal-returns-in_err-items-in-Group-Square-default-default-clause-value :
    goal.literal-returns-in_err-items-in-Group-Square-default-default-clause-value
literal-returns-in_err-items-in-Group-Square-default-default-clause-value t c =
    let forms = c.in-Group-Square-default-default.forms in
    let at = c.in-Group-Square-default-default.span in
    let whole : c.args.form.now ≡ Group Square forms at = search (rules, the_lemmas) in
    let p = err_from_is_err_and c.from_residual.result c.from_residual.ensures.1 in
    rw (p.1, p.2) (failed (λ (vs : Vec Value Global). vs.items) (λ (v : Value). v) _ _ _ c.in_err-items-in-Group-Square-default-default.ensures.values (λ e no.
    square_fits c.args.room c.args.form.now forms at whole c.if-room-eq0.false (omega (arith, c.len.ensures, forms.ok, c.if-len-gt-MOST_ITEMS.false))
    ∙ then_err (literals (c.args.room - 1) (plain forms.items)) (λ vs. Ok (Vector (plains_of vs))) e (ap (λ l. literals (c.args.room - 1) (plain l)) (sym c.deref.ensures.value) ∙ no)))

pub literal-returns-in_ok-from_vec-in-Group-Square-default-default-clause-value :
    goal.literal-returns-in_ok-from_vec-in-Group-Square-default-default-clause-value
literal-returns-in_ok-from_vec-in-Group-Square-default-default-clause-value t c =
    let forms = c.in-Group-Square-default-default.forms in
    let at = c.in-Group-Square-default-default.span in
    let whole : c.args.form.now ≡ Group Square forms at = search (rules, the_lemmas) in
    square_fits c.args.room c.args.form.now forms at whole c.if-room-eq0.false (omega (arith, c.len.ensures, forms.ok, c.if-len-gt-MOST_ITEMS.false))
    ∙ then_ok (literals (c.args.room - 1) (plain forms.items)) (λ vs. Ok (Vector (plains_of vs))) c.in_ok-items-in-Group-Square-default-default.items.items (ap (λ l. literals (c.args.room - 1) (plain l)) (sym c.deref.ensures.value) ∙ c.in_ok-items-in-Group-Square-default-default.ensures.values)
    ∙ ap (λ (ds : List PlainValue). Ok (Vector ds)) (sym c.in_ok-from_vec-in-Group-Square-default-default.ensures)

pub literals-returns-in_err-value-clause-values : goal.literals-returns-in_err-value-clause-values
literals-returns-in_err-value-clause-values t c =
    let p = err_from_is_err_and c.from_residual.result c.from_residual.ensures.1 in
    let fs = c.args.forms.now in
    rw (p.1, p.2) (failed (λ (v : Value). v) (λ (vs : Vec Value Global). vs.items) _ _ _ c.in_err-value.ensures.value (λ e no.
    c.loop-form.invariant.same
    ∙ literals_stop c.args.room fs c.loop-form.form-index c.loop-form.values.items c.form-item.result e c.loop-form-test.true (ap (λ f. literal c.args.room (tree f)) (sym c.form-item.is) ∙ no)))

pub literals-loop-form-preserved : goal.literals-loop-form-preserved
literals-loop-form-preserved t c =
    let fs = c.args.forms.now in
    let i = c.loop-form.form-index in
    let vs = c.loop-form.values.items in
    let v = c.in_ok-value.value in
    record {
      same =
          c.loop-form.invariant.same
          ∙ literals_step c.args.room fs i vs c.form-item.result v c.loop-form-test.true (ap (λ f. literal c.args.room (tree f)) (sym c.form-item.is) ∙ c.in_ok-value.ensures.value)
          ∙ ap (λ ws. values_after ws (literals c.args.room (plain (drop (i + 1) fs)))) (sym c.in_ok-push.ensures.items);
      low = subst (λ ws. row_depth (plain_row (plains_of ws)) ≤ c.args.room) (sym c.in_ok-push.ensures.items) (deeper vs v c.args.room c.loop-form.invariant.low c.in_ok-value.ensures.depth);
      so_many = omega (arith, ap length c.in_ok-push.ensures.items, length-append vs (v ∷ []), c.loop-form.invariant.so_many);
    }

pub literals-returns-clause-values : goal.literals-returns-clause-values
literals-returns-clause-values t c =
    c.loop-form.invariant.same ∙ values_end c.args.room c.args.forms.now c.loop-form.form-index c.loop-form.values.items (omega (arith, c.loop-form-test.false))

pub literals-returns-clause-depth : goal.literals-returns-clause-depth
literals-returns-clause-depth t c =
    c.loop-form.invariant.low

pub literal-returns-in_default-clause-depth : goal.literal-returns-in_default-clause-depth
literal-returns-in_default-clause-depth t c =
    flat_low c.scalar.result c.args.room c.scalar.ensures.flat

pub literal-returns-in_ok-from_vec-in-Group-Square-default-default-clause-depth : goal.literal-returns-in_ok-from_vec-in-Group-Square-default-default-clause-depth
literal-returns-in_ok-from_vec-in-Group-Square-default-default-clause-depth t c =
    let deep = subst (λ ds. row_depth (plain_row ds) ≤ c.args.room - 1) (sym c.in_ok-from_vec-in-Group-Square-default-default.ensures) c.in_ok-items-in-Group-Square-default-default.ensures.depth in
    omega (arith, c.if-room-eq0.false, deep)

pub literal-from_vec-requires : goal.literal-from_vec-requires
literal-from_vec-requires t c =
    let forms = c.in-Group-Square-default-default.forms in
    let made = c.in_ok-items-in-Group-Square-default-default in (
      omega (arith, length-plains_of made.items.items, made.ensures.len, ap length c.deref.ensures.value, c.len.ensures, forms.ok, c.if-len-gt-MOST_ITEMS.false),
      omega (arith, made.ensures.depth, c.requires, c.if-room-eq0.false),
    )
