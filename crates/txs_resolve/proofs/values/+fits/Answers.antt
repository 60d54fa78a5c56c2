use Rattle.std.proofs.Common.{◌≡◌, ◌-◌, Some, sym, ap, ◌∙◌, arith, rules}
use Rattle.std.proofs.lemmas.Result.{err_from_is_err_and}
use Rattle.txs_reader.specs.declared.form.Bracket.TheVariants.{Square}
use Rattle.txs_reader.specs.declared.form.Form.{Group, the_lemmas}
use Rattle.txs_resolve_expand.specs.declared.error.ResolveError.{ResolveError}
use Rattle.txs_resolve_expand.specs.Parts.{plain}
use Rattle.txs_reader.specs.Tree.{tree}
use Rattle.txs_resolve.specs.BodyGiven.{refusal_of}
use Rattle.txs_resolve.specs.Literals.{literal, literals}
use Rattle.txs_resolve.proofs.Literals.{fits_step, fits_stop, fitting_whole, square_roomless, square_wide, square_fits}
use Rattle.txs_resolve.proofs.values.+fits.Goals as goal

pub fits-returns-then-len-gt-MOST_ITEMS : goal.fits-returns-then-len-gt-MOST_ITEMS
fits-returns-then-len-gt-MOST_ITEMS t c =
    let forms = c.in-Group-Square-default-default.forms in
    let at = c.in-Group-Square-default-default.span in
    let whole : c.args.form.now ≡ Group Square forms at = search (rules, the_lemmas) in
    ap (λ (e : ResolveError). Some e) c.refusal.ensures ∙ sym (ap refusal_of (square_wide c.args.room c.args.form.now forms at whole (omega (arith, c.len.ensures, forms.ok, c.if-len-gt-MOST_ITEMS.true))))

pub fits-returns-then-room-eq0 : goal.fits-returns-then-room-eq0
fits-returns-then-room-eq0 t c =
    let forms = c.in-Group-Square-default-default.forms in
    let at = c.in-Group-Square-default-default.span in
    let whole : c.args.form.now ≡ Group Square forms at = search (rules, the_lemmas) in
    ap (λ (e : ResolveError). Some e) c.refusal-then-room-eq0.ensures ∙ sym (ap refusal_of (square_roomless c.args.room c.args.form.now forms at whole c.if-room-eq0.true))

pub fits-returns-else-room-eq0 : goal.fits-returns-else-room-eq0
fits-returns-else-room-eq0 t c =
    let forms = c.in-Group-Square-default-default.forms in
    let at = c.in-Group-Square-default-default.span in
    let whole : c.args.form.now ≡ Group Square forms at = search (rules, the_lemmas) in
    c.all_fit.ensures
    ∙ ap (λ l. refusal_of (literals (c.args.room - 1) (plain l))) c.deref.ensures.value
    ∙ sym (fitting_whole (literals (c.args.room - 1) (plain forms.items)))
    ∙ sym (ap refusal_of (square_fits c.args.room c.args.form.now forms at whole c.if-room-eq0.false (omega (arith, c.len.ensures, forms.ok, c.if-len-gt-MOST_ITEMS.false))))

pub all_fit-loop-form-preserved : goal.all_fit-loop-form-preserved
all_fit-loop-form-preserved t c =
    let d = c.form-item.result in
    record {
      same =
          c.loop-form.invariant.same
          ∙ fits_step c.args.room c.args.forms.now c.loop-form.form-index d c.loop-form-test.true (c.in_ok-fits.ensures ∙ ap (λ f. refusal_of (literal c.args.room (tree f))) c.form-item.is);
    }

pub all_fit-returns-in_err-fits : goal.all_fit-returns-in_err-fits
all_fit-returns-in_err-fits t c =
    let p = err_from_is_err_and c.from_residual.result c.from_residual.ensures.1 in
    let d = c.form-item.result in
    rw (p.1, p.2) (fits_stop c.args.room c.args.forms.now c.loop-form.form-index d c.loop-form-test.true _ (c.in_err-fits.ensures ∙ ap (λ f. refusal_of (literal c.args.room (tree f))) c.form-item.is) ∙ sym c.loop-form.invariant.same)
