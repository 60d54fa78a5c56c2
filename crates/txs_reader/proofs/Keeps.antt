-- What taking an opening off keeps.
use Rattle.std.proofs.Common.{◌≡◌, ℕ, ◌+◌, ◌<◌, List, length, get_or, drop, sym, subst}
use Rattle.txs_reader.specs.declared.form.Bracket.{Bracket}
use Rattle.txs_reader.specs.declared.open_forms.OpenForms.{OpenForms}
use Rattle.txs_reader.specs.Completes.{Completes}
use Rattle.txs_reader.specs.OpenForms.{opens, inner, Closes, Folds}
use Rattle.txs_reader.specs.Script.{Open, between, sugar, closing_byte, Holds}
use Rattle.txs_reader.specs.Tree.{PlainForm, group, trees_of}
use Rattle.txs_reader.proofs.Holding.{folded, behind_deref}
use Rattle.txs_reader.proofs.Steps.{step_close}

pub fold_keeps : (bytes rest : List ℕ) (old new : OpenForms) (t list : PlainForm) → Folds old new t list → Completes bytes (opens old) (inner old) t rest → Completes bytes (opens new) (inner new) list rest
fold_keeps bytes rest old new t list f c =
    let h = subst (λ (os : List Open). Completes bytes os (inner old) t rest) f.last c in
    let alone = behind_deref bytes (opens new) f.opening (inner old) t rest h f.bracket in
    let g = folded bytes (opens new) f.opening (inner old) t rest h f.bracket in
    subst (λ (l : PlainForm). Completes bytes (opens new) (inner new) l rest) (sym f.made) (subst (λ (fs : List PlainForm). Completes bytes (opens new) fs (sugar f.opening.from t) rest) (sym (f.before alone)) g)

pub close_keeps : (bytes : List ℕ) (old new : OpenForms) (b : Bracket) (t : PlainForm) (at : ℕ) → Closes old new b t (at + 1) → Holds bytes (opens old) (inner old) (drop at bytes) → at < length bytes → get_or bytes at 0 ≡ closing_byte b → Completes bytes (opens new) (inner new) t (drop (at + 1) bytes)
close_keeps bytes old new b t at c h lt is =
    let held = subst (λ (os : List Open). Holds bytes os (inner old) (drop at bytes)) c.last h in
    let g = step_close bytes (opens new) (inner old) at b c.opening held lt is c.bracket in
    subst (λ (l : PlainForm). Completes bytes (opens new) (inner new) l (drop (at + 1) bytes)) (sym c.made) (subst (λ (fs : List PlainForm). Completes bytes (opens new) fs (group b (trees_of (inner old)) (between c.opening.from (at + 1))) (drop (at + 1) bytes)) (sym c.before) g)
