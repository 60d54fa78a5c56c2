use Rattle.std.proofs.Common.{◌≡◌, ◌≢◌, ◌+◌, Bool, List, [], ◌∷◌, length, drop, refl, arith, length-drop}
use Rattle.txs_reader.specs.declared.form.Form.{Form}
use Rattle.txs_reader.specs.Tree.{trees, trees_of}
use Rattle.txs_resolve_expand.specs.Expressions.{flag}
use Rattle.txs_resolve.proofs.below.flag_at.Goals as goal

-- a form that others stand behind
inner_flag : (inner last : Bool) (forms : List Form) → length forms ≢ 0 → inner ≡ flag inner last (trees_of (trees forms))
inner_flag inner last [] h = absurd (h refl)
inner_flag inner last (f ∷ fs) h = refl

pub returns-else-i-forms : goal.returns-else-i-forms
returns-else-i-forms c =
    inner_flag c.args.inner c.args.last (drop (c.args.i + 1) c.args.forms.now) (λ e. c.if-i-forms.false (omega (arith, c.requires, length-drop (c.args.i + 1) c.args.forms.now, e)))
