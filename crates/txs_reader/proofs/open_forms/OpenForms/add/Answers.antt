use Rattle.std.proofs.Common.{◌≡◌, ◌++◌, ◌∷◌, [], List, drop, length, length-append, sym, subst, ap, ◌∙◌, arith}
use Rattle.std.proofs.lemmas.List.{map-append, length-map, drop-append-le}
use Rattle.txs_reader.specs.OpenForms.{opens, inner}
use Rattle.txs_reader.specs.Rows.{divided}
use Rattle.txs_reader.specs.Script.{Open, Holds}
use Rattle.txs_reader.specs.Tree.{PlainForm, tree, trees}
use Rattle.txs_reader.proofs.Holding.{completed}
use Rattle.txs_reader.proofs.Keeps.{fold_keeps}
use Rattle.txs_reader.proofs.Rows.{divided-more, length-divided}
use Rattle.txs_reader.proofs.open_forms.OpenForms.add.Goals as goal

pub loop-alloc-preserved : goal.loop-alloc-preserved
loop-alloc-preserved c = λ bytes rest h. fold_keeps bytes rest _ _ _ _ c.in_ok-form.ensures (c.loop-alloc.invariant bytes rest h)

pub loop-alloc-smaller : goal.loop-alloc-smaller
loop-alloc-smaller c =
    let old = c.loop-alloc.self in
    let new = c.fold.new.self in
    let off = c.in_ok-form.ensures in
    omega (arith, ap length off.last, length-append (opens new) (off.opening ∷ []), length-divided old.open.items (trees old.forms.items), length-divided new.open.items (trees new.forms.items))

pub returns : goal.returns
returns c = λ bytes rest h.
    let state = c.loop-alloc.self in
    let ts = trees state.forms.items in
    let t = tree c.loop-alloc.form in
    let held = c.loop-alloc.invariant bytes rest h in
    let done = completed bytes (opens state) (inner state) t rest held (c.ends_with_deref.ensures.no c.loop-alloc-test.false) in
    let pushed : trees c.push.new.self.items ≡ ts ++ t ∷ [] = ap trees c.in_ok-push.ensures.items ∙ map-append tree _ _ in
    let behind : drop state.start (trees c.push.new.self.items) ≡ inner state ++ t ∷ [] = ap (drop state.start) pushed ∙ drop-append-le state.start ts (t ∷ []) (omega (arith, length-map state.forms.items tree)) in
    let same : divided state.open.items (trees c.push.new.self.items) ≡ opens state = ap (divided state.open.items) pushed ∙ divided-more state.open.items ts (t ∷ []) (omega (arith, length-map state.forms.items tree)) in
    subst (λ (os : List Open). Holds bytes os (drop state.start (trees c.push.new.self.items)) rest) (sym same) (subst (λ (fs : List PlainForm). Holds bytes (opens state) fs rest) (sym behind) done)
