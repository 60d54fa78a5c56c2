use Rattle.std.proofs.Common.{◌≡◌, ◌-◌, List, drop, length, refl, sym, ap, ◌∙◌, arith}
use Rattle.std.proofs.lemmas.List.{drop-map, length-take-le}
use Rattle.txs_reader.specs.OpenForms.{opens, inner}
use Rattle.txs_reader.specs.Rows.{before_all, divided}
use Rattle.txs_reader.specs.Tree.{PlainForm, tree, group, trees, trees_of}
use Rattle.txs_reader.specs.Script.{between, opened}
use Rattle.txs_reader.proofs.Last.{at_fits}
use Rattle.txs_reader.proofs.Rows.{before_all-push, divided-close}
use Rattle.txs_reader.proofs.Trees.{tree-Group}
use Rattle.txs_reader.proofs.open_forms.OpenForms.close.Goals as goal

pub overflow_sub-self : goal.overflow_sub-self
overflow_sub-self c =
    omega (arith, c.args.self.now.counted, ap before_all c.in-Some.ensures.items, before_all-push c.pop.new.self.items c.in-Some.field-0)

pub invariant_of-self-in-Some : goal.invariant_of-self-in-Some
invariant_of-self-in-Some c =
    record {
      counted = omega (arith, c.args.self.now.counted, ap before_all c.in-Some.ensures.items, before_all-push c.pop.new.self.items c.in-Some.field-0);
      within = omega (arith, ap length c.in_ok-parts.ensures.items, length-take-le c.args.self.now.start c.args.self.now.forms.items c.args.self.now.within);
    }

pub returns : goal.returns
returns c =
    let old = c.args.self.now in
    let o = c.in-Some.field-0 in
    let left = trees c.split_off.new.self.items in
    let before = drop (old.start - o.before) left in
    let last = divided-close old.open.items c.pop.new.self.items o old.forms.items c.split_off.new.self.items old.start c.in-Some.ensures.items c.in_ok-parts.ensures.items old.counted old.within in
    let parts : trees c.in_ok-parts.parts.items ≡ inner old = ap trees c.in_ok-parts.ensures.tail ∙ sym (drop-map tree old.start old.forms.items) in
    record {
      opening = opened o.bracket o.from before;
      last = last;
      before = refl;
      bracket = at_fits (opens old) o c.args.bracket (record { init = divided c.pop.new.self.items left; before = before; is = last }) c.requires;
      made = tree-Group _ _ _ ∙ ap (λ (ts : List PlainForm). group c.args.bracket (trees_of ts) (between o.from c.args.to)) parts;
    }
