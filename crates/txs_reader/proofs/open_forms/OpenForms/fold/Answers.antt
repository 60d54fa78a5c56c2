use Rattle.std.proofs.Common.{◌∷◌, ◌+◌, [], ℕ, List, take, drop, refl, ap, ◌∙◌, arith}
use Rattle.txs_value_data.specs.Names.{is_symbol_byte}
use Rattle.txs_value_data.specs.declared.fault.Span.{Span}
use Rattle.txs_reader.specs.declared.form.Bracket.TheVariants.{Round}
use Rattle.txs_reader.specs.OpenForms.{opens}
use Rattle.txs_reader.specs.Rows.{before_all, divided}
use Rattle.txs_reader.specs.Tree.{PlainForm, leaf, group, symbol, first, none, tree, trees, trees_of}
use Rattle.txs_reader.specs.Script.{between, opened}
use Rattle.txs_reader.proofs.Last.{at_deref}
use Rattle.txs_reader.proofs.Rows.{before_all-push, divided-fold, alone}
use Rattle.txs_reader.proofs.Trees.{tree-Group, trees_sugar}
use Rattle.txs_reader.proofs.open_forms.OpenForms.fold.Goals as goal

pub from_bytes-requires : goal.from_bytes-requires
unfolding is_symbol_byte
from_bytes-requires c = (omega arith, omega arith, refl)

pub overflow_sub-self : goal.overflow_sub-self
overflow_sub-self c =
    omega (arith, c.args.self.now.counted, ap before_all c.in-Some.ensures.items, before_all-push c.pop.new.self.items c.in-Some.field-0)

pub invariant_of-self : goal.invariant_of-self
invariant_of-self c =
    record {
      counted = omega (arith, c.args.self.now.counted, ap before_all c.in-Some.ensures.items, before_all-push c.pop.new.self.items c.in-Some.field-0);
      within = omega (arith, c.args.self.now.within);
    }

pub returns : goal.returns
returns c =
    let old = c.args.self.now in
    let o = c.in-Some.field-0 in
    let new = c.pop.new.self.items in
    let ts = trees old.forms.items in
    let t = tree c.args.form in
    let before = take o.before (drop (before_all new) ts) in
    let last = divided-fold old.open.items new o ts c.in-Some.ensures.items in
    record {
      opening = opened o.bracket o.from before;
      last = last;
      before = λ empty. alone old.open.items new o ts old.start c.in-Some.ensures.items old.counted empty;
      bracket = at_deref (opens old) o (record { init = divided new ts; before = before; is = last }) c.requires;
      made =
          tree-Group _ _ _
          ∙ ap (λ (ts : List PlainForm). group Round (trees_of ts) (between o.from c.span-to.result.to)) (trees_sugar _ _ _ _ _ _ (ap trees c.in-Ok-with_capacity.ensures.items) c.push_reserved.ensures.items c.push_reserved-in-Some.ensures.items)
          ∙ ap (λ (n : List ℕ). group Round (first (leaf (symbol n) (between o.from (o.from + 1))) (first t none)) (between o.from c.span-to.result.to)) c.in-Ok.ensures
          ∙ ap (λ (s : Span). group Round (first (leaf (symbol (100 ∷ 101 ∷ 114 ∷ 101 ∷ 102 ∷ [])) (between o.from (o.from + 1))) (first t none)) (between o.from s.to)) c.span-to.ensures;
    }
