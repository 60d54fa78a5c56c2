use Rattle.std.proofs.Common.{◌≡◌, ℕ, ◌-◌, ◌∙◌, sym, subst, length, length-drop, arith}
use Rattle.std.proofs.lemmas.Bool.{false≢true}
use Rattle.std.proofs.lemmas.List.{length-map}
use Rattle.txs_reader.specs.OpenForms.{opens, inner}
use Rattle.txs_reader.specs.Tree.{tree, trees}
use Rattle.txs_reader.specs.Script.{HasAll}
use Rattle.txs_reader.proofs.Last.{innermost, full_at, at_full}
use Rattle.txs_reader.proofs.open_forms.OpenForms.is_full.Goals as goal

pub returns-in-Some-clause-yes : goal.returns-in-Some-clause-yes
returns-in-Some-clause-yes c =
    λ t.
    let many : c.len.result - c.args.self.now.start ≡ length (inner c.args.self.now) = omega (arith, length-drop c.args.self.now.start (trees c.args.self.now.forms.items), length-map c.args.self.now.forms.items tree) in
    full_at (opens c.args.self.now) c.in-Some.last.now (inner c.args.self.now) (innermost c.args.self.now.open.items (trees c.args.self.now.forms.items) c.in-Some.last.now (rw c.deref.ensures.value at c.in-Some.ensures.value)) (subst (λ (n : ℕ). HasAll c.in-Some.last.now.bracket n) many (c.has_all.ensures.0 t))

pub returns-in-Some-clause-no : goal.returns-in-Some-clause-no
returns-in-Some-clause-no c =
    λ t f.
    let many : length (inner c.args.self.now) ≡ c.len.result - c.args.self.now.start = omega (arith, length-drop c.args.self.now.start (trees c.args.self.now.forms.items), length-map c.args.self.now.forms.items tree) in
    false≢true (sym t ∙ c.has_all.ensures.1 (subst (λ (n : ℕ). HasAll c.in-Some.last.now.bracket n) many (at_full (opens c.args.self.now) c.in-Some.last.now (inner c.args.self.now) (innermost c.args.self.now.open.items (trees c.args.self.now.forms.items) c.in-Some.last.now (rw c.deref.ensures.value at c.in-Some.ensures.value)) f)))
