use Rattle.std.proofs.Common.{◌≡◌, ◌*◌, length, drop, take, ◌∙◌, ap, sym, arith}
use Rattle.txs_value_data.specs.Rows.{stored}
use Rattle.txs_value_data.proofs.WindowLemmas.{stored-window, tail-window}
use Rattle.txs_value_data.proofs.value.Body.row.Goals as goal

pub returns-in_default : goal.returns-in_default
returns-in_default c =
    let none : 0 * 32 ≡ length (stored c.self.inside.root) = ap (λ r. length (stored r)) (sym c.in_default.is) in
    c.as_slice.ensures ∙ tail-window (stored c.self.inside.root) c.self.inside.tail c.args.self.now c.self.view_is c.self.invariant c.args.number c.requires 0 none (omega arith)

pub returns-then-number-full : goal.returns-then-number-full
returns-then-number-full c =
    let all : c.full.result * 32 ≡ length (stored c.self.inside.root) = c.full.ensures ∙ ap length (c.deref.ensures ∙ c.root.view_is) ∙ ap (λ r. length (stored r)) (sym c.in-Some.is) in
    let rows : c.deref-then-number-full.result.now ≡ stored c.self.inside.root = c.deref-then-number-full.ensures ∙ c.root.view_is ∙ ap stored (sym c.in-Some.is) in
    c.row.ensures
    ∙ ap (λ xs. take 32 (drop (c.args.number * 32) xs)) rows
    ∙ stored-window (stored c.self.inside.root) c.self.inside.tail c.args.self.now c.self.view_is c.self.invariant c.args.number c.requires c.full.result all c.if-number-full.true

pub returns : goal.returns
returns c =
    let all : c.full.result * 32 ≡ length (stored c.self.inside.root) = c.full.ensures ∙ ap length (c.deref.ensures ∙ c.root.view_is) ∙ ap (λ r. length (stored r)) (sym c.in-Some.is) in
    c.as_slice-2.ensures ∙ tail-window (stored c.self.inside.root) c.self.inside.tail c.args.self.now c.self.view_is c.self.invariant c.args.number c.requires c.full.result all c.if-number-full.false
