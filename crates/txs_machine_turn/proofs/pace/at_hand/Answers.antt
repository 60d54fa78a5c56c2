use Rattle.std.proofs.Common.{◌≡◌, ◌+◌, ◌<◌, ◌∙◌, ℕ, List, length, get_or, refl, ap, sym, subst}
use Rattle.txs_code_meaning.specs.declared.instr.Instr.{Instr}
use Rattle.txs_code_meaning.specs.declared.instr.Instr.TheVariants.{Const}
use Rattle.txs_machine_loop.specs.Flat.{instr_at, span_at}
use Rattle.txs_value_data.specs.declared.fault.Span.{Span}
use Rattle.txs_machine_stack.proofs.One.{found}
use Rattle.txs_machine_stack.specs.PlainFrame.{PlainStack}
use Rattle.txs_machine_actor.proofs.Striding.{as_many, stands_here}
use Rattle.txs_machine_turn.proofs.pace.at_hand.Goals as goal

pub bounds-spans-at : goal.bounds-spans-at
bounds-spans-at c =
    let s = c.spans-spans in
    let lt = stands_here c.args.code.now c.args.actor.now c.requires.unended c.requires.answered c.requires.runs c.body-body.result.now c.body-body.ensures in
    subst (λ (n : ℕ). n < length s.result.now) (sym (c.place-at.ensures ∙ ap (λ (y : PlainStack). y.place) c.stack.ensures)) (subst (λ (m : ℕ). c.args.actor.now.place < m) (sym s.ensures.as_many) lt)

pub bounds-instrs-at : goal.bounds-instrs-at
bounds-instrs-at c =
    let i = c.instrs-instrs in
    let lt = stands_here c.args.code.now c.args.actor.now c.requires.unended c.requires.answered c.requires.runs c.body-body.result.now c.body-body.ensures in
    subst (λ (n : ℕ). n < length i.result.now) (sym (c.place-at.ensures ∙ ap (λ (y : PlainStack). y.place) c.stack.ensures)) (subst (λ (y : List Instr). c.args.actor.now.place < length y) (sym i.ensures) lt)

pub returns : goal.returns
returns c =
    let a = c.args.actor.now in
    let b = c.body-body.result.now in
    let i = c.instrs-instrs in
    let s = c.spans-spans in
    let here = stands_here c.args.code.now a c.requires.unended c.requires.answered c.requires.runs b c.body-body.ensures in
    let lt = subst (λ (n : ℕ). n < length i.result.now) (sym (c.place-at.ensures ∙ ap (λ (y : PlainStack). y.place) c.stack.ensures)) (subst (λ (y : List Instr). a.place < length y) (sym i.ensures) here) in
    let at : c.place-at.result ≡ a.place = c.place-at.ensures ∙ ap (λ (y : PlainStack). y.place) c.stack.ensures in
    record {
      body = b;
      is = c.body-body.ensures;
      as_many = as_many s.result.now b.spans (length b.instrs) s.ensures.value s.ensures.as_many;
      instr = sym (found i.result.now c.place-at.result (Const 0) (get_or i.result.now c.place-at.result (Const 0)) lt refl) ∙ ap (λ (y : List Instr). instr_at y c.place-at.result) i.ensures ∙ ap (instr_at b.instrs) at;
      spanned = ap (λ (y : List Span). span_at y c.place-at.result) s.ensures.value ∙ ap (span_at b.spans) at;
      behind = ap (λ (y : ℕ). y + 1) at;
    }
