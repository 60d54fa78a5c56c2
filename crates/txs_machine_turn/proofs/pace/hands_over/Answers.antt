use Rattle.std.proofs.Common.{◌≡◌, ◌∙◌, Some, refl, ap, sym, subst, rules}
use Rattle.std.proofs.lemmas.Bool.{false≢true}
use Rattle.txs_machine_loop.specs.Flat.{instr_at}
use Rattle.txs_code_meaning.specs.PlainCode.{CodeBody}
use Rattle.txs_machine_stack.specs.PlainFrame.{PlainStack}
use Rattle.txs_machine_actor.specs.Turns.{IsActing, IsReturn}
use Rattle.txs_machine_actor.proofs.Striding.{return_is}
use Rattle.txs_machine_turn.proofs.pace.hands_over.Goals as goal

-- one body stands there
one_body : {b c : CodeBody} → Some b ≡ Some c → b ≡ c
one_body e = cc

pub returns-in-Return-clause-yes : goal.returns-in-Return-clause-yes
returns-in-Return-clause-yes c = λ t.
    let h = c.at_hand-instr.ensures in
    let acting : IsActing c.args.actor.now.role c.args.actor.now.tx = first_of (search rules, cc) in
    (h.body, h.is, record { returns = subst IsReturn (sym c.in-Return.is ∙ h.instr) tt; first = ap (λ (s : PlainStack). s.frames) (sym c.stack.ensures) ∙ c.if-not-is_first.ensures.first refl; acting = acting })

pub returns-in_default : goal.returns-in_default
returns-in_default c =
    let a = c.args.actor.now in
    let h = c.at_hand-instr.ensures in
    record { yes = λ t. absurd (false≢true t); no = λ e g. c.in_default.not-Return (h.instr ∙ ap (λ (b : CodeBody). instr_at b.instrs a.place) (one_body (sym h.is ∙ g.1)) ∙ return_is (instr_at g.0.instrs a.place) g.2.returns) }
