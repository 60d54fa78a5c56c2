use Rattle.std.proofs.Common.{Bool, ◌∙◌, sym, subst}
use Rattle.txs_machine_actor.specs.Turns.{CanEndBy, EndsBy}
use Rattle.txs_machine_turn.proofs.pace.leave_at_end.Goals as goal

pub end_valid-requires-clause-can : goal.end_valid-requires-clause-can
end_valid-requires-clause-can c = subst (λ (b : Bool). CanEndBy c.args.code.now c.args.actor.now b) (sym c.has_validator.ensures ∙ c.if-has_validator.true) c.requires.can

pub returns-then-has_validator : goal.returns-then-has_validator
returns-then-has_validator c = subst (λ (b : Bool). EndsBy c.args.code.now c.args.actor.now b c.args.span c.args.next c.end_valid.new.turn c.end_valid.new.actor) (sym (sym c.has_validator.ensures ∙ c.if-has_validator.true)) c.end_valid.ensures

pub end_as-requires-clause-can : goal.end_as-requires-clause-can
end_as-requires-clause-can c = subst (λ (b : Bool). CanEndBy c.args.code.now c.args.actor.now b) (sym c.has_validator.ensures ∙ c.if-has_validator.false) c.requires.can

pub returns : goal.returns
returns c = subst (λ (b : Bool). EndsBy c.args.code.now c.args.actor.now b c.args.span c.args.next c.end_as.new.turn c.end_as.new.actor) (sym (sym c.has_validator.ensures ∙ c.if-has_validator.false)) c.end_as.ensures
