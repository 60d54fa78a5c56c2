use Rattle.std.proofs.Common.{◌≡◌, ◌∙◌, Err, None, ap, refl, subst, sym, true}
use Rattle.txs_value_data.specs.Places.{fault_at}
use Rattle.txs_value_data.specs.declared.fault.FaultKind.TheVariants.{AgentFailed}
use Rattle.txs_world_book.specs.Book.{are_sends, first_failed, may_send}
use Rattle.txs_world.proofs.Answering.{finishes_failed, finishes_so}
use Rattle.txs_world.proofs.store.Store.finish.Goals as goal

pub first_failed-requires : goal.first_failed-requires
first_failed-requires c = let s = c.args.self.now in subst (λ l. are_sends s.cells l ≡ true) (sym c.as_slice.ensures) c.requires.to_agents

pub end_action-requires-clause-run : goal.end_action-requires-clause-run
end_action-requires-clause-run c = let s = c.args.self.now in ap (first_failed s.cells s.book) (sym c.as_slice.ensures) ∙ sym c.in-None.ensures

pub returns-in-None : goal.returns-in-None
returns-in-None c =
    let s = c.args.self.now in
    finishes_so s c.end_action.new.self c.args.actor c.args.agent c.args.new c.args.sends c.end_action.result (ap (first_failed s.cells s.book) (sym c.as_slice.ensures) ∙ sym c.in-None.ensures) c.end_action.ensures

pub end_action-requires-in-Some-clause-held : goal.end_action-requires-in-Some-clause-held
end_action-requires-in-Some-clause-held c = subst (λ l. may_send (Err (fault_at AgentFailed c.first_span-span.result)) l ≡ true) (sym (c.from_vec-nothing.ensures ∙ c.new.ensures.items)) refl

pub end_action-requires-in-Some-clause-to_agents : goal.end_action-requires-in-Some-clause-to_agents
end_action-requires-in-Some-clause-to_agents c = let s = c.args.self.now in subst (λ l. are_sends s.cells l ≡ true) (sym (c.from_vec-nothing.ensures ∙ c.new.ensures.items)) refl

pub end_action-requires-in-Some-clause-run : goal.end_action-requires-in-Some-clause-run
end_action-requires-in-Some-clause-run c = let s = c.args.self.now in subst (λ l. first_failed s.cells s.book l ≡ None) (sym (c.from_vec-nothing.ensures ∙ c.new.ensures.items)) refl

pub returns-in-Some : goal.returns-in-Some
returns-in-Some c =
    let s = c.args.self.now in
    finishes_failed s c.end_action-in-Some.new.self c.args.actor c.args.agent c.in-Some.failed c.args.new c.args.sends c.from_vec-nothing.result c.first_span-span.result c.end_action-in-Some.result
    (ap (first_failed s.cells s.book) (sym c.as_slice.ensures) ∙ sym c.in-Some.ensures) c.first_span-span.ensures (c.from_vec-nothing.ensures ∙ c.new.ensures.items) c.end_action-in-Some.ensures
