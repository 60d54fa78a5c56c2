use Rattle.std.proofs.Common.{◌≡◌, ℕ, Bool, List, Result, ap, false, length, map, not, refl, subst, sym, true}
use Rattle.txs_world_protocol.specs.declared.ask.Ask.{Ask}
use Rattle.txs_world_protocol.specs.declared.ask.Ask.TheVariants as ask
use Rattle.txs_world_protocol.specs.declared.ask.Reply.{Reply}
use Rattle.txs_world_protocol.specs.declared.ask.Reply.TheVariants as reply
use Rattle.txs_value_data.specs.declared.fault.Fault.{Fault}
use Rattle.txs_value_cell.specs.declared.action.Action.{Action}
use Rattle.txs_value_data.specs.declared.value.CellId.{CellId}
use Rattle.txs_value_data.specs.declared.value.Value.{Value}
use Rattle.txs_world_book.specs.Book.{has_agent, has_ref, may_name, opening, newest, has_refs}
use Rattle.txs_world.specs.Store.{PlainStore, has_named, is_lawful, is_taken, may_ask, serve, store_after, Answers, Replies}
use Rattle.txs_world_book.specs.Served.{served}
use Rattle.txs_world_book.proofs.Outcomes.{both}
use Rattle.txs_world.proofs.Serves.{lawful, LawfulEnd, lawful_end}
use Rattle.txs_world.proofs.store.Store.serve.Goals as goal

-- what an ask is that may be asked
asked : (s : PlainStore) (a : ℕ) (q r : Ask) → is_lawful s a q ≡ true → q ≡ r → (may_ask s.cells s.threads a r ≡ true) × (has_named s a r ≡ true)
asked s a q r h e = lawful s a r (subst (λ x. is_lawful s a x ≡ true) e h)

-- it is answered as what it is
by_kind : (s t : PlainStore) (a : ℕ) (q r : Ask) (p : Reply) → q ≡ r → Answers s (serve s.cells a r s.book) (store_after s r (serve s.cells a r s.book)) p t → Answers s (serve s.cells a q s.book) (store_after s q (serve s.cells a q s.book)) p t
by_kind s t a q r p e h = subst (λ x. Answers s (serve s.cells a x s.book) (store_after s x (serve s.cells a x s.book)) p t) (sym e) h

-- what the end of an action is that may be asked
ends : (s : PlainStore) (a : ℕ) (q : Ask) (g : CellId) (new : Result Value Fault) (sends : List Action) → is_lawful s a q ≡ true → q ≡ ask.Finish g new sends → LawfulEnd s g new sends
ends s a q g new sends h e = lawful_end s a g new sends (asked s a q (ask.Finish g new sends) h e).1

not_so : (b : Bool) → not b ≡ true → b ≡ false
not_so true e = sym e
not_so false e = refl

pub returns-in-View : goal.returns-in-View
returns-in-View c =
    let s = c.args.self.now in
    let a = c.args.actor in
    subst (λ q. Answers s (serve s.cells a q s.book) (store_after s q (serve s.cells a q s.book)) c.view.result s) (sym c.in-View.is)
    (subst (λ l. Replies s (served (reply.Views (length s.book) (map (λ d. newest (opening s.cells) s.book d.number) l)) s.book) c.view.result s) c.as_slice.ensures c.view.ensures)

pub look-requires-clause-actor : goal.look-requires-clause-actor
look-requires-clause-actor c = (asked c.args.self.now c.args.actor c.args.ask (ask.Look c.in-Look.cell c.in-Look.at) c.requires c.in-Look.is).0

pub look-requires-clause-cell : goal.look-requires-clause-cell
look-requires-clause-cell c = let s = c.args.self.now in (both (has_ref s.cells c.in-Look.cell) (may_name false s.book c.args.actor c.in-Look.at) (asked c.args.self.now c.args.actor c.args.ask (ask.Look c.in-Look.cell c.in-Look.at) c.requires c.in-Look.is).1).0

pub look-requires-clause-place : goal.look-requires-clause-place
look-requires-clause-place c = let s = c.args.self.now in (both (has_ref s.cells c.in-Look.cell) (may_name false s.book c.args.actor c.in-Look.at) (asked c.args.self.now c.args.actor c.args.ask (ask.Look c.in-Look.cell c.in-Look.at) c.requires c.in-Look.is).1).1

pub fail-requires-clause-actor : goal.fail-requires-clause-actor
fail-requires-clause-actor c = (asked c.args.self.now c.args.actor c.args.ask (ask.Fail c.in-Fail.at c.in-Fail.view) c.requires c.in-Fail.is).0

pub fail-requires-clause-ends : goal.fail-requires-clause-ends
fail-requires-clause-ends c = (asked c.args.self.now c.args.actor c.args.ask (ask.Fail c.in-Fail.at c.in-Fail.view) c.requires c.in-Fail.is).1

pub peek-requires-clause-actor : goal.peek-requires-clause-actor
peek-requires-clause-actor c = (asked c.args.self.now c.args.actor c.args.ask (ask.Peek c.in-Peek.cell) c.requires c.in-Peek.is).0

pub peek-requires-clause-cell : goal.peek-requires-clause-cell
peek-requires-clause-cell c = (asked c.args.self.now c.args.actor c.args.ask (ask.Peek c.in-Peek.cell) c.requires c.in-Peek.is).1

pub send-requires-clause-thread : goal.send-requires-clause-thread
send-requires-clause-thread c = (asked c.args.self.now c.args.actor c.args.ask (ask.Send c.in-Send.action) c.requires c.in-Send.is).0

pub send-requires-clause-agent : goal.send-requires-clause-agent
send-requires-clause-agent c = (asked c.args.self.now c.args.actor c.args.ask (ask.Send c.in-Send.action) c.requires c.in-Send.is).1

pub take-requires-clause-agent : goal.take-requires-clause-agent
take-requires-clause-agent c = let s = c.args.self.now in (both (has_agent s.cells c.in-Take.agent) (not (is_taken s.taken c.in-Take.agent)) (asked c.args.self.now c.args.actor c.args.ask (ask.Take c.in-Take.agent) c.requires c.in-Take.is).1).0

pub take-requires-clause-free : goal.take-requires-clause-free
take-requires-clause-free c = let s = c.args.self.now in not_so (is_taken s.taken c.in-Take.agent) (both (has_agent s.cells c.in-Take.agent) (not (is_taken s.taken c.in-Take.agent)) (asked c.args.self.now c.args.actor c.args.ask (ask.Take c.in-Take.agent) c.requires c.in-Take.is).1).1

pub finish-requires-clause-own : goal.finish-requires-clause-own
finish-requires-clause-own c = (asked c.args.self.now c.args.actor c.args.ask (ask.Finish c.in-Finish.agent c.in-Finish.new c.in-Finish.sends) c.requires c.in-Finish.is).0

pub finish-requires-clause-agent : goal.finish-requires-clause-agent
finish-requires-clause-agent c = (ends c.args.self.now c.args.actor c.args.ask c.in-Finish.agent c.in-Finish.new c.in-Finish.sends c.requires c.in-Finish.is).agent

pub finish-requires-clause-taken : goal.finish-requires-clause-taken
finish-requires-clause-taken c = (ends c.args.self.now c.args.actor c.args.ask c.in-Finish.agent c.in-Finish.new c.in-Finish.sends c.requires c.in-Finish.is).taken

pub finish-requires-clause-held : goal.finish-requires-clause-held
finish-requires-clause-held c = (ends c.args.self.now c.args.actor c.args.ask c.in-Finish.agent c.in-Finish.new c.in-Finish.sends c.requires c.in-Finish.is).held

pub finish-requires-clause-to_agents : goal.finish-requires-clause-to_agents
finish-requires-clause-to_agents c = (ends c.args.self.now c.args.actor c.args.ask c.in-Finish.agent c.in-Finish.new c.in-Finish.sends c.requires c.in-Finish.is).to_agents

pub returns-in-Look : goal.returns-in-Look
returns-in-Look c = by_kind c.args.self.now c.look.new.self c.args.actor c.args.ask (ask.Look c.in-Look.cell c.in-Look.at) c.look.result c.in-Look.is c.look.ensures

pub returns-in-Fail : goal.returns-in-Fail
returns-in-Fail c = by_kind c.args.self.now c.fail.new.self c.args.actor c.args.ask (ask.Fail c.in-Fail.at c.in-Fail.view) c.fail.result c.in-Fail.is c.fail.ensures

pub returns-in-Peek : goal.returns-in-Peek
returns-in-Peek c = by_kind c.args.self.now c.peek.new.self c.args.actor c.args.ask (ask.Peek c.in-Peek.cell) c.peek.result c.in-Peek.is c.peek.ensures

pub returns-in-Send : goal.returns-in-Send
returns-in-Send c = by_kind c.args.self.now c.send.new.self c.args.actor c.args.ask (ask.Send c.in-Send.action) c.send.result c.in-Send.is c.send.ensures

pub returns-in-Take : goal.returns-in-Take
returns-in-Take c = by_kind c.args.self.now c.take.new.self c.args.actor c.args.ask (ask.Take c.in-Take.agent) c.take.result c.in-Take.is c.take.ensures

pub returns-in-Finish : goal.returns-in-Finish
returns-in-Finish c = by_kind c.args.self.now c.finish.new.self c.args.actor c.args.ask (ask.Finish c.in-Finish.agent c.in-Finish.new c.in-Finish.sends) c.finish.result c.in-Finish.is c.finish.ensures

pub returns-in-Begin : goal.returns-in-Begin
returns-in-Begin c = by_kind c.args.self.now c.args.self.now c.args.actor c.args.ask ask.Begin (reply.At c.read_point.result) c.in-Begin.is (ap reply.At c.read_point.ensures, refl)

pub view-requires : goal.view-requires
view-requires c =
    let s = c.args.self.now in
    subst (λ l. has_refs s.cells l ≡ true) (sym c.as_slice.ensures) (asked s c.args.actor c.args.ask (ask.View c.in-View.cells) c.requires c.in-View.is).1

pub commit-requires : goal.commit-requires
commit-requires c =
    let s = c.args.self.now in
    let a = c.args.actor in
    let d = c.in-Commit in
    subst (λ l. is_lawful s a (ask.Commit d.at d.sets l d.view c.as_slice-in-Commit-2.result.now d.sends) ≡ true) (sym c.as_slice-in-Commit.ensures)
    (subst (λ l. is_lawful s a (ask.Commit d.at d.sets d.ensured d.view l d.sends) ≡ true) (sym c.as_slice-in-Commit-2.ensures) (subst (λ q. is_lawful s a q ≡ true) d.is c.requires))

pub returns-in-Commit : goal.returns-in-Commit
returns-in-Commit c =
    let s = c.args.self.now in
    let a = c.args.actor in
    let d = c.in-Commit in
    let r = c.commit.result in
    let t = c.commit.new.self in
    by_kind s t a c.args.ask (ask.Commit d.at d.sets d.ensured d.view d.commuted d.sends) r d.is
    (subst (λ l. Replies s (serve s.cells a (ask.Commit d.at d.sets l d.view d.commuted d.sends) s.book) r t) c.as_slice-in-Commit.ensures
    (subst (λ l. Replies s (serve s.cells a (ask.Commit d.at d.sets c.as_slice-in-Commit.result.now d.view l d.sends) s.book) r t) c.as_slice-in-Commit-2.ensures c.commit.ensures))
