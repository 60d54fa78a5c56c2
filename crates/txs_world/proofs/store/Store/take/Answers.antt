use Rattle.std.proofs.Common.{◌≡◌, ◌∙◌, ap, arith, false, get_or, refl, subst, sym, true}
use Rattle.std.specs.Prelude.{is_some}
use Rattle.txs_world_protocol.specs.declared.ask.Ask.TheVariants as ask
use Rattle.txs_world_book.specs.Book.{has_agent}
use Rattle.txs_world.specs.Inboxes.{plain_inboxes, taken_of}
use Rattle.txs_world.specs.Store.{Answers, PlainStore, serve, store_after, store_with}
use Rattle.txs_world.proofs.Answering.{hands, hands_not, idles, none_of}
use Rattle.txs_world.proofs.Kept.{agent_in, same_stands, taken_on}
use Rattle.txs_world.proofs.Mailing.{many_inboxes, taken_at}
use Rattle.txs_world.proofs.Storing.{handed, next_of, unstored}
use Rattle.txs_world.proofs.store.Store.take.Goals.{in-Ok-take_at, in-Err-take_at}
use Rattle.txs_world.proofs.store.Store.take.Goals as goal

pub returns-in-Err : goal.returns-in-Err
returns-in-Err c = hands_not c.args.self.now c.args.self.now c.args.actor c.args.agent (sym c.has_next.ensures ∙ c.if-not-has_next.false) refl

pub take_at-requires-clause-place : goal.take_at-requires-clause-place
take_at-requires-clause-place c =
    let x = c.self.inside in
    let in_cells = agent_in x.cells c.args.agent (subst (λ (s : PlainStore). has_agent s.cells c.args.agent ≡ true) (sym c.self.view_is) c.requires.agent) in
    let many = many_inboxes x.cells x.threads x.slots.items x.inboxes.items x.journal.views.items x.journal.tries.items x.journal.book.items c.self.invariant in
    omega (arith, in_cells, many)

pub take_at-requires-clause-free : goal.take_at-requires-clause-free
take_at-requires-clause-free c =
    let n = c.args.agent.number in
    sym (taken_at (plain_inboxes c.self.inside.inboxes.items) n) ∙ ap (λ (s : PlainStore). get_or s.taken n false) c.self.view_is ∙ c.requires.free

pub take_at-requires-clause-some : goal.take_at-requires-clause-some
take_at-requires-clause-some c =
    let x = c.self.inside in
    ap is_some (next_of c.args.self.now x.cells x.threads x.slots.items x.inboxes.items x.journal.views.items x.journal.tries.items x.journal.book.items c.args.agent c.self.view_is c.self.invariant c.requires.agent) ∙ (sym c.has_next.ensures ∙ c.if-not-has_next.false)

pub invariant_of-self : goal.invariant_of-self
invariant_of-self c =
    let x = c.self.inside in
    let bs = plain_inboxes x.inboxes.items in
    let now = plain_inboxes c.take_at.new.inboxes.items in
    let views = x.journal.views.items in
    let tries = x.journal.tries.items in
    let book = x.journal.book.items in
    elim c.match-take_at.branch [
      | in-Ok-take_at w ↦ taken_on x.cells x.threads x.slots.items bs now views tries book c.args.agent c.self.invariant w.in-Ok-take_at.ensures.taken
      | in-Err-take_at w ↦ same_stands x.cells x.threads x.slots.items bs now views tries views tries book book w.in-Err-take_at.ensures.same (λ a. refl) (λ a. refl) refl c.self.invariant
    ]

pub returns : goal.returns
returns c =
    let a = c.args.actor in
    let x = c.self.inside in
    let s = c.args.self.now in
    let g = c.args.agent in
    let n = c.next_number-number.result in
    let bs = plain_inboxes x.inboxes.items in
    let now = plain_inboxes c.take_at.new.inboxes.items in
    let book = x.journal.book.items in
    let t = store_with x.cells x.threads book (taken_of now) in
    let is = next_of s x.cells x.threads x.slots.items x.inboxes.items x.journal.views.items x.journal.tries.items book g c.self.view_is c.self.invariant c.requires.agent in
    elim c.match-take_at.branch [
      | in-Ok-take_at w ↦ subst (λ p. Answers s (serve s.cells a (ask.Take g) s.book) (store_after s (ask.Take g) (serve s.cells a (ask.Take g) s.book)) p t) (sym w.result-is)
          (hands s t a g w.in-Ok-take_at.action n c.in-Ok.state (sym is ∙ w.in-Ok-take_at.ensures.action) c.next_number-number.ensures c.in-Ok.ensures
          (handed s x.cells x.threads book bs now g c.self.view_is w.in-Ok-take_at.ensures.taken (ap is_some w.in-Ok-take_at.ensures.action)))
      | in-Err-take_at w ↦ subst (λ p. Answers s (serve s.cells a (ask.Take g) s.book) (store_after s (ask.Take g) (serve s.cells a (ask.Take g) s.book)) p t) (sym w.result-is)
          (hands_not s t a g (sym c.has_next.ensures ∙ c.if-not-has_next.false) (unstored s x.cells x.threads book book bs now c.self.view_is refl w.in-Err-take_at.ensures.same))
    ]

pub returns-then-not-has_next : goal.returns-then-not-has_next
returns-then-not-has_next c = idles c.args.self.now c.args.actor c.args.agent (none_of _ (sym c.has_next.ensures ∙ c.if-not-has_next.true))
