use Rattle.std.proofs.Common.{Bool, length, refl, ap, subst, ◌∙◌}
use Rattle.txs_world.specs.Store.{PlainStore}
use Rattle.txs_history.specs.History.{PlainLog}
use Rattle.txs_history.specs.declared.asked.Asked.{Asked}
use Rattle.txs_history.specs.Logged.{PlainLoggedStore, MayNot}
use Rattle.txs_history.proofs.Serving.{store_goes, store_refuses}
use Rattle.txs_history.proofs.store.LoggedStore.serve.Goals as goal

abbrev plain : PlainStore → PlainLog Asked → Bool → PlainLoggedStore
plain x l b = record { store = x; log = l; broken = b }

pub returns-in_err-served-clause-refused : goal.returns-in_err-served-clause-refused
returns-in_err-served-clause-refused g c =
    let r = c.serve_store.ensures.refused c.in_err-served.was in
    λ none works. (
      ap (λ (x : PlainStore). plain x c.self.inside.log c.self.inside.broken) r.0 ∙ c.self.view_is,
      refl,
      subst (λ (p : PlainLoggedStore). MayNot g.J.Run.code.cells (length g.J.Run.code.threads) 0 c.args.actor c.args.ask p.log.log) c.self.view_is
          (store_refuses g.J.Run.code c.self.inside.store c.self.inside.log c.self.inside.broken c.args.actor c.args.ask c.if-self.false c.self.invariant r.1),
    )

pub invariant_of-self-then-note : goal.invariant_of-self-then-note
invariant_of-self-then-note g c =
    (store_goes g.J.Run.code c.self.inside.store c.self.inside.log c.note.new.log c.self.inside.broken c.args.actor c.args.ask c.args.past.now c.note.new.past c.in_ok-served.served
    c.serve_store.new.store (g.M.StandsFor.event c.args.about.now) c.if-self.false c.self.invariant c.in_ok-served.ensures.served c.note.ensures.key (c.if-note.ensures.noted refl) c.requires.about).0

pub returns-then-note-clause-served : goal.returns-then-note-clause-served
returns-then-note-clause-served g c =
    (store_goes g.J.Run.code c.self.inside.store c.self.inside.log c.note.new.log c.self.inside.broken c.args.actor c.args.ask c.args.past.now c.note.new.past c.in_ok-served.served
    c.serve_store.new.store (g.M.StandsFor.event c.args.about.now) c.if-self.false c.self.invariant c.in_ok-served.ensures.served c.note.ensures.key (c.if-note.ensures.noted refl) c.requires.about).1
