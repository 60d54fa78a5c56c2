use Rattle.std.proofs.Common.{◌≡◌, length, arith, sym, subst}
use Rattle.std.proofs.lemmas.Bool.Decides.{nat_tests}
use Rattle.txs_history.specs.Asked.{History, sum_to}
use Rattle.txs_history_run.specs.Back.{AreBack, asked_at}
use Rattle.txs_history_run.proofs.Back.{atoms_later, back_so}
use Rattle.txs_history_run.proofs.ending.are_back.Goals as goal

pub count_asked-requires-clause-atoms : goal.count_asked-requires-clause-atoms
count_asked-requires-clause-atoms g c = atoms_later (length c.args.atoms.now) c.args.atoms.now c.show_atoms.new.past c.show.new.past c.show.ensures.own c.show_atoms.ensures.atoms

pub returns-clause-back : goal.returns-clause-back
returns-clause-back g c same =
    let code = g.J.Run.code in
    let h = c.show.new.past in
    let atoms = c.args.atoms.now in
    let equal : c.in-Some.asked ≡ c.in-Some-count_actors.made = grind (arith, nat_tests, same) in
    let asked = c.in-Some.ensures in
    subst (λ (k : History). AreBack code g.J.Run.limit k c.args.store.now atoms c.args.actors.now) (sym asked.seen)
    (back_so code g.J.Run.limit c.show_actors.new.past c.show_atoms.new.past h c.args.store.now atoms c.args.actors.now (sum_to (length atoms) (asked_at code.cells h atoms)) c.in-Some.asked c.in-Some-count_actors.made c.show_atoms.ensures.own c.show.ensures.own
    c.show.ensures.within
    c.show_actors.ensures.actors
    asked.store
    asked.atoms
    asked.count
    c.in-Some-count_actors.ensures.follow
    equal)
