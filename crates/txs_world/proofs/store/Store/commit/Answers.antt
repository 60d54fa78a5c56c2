use Rattle.std.proofs.Common.{◌≡◌, sym, subst, true}
use Rattle.txs_world_book.specs.Book.{cells_in, has_refs, are_sends}
use Rattle.txs_world.specs.declared.commit.End.TheVariants.{Reruns, Redoes, Refuses, Commits}
use Rattle.txs_world.proofs.Answering.{ended_as, ended_by_actor, refused_by_thread, commit_ends}
use Rattle.txs_world.proofs.Merging.{refs_has}
use Rattle.txs_world.proofs.Serves.{lawful_commit}
use Rattle.txs_world.proofs.Zipping.{ascend_refs}
use Rattle.txs_world.proofs.store.Store.commit.Goals as goal

pub test-end-requires : goal.test-end-requires
test-end-requires c =
    let s = c.args.self.now in
    let l = lawful_commit s c.args.actor c.args.at c.args.view c.args.sets c.args.commuted.now c.args.ensured.now c.args.sends c.requires in
    record {
      sets = subst (λ ws. has_refs s.cells (cells_in ws) ≡ true) (sym c.as_slice.ensures) (refs_has s.cells 0 (cells_in c.args.sets) l.refs_set);
      ensured = l.refs_ensured;
      commuted = refs_has s.cells 0 (cells_in c.args.commuted.now) l.refs_commuted;
      sends = subst (λ xs. are_sends s.cells xs ≡ true) (sym c.as_slice-2.ensures) l.to_agents;
    }

pub rerun-requires-clause-actor : goal.rerun-requires-clause-actor
rerun-requires-clause-actor c = ended_by_actor c.args.self.now c.args.actor c.args.at c.args.view c.args.sets c.args.commuted.now c.args.ensured.now c.args.sends c.requires

pub tell-requires-clause-made : goal.tell-requires-clause-made
tell-requires-clause-made c = ended_by_actor c.args.self.now c.args.actor c.args.at c.args.view c.args.sets c.args.commuted.now c.args.ensured.now c.args.sends c.requires

pub tell-requires-in-Refuses-clause-made : goal.tell-requires-in-Refuses-clause-made
tell-requires-in-Refuses-clause-made c = refused_by_thread c.args.self.now c.args.actor c.args.at c.args.view c.args.sets c.args.commuted.now c.args.ensured.now c.args.sends c.as_slice-2.result.now c.in-Refuses.agent c.requires c.as_slice-2.ensures c.in-Refuses.ensures.2

pub done-requires-clause-made : goal.done-requires-clause-made
done-requires-clause-made c = (lawful_commit c.args.self.now c.args.actor c.args.at c.args.view c.args.sets c.args.commuted.now c.args.ensured.now c.args.sends c.requires).maker

pub rerun-requires-clause-legal : goal.rerun-requires-clause-legal
rerun-requires-clause-legal c = ended_as c.args.self.now c.args.actor c.args.at c.args.view c.args.sets c.as_slice.result.now c.args.commuted.now c.args.ensured.now c.args.sends c.as_slice-2.result.now (Reruns c.in-Reruns.cell) c.requires c.as_slice.ensures c.as_slice-2.ensures c.in-Reruns.ensures

pub tell-requires-clause-legal : goal.tell-requires-clause-legal
tell-requires-clause-legal c = ended_as c.args.self.now c.args.actor c.args.at c.args.view c.args.sets c.as_slice.result.now c.args.commuted.now c.args.ensured.now c.args.sends c.as_slice-2.result.now (Redoes c.in-Redoes.cell) c.requires c.as_slice.ensures c.as_slice-2.ensures c.in-Redoes.ensures

pub tell-requires-in-Refuses-clause-legal : goal.tell-requires-in-Refuses-clause-legal
tell-requires-in-Refuses-clause-legal c = ended_as c.args.self.now c.args.actor c.args.at c.args.view c.args.sets c.as_slice.result.now c.args.commuted.now c.args.ensured.now c.args.sends c.as_slice-2.result.now (Refuses c.in-Refuses.agent) c.requires c.as_slice.ensures c.as_slice-2.ensures c.in-Refuses.ensures

pub done-requires-clause-legal : goal.done-requires-clause-legal
done-requires-clause-legal c = (ended_as c.args.self.now c.args.actor c.args.at c.args.view c.args.sets c.as_slice.result.now c.args.commuted.now c.args.ensured.now c.args.sends c.as_slice-2.result.now Commits c.requires c.as_slice.ensures c.as_slice-2.ensures c.in-Commits.ensures).0

pub done-requires-clause-ascend : goal.done-requires-clause-ascend
done-requires-clause-ascend c =
    let s = c.args.self.now in
    ascend_refs s.cells 0 c.args.commuted.now (lawful_commit s c.args.actor c.args.at c.args.view c.args.sets c.args.commuted.now c.args.ensured.now c.args.sends c.requires).refs_commuted

pub done-requires-clause-apart : goal.done-requires-clause-apart
done-requires-clause-apart c = (lawful_commit c.args.self.now c.args.actor c.args.at c.args.view c.args.sets c.args.commuted.now c.args.ensured.now c.args.sends c.requires).apart

pub done-requires-clause-guarded : goal.done-requires-clause-guarded
done-requires-clause-guarded c = (ended_as c.args.self.now c.args.actor c.args.at c.args.view c.args.sets c.as_slice.result.now c.args.commuted.now c.args.ensured.now c.args.sends c.as_slice-2.result.now Commits c.requires c.as_slice.ensures c.as_slice-2.ensures c.in-Commits.ensures).1

pub returns-in-Reruns : goal.returns-in-Reruns
returns-in-Reruns c = commit_ends c.args.self.now c.rerun.new.self c.rerun.result c.args.actor c.args.at c.args.view c.args.sets c.as_slice.result.now c.args.commuted.now c.args.ensured.now c.args.sends c.as_slice-2.result.now (Reruns c.in-Reruns.cell) c.as_slice.ensures c.as_slice-2.ensures c.in-Reruns.ensures c.rerun.ensures

pub returns-in-Redoes : goal.returns-in-Redoes
returns-in-Redoes c = commit_ends c.args.self.now c.tell.new.self c.tell.result c.args.actor c.args.at c.args.view c.args.sets c.as_slice.result.now c.args.commuted.now c.args.ensured.now c.args.sends c.as_slice-2.result.now (Redoes c.in-Redoes.cell) c.as_slice.ensures c.as_slice-2.ensures c.in-Redoes.ensures c.tell.ensures

pub returns-in-Refuses : goal.returns-in-Refuses
returns-in-Refuses c = commit_ends c.args.self.now c.tell-in-Refuses.new.self c.tell-in-Refuses.result c.args.actor c.args.at c.args.view c.args.sets c.as_slice.result.now c.args.commuted.now c.args.ensured.now c.args.sends c.as_slice-2.result.now (Refuses c.in-Refuses.agent) c.as_slice.ensures c.as_slice-2.ensures c.in-Refuses.ensures c.tell-in-Refuses.ensures

pub returns-in-Commits : goal.returns-in-Commits
returns-in-Commits c = commit_ends c.args.self.now c.done.new.self c.done.result c.args.actor c.args.at c.args.view c.args.sets c.as_slice.result.now c.args.commuted.now c.args.ensured.now c.args.sends c.as_slice-2.result.now Commits c.as_slice.ensures c.as_slice-2.ensures c.in-Commits.ensures c.done.ensures
