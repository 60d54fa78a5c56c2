-- What an actor has done is what the code means.
use Rattle.std.specs.Prelude.{◌≡◌, ℕ, ◌≤◌, Bool, List, Option, Some, None}
use Rattle.txs_world_protocol.specs.Ask.{Exchange}
use Rattle.txs_world_protocol.specs.declared.ask.Ask.{Ask}
use Rattle.txs_world_protocol.specs.declared.event.Outcome.{Outcome}
use Rattle.txs_world_protocol.specs.declared.event.Outcome.TheVariants as outcome
use Rattle.txs_world_protocol.specs.SeenEvent.{SeenEvent}
use Rattle.txs_tree_meaning.specs.Thread.{thread_meaning}
use Rattle.txs_tree_meaning.specs.Tree.{ThreadSource}
use Rattle.txs_code_meaning.specs.Machine.{Asking}
use Rattle.txs_code_meaning.specs.Machine as machine
use Rattle.txs_code_meaning.specs.Opening.{target}
use Rattle.txs_code_meaning.specs.PlainCode.{PlainCode}
use Rattle.txs_theorem_threads.specs.Follows.{Follows}
use Rattle.txs_theorem_threads.specs.Noted.{AreNoted, txs_of}
use Rattle.txs_theorem_threads.specs.RepliesFit.{Out, RepliesFit, Explained}
use Rattle.txs_machine_actor.specs.PlainActor.{PlainActor, HasRun, unanswered, code_of, state_of, standing}

-- what the machine's meaning needs of an actor
abbrev pub told : PlainActor → Option Outcome → Option Ask → machine.Outcome
told a (Some o) q = standing (Some o) (state_of a) (state_of a)
told a None None = standing None (state_of a) (state_of a)
told a None (Some q) = Asking (record (state_of a) { wants = Some q })

-- what the machine's meaning needs of an actor as it is
abbrev pub outcome_of_actor : PlainActor → machine.Outcome
outcome_of_actor a = told a a.outcome (unanswered a)

-- A validator's answer, of the machine and of the actor, is the same, unless the actor was stopped. The actor drops the answer when the instruction
-- looks at it, the machine when the instruction is done. No later instruction reads it, and nothing printed, written or asked contains it.
abbrev pub SameAnswer : Option Outcome → Option Bool → Option Bool → Type 0
SameAnswer None x y = x ≡ y
SameAnswer (Some outcome.Done) x y = x ≡ y
SameAnswer (Some (outcome.Failed f)) x y = x ≡ y
SameAnswer (Some outcome.StepsSpent) x y = x ≡ y
SameAnswer (Some outcome.JournalFull) x y = Unit {0}
SameAnswer (Some outcome.Memory) x y = Unit {0}

-- What an actor has come to is what the machine comes to on its exchanges, after some number of instructions that is at most its steps. Where the actor was
-- stopped, this is so but for a validator's answer that the instruction at hand may have looked at.
abbrev pub ActorsFollow : Type 0
ActorsFollow =
    (code : PlainCode) (xs : List Exchange) (a : PlainActor) → HasRun code xs a
    → (m : ℕ) × (m ≤ a.steps) × (answer : Option Bool) × SameAnswer a.outcome answer a.accepted × (target (code_of code a.number) m xs ≡ outcome_of_actor (record a { accepted = answer }))

-- where the code of its thread follows a source, and the exchanges are those of the events, the source explains what the actor has come to, if its loops make at most as many turns,
-- and its transactions are those of the actor's commits
abbrev pub ActorsExplained : Type 0
ActorsExplained =
    (code : PlainCode) (xs : List Exchange) (es : List SeenEvent) (a : PlainActor) (p : ThreadSource) → HasRun code xs a → Follows (code_of code a.number) p → RepliesFit p.cells Out xs es
    → (m : ℕ) × (m ≤ a.steps) × Explained (outcome_of_actor a) (thread_meaning p m es) × AreNoted None xs (txs_of (thread_meaning p m es))
