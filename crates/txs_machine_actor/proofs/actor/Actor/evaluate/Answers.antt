use Rattle.std.proofs.Common.{◌≡◌, ℕ, sym, subst}
use Rattle.txs_code_meaning.specs.PlainCode.{PlainCode}
use Rattle.txs_machine_stack.specs.PlainFrame.{PlainStack}
use Rattle.txs_machine_actor.specs.PlainActor.{PlainActor}
use Rattle.txs_machine_actor.specs.Turns.{IsEvaluation, Evaluates, applied_on, puts_aside}
use Rattle.txs_machine_actor.specs.declared.outcome.Turn.{Turn}
use Rattle.txs_machine_actor.specs.declared.outcome.Turn.TheVariants as turned
use Rattle.txs_machine_actor.proofs.actor.Actor.evaluate.Goals as goal

-- the function of a task has begun
has_begun : (d : PlainCode) (a : PlainActor) (f : ℕ) (t : Turn) (s : PlainStack) (b : PlainActor) → t ≡ turned.Went → IsEvaluation d f (applied_on a.tx a.done) s → b ≡ puts_aside a s a.tx → Evaluates d a f t b
has_begun d a f t s b went is aside = subst (λ (r : Turn). Evaluates d a f r b) (sym went) (s, is, aside)

pub returns : goal.returns
returns c = has_begun c.args.code.now c.args.self.now c.args.f c.args.turn.now c.in-Ok.stack c.put_aside.new.self c.requires.went c.in-Ok.ensures c.put_aside.ensures
