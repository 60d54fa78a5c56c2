-- An action that may be sent has a sound callee, and is as sound as a source without a body.
use Rattle.std.proofs.Common.{◌≡◌, ℕ, Bool, true, false, ◌==◌, List, Option, Some, None, refl}
use Rattle.std.specs.Prelude.{nat_le, not}
use Rattle.std.proofs.lemmas.Bool.{eqb-true, false≢true, leb-true}
use Rattle.txs_value_apply.specs.Core.{takes}
use Rattle.txs_value_data.specs.Places.{nth}
use Rattle.txs_value_data.specs.declared.op.Callee.{Callee}
use Rattle.txs_value_data.specs.declared.op.Callee.TheVariants.{Core as CoreOp, Function}
use Rattle.txs_value_cell.specs.declared.action.Action.{Action}
use Rattle.txs_value_data.specs.Limits.{most_items}
use Rattle.txs_value_data.specs.declared.value.Value.TheVariants.{Nil}
use Rattle.txs_tree_meaning.proofs.Callable.{both}
use Rattle.txs_tree_meaning.specs.Known.{Known}
use Rattle.txs_tree_meaning.specs.Sound.{Sound, SentCall, SoundSent, SoundSource}
use Rattle.txs_tree_meaning.specs.Tree.{Const, PlainProgram, ThreadSource}
use Rattle.txs_theorem_audit.specs.Verdict.{is_sent_call, is_sent_known}

isn't : (b : Bool) → not b ≡ true → b ≡ false
isn't true e = absurd (false≢true e)
isn't false e = refl

pub sent_of : (ks : List Known) (c : Callee) (n : ℕ) → is_sent_call ks c n ≡ true → SoundSent ks c n
sent_of ks (CoreOp op) n h = let x = both (takes op n) (nat_le n most_items) h in (x.0, leb-true n most_items x.1)
sent_of ks (Function f) n h = go (nth ks f) refl h
  where
    go : (o : Option Known) → nth ks f ≡ o → is_sent_known o n ≡ true → SentCall ks f n
    go None e g = absurd (false≢true g)
    go (Some k) e g = let x = both (k.parameters == n) (not k.inside) g in record { function = k; found = e; arity = eqb-true k.parameters n x.0; zoned = isn't k.inside x.1 }

-- an action as a source that has no body
abbrev pub source : PlainProgram → Action → ThreadSource
source p x = record { functions = p.functions; cells = p.cells; main = Const Nil (record { span = x.span; wanted = false }) }

pub source_sound : (p : PlainProgram) → Sound p → (x : Action) → SoundSource (source p x)
source_sound p sound x = record { functions = sound.functions; cells = sound.cells; main = tt }
