-- What an agent's validator says of a new state.
use Rattle.std.proofs.Common.{◌≡◌, ℕ, zero, suc, true, false, List, [], ◌∷◌, Option, Some, None, Result, Ok, Err, IfOk, refl, sym, ap, ◌∙◌, subst}
use Rattle.std.proofs.lemmas.Bool.{false≢true}
use Rattle.txs_value_data.specs.declared.fault.Fault.{Fault}
use Rattle.txs_value_data.specs.declared.op.Callee.{Callee}
use Rattle.txs_value_data.specs.declared.op.Callee.TheVariants.{Core as CoreOp, Function}
use Rattle.txs_value_apply.specs.Core.{is_false}
use Rattle.txs_value_apply.specs.Truth.{choose}
use Rattle.txs_value_cell.specs.Cells.{validators_of, validator_at}
use Rattle.txs_value_cell.specs.declared.cell.CellDefinition.{CellDefinition}
use Rattle.txs_value_data.specs.declared.value.Value.{Value}
use Rattle.txs_value_data.specs.declared.value.Value.TheVariants.{Nil, Truth, Int, Key, Text, Vector, Cell}
use Rattle.txs_tree_meaning.specs.Known.{Known}
use Rattle.txs_tree_meaning.specs.Pure.{PureCallee}
use Rattle.txs_tree_meaning.specs.Sound.{SoundCallee, SoundCells, SoundValidator}
use Rattle.txs_tree_eval.specs.declared.pure_call.EvalStop.{EvalStop}
use Rattle.txs_tree_eval.specs.declared.pure_call.EvalStop.TheVariants.{Memory}
use Rattle.txs_value_cell.specs.declared.action.Action.{Action}
use Rattle.txs_tree_eval.specs.declared.action.ActionMeaning.{ActionMeaning}
use Rattle.txs_tree_eval.specs.declared.meaning.Needs.{Needs}
use Rattle.txs_tree_eval.specs.declared.meaning.Needs.TheVariants as needs
use Rattle.txs_tree_meaning.specs.Tree.{PlainProgram}
use Rattle.txs_theorem_audit.specs.Evaluated as evaluated
use Rattle.txs_audit_book.specs.Judged.{AcceptedBy, EndsBy, ValueEnds, is_no_memory}

-- of a value that is logically false the second is chosen
pub refuses : {A : Type 0} (v : Value) (a b : A) → is_false v ≡ true → choose v a b ≡ b
refuses Nil a b h = refl
refuses (Truth false) a b h = refl
refuses (Truth true) a b h = absurd cc
refuses (Int z) a b h = absurd cc
refuses (Key bs) a b h = absurd cc
refuses (Text bs) a b h = absurd cc
refuses (Vector vs) a b h = absurd cc
refuses (Cell c) a b h = absurd cc

-- of any other the first
pub accepts : {A : Type 0} (v : Value) (a b : A) → is_false v ≡ false → choose v a b ≡ a
accepts Nil a b h = absurd cc
accepts (Truth false) a b h = absurd cc
accepts (Truth true) a b h = refl
accepts (Int z) a b h = refl
accepts (Key bs) a b h = refl
accepts (Text bs) a b h = refl
accepts (Vector vs) a b h = refl
accepts (Cell c) a b h = refl

-- a callee that a form may take is pure
pub pure_callee : (ks : List Known) (c : Callee) (n : ℕ) → SoundCallee ks c n → PureCallee ks c n
pure_callee ks (CoreOp op) n h = h.0
pure_callee ks (Function f) n h = h

-- so is the validator of a cell
pub pure_validator : (ks : List Known) (ds : List CellDefinition) (k : ℕ) (c : Callee) → SoundCells ks ds → Some c ≡ validator_at (validators_of ds) k → PureCallee ks c 1
pure_validator ks [] k c h e = absurd cc
pure_validator ks (d ∷ ds) zero c h e = pure_callee ks c 1 (subst (SoundValidator ks) (sym e) h.0)
pure_validator ks (d ∷ ds) (suc k) c h e = pure_validator ks ds k c h.1 e

-- where an answer isn't out of memory there was memory
pub had_memory : (q : Result Value EvalStop) → is_no_memory q ≡ false → q ≡ Err Memory → ⊥
had_memory q h e = false≢true (sym (subst (λ r. is_no_memory r ≡ false) e h))

-- ---- how an action ends

-- a property of what is answered, by another one
pub so : {A E : Type 0} {P Q : A → Type 0} (r : Result A E) → IfOk r P → ((x : A) → P x → Q x) → IfOk r Q
so (Ok x) h f = f x h
so (Err e) h f = tt

-- by what is answered of the validator on its value
pub value_ends : (p : PlainProgram) (n : ℕ) (x : Action) (v w : Value) (s : Result Value EvalStop) → w ≡ v → AcceptedBy p n (validator_at (validators_of p.cells) x.agent.number) x.span w s
    → (end : evaluated.ActionEnd) → end ≡ evaluated.end_of_state s → ValueEnds p n x v end
value_ends p n x v w s same accepted end is =
    let a = subst (λ y. AcceptedBy p n (validator_at (validators_of p.cells) x.agent.number) x.span y s) same accepted in
    (a.0, is ∙ ap evaluated.end_of_state a.1, a.2)

abbrev value_or : Value → Option (Result Value Fault) → Value
value_or d None = d
value_or d (Some (Ok y)) = y
value_or d (Some (Err f)) = d

no_value : (o : Option (Result Value Fault)) (w : Value) → o ≡ None → o ≡ Some (Ok w) → ⊥
no_value o w p q = cc

no_such_value : (o : Option (Result Value Fault)) (f : Fault) (w : Value) → o ≡ Some (Err f) → o ≡ Some (Ok w) → ⊥
no_such_value o f w p q = cc

-- of any other the validator isn't asked
module _ (p : PlainProgram) (n : ℕ) (x : Action) (m : ActionMeaning) (end : evaluated.ActionEnd) where
  abbrev ended : Needs → Option (Result Value Fault) → evaluated.ActionEnd
  ended lack result = evaluated.end_of_action lack result (λ w. evaluated.accepted_by (validator_at (validators_of p.cells) x.agent.number) x.span w (Err Memory))

  pub ends_by_fault : (f : Fault) → m.needs ≡ needs.Nothing → m.result ≡ Some (Err f) → end ≡ evaluated.HandedIn (Err f) → EndsBy p n x m end
  ends_by_fault f lack result is = (
    Err Memory,
    is ∙ sym (ap (λ l. ended l m.result) lack ∙ ap (ended needs.Nothing) result),
    λ w less there. absurd (no_such_value m.result f w result there),
  )

  pub ends_by_none : m.needs ≡ needs.Nothing → m.result ≡ None → end ≡ evaluated.Disallows → EndsBy p n x m end
  ends_by_none lack result is = (
    Err Memory,
    is ∙ sym (ap (λ l. ended l m.result) lack ∙ ap (ended needs.Nothing) result),
    λ w less there. absurd (no_value m.result w result there),
  )

  pub ends_by_event : m.needs ≡ needs.Event → end ≡ evaluated.LacksEvent → EndsBy p n x m end
  ends_by_event lack is = (Err Memory, is ∙ sym (ap (λ l. ended l m.result) lack), λ w less there. absurd (other (sym lack ∙ less)))
    where
      other : needs.Event ≡ needs.Nothing → ⊥
      other e = cc

  pub ends_by_turns : m.needs ≡ needs.Turns → end ≡ evaluated.LacksTurns → EndsBy p n x m end
  ends_by_turns lack is = (Err Memory, is ∙ sym (ap (λ l. ended l m.result) lack), λ w less there. absurd (other (sym lack ∙ less)))
    where
      other : needs.Turns ≡ needs.Nothing → ⊥
      other e = cc

  pub ends_by_wrong : m.needs ≡ needs.Wrong → end ≡ evaluated.Disallows → EndsBy p n x m end
  ends_by_wrong lack is = (Err Memory, is ∙ sym (ap (λ l. ended l m.result) lack), λ w less there. absurd (other (sym lack ∙ less)))
    where
      other : needs.Wrong ≡ needs.Nothing → ⊥
      other e = cc
