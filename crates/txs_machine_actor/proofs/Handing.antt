-- What becomes of the value that a function gives whose caller was put aside.
use Rattle.std.proofs.Common.{◌≡◌, ◌<◌, Bool, true, false, List, [], ◌∷◌, length, Option, Some, refl, ap, subst}
use Rattle.txs_code_meaning.specs.ActorState.{InHand}
use Rattle.txs_frame.specs.Phase.{validates_next}
use Rattle.txs_frame.specs.declared.phase.Task.{Task}
use Rattle.txs_frame.specs.declared.phase.Task.TheVariants.{Redoes, Validates}
use Rattle.txs_value_data.specs.declared.value.Value.{Value}
use Rattle.txs_machine_loop.specs.Values.{but_last, put_under}
use Rattle.txs_machine_stack.specs.PlainFrame.{PlainStack}
use Rattle.txs_machine_actor.specs.PlainActor.{PlainActor, values_anew}
use Rattle.txs_machine_actor.specs.Turns.{HasJudged, IsServing, answer_to, handed_back, verdict, with_stack}
use Rattle.txs_machine_transaction.specs.declared.role.Role.{Role}
use Rattle.txs_machine_transaction.specs.declared.role.Role.TheVariants.{Attending, Acting}

-- a validator's value is an answer
pub answer_is : (xs : List Task) (v : Value) (o : Option Bool) → validates_next xs ≡ true → answer_to xs v o ≡ verdict v
answer_is [] v o e = cc
answer_is (Redoes k ∷ xs) v o e = cc
answer_is (Validates c f ∷ xs) v o e = refl

-- a commute's is none
pub no_answer : (xs : List Task) (v : Value) (o : Option Bool) → validates_next xs ≡ false → answer_to xs v o ≡ o
no_answer [] v o e = refl
no_answer (Redoes k ∷ xs) v o e = refl
no_answer (Validates c f ∷ xs) v o e = cc

-- the values of an agent's own body, where its validator has run
pub anew_without : (b : Bool) (vs : List Value) → b ≡ true → values_anew b vs ≡ but_last vs
anew_without b vs e = ap (λ (x : Bool). values_anew x vs) e

-- and where the function of its action has
pub anew_with : (b : Bool) (vs : List Value) → b ≡ false → values_anew b vs ≡ vs
anew_with b vs e = ap (λ (x : Bool). values_anew x vs) e

-- the agent's own body has the value that its validator looks at
pub has_judged : (r : Role) (h : InHand) (s : PlainStack) → HasJudged r → r ≡ Acting h true s → 0 < length s.values
has_judged r h s j e = subst HasJudged e j

-- or room for that of its action's function
pub has_room : (r : Role) (h : InHand) (s : PlainStack) → IsServing r → r ≡ Acting h false s → length s.values < s.room
has_room r h s i e = subst IsServing e i

-- the value of an action's function is the agent's
pub handed_value : (a : PlainActor) (v : Value) (r : Role) (h : InHand) (s : PlainStack) → r ≡ Acting h false s → handed_back a v r ≡ record (with_stack a (record s { values = put_under 0 v s.values })) { role = Attending h.agent (Some h) }
handed_value a v r h s e = ap (handed_back a v) e

-- that of its validator is an answer
pub handed_answer : (a : PlainActor) (v : Value) (r : Role) (h : InHand) (s : PlainStack) → r ≡ Acting h true s → handed_back a v r ≡ record (with_stack a s) { role = Attending h.agent (Some h); accepted = verdict v }
handed_answer a v r h s e = ap (handed_back a v) e
