-- Lists that are equal as far as they were compared, and one item further; and the tests of the definitions, told of whether the two are equal.
use Rattle.std.proofs.Common.{◌≡◌, ◌<◌, ◌≤◌, ◌+◌, ◌∙◌, ◌↔◌, IsTrue, ℕ, Bool, List, Result, length, take, get_or, sym, ap, subst, refl, true, false, ◌&&◌}
use Rattle.std.proofs.lemmas.Bool.Decides.{same_from_decides}
use Rattle.std.proofs.lemmas.List.{take_more_same, take_all, get_or_read}
use Rattle.txs_value_data.specs.declared.fault.Fault.{Fault}
use Rattle.txs_value_cell.specs.declared.action.Action.{Action}
use Rattle.txs_value_data.specs.declared.value.Value.{Value}
use Rattle.txs_value_data.proofs.SameLemmas.{same_cell-itself}
use Rattle.txs_world_protocol.specs.Ask.{Writes, same_action, same_actions, same_callee, same_cell, same_new, same_span, same_value, same_values, same_writes}
use Rattle.txs_world_protocol.proofs.AskLemmas.{same_callee-itself, same_callee-sound, same_cell-sound, same_span-itself, same_span-sound, same_actions-itself, same_actions-sound, same_new-itself, same_new-sound, same_value-itself, same_value-sound, same_values-itself, same_values-sound, same_writes-itself, same_writes-sound}

pub next_same : {X : Type 0} → (a b : List X) (i : ℕ) (x y : X) → length a ≡ length b → i < length a → take i a ≡ take i b → x ≡ get_or a i x → y ≡ get_or b i y → x ≡ y → take (i + 1) a ≡ take (i + 1) b
next_same a b i x y n l h p q e = take_more_same a b i x l (subst (λ m. i < m) n l) h (sym p ∙ e ∙ q ∙ ap (λ d. get_or b i d) (sym e))

-- what stands at one place of equal lists is equal
pub same_at : {X : Type 0} → (a b : List X) (i : ℕ) (x y : X) → i < length a → x ≡ get_or a i x → y ≡ get_or b i y → a ≡ b → x ≡ y
same_at a b i x y l p q e = get_or_read a i x l p y ∙ ap (λ s. get_or s i y) e ∙ sym q

-- lists that were compared as far as they go
pub all_same : {X : Type 0} → (a b : List X) (i : ℕ) → length a ≡ length b → length a ≤ i → take i a ≡ take i b → a ≡ b
all_same a b i n l h = sym (take_all i a l) ∙ h ∙ take_all i b (subst (λ m. m ≤ i) n l)

-- ---- an answer that is true exactly where two are equal is the test of the definitions

pub value_test : (a b : Value) (r : Bool) → (IsTrue r ↔ (a ≡ b)) → r ≡ same_value a b
value_test a b r h = same_from_decides r (same_value a b) h (same_value-sound a b, λ e. rw e (same_value-itself b))

pub values_test : (a b : List Value) (r : Bool) → (IsTrue r ↔ (a ≡ b)) → r ≡ same_values a b
values_test a b r h = same_from_decides r (same_values a b) h (same_values-sound a b, λ e. rw e (same_values-itself b))

-- four tests in the order of a function, and in that of the definition
four_tests : (p q r s : Bool) → (((p && q) && r) && s) ≡ (p && (q && (r && s)))
four_tests false q r s = refl
four_tests true false r s = refl
four_tests true true r s = refl

-- (part by part: how operations are compared isn't looked at, so it doesn't matter how many there are)
pub action_test : (a b : Action) (p q r s : Bool) → (IsTrue p ↔ (a.agent ≡ b.agent)) → (IsTrue q ↔ (a.callee ≡ b.callee)) → r ≡ same_values a.args b.args → (IsTrue s ↔ (a.span ≡ b.span)) → (((p && q) && r) && s) ≡ same_action a b
action_test a b p q r s agent callee args span =
    let one : p ≡ same_cell a.agent b.agent = same_from_decides p (same_cell a.agent b.agent) agent (same_cell-sound a.agent b.agent, λ e. rw e (same_cell-itself b.agent)) in
    let two : q ≡ same_callee a.callee b.callee = same_from_decides q (same_callee a.callee b.callee) callee (same_callee-sound a.callee b.callee, λ e. rw e (same_callee-itself b.callee)) in
    let three : s ≡ same_span a.span b.span = same_from_decides s (same_span a.span b.span) span (same_span-sound a.span b.span, λ e. rw e (same_span-itself b.span)) in
    four_tests p q r s ∙ ap (λ x. x && (q && (r && s))) one ∙ ap (λ x. same_cell a.agent b.agent && (x && (r && s))) two
    ∙ ap (λ x. same_cell a.agent b.agent && (same_callee a.callee b.callee && (x && s))) args
    ∙ ap (λ x. same_cell a.agent b.agent && (same_callee a.callee b.callee && (same_values a.args b.args && x))) three

pub actions_test : (a b : List Action) (r : Bool) → (IsTrue r ↔ (a ≡ b)) → r ≡ same_actions a b
actions_test a b r h = same_from_decides r (same_actions a b) h (same_actions-sound a b, λ e. rw e (same_actions-itself b))

pub writes_test : (a b : Writes) (r : Bool) → (IsTrue r ↔ (a ≡ b)) → r ≡ same_writes a b
writes_test a b r h = same_from_decides r (same_writes a b) h (same_writes-sound a b, λ e. rw e (same_writes-itself b))

pub new_test : (a b : Result Value Fault) (r : Bool) → (IsTrue r ↔ (a ≡ b)) → r ≡ same_new a b
new_test a b r h = same_from_decides r (same_new a b) h (same_new-sound a b, λ e. rw e (same_new-itself b))
