-- One check after another.
use Rattle.std.proofs.Common.{◌≡◌, ◌≢◌, Bool, true, false, Ok, Err, refl, sym, ap, ◌∙◌, subst}
use Rattle.txs_value_data.specs.declared.fault.Span.{Span}
use Rattle.txs_check.specs.declared.error.CheckError.{CheckError}
use Rattle.txs_check.specs.declared.error.CheckErrorKind.{CheckErrorKind}
use Rattle.txs_check.specs.declared.error.CheckErrorKind.TheVariants.{RecurNotTail, RecurCount, RecurAcrossDosync, Arity, NotPure, InsideOnly, OutsideOnly, CodeTooLarge, Memory}
use Rattle.txs_check.specs.Refused.{Checked, fine, refused, only, in_turn, ◌>>◌}

abbrev IsRefused : Checked → Type 0
IsRefused (Ok u) = ⊥
IsRefused (Err e) = Unit {0}

pub refused_not_fine : (kind : CheckErrorKind) (at : Span) → refused kind at ≡ fine → ⊥
refused_not_fine kind at p = subst IsRefused p tt

pub err_not_fine : (a : Checked) (e : CheckError) → a ≡ Err e → a ≡ fine → ⊥
err_not_fine a e p q = subst IsRefused (sym p ∙ q) tt

pub first : (a b : Checked) → a >> b ≡ fine → a ≡ fine
first (Ok u) b e = refl
first (Err x) b e = e

pub second : (a b : Checked) → a >> b ≡ fine → b ≡ fine
second (Ok u) b e = e
second (Err x) b e = absurd (subst IsRefused e tt)

pub both : (a b : Checked) → a ≡ fine → b ≡ fine → a >> b ≡ fine
both a b p q = ap (λ x. x >> b) p ∙ q

pub then_same : (a b c : Checked) → (a >> b) >> c ≡ a >> (b >> c)
then_same (Ok u) b c = refl
then_same (Err e) b c = refl

-- one after the other, in either order
pub turn_first : (turn : Bool) (a b : Checked) → in_turn turn a b ≡ fine → a ≡ fine
turn_first false a b e = first a b e
turn_first true a b e = second b a e

pub turn_second : (turn : Bool) (a b : Checked) → in_turn turn a b ≡ fine → b ≡ fine
turn_second false a b e = second a b e
turn_second true a b e = first b a e

pub turn_both : (turn : Bool) (a b : Checked) → a ≡ fine → b ≡ fine → in_turn turn a b ≡ fine
turn_both false a b p q = both a b p q
turn_both true a b p q = both b a q p

pub only_true : (b : Bool) (kind : CheckErrorKind) (at : Span) → only b kind at ≡ fine → b ≡ true
only_true true kind at e = refl
only_true false kind at e = absurd (subst IsRefused e tt)

pub only_fine : (b : Bool) (kind : CheckErrorKind) (at : Span) → b ≡ true → only b kind at ≡ fine
only_fine b kind at e = ap (λ x. only x kind at) e

abbrev IsWant : CheckErrorKind → Type 0
IsWant RecurNotTail = ⊥
IsWant RecurCount = ⊥
IsWant RecurAcrossDosync = ⊥
IsWant Arity = ⊥
IsWant NotPure = ⊥
IsWant InsideOnly = ⊥
IsWant OutsideOnly = ⊥
IsWant CodeTooLarge = ⊥
IsWant Memory = Unit {0}

-- what is refused isn't refused for want of memory
abbrev pub Told : Checked → Type 0
Told (Ok u) = Unit {0}
Told (Err e) = IsWant e.kind → ⊥

pub told_then : (a b : Checked) → Told a → Told b → Told (a >> b)
told_then (Ok u) b p q = q
told_then (Err e) b p q = p

pub told_turn : (turn : Bool) (a b : Checked) → Told a → Told b → Told (in_turn turn a b)
told_turn false a b p q = told_then a b p q
told_turn true a b p q = told_then b a q p

pub told_only : (b : Bool) (kind : CheckErrorKind) (at : Span) → (IsWant kind → ⊥) → Told (only b kind at)
told_only true kind at p = tt
told_only false kind at p = p

pub told_kind : (a : Checked) (e : CheckError) → Told a → a ≡ Err e → e.kind ≢ Memory
told_kind a e p is m = subst Told is p (subst IsWant (sym m) tt)
