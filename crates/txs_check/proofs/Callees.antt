-- The table of functions tells which of them are pure and take so many values, and which may be sent to so many.
use Rattle.std.proofs.Common.{◌≡◌, ℕ, eqb, Bool, true, false, not, ◌&&◌, List, Option, Some, None, refl, sym, ap, ◌∙◌}
use Rattle.std.proofs.lemmas.Bool.{eqb-true, eq-eqb, not-true, not_from_false}
use Rattle.txs_value_data.specs.Places.{nth}
use Rattle.txs_tree_meaning.specs.Known.{Known}
use Rattle.txs_tree_meaning.specs.Sound.{PureCall, SentCall}
use Rattle.txs_check.specs.Signatures.{bare, is_pure_taking, is_pure_call, is_sent_taking, is_sent_call}
use Rattle.txs_check.proofs.Same.{bare_if, nth_bare}

taking_bare : (o : Option Known) (n : ℕ) → is_pure_taking (bare_if o) n ≡ is_pure_taking o n
taking_bare None n = refl
taking_bare (Some k) n = refl

-- levels don't matter
pub call_same : (ks ls : List Known) → bare ls ≡ bare ks → (f n : ℕ) → is_pure_call ls f n ≡ is_pure_call ks f n
call_same ks ls same f n =
    sym (taking_bare (nth ls f) n) ∙ ap (λ o. is_pure_taking o n) (sym (nth_bare ls f) ∙ ap (λ l. nth l f) same ∙ nth_bare ks f) ∙ taking_bare (nth ks f) n

both_first : (a b : Bool) → (a && b) ≡ true → a ≡ true
both_first true b e = refl
both_first false b e = e

both_second : (a b : Bool) → (a && b) ≡ true → b ≡ true
both_second true b e = e
both_second false b e = absurd cc

both_true : (a b : Bool) → a ≡ true → b ≡ true → (a && b) ≡ true
both_true true b e f = f
both_true false b e f = e

-- a call that the table tells of is one of a pure function that takes so many values
pub told_pure : (ks : List Known) (f n : ℕ) → is_pure_call ks f n ≡ true → PureCall ks f n
told_pure ks f n e = by_known (nth ks f) refl e
  where
    by_known : (o : Option Known) → nth ks f ≡ o → is_pure_taking o n ≡ true → PureCall ks f n
    by_known None is e = absurd cc
    by_known (Some k) is e = record { function = k; found = is; arity = eqb-true k.parameters n (both_first (eqb k.parameters n) k.pure e); pure = both_second (eqb k.parameters n) k.pure e }

-- and each such call is told of
pub pure_told : (ks : List Known) (f n : ℕ) → PureCall ks f n → is_pure_call ks f n ≡ true
pure_told ks f n s = ap (λ o. is_pure_taking o n) s.found ∙ both_true (eqb s.function.parameters n) s.function.pure (eq-eqb s.function.parameters n s.arity) s.pure

-- ---- those that may be sent

sent_taking_bare : (o : Option Known) (n : ℕ) → is_sent_taking (bare_if o) n ≡ is_sent_taking o n
sent_taking_bare None n = refl
sent_taking_bare (Some k) n = refl

-- levels don't matter
pub sent_call_same : (ks ls : List Known) → bare ls ≡ bare ks → (f n : ℕ) → is_sent_call ls f n ≡ is_sent_call ks f n
sent_call_same ks ls same f n =
    sym (sent_taking_bare (nth ls f) n) ∙ ap (λ o. is_sent_taking o n) (sym (nth_bare ls f) ∙ ap (λ l. nth l f) same ∙ nth_bare ks f) ∙ sent_taking_bare (nth ks f) n

-- what the table tells so may be sent to so many values
pub told_sent : (ks : List Known) (f n : ℕ) → is_sent_call ks f n ≡ true → SentCall ks f n
told_sent ks f n e = by_known (nth ks f) refl e
  where
    by_known : (o : Option Known) → nth ks f ≡ o → is_sent_taking o n ≡ true → SentCall ks f n
    by_known None is e = absurd cc
    by_known (Some k) is e = record {
      function = k;
      found = is;
      arity = eqb-true k.parameters n (both_first (eqb k.parameters n) (not k.inside) e);
      zoned = not-true k.inside (both_second (eqb k.parameters n) (not k.inside) e);
    }

-- and each such function is told so
pub sent_told : (ks : List Known) (f n : ℕ) → SentCall ks f n → is_sent_call ks f n ≡ true
sent_told ks f n s =
    ap (λ o. is_sent_taking o n) s.found
    ∙ both_true (eqb s.function.parameters n) (not s.function.inside) (eq-eqb s.function.parameters n s.arity) (not_from_false s.function.inside s.zoned)
