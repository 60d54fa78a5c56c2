-- One step of a reading, by what stands at the front of the rest.
use Rattle.std.proofs.Common.{◌≡◌, ℕ, suc, ◌+◌, ◌-◌, ◌<◌, ◌≤◌, max, true, false, not, Option, None, Some, List, [], ◌∷◌, ◌++◌, Ok, length, length-append, refl, sym, ap, subst, ◌∙◌, append_assoc, arith}
use Rattle.std.proofs.lemmas.List.{append-nil}
use Rattle.std.proofs.lemmas.List.Concat.{flat_map-append}
use Rattle.std.specs.List.{flat_map, list_all, AllByRecursion}
use Rattle.txs_value_data.specs.declared.fault.Span.{Span}
use Rattle.txs_reader.specs.declared.form.Bracket.{Bracket}
use Rattle.txs_reader.specs.Bytes.{is_white, is_line_end, is_word_byte, begins_with, meaning}
use Rattle.txs_reader.specs.Quoted.{Part, part_value, IsPart}
use Rattle.txs_reader.specs.Tree.{Leaf, text, PlainForm, leaf, group, PlainForms, trees_of, parts, IsNarrow, AreNarrow, height, height_within, height_of_all}
use Rattle.txs_reader.specs.Script.{Piece, White, Comment, Opening, Closing, Quoted, Word, opening_byte, closing_byte, written, IsWord, IsPiece, EndsAt, Splits, opens, closes, Token, between, token, tokens, spelled, spelled_within, is_sugar, sugar, Open, opened, begun, FitAt, MayHold, WithinLimits, Holds, EndsWithDeref, HasAll, IsFull}
use Rattle.txs_reader.specs.Completes.{Completes}
use Rattle.txs_reader.proofs.Splitting.{Splits-push, length-Splits, tokens-push}
use Rattle.txs_reader.proofs.Running.{level-limits}
use Rattle.txs_reader.proofs.Rising.{no_sugar}
use Rattle.txs_reader.proofs.Sugar.{begun-sugar}

-- ---- limits

height-push : (fs : List PlainForm) (t : PlainForm) → height_of_all (fs ++ t ∷ []) ≡ max (height_of_all fs) (height t)
height-push [] t = omega arith
height-push (f ∷ fs) t = omega (arith, height-push fs t)

height-trees_of : (fs : List PlainForm) → height_within (trees_of fs) ≡ height_of_all fs
height-trees_of [] = refl
height-trees_of (f ∷ fs) = ap (max (height f)) (height-trees_of fs)

narrow-push : (fs : List PlainForm) (t : PlainForm) → AllByRecursion IsNarrow fs → IsNarrow t → AllByRecursion IsNarrow (fs ++ t ∷ [])
narrow-push [] t h n = (n, tt)
narrow-push (f ∷ fs) t h n = (h.0, narrow-push fs t h.1 n)

narrow-trees_of : (fs : List PlainForm) → AllByRecursion IsNarrow fs → AreNarrow (trees_of fs)
narrow-trees_of [] h = tt
narrow-trees_of (f ∷ fs) h = (h.0, narrow-trees_of fs h.1)

parts-trees_of : (fs : List PlainForm) → parts (trees_of fs) ≡ length fs
parts-trees_of [] = refl
parts-trees_of (f ∷ fs) = ap suc (parts-trees_of fs)

none_yet : (b : Option Bracket) → MayHold b 0 0
none_yet None = refl
none_yet (Some b) = omega arith

one_more : (b : Option Bracket) (fs : List PlainForm) (t : PlainForm) → MayHold b (length fs) 0 → (b ≡ None → ⊥) → (HasAll b (length fs) → ⊥) → MayHold b (length (fs ++ t ∷ [])) 0
one_more None fs t h bracket room = absurd (bracket refl)
one_more (Some b) fs t h bracket room = omega (arith, length-append fs (t ∷ []), below room)
  where
    below : (65535 ≤ length fs → ⊥) → length fs < 65535
    below no_more = omega arith

one_begun : (b : Option Bracket) (fs : List PlainForm) → MayHold b (length fs) 0 → (HasAll b (length fs) → ⊥) → MayHold b (length fs) 1
one_begun None fs h room = h
one_begun (Some b) fs h room = omega (arith, below room)
  where
    below : (65535 ≤ length fs → ⊥) → length fs < 65535
    below no_more = omega arith

none_begun : (b : Option Bracket) (n : ℕ) → MayHold b n 1 → MayHold b n 0
none_begun None n h = h
none_begun (Some b) n h = omega arith

not_all : (b : Option Bracket) (fs : List PlainForm) → MayHold b (length fs) 1 → HasAll b (length fs) → ⊥
not_all None fs h all = all
not_all (Some b) fs h all = omega arith

limits-push : (n : ℕ) (os : List Open) (fs : List PlainForm) (t : PlainForm) → WithinLimits n os fs → ¬ EndsWithDeref os → ¬ IsFull os fs → n + length os + height t ≤ 100 → IsNarrow t → WithinLimits n os (fs ++ t ∷ [])
limits-push n [] fs t h no_deref room le narrow = (omega (arith, height-push fs t, h.0), narrow-push fs t h.1 narrow)
limits-push n (o ∷ []) fs t h no_deref room le narrow = (h.0, one_more o.bracket fs t h.1 no_deref room, limits-push (n + 1) [] fs t h.2 (λ f. f) (λ f. f) (omega arith) narrow)
limits-push n (o ∷ p ∷ os) fs t h no_deref room le narrow = (h.0, h.1, limits-push (n + 1) (p ∷ os) fs t h.2 no_deref room (omega arith) narrow)

limits-open : (n : ℕ) (os : List Open) (fs : List PlainForm) (o : Open) → o.before ≡ fs → WithinLimits n os fs → ¬ IsFull os fs → n + length os < 100 → WithinLimits n (os ++ o ∷ []) []
limits-open n [] fs o e h room lt = (subst (FitAt n) (sym e) h, none_yet o.bracket, (omega arith, tt))
limits-open n (p ∷ []) fs o e h room lt = (h.0, subst (λ (gs : List PlainForm). MayHold p.bracket (length gs) 1) (sym e) (one_begun p.bracket fs h.1 room), limits-open (n + 1) [] fs o e h.2 (λ f. f) (omega arith))
limits-open n (p ∷ q ∷ os) fs o e h room lt = (h.0, h.1, limits-open (n + 1) (q ∷ os) fs o e h.2 room (omega arith))

-- the innermost opening taken off
record Off (n : ℕ) (os : List Open) (o : Open) (fs : List PlainForm) : Type 0 where
  before : WithinLimits n os o.before
  hold : MayHold o.bracket (length fs) 0
  high : n + length os + 1 + height_of_all fs ≤ 100
  narrow : AllByRecursion IsNarrow fs
  room : ¬ IsFull os o.before

limits-off : (n : ℕ) (os : List Open) (o : Open) (fs : List PlainForm) → WithinLimits n (os ++ o ∷ []) fs → Off n os o fs
limits-off n [] o fs h = record { before = h.0; hold = h.1; high = omega (arith, h.2.0); narrow = h.2.1; room = λ f. f }
limits-off n (p ∷ []) o fs h =
    let r = limits-off (n + 1) [] o fs h.2 in
    record { before = (h.0, none_begun p.bracket _ h.1, r.before); hold = r.hold; high = omega (arith, r.high); narrow = r.narrow; room = not_all p.bracket o.before h.1 }
limits-off n (p ∷ q ∷ os) o fs h =
    let r = limits-off (n + 1) (q ∷ os) o fs h.2 in
    record { before = (h.0, h.1, r.before); hold = r.hold; high = omega (arith, r.high); narrow = r.narrow; room = r.room }

-- ---- tokens

spelled-trees_of : (fs : List PlainForm) → spelled_within (trees_of fs) ≡ flat_map spelled fs
spelled-trees_of [] = refl
spelled-trees_of (f ∷ fs) = ap (λ (ts : List Token). spelled f ++ ts) (spelled-trees_of fs)

in_brackets : (b : Bracket) (ts : PlainForms) (span : Span) → is_sugar b ts span ≡ false → spelled (group b ts span) ≡ record { sign = opens (Some b); span = between span.from (span.from + 1) } ∷ (spelled_within ts ++ record { sign = closes b; span = between (span.to - 1) span.to } ∷ [])
in_brackets b ts span e = rw e refl

few_parts : (c : Option Bracket) (b : Bracket) (n : ℕ) → c ≡ Some b → MayHold c n 0 → n ≤ 65535
few_parts None b n e h = absurd cc
few_parts (Some c) b n e h = omega arith

-- the offset of the rest
offset : (bytes : List ℕ) (ps : List Piece) (rest : List ℕ) → Splits bytes ps rest → 0 + length (flat_map written ps) ≡ length bytes - length rest
offset bytes ps rest s = omega (arith, length-Splits bytes ps rest s)

-- A piece more.
record Longer (bytes : List ℕ) (spelling : List Token) (rest : List ℕ) : Type 0 where
  pieces : List Piece
  splits : Splits bytes pieces rest
  spells : tokens 0 pieces ≡ spelling

longer : (bytes : List ℕ) (os : List Open) (fs : List PlainForm) (rest : List ℕ) (p : Piece) (more : List ℕ) (at : ℕ) (spelling : List Token) → Holds bytes os fs rest → rest ≡ written p ++ more → IsPiece p → EndsAt p more → at ≡ length bytes - length rest → (flat_map begun os ++ flat_map spelled fs) ++ token at p ≡ spelling → Longer bytes spelling more
longer bytes os fs rest p more at spelling h e is ends here spells = record {
  pieces = h.pieces ++ p ∷ [];
  splits = Splits-push bytes h.pieces rest p more h.splits e is ends;
  spells =
      tokens-push 0 h.pieces p
      ∙ ap (λ (n : ℕ). tokens 0 h.pieces ++ token n p) (offset bytes h.pieces rest h.splits ∙ sym here)
      ∙ ap (λ (ts : List Token). ts ++ token at p) h.spells
      ∙ spells;
}

holds : (bytes : List ℕ) (os : List Open) (fs : List PlainForm) (rest : List ℕ) → Longer bytes (flat_map begun os ++ flat_map spelled fs) rest → WithinLimits 0 os fs → Holds bytes os fs rest
holds bytes os fs rest l limits = record { pieces = l.pieces; splits = l.splits; spells = l.spells; limits = limits }

pub Holds-white : (bytes : List ℕ) (os : List Open) (fs : List PlainForm) (rest : List ℕ) (b : ℕ) (more : List ℕ) → Holds bytes os fs rest → rest ≡ b ∷ more → is_white b ≡ true → Holds bytes os fs more
Holds-white bytes os fs rest b more h e is = holds bytes os fs more (longer bytes os fs rest (White b) more _ _ h e is tt refl (append-nil _)) h.limits

pub Holds-comment : (bytes : List ℕ) (os : List Open) (fs : List PlainForm) (rest c more : List ℕ) → Holds bytes os fs rest → rest ≡ 59 ∷ c ++ more → list_all (λ b. not (is_line_end b)) c ≡ true → begins_with (λ b. not (is_line_end b)) more ≡ false → Holds bytes os fs more
Holds-comment bytes os fs rest c more h e is ends = holds bytes os fs more (longer bytes os fs rest (Comment c) more _ _ h e is ends refl (append-nil _)) h.limits

begun-push : (os : List Open) (o : Open) → flat_map begun (os ++ o ∷ []) ≡ flat_map begun os ++ begun o
begun-push os o = flat_map-append begun os (o ∷ []) ∙ ap (λ (ts : List Token). flat_map begun os ++ ts) (append-nil (begun o))

pub Holds-open : (bytes : List ℕ) (os : List Open) (fs : List PlainForm) (rest : List ℕ) (b : Option Bracket) (more : List ℕ) (at : ℕ) → Holds bytes os fs rest → rest ≡ opening_byte b ∷ more → length os < 100 → ¬ IsFull os fs → at ≡ length bytes - length rest → Holds bytes (os ++ opened b at fs ∷ []) [] more
Holds-open bytes os fs rest b more at h e lt room here =
    holds bytes (os ++ opened b at fs ∷ []) [] more
    (longer bytes os fs rest (Opening b) more at _ h e tt tt here
    (append_assoc (flat_map begun os) (flat_map spelled fs) _ ∙ sym (begun-push os (opened b at fs)) ∙ sym (append-nil _)))
    (limits-open 0 os fs (opened b at fs) refl h.limits room (omega arith))

-- ---- forms that become whole

completes : (bytes : List ℕ) (os : List Open) (fs : List PlainForm) (t : PlainForm) (rest : List ℕ) → Longer bytes (flat_map begun os ++ flat_map spelled (fs ++ t ∷ [])) rest → WithinLimits 0 os fs → length os + height t ≤ 100 → IsNarrow t → ¬ IsFull os fs → Completes bytes os fs t rest
completes bytes os fs t rest l limits deep narrow room = record { pieces = l.pieces; splits = l.splits; spells = l.spells; limits = limits; deep = deep; narrow = narrow; room = room }

-- one piece is the whole form
completes_leaf : (bytes : List ℕ) (os : List Open) (fs : List PlainForm) (rest : List ℕ) (p : Piece) (more : List ℕ) (at : ℕ) (x : Leaf) (span : Span) → Holds bytes os fs rest → rest ≡ written p ++ more → IsPiece p → EndsAt p more → at ≡ length bytes - length rest → token at p ≡ spelled (leaf x span) → ¬ IsFull os fs → Completes bytes os fs (leaf x span) more
completes_leaf bytes os fs rest p more at x span h e is ends here one room =
    completes bytes os fs (leaf x span) more
    (longer bytes os fs rest p more at _ h e is ends here
    (ap (λ (ts : List Token). (flat_map begun os ++ flat_map spelled fs) ++ ts) (one ∙ sym (append-nil (spelled (leaf x span))))
    ∙ append_assoc (flat_map begun os) (flat_map spelled fs) _ ∙ ap (λ (ts : List Token). flat_map begun os ++ ts) (sym (flat_map-append spelled fs (leaf x span ∷ [])))))
    h.limits (omega (arith, level-limits 0 os fs h.limits)) tt room

pub completes_word : (bytes : List ℕ) (os : List Open) (fs : List PlainForm) (rest w more : List ℕ) (x : Leaf) (at : ℕ) → Holds bytes os fs rest → rest ≡ w ++ more → IsWord w → meaning w ≡ Ok x → begins_with is_word_byte more ≡ false → at ≡ length bytes - length rest → ¬ IsFull os fs → Completes bytes os fs (leaf x (between at (at + length w))) more
completes_word bytes os fs rest w more x at h e is means ends here room = completes_leaf bytes os fs rest (Word w x) more at x _ h e (is, means) ends here refl room

pub completes_text : (bytes : List ℕ) (os : List Open) (fs : List PlainForm) (rest : List ℕ) (ps : List Part) (more : List ℕ) (at : ℕ) → Holds bytes os fs rest → rest ≡ written (Quoted ps) ++ more → AllByRecursion IsPart ps → length (flat_map part_value ps) ≤ 65535 → at ≡ length bytes - length rest → ¬ IsFull os fs → Completes bytes os fs (leaf (text (flat_map part_value ps)) (between at (at + length (written (Quoted ps))))) more
completes_text bytes os fs rest ps more at h e each short here room = completes_leaf bytes os fs rest (Quoted ps) more at _ _ h e (each, short) tt here refl room

closed : (o : Open) (b : Bracket) (fs : List PlainForm) (at : ℕ) → o.bracket ≡ Some b → is_sugar b (trees_of fs) (between o.from (at + 1)) ≡ false → begun o ++ (flat_map spelled fs ++ record { sign = closes b; span = between at (at + 1) } ∷ []) ≡ flat_map spelled (o.before ++ group b (trees_of fs) (between o.from (at + 1)) ∷ [])
closed o b fs at is_b not_sugar =
    let e : (at + 1) - 1 ≡ at = omega arith in
    let close : ℕ → Token = λ n. record { sign = closes b; span = between n (at + 1) } in
    let opening : Token = record { sign = opens (Some b); span = between o.from (o.from + 1) } in
    append_assoc (flat_map spelled o.before) _ _
    ∙ ap (λ (c : Option Bracket). flat_map spelled o.before ++ (record { sign = opens c; span = between o.from (o.from + 1) } ∷ (flat_map spelled fs ++ close at ∷ []))) is_b
    ∙ ap (λ (ts : List Token). flat_map spelled o.before ++ (opening ∷ (ts ++ close at ∷ []))) (sym (spelled-trees_of fs))
    ∙ ap (λ (n : ℕ). flat_map spelled o.before ++ (opening ∷ (spelled_within (trees_of fs) ++ close n ∷ []))) (sym e)
    ∙ ap (λ (ts : List Token). flat_map spelled o.before ++ ts) (sym (in_brackets b (trees_of fs) (between o.from (at + 1)) not_sugar))
    ∙ ap (λ (ts : List Token). flat_map spelled o.before ++ ts) (sym (append-nil (spelled (group b (trees_of fs) (between o.from (at + 1))))))
    ∙ sym (flat_map-append spelled o.before _)

pub completes_close : (bytes : List ℕ) (os : List Open) (fs : List PlainForm) (rest : List ℕ) (o : Open) (b : Bracket) (more : List ℕ) (at : ℕ) → Holds bytes (os ++ o ∷ []) fs rest → o.bracket ≡ Some b → rest ≡ closing_byte b ∷ more → at ≡ length bytes - length rest → Completes bytes os o.before (group b (trees_of fs) (between o.from (at + 1))) more
completes_close bytes os fs rest o b more at h is_b e here =
    let off = limits-off 0 os o fs h.limits in
    completes bytes os o.before _ more
    (longer bytes (os ++ o ∷ []) fs rest (Closing b) more at _ h e tt tt here
    (ap (λ (ts : List Token). (ts ++ flat_map spelled fs) ++ record { sign = closes b; span = between at (at + 1) } ∷ []) (begun-push os o)
    ∙ append_assoc (flat_map begun os ++ begun o) (flat_map spelled fs) _ ∙ append_assoc (flat_map begun os) (begun o) _
    ∙ ap (λ (ts : List Token). flat_map begun os ++ ts) (closed o b fs at is_b (no_sugar bytes os o fs rest b (at + 1) h))))
    off.before
    (omega (arith, off.high, height-trees_of fs))
    (omega (arith, parts-trees_of fs, few_parts o.bracket b (length fs) is_b off.hold), narrow-trees_of fs off.narrow)
    off.room

-- ---- where a whole form goes

pub completed : (bytes : List ℕ) (os : List Open) (fs : List PlainForm) (t : PlainForm) (rest : List ℕ) → Completes bytes os fs t rest → ¬ EndsWithDeref os → Holds bytes os (fs ++ t ∷ []) rest
completed bytes os fs t rest c no_deref = record { pieces = c.pieces; splits = c.splits; spells = c.spells; limits = limits-push 0 os fs t c.limits no_deref c.room (omega (arith, c.deep)) c.narrow }

no_forms : (b : Option Bracket) (fs : List PlainForm) → b ≡ None → MayHold b (length fs) 0 → fs ≡ []
no_forms None [] e h = refl
no_forms None (f ∷ fs) e h = absurd (omega (arith, h))
no_forms (Some b) fs e h = absurd cc

pub behind_deref : (bytes : List ℕ) (os : List Open) (o : Open) (fs : List PlainForm) (t : PlainForm) (rest : List ℕ) → Completes bytes (os ++ o ∷ []) fs t rest → o.bracket ≡ None → fs ≡ []
behind_deref bytes os o fs t rest c is = no_forms o.bracket fs is (limits-off 0 os o fs c.limits).hold

pub folded : (bytes : List ℕ) (os : List Open) (o : Open) (fs : List PlainForm) (t : PlainForm) (rest : List ℕ) → Completes bytes (os ++ o ∷ []) fs t rest → o.bracket ≡ None → Completes bytes os o.before (sugar o.from t) rest
folded bytes os o fs t rest c is =
    let off = limits-off 0 os o fs c.limits in
    let alone : fs ≡ [] = no_forms o.bracket fs is off.hold in
    record {
      pieces = c.pieces;
      splits = c.splits;
      spells =
          c.spells
          ∙ ap (λ (b : Option Bracket). flat_map begun (os ++ opened b o.from o.before ∷ []) ++ flat_map spelled (fs ++ t ∷ [])) is
          ∙ ap (λ (gs : List PlainForm). flat_map begun (os ++ opened None o.from o.before ∷ []) ++ flat_map spelled (gs ++ t ∷ [])) alone
          ∙ begun-sugar os o.before o.from t;
      limits = off.before;
      deep = omega (arith, c.deep, length-append os (o ∷ []));
      narrow = (omega arith, (tt, (c.narrow, tt)));
      room = off.room;
    }
