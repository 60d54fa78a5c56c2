-- The code of a tree is what it should be, and well typed.
use Rattle.std.proofs.Common.{◌≡◌, ℕ, zero, suc, ◌+◌, ◌-◌, ◌<◌, ◌≤◌, max, Bool, true, false, ◌||◌, ◌&&◌, List, [], ◌∷◌, ◌++◌, length, Option, Some, None, refl, sym, ap, ◌∙◌, subst, length-append, arith, slice_index_or}
use Rattle.std.proofs.lemmas.List.{append-nil}
use Rattle.std.proofs.lemmas.Bool.{false≢true}
use Rattle.txs_value_apply.specs.Core.{takes}
use Rattle.txs_value_apply.proofs.CoreLemmas.{takes_some}
use Rattle.txs_value_data.specs.Places.{nth}
use Rattle.txs_value_data.specs.declared.fault.Span.{Span}
use Rattle.txs_value_data.specs.declared.op.Callee.TheVariants.{Core as CoreOp, Function}
use Rattle.txs_value_cell.specs.Forms.{rule}
use Rattle.txs_value_cell.specs.declared.form.CellForm.TheVariants as form_of
use Rattle.txs_value_cell.specs.declared.form.Standing.{Standing}
use Rattle.txs_value_cell.specs.declared.form.Standing.TheVariants.{Anywhere, Inside, Outside}
use Rattle.txs_value_cell.specs.declared.form.UpdateForm.{UpdateForm}
use Rattle.txs_value_cell.specs.declared.form.UpdateForm.TheVariants as update
use Rattle.txs_value_data.specs.declared.op.Callee.{Callee}
use Rattle.txs_tree_meaning.specs.Known.{Known, only_inside, only_outside, is_inside, is_outside, is_pure, inside_in, any_inside, outside_in, any_outside, pure_in, all_pure}
use Rattle.txs_tree_meaning.specs.Sound.{Zone, in_function, in_thread, in_dosync, MayStand, MayCall, SoundCallee, SoundSent, SoundTree, SoundAll, SoundLet, SoundDo}
use Rattle.txs_tree_meaning.specs.Tree.{Tree, Const, Local, If, Do, Let, Loop, Recur, Core, Call, VectorOf, Println, Dosync, Look, Put, Update, Send, Trees, none, more, count}
use Rattle.txs_code_meaning.specs.declared.instr.Instr.{Instr}
use Rattle.txs_code_meaning.specs.declared.instr.Instr.TheVariants as instr
use Rattle.txs_code_meaning.specs.Machine.{PlainInstr, Push, Store, Jump, JumpFalse, Pop, CallOf, OpenOf, CloseOf, SendOf, PutOf}
use Rattle.txs_code_meaning.specs.PlainCode.{plain_instr}
use Rattle.txs_code_meaning.specs.WellTyped.{Functions, FunctionKind, Owner, a_thread, IsImpure, MayStandInside, MayStandOutside, KindMayStand, MayBeSent, IsNamed, CalleeTakes, NamedTakes, Depths, depth_at, plain, opened, applied, Stages, stage_at, TakesParameters}
use Rattle.txs_code_meaning.specs.WellTyped as typed
use Rattle.txs_gen.specs.Gen.{opening, callee_code, gen, gen_all, gen_let, gen_do, stores, if_code, locals_in, locals_in_all, locals_in_let}
use Rattle.txs_gen.specs.Generated.{copies, spans_of, spans_of_all, spans_of_let, spans_of_do, constants_of, constants_in, numbers_in}
use Rattle.txs_gen.specs.Emission.{instrs_of, instrs_of_all, instrs_of_let, instrs_of_do, update_instrs, stores_from, stored, stored_in, stored_let, top, top_in, top_args}
use Rattle.txs_gen.proofs.Segments.{At, at_first, at_rest, State, state, Here, On, on_first, Setting, may_jump, Segment, segment_nil, segment_one, segment_cons, segment_join, segment_is, seen_length, seen_then, states_rest}

-- the locals of a let are stored
pub let_reaches : (ts : Trees) (d : ℕ) → d + count ts ≤ max d (stored_let ts d)
let_reaches none d = omega arith
let_reaches (more t ts) d = omega (arith, let_reaches ts (d + 1))

-- so many locals are live at once as are stored, or there already
mutual
  pub locals_stored : (t : Tree) (ks : List Known) (zone : Zone) (d : ℕ) (tail : Option ℕ) → SoundTree ks zone d tail t → locals_in t d ≡ max d (stored t d)
  locals_stored (Const v m) ks zone d tail p = omega arith
  locals_stored (Local i m) ks zone d tail p = omega arith
  locals_stored (If c a b m) ks zone d tail p = omega (arith, locals_stored c ks zone d None p.0, locals_stored a ks zone d tail p.1, locals_stored b ks zone d tail p.2)
  locals_stored (Do items m) ks zone d tail p = locals_stored_do items ks zone d tail p
  locals_stored (Let values body m) ks zone d tail p = omega (arith, locals_stored_let values ks zone d p.0, locals_stored body ks zone (d + count values) tail p.1, let_reaches values d)
  locals_stored (Loop values body m) ks zone d tail p = omega (arith, locals_stored_let values ks zone d p.0, locals_stored body ks zone (d + count values) (Some (count values)) p.1, let_reaches values d)
  locals_stored (Recur values m) ks zone d tail p = locals_stored_all values ks zone d p.1
  locals_stored (Core o args m) ks zone d tail p = locals_stored_all args ks zone d p.1
  locals_stored (Call f args m) ks zone d tail p = locals_stored_all args ks zone d p.1
  locals_stored (VectorOf items m) ks zone d tail p = locals_stored_all items ks zone d p.1
  locals_stored (Println args m) ks zone d tail p = locals_stored_all args ks zone d p.2
  locals_stored (Dosync body m) ks zone d tail p = locals_stored body ks in_dosync d None p
  locals_stored (Look form cell m) ks zone d tail p = locals_stored cell ks zone d None p.1
  locals_stored (Put form cell value m) ks zone d tail p = omega (arith, locals_stored cell ks zone d None p.1, locals_stored value ks zone d None p.2)
  locals_stored (Update form cell callee args m) ks zone d tail p = omega (arith, locals_stored cell ks zone d None p.1, locals_stored_all args ks zone d p.3)
  locals_stored (Send cell callee args m) ks zone d tail p = omega (arith, locals_stored cell ks zone d None p.0, locals_stored_all args ks zone d p.2)

  locals_stored_all : (ts : Trees) (ks : List Known) (zone : Zone) (d : ℕ) → SoundAll ks zone d ts → locals_in_all ts d ≡ max d (stored_in ts d)
  locals_stored_all none ks zone d p = omega arith
  locals_stored_all (more t ts) ks zone d p = omega (arith, locals_stored t ks zone d None p.0, locals_stored_all ts ks zone d p.1)

  locals_stored_let : (ts : Trees) (ks : List Known) (zone : Zone) (d : ℕ) → SoundLet ks zone d ts → locals_in_let ts d ≡ max d (stored_let ts d)
  locals_stored_let none ks zone d p = omega arith
  locals_stored_let (more t ts) ks zone d p = omega (arith, locals_stored t ks zone d None p.0, locals_stored_let ts ks zone (d + 1) p.1)

  locals_stored_do : (ts : Trees) (ks : List Known) (zone : Zone) (d : ℕ) (tail : Option ℕ) → SoundDo ks zone d tail ts → locals_in_all ts d ≡ max d (stored_in ts d)
  locals_stored_do none ks zone d tail p = absurd p
  locals_stored_do (more t none) ks zone d tail p = omega (arith, locals_stored t ks zone d tail p)
  locals_stored_do (more t (more u ts)) ks zone d tail p = omega (arith, locals_stored t ks zone d None p.0, locals_stored_do (more u ts) ks zone d tail p.1)

-- the states behind the stores of a recur
abbrev pub fallen : ℕ → ℕ → ℕ → List State
fallen u h zero = []
fallen u h (suc n) = state (h + n) (plain u) ∷ fallen u h n

-- the states behind the open, the call and the close of an update
abbrev pub updated : UpdateForm → Callee → ℕ → ℕ → ℕ → List State
updated form callee c u h =
    state (h + c + 2) (opened u c (opening form callee)) ∷ state (h + 2) (applied u (typed.form_of (opening form callee))) ∷ state (h + 1) (plain u) ∷ []

-- The state behind each instruction of a tree's code, where it stands in so many transactions, with so many values on the
-- stack already. Behind a recur, where the code doesn't go on, it is as if the recur had left a value.
abbrev mutual
  pub afters : Tree → ℕ → ℕ → List State
  afters (Const v m) u h = state (h + 1) (plain u) ∷ []
  afters (Local i m) u h = state (h + 1) (plain u) ∷ []
  afters (If c a b m) u h = afters c u h ++ state h (plain u) ∷ (afters a u h ++ state h (plain u) ∷ afters b u h)
  afters (Do items m) u h = afters_do items u h
  afters (Let values body m) u h = afters_let values u h ++ afters body u h
  afters (Loop values body m) u h = afters_let values u h ++ afters body u h
  afters (Recur values m) u h = afters_all values u h ++ (fallen u h (count values) ++ state (h + 1) (plain u) ∷ [])
  afters (Core o args m) u h = afters_all args u h ++ state (h + 1) (plain u) ∷ []
  afters (Call f args m) u h = afters_all args u h ++ state (h + 1) (plain u) ∷ []
  afters (VectorOf items m) u h = afters_all items u h ++ state (h + 1) (plain u) ∷ []
  afters (Println args m) u h = afters_all args u h ++ state (h + 1) (plain u) ∷ []
  afters (Dosync body m) u h = state h (plain (suc u)) ∷ (afters body (suc u) h ++ state (h + 1) (plain u) ∷ [])
  afters (Look form cell m) u h = afters cell u h ++ state (h + 1) (plain u) ∷ []
  afters (Put form cell value m) u h = afters cell u h ++ (afters value u (h + 1) ++ state (h + 1) (plain u) ∷ [])
  afters (Update form cell callee args m) u h = afters cell u h ++ (afters_all args u (h + 1) ++ updated form callee (count args) u h)
  afters (Send cell callee args m) u h = afters cell u h ++ (afters_all args u (h + 1) ++ state (h + 1) (plain u) ∷ [])

  pub afters_all : Trees → ℕ → ℕ → List State
  afters_all none u h = []
  afters_all (more t ts) u h = afters t u h ++ afters_all ts u (h + 1)

  pub afters_let : Trees → ℕ → ℕ → List State
  afters_let none u h = []
  afters_let (more t ts) u h = afters t u h ++ state h (plain u) ∷ afters_let ts u h

  pub afters_do : Trees → ℕ → ℕ → List State
  afters_do none u h = []
  afters_do (more t none) u h = afters t u h
  afters_do (more t (more v ts)) u h = afters t u h ++ state h (plain u) ∷ afters_do (more v ts) u h

-- In tail position of a loop its locals from base on are there, and its body starts at this depth, in as many transactions.
abbrev pub Loops : Depths → Stages → ℕ → ℕ → ℕ → ℕ → ℕ → Option ℕ → Type 0
Loops ds zs base start d u h None = Unit {0}
Loops ds zs base start d u h (Some n) = (base + n ≤ d) × Here ds zs start h (plain u)

loops_more : (ds : Depths) (zs : Stages) (base start d n u h : ℕ) (tail : Option ℕ) → Loops ds zs base start d u h tail → Loops ds zs base start (d + n) u h tail
loops_more ds zs base start d n u h None w = tt
loops_more ds zs base start d n u h (Some l) w = (omega (arith, w.0), w.1)

-- ---- where forms stand

or_left : (a b : Bool) → a ≡ true → (a || b) ≡ true
or_left true b e = refl
or_left false b e = absurd (false≢true e)

or_right : (a b : Bool) → b ≡ true → (a || b) ≡ true
or_right true b e = refl
or_right false b e = e

and_left : (a b : Bool) → a ≡ false → (a && b) ≡ false
and_left true b e = absurd (false≢true (sym e))
and_left false b e = refl

and_right : (a b : Bool) → b ≡ false → (a && b) ≡ false
and_right true b e = e
and_right false b e = refl

-- A part of a body that stands in this zone, in so many transactions of the body. In a function: where something in it is for
-- transactions alone, for outside alone, or not pure, so is the function.
abbrev pub Nested : Owner → ℕ → Zone → Bool → Bool → Bool → Type 0
Nested owner u in_function i o p = (u ≡ 0) × (i ≡ true → MayStandInside owner) × (o ≡ true → MayStandOutside owner) × (p ≡ false → IsImpure owner)
Nested owner u in_thread i o p = (u ≡ 0) × (owner ≡ a_thread)
Nested owner u in_dosync i o p = (0 < u) × IsImpure owner

-- a part of such a part
nested_part : (owner : Owner) (u : ℕ) (zone : Zone) (i o p i1 o1 p1 : Bool) → (i1 ≡ true → i ≡ true) → (o1 ≡ true → o ≡ true) → (p1 ≡ false → p ≡ false) → Nested owner u zone i o p → Nested owner u zone i1 o1 p1
nested_part owner u in_function i o p i1 o1 p1 f g h j = (j.0, λ e. j.1 (f e), λ e. j.2 (g e), λ e. j.3 (h e))
nested_part owner u in_thread i o p i1 o1 p1 f g h j = j
nested_part owner u in_dosync i o p i1 o1 p1 f g h j = j

-- the first and the second of two parts
pub nested_first : (owner : Owner) (u : ℕ) (zone : Zone) (i i1 o o1 p p1 : Bool) → Nested owner u zone (i || i1) (o || o1) (p && p1) → Nested owner u zone i o p
nested_first owner u zone i i1 o o1 p p1 j = nested_part owner u zone (i || i1) (o || o1) (p && p1) i o p (or_left i i1) (or_left o o1) (and_left p p1) j

pub nested_second : (owner : Owner) (u : ℕ) (zone : Zone) (i i1 o o1 p p1 : Bool) → Nested owner u zone (i || i1) (o || o1) (p && p1) → Nested owner u zone i1 o1 p1
nested_second owner u zone i i1 o o1 p p1 j = nested_part owner u zone (i || i1) (o || o1) (p && p1) i1 o1 p1 (or_right i i1) (or_right o o1) (and_right p p1) j

-- a part of what is not pure
nested_impure : (owner : Owner) (u : ℕ) (zone : Zone) (i o i1 o1 p1 : Bool) → (i1 ≡ true → i ≡ true) → (o1 ≡ true → o ≡ true) → Nested owner u zone i o false → Nested owner u zone i1 o1 p1
nested_impure owner u zone i o i1 o1 p1 f g j = nested_part owner u zone i o false i1 o1 p1 f g (λ e. refl) j

thread_impure : (owner : Owner) → owner ≡ a_thread → IsImpure owner
thread_impure owner e = subst IsImpure (sym e) tt

-- what is not pure stands in a body that isn't
impure : (owner : Owner) (u : ℕ) (zone : Zone) (i o : Bool) → Nested owner u zone i o false → IsImpure owner
impure owner u in_function i o j = j.3 refl
impure owner u in_thread i o j = thread_impure owner j.1
impure owner u in_dosync i o j = j.1

in_some : (owner : Owner) (u : ℕ) → 0 < u → typed.MayStand owner u Inside
in_some owner zero l = absurd (omega (arith, l))
in_some owner (suc u) l = tt

-- what may stand in a zone may stand in the body
stands : (owner : Owner) (u : ℕ) (zone : Zone) (i o p : Bool) (s : Standing) → MayStand zone s → (only_inside s ≡ true → i ≡ true) → (only_outside s ≡ true → o ≡ true) → Nested owner u zone i o p → typed.MayStand owner u s
stands owner u zone i o p Anywhere m f g j = tt
stands owner u in_function i o p Inside m f g j = subst (λ n. typed.MayStand owner n Inside) (sym j.0) (j.1 (f refl))
stands owner u in_thread i o p Inside m f g j = absurd m
stands owner u in_dosync i o p Inside m f g j = in_some owner u j.0
stands owner u in_function i o p Outside m f g j = subst (λ n. typed.MayStand owner n Outside) (sym j.0) (j.2 (g refl))
stands owner u in_thread i o p Outside m f g j = subst (λ n. typed.MayStand owner n Outside) (sym j.0) (subst MayStandOutside (sym j.1) tt)
stands owner u in_dosync i o p Outside m f g j = absurd m

-- the kind of a function that is known
abbrev pub kind_of : Known → FunctionKind
kind_of k = record { inside = k.inside; outside = k.outside; pure = k.pure }

-- a function may be called
calls_so : (owner : Owner) (u : ℕ) (zone : Zone) (i o p : Bool) (k : Known) → MayCall zone k → (k.inside ≡ true → i ≡ true) → (k.outside ≡ true → o ≡ true) → (k.pure ≡ false → p ≡ false) → Nested owner u zone i o p → KindMayStand owner u (kind_of k)
calls_so owner u in_function i o p k m f g h j = record {
  inside = λ e. subst (λ n. typed.MayStand owner n Inside) (sym j.0) (j.1 (f e));
  outside = λ e. subst (λ n. typed.MayStand owner n Outside) (sym j.0) (j.2 (g e));
  pure = λ e. j.3 (h e);
}
calls_so owner u in_thread i o p k m f g h j = record {
  inside = λ e. absurd (false≢true (sym m ∙ e));
  outside = λ e. subst (λ n. typed.MayStand owner n Outside) (sym j.0) (subst MayStandOutside (sym j.1) tt);
  pure = λ e. thread_impure owner j.1;
}
calls_so owner u in_dosync i o p k m f g h j = record { inside = λ e. in_some owner u j.0; outside = λ e. absurd (false≢true (sym m ∙ e)); pure = λ e. j.1 }

-- functions that are known are among the first so many, and what bodies may rest on tells of them
abbrev pub Tells : Functions → ℕ → List Known → Type 0
Tells fs callable ks = (f : ℕ) (k : Known) → nth ks f ≡ Some k → (f < callable) × (nth fs.parameters f ≡ Some k.parameters) × (nth fs.kinds f ≡ Some (kind_of k))

-- ---- updates

form_opened : (form : UpdateForm) (callee : Callee) → typed.form_of (opening form callee) ≡ form
form_opened update.Alter callee = refl
form_opened update.Commute callee = refl
form_opened update.Swap callee = refl

named : (form : UpdateForm) (callee : Callee) → IsNamed (opening form callee) callee
named update.Alter callee = tt
named update.Commute callee = refl
named update.Swap callee = refl

named_takes : (fs : ℕ) (ps : List ℕ) (form : UpdateForm) (callee : Callee) (n : ℕ) → CalleeTakes fs ps callee n → NamedTakes fs ps (opening form callee) n
named_takes fs ps update.Alter callee n h = tt
named_takes fs ps update.Commute callee n h = h
named_takes fs ps update.Swap callee n h = h

abbrev IsThere : Option ℕ → Type 0
IsThere None = ⊥
IsThere (Some n) = Unit {0}

pub index_found : (ps : List ℕ) (f n : ℕ) → nth ps f ≡ Some n → slice_index_or ps f 0 ≡ n
index_found [] f n e = absurd (subst IsThere (sym e) tt)
index_found (p ∷ ps) zero n e = let same : p ≡ n = cc in same
index_found (p ∷ ps) (suc f) n e = index_found ps f n e

abbrev takes_parameters : (ps : List ℕ) (f d most n : ℕ) → nth ps f ≡ Some n → n ≤ d → d - n < most → TakesParameters ps f d most
takes_parameters ps f d most n e l r = record { parameters = n; found = e; enough = l; roomy = r }

-- the last local is stored first
stores_last : (i n : ℕ) → stores i (suc n) ≡ Store (i + n) ∷ stores i n
stores_last i zero = let e : i ≡ i + 0 = omega arith in ap (λ m. Store m ∷ []) e
stores_last i (suc n) =
    let e : i + 1 + n ≡ i + suc n = omega arith in
    ap (λ l. l ++ Store i ∷ []) (stores_last (i + 1) n) ∙ ap (λ m. Store m ∷ (stores (i + 1) n ++ Store i ∷ [])) e

-- a choice whose branches are as long, as the machine sees it
if_seen : (p : ℕ) (a : List PlainInstr) (na : ℕ) (b : ℕ → List PlainInstr) (nb : ℕ) → na ≡ length a → nb ≡ length (b (p + 1 + na + 1)) →
    JumpFalse (p + 1 + na + 1) ∷ (a ++ Jump (p + 1 + na + 1 + nb) ∷ b (p + 1 + na + 1)) ≡ if_code p a b
if_seen p a na b nb e f =
    ap (λ n. JumpFalse (p + 1 + na + 1) ∷ (a ++ Jump (p + 1 + na + 1 + n) ∷ b (p + 1 + na + 1))) f
    ∙ ap (λ n. JumpFalse (p + 1 + n + 1) ∷ (a ++ Jump (p + 1 + n + 1 + length (b (p + 1 + n + 1))) ∷ b (p + 1 + n + 1))) e

-- the new values become a loop's locals, and the loop goes on
recur_segment : (x : Setting) (n u h base start k at : ℕ) (span : Span) → base + n ≤ x.body.locals → h + 1 ≤ x.most → h + n ≤ x.most →
    Here x.depths x.stages start h (plain u) → Here x.depths x.stages at (h + n) (plain u) → On x.depths x.stages (at + 1) (fallen u h n ++ state (h + 1) (plain u) ∷ []) →
    Segment x k 0 at (h + 1) (plain u) (fallen u h n ++ state (h + 1) (plain u) ∷ []) (stores_from base n ++ instr.Jump start ∷ []) (copies (suc n) span) (stores base n ++ Jump start ∷ [])
recur_segment x zero u h base start k at span l g r b e o =
    let z : h + 0 ≡ h = omega arith in
    segment_one x k 0 at h (h + 1) (plain u) (plain u) (instr.Jump start) span refl (subst (λ m. depth_at x.depths at ≡ Some m) z e.0, e.1) (omega (arith, g)) b.0 b.1 o.0 g
    (λ w. may_jump x w start h u b)
recur_segment x (suc n) u h base start k at span l g r b e o =
    let z : h + n ≡ h + suc n - 1 = omega arith in
    let rest = recur_segment x n u h base start k (at + 1) span (omega (arith, l)) g (omega (arith, r)) b o.0 o.1 in
    let all = segment_cons x k 0 at (h + suc n) (h + n) (h + 1) (plain u) (plain u) (plain u) (instr.Store (base + n)) _ _ span _ _ refl e r
    (omega arith, subst (λ m. depth_at x.depths (at + 1) ≡ Some m) z o.0.0) o.0.1 (λ w. omega (arith, l)) rest in
    segment_is x k 0 0 at (h + 1) (h + 1) (plain u) _ _ _ _ _ refl refl (ap (λ s. s ++ Jump start ∷ []) (sym (stores_last base n))) all

-- The code of a tree leaves one value more, within the room that its top needs.
module _ (x : Setting) (ks : List Known) (tells : Tells x.functions x.callable ks) where
  -- a tree, or trees, of which so much is known
  abbrev pub NestedTree : ℕ → Zone → Tree → Type 0
  NestedTree u zone t = Nested x.owner u zone (inside_in ks t) (outside_in ks t) (pure_in ks t)

  abbrev pub NestedAll : ℕ → Zone → Trees → Type 0
  NestedAll u zone ts = Nested x.owner u zone (any_inside ks ts) (any_outside ks ts) (all_pure ks ts)

  callee_takes : (callee : Callee) (c : ℕ) → SoundCallee ks callee (suc c) → CalleeTakes x.callable x.functions.parameters callee (c + 1)
  callee_takes (CoreOp op) c q = let e : suc c ≡ c + 1 = omega arith in subst (λ n. takes op n ≡ true) e q.0
  callee_takes (Function f) c q =
      let told = tells f q.function q.found in
      let e : q.function.parameters ≡ c + 1 = omega (arith, q.arity) in
      (told.0, told.1 ∙ ap (λ n. Some n) e)

  -- what is sent isn't for transactions alone, and takes so many
  callee_sent : (callee : Callee) (n : ℕ) → SoundSent ks callee n → MayBeSent x.functions.kinds callee
  callee_sent (CoreOp op) n q = tt
  callee_sent (Function f) n q = (kind_of q.function, (tells f q.function q.found).2, q.zoned)

  sent_takes : (callee : Callee) (c : ℕ) → SoundSent ks callee (suc c) → CalleeTakes x.callable x.functions.parameters callee (c + 1)
  sent_takes (CoreOp op) c q = let e : suc c ≡ c + 1 = omega arith in subst (λ n. takes op n ≡ true) e q.0
  sent_takes (Function f) c q =
      let told = tells f q.function q.found in
      let e : q.function.parameters ≡ c + 1 = omega (arith, q.arity) in
      (told.0, told.1 ∙ ap (λ n. Some n) e)

  -- an update with this instruction as its call
  update_with : (form : UpdateForm) (callee : Callee) (i : Instr) (c u h k at : ℕ) (span : Span) → SoundCallee ks callee (suc c) → typed.FormMayStand x.owner u (form_of.Update form) → Here x.depths x.stages at (h + 1 + c) (plain u) → h + c + 2 ≤ x.most → On x.depths x.stages (at + 1) (updated form callee c u h) →
      ((js : List Instr) → numbers_in (i ∷ js) ≡ numbers_in js) → plain_instr x.functions.parameters x.constants i span ≡ callee_code callee (suc c) span →
      typed.Fits x.owner x.functions.parameters x.depths x.most (at + 1) (h + c + 2) i → typed.FitsStage x.functions x.owner x.stages (at + 1) (opened u c (opening form callee)) i → typed.IsLawful x.callable x.functions.parameters x.constants x.body (at + 1) i → typed.Applies x.functions.parameters callee (c + 1) i →
      Segment x k 0 at (h + 1) (plain u) (updated form callee c u h) (instr.Open (opening form callee) c ∷ i ∷ instr.Close form ∷ []) (copies 3 span) (OpenOf (opening form callee) c span ∷ callee_code callee (suc c) span ∷ CloseOf form span ∷ [])
  update_with form callee i c u h k at span q may e r o no_number seen fits stage is_lawful applies =
      let by = opening form callee in
      let opens : h + c + 2 ≡ h + 1 + c + 1 = omega arith in
      let closes : h + 1 ≡ h + 2 - 1 = omega arith in
      let third : at + 1 + 1 ≡ at + 2 = omega arith in
      let behind : at + 1 + 1 + 1 ≡ at + 3 = omega arith in
      record {
        as_many = refl;
        places = refl;
        seen = ap (λ y. OpenOf by c span ∷ y ∷ CloseOf form span ∷ []) seen;
        numbers = no_number (instr.Close form ∷ []);
        stand = (
          (
            (h + 1 + c, e.0, omega (arith, r), (omega arith, omega (arith, r), subst (λ n. depth_at x.depths (at + 1) ≡ Some n) opens o.0.0)),
            (plain u, e.1, (subst (λ f. typed.FormMayStand x.owner u (form_of.Update f)) (sym (form_opened form callee)) may, o.0.1)),
          ),
          (
            ((h + c + 2, o.0.0, r, fits), (opened u c by, o.0.1, stage)),
            (
              (
                (h + 2, o.1.0.0, omega (arith, r), (omega arith, subst (λ n. depth_at x.depths (at + 1 + 1 + 1) ≡ Some n) closes o.1.1.0.0)),
                (applied u (typed.form_of by), o.1.0.1, (form_opened form callee, o.1.1.0.1)),
              ),
              tt,
            ),
          ),
        );
        leaves = subst (λ n. Here x.depths x.stages n (h + 1) (plain u)) behind o.1.1.0;
        high = omega (arith, r);
        lawful = λ w p. (
          (
            named_takes x.callable x.functions.parameters form callee (c + 1) (callee_takes callee c q),
            record {
              callee = callee;
              named = named form callee;
              applied = i;
              second = p.1.0;
              applies = applies;
              third = subst (λ n. nth x.body.instrs n ≡ Some (instr.Close (typed.form_of by))) third (p.1.1.0 ∙ ap (λ f. Some (instr.Close f)) (sym (form_opened form callee)));
            },
          ),
          (is_lawful, (record { from = at; behind = third; opened = by; arguments = c; first = p.0; form = form_opened form callee }, tt)),
        );
      }

  update_segment : (form : UpdateForm) (callee : Callee) (c u h k at : ℕ) (span : Span) → SoundCallee ks callee (suc c) → typed.FormMayStand x.owner u (form_of.Update form) → Here x.depths x.stages at (h + 1 + c) (plain u) → h + c + 2 ≤ x.most → On x.depths x.stages (at + 1) (updated form callee c u h) →
      Segment x k 0 at (h + 1) (plain u) (updated form callee c u h) (update_instrs form callee c) (copies 3 span) (OpenOf (opening form callee) c span ∷ callee_code callee (suc c) span ∷ CloseOf form span ∷ [])
  update_segment form (CoreOp op) c u h k at span q may e r o =
      let one_more : suc c ≡ c + 1 = omega arith in
      let calls : h + 2 ≡ h + c + 2 - suc c + 1 = omega arith in
      update_with form (CoreOp op) (instr.Core op (suc c)) c u h k at span q may e r o (λ js. refl) refl
      (omega arith, omega arith, subst (λ n. depth_at x.depths (at + 1 + 1) ≡ Some n) calls o.1.0.0) (one_more, named form (CoreOp op), o.1.0.1) q.0 (ap (λ n. instr.Core op n) one_more)
  update_segment form (Function f) c u h k at span q may e r o =
      let fun = q.function in
      let told = tells f fun q.found in
      let arity : fun.parameters ≡ c + 1 = omega (arith, q.arity) in
      let found : nth x.functions.parameters f ≡ Some (c + 1) = told.1 ∙ ap (λ n. Some n) arity in
      let calls : h + 2 ≡ h + c + 2 - fun.parameters + 1 = omega (arith, q.arity) in
      update_with form (Function f) (instr.Call f) c u h k at span q may e r o (λ js. refl) (ap (λ n. CallOf f n) (index_found x.functions.parameters f fun.parameters told.1 ∙ q.arity))
      (takes_parameters x.functions.parameters f (h + c + 2) x.most fun.parameters told.1 (omega (arith, q.arity)) (omega (arith, q.arity, r)), subst (λ n. depth_at x.depths (at + 1 + 1) ≡ Some n) calls o.1.0.0)
      (found, (kind_of fun, told.2, q.pure), named form (Function f), o.1.0.1) told.0 (refl, found)

  mutual
    pub tree_segment : (t : Tree) (zone : Zone) (u d k h base start at : ℕ) (tail : Option ℕ) →
        NestedTree u zone t → SoundTree ks zone d tail t → At x.constants k (constants_of t) → d ≤ x.body.locals → stored t d ≤ x.body.locals → h ≤ x.most → top t h ≤ x.most →
        Here x.depths x.stages at h (plain u) → On x.depths x.stages (at + 1) (afters t u h) → Loops x.depths x.stages base start d u h tail →
        Segment x k (length (constants_of t)) at (h + 1) (plain u) (afters t u h) (instrs_of t d base start at k) (spans_of t) (gen t d base start at)
    tree_segment (Const v m) zone u d k h base start at tail j p a l s g r e o w =
        let high : h + 1 ≤ x.most = r in
        segment_is x k 1 1 at (h + 1) (h + 1) (plain u) _ _ _ _ _ refl refl (ap (λ y. Push y ∷ []) a.0)
        (segment_one x k 1 at h (h + 1) (plain u) (plain u) (instr.Const k) m.span refl e g (omega (arith, high), o.0.0) o.0.1 o.0 high (λ w. a.1))
    tree_segment (Local i m) zone u d k h base start at tail j p a l s g r e o w =
        let high : h + 1 ≤ x.most = r in
        segment_one x k 0 at h (h + 1) (plain u) (plain u) (instr.Local i) m.span refl e g (omega (arith, high), o.0.0) o.0.1 o.0 high (λ w. omega (arith, p, l))
    tree_segment (If c y z m) zone u d k h base start at tail j p a l s g r e o w =
        let jc = nested_first x.owner u zone (inside_in ks c) (inside_in ks y || inside_in ks z) (outside_in ks c) (outside_in ks y || outside_in ks z) (pure_in ks c) (pure_in ks y && pure_in ks z) j in
        let jr = nested_second x.owner u zone (inside_in ks c) (inside_in ks y || inside_in ks z) (outside_in ks c) (outside_in ks y || outside_in ks z) (pure_in ks c) (pure_in ks y && pure_in ks z) j in
        let jy = nested_first x.owner u zone (inside_in ks y) (inside_in ks z) (outside_in ks y) (outside_in ks z) (pure_in ks y) (pure_in ks z) jr in
        let jz = nested_second x.owner u zone (inside_in ks y) (inside_in ks z) (outside_in ks y) (outside_in ks z) (pure_in ks y) (pure_in ks z) jr in
        let kc = k + length (constants_of c) in
        let ky = kc + length (constants_of y) in
        let is = instrs_of c d base start at k in
        let n1 = at + length is in
        let js = instrs_of y d base start (n1 + 1) kc in
        let n2 = n1 + 1 + length js in
        let ls = instrs_of z d base start (n2 + 1) ky in
        let n3 = n2 + 1 + length ls in
        let a2 = at_rest x.constants k (constants_of c) (constants_of y ++ constants_of z) a in
        let one = tree_segment c zone u d k h base start at None jc p.0 (at_first x.constants k (constants_of c) (constants_of y ++ constants_of z) a) l (omega (arith, s)) g (omega (arith, r)) e (on_first x.depths x.stages (at + 1) (afters c u h) (state h (plain u) ∷ (afters y u h ++ state h (plain u) ∷ afters z u h)) o) tt in
        let o2 = states_rest x k _ at (h + 1) (plain u) (afters c u h) is (spans_of c) _ one (state h (plain u) ∷ (afters y u h ++ state h (plain u) ∷ afters z u h)) o in
        let two = tree_segment y zone u d kc h base start (n1 + 1) tail jy p.1 (at_first x.constants kc (constants_of y) (constants_of z) a2) l (omega (arith, s)) g (omega (arith, r)) o2.0 (on_first x.depths x.stages (n1 + 1 + 1) (afters y u h) (state h (plain u) ∷ afters z u h) o2.1) w in
        let o3 = states_rest x kc _ (n1 + 1) (h + 1) (plain u) (afters y u h) js (spans_of y) _ two (state h (plain u) ∷ afters z u h) o2.1 in
        let three = tree_segment z zone u d ky h base start (n2 + 1) tail jz p.2 (at_rest x.constants kc (constants_of y) (constants_of z) a2) l (omega (arith, s)) g (omega (arith, r)) o3.0 o3.1 w in
        let low : h ≡ h + 1 - 1 = omega arith in
        let over = segment_cons x ky _ n2 (h + 1) h (h + 1) (plain u) (plain u) (plain u) (instr.Jump n3) (afters z u h) ls m.span (spans_of z) _ refl two.leaves two.high three.leaves.0 three.leaves.1 (λ w1. may_jump x w1 n3 (h + 1) u three.leaves) three in
        let branches = segment_join x kc _ _ (n1 + 1) (h + 1) (h + 1) (plain u) (plain u) _ _ _ _ _ _ _ _ two over in
        let tested = segment_cons x kc _ n1 (h + 1) h (h + 1) (plain u) (plain u) (plain u) (instr.JumpFalse (n2 + 1)) _ _ m.span _ _ refl one.leaves one.high
        (omega arith, subst (λ n. depth_at x.depths (n2 + 1) ≡ Some n) low o3.0.0, subst (λ n. depth_at x.depths (n1 + 1) ≡ Some n) low o2.0.0) (o3.0.1, o2.0.1)
        (λ w1. may_jump x w1 (n2 + 1) h u o3.0) branches in
        let n : length (constants_of c) + (length (constants_of y) + length (constants_of z)) ≡ length (constants_of c ++ (constants_of y ++ constants_of z)) = omega (arith, length-append (constants_of c) (constants_of y ++ constants_of z), length-append (constants_of y) (constants_of z)) in
        let seen = ap (λ f. gen c d base start at ++ f) (if_seen n1 (gen y d base start (n1 + 1)) (length js) (gen z d base start) (length ls) (seen_length x kc _ (n1 + 1) (h + 1) _ _ js _ _ two) (seen_length x ky _ (n2 + 1) (h + 1) _ _ ls _ _ three))
        ∙ seen_then x k _ at (h + 1) (plain u) (afters c u h) is (spans_of c) (gen c d base start at) one (λ f. if_code f (gen y d base start (f + 1)) (gen z d base start)) in
        segment_is x k _ _ at (h + 1) (h + 1) (plain u) _ _ _ _ _ n refl seen (segment_join x k _ _ at (h + 1) (h + 1) (plain u) (plain u) _ _ _ _ _ _ _ _ one tested)
    tree_segment (Do items m) zone u d k h base start at tail j p a l s g r e o w = do_segment items m.span zone u d k h base start at tail j p a l s g r e o w
    tree_segment (Let values body m) zone u d k h base start at tail j p a l s g r e o w =
        let jv = nested_first x.owner u zone (any_inside ks values) (inside_in ks body) (any_outside ks values) (outside_in ks body) (all_pure ks values) (pure_in ks body) j in
        let jb = nested_second x.owner u zone (any_inside ks values) (inside_in ks body) (any_outside ks values) (outside_in ks body) (all_pure ks values) (pure_in ks body) j in
        let kv = k + length (constants_in values) in
        let is = instrs_of_let values d base start at k in
        let n1 = at + length is in
        let one = let_segment values m.span zone u d k h base start at jv p.0 (at_first x.constants k (constants_in values) (constants_of body) a) l (omega (arith, s)) g (omega (arith, r)) e (on_first x.depths x.stages (at + 1) (afters_let values u h) (afters body u h) o) in
        let o2 = states_rest x k _ at h (plain u) (afters_let values u h) is (spans_of_let m.span values) _ one (afters body u h) o in
        let two = tree_segment body zone u (d + count values) kv h base start n1 tail jb p.1 (at_rest x.constants k (constants_in values) (constants_of body) a) (omega (arith, let_reaches values d, l, s)) (omega (arith, s)) g (omega (arith, r)) one.leaves o2 (loops_more x.depths x.stages base start d (count values) u h tail w) in
        let n : length (constants_in values) + length (constants_of body) ≡ length (constants_in values ++ constants_of body) = sym (length-append (constants_in values) (constants_of body)) in
        let seen = seen_then x k _ at h (plain u) (afters_let values u h) is (spans_of_let m.span values) (gen_let values d base start at) one (gen body (d + count values) base start) in
        segment_is x k _ _ at (h + 1) (h + 1) (plain u) _ _ _ _ _ n refl seen (segment_join x k _ _ at h (h + 1) (plain u) (plain u) _ _ _ _ _ _ _ _ one two)
    tree_segment (Loop values body m) zone u d k h base start at tail j p a l s g r e o w =
        let jv = nested_first x.owner u zone (any_inside ks values) (inside_in ks body) (any_outside ks values) (outside_in ks body) (all_pure ks values) (pure_in ks body) j in
        let jb = nested_second x.owner u zone (any_inside ks values) (inside_in ks body) (any_outside ks values) (outside_in ks body) (all_pure ks values) (pure_in ks body) j in
        let kv = k + length (constants_in values) in
        let is = instrs_of_let values d base start at k in
        let n1 = at + length is in
        let one = let_segment values m.span zone u d k h base start at jv p.0 (at_first x.constants k (constants_in values) (constants_of body) a) l (omega (arith, s)) g (omega (arith, r)) e (on_first x.depths x.stages (at + 1) (afters_let values u h) (afters body u h) o) in
        let o2 = states_rest x k _ at h (plain u) (afters_let values u h) is (spans_of_let m.span values) _ one (afters body u h) o in
        let two = tree_segment body zone u (d + count values) kv h d n1 n1 (Some (count values)) jb p.1 (at_rest x.constants k (constants_in values) (constants_of body) a) (omega (arith, let_reaches values d, l, s)) (omega (arith, s)) g (omega (arith, r)) one.leaves o2 (omega arith, one.leaves) in
        let n : length (constants_in values) + length (constants_of body) ≡ length (constants_in values ++ constants_of body) = sym (length-append (constants_in values) (constants_of body)) in
        let seen = seen_then x k _ at h (plain u) (afters_let values u h) is (spans_of_let m.span values) (gen_let values d base start at) one (λ f. gen body (d + count values) d f f) in
        segment_is x k _ _ at (h + 1) (h + 1) (plain u) _ _ _ _ _ n refl seen (segment_join x k _ _ at h (h + 1) (plain u) (plain u) _ _ _ _ _ _ _ _ one two)
    tree_segment (Recur values m) zone u d k h base start at tail j p a l s g r e o w =
        let v = subst (λ f. Loops x.depths x.stages base start d u h f) p.0 w in
        let is = instrs_of_all values d base start at k in
        let n1 = at + length is in
        let one = all_segment values zone u d k h base start at j p.1 a l s g (omega (arith, r)) e (on_first x.depths x.stages (at + 1) (afters_all values u h) (fallen u h (count values) ++ state (h + 1) (plain u) ∷ []) o) in
        let o2 = states_rest x k _ at (h + count values) (plain u) (afters_all values u h) is (spans_of_all values) _ one (fallen u h (count values) ++ state (h + 1) (plain u) ∷ []) o in
        let two = recur_segment x (count values) u h base start (k + length (constants_in values)) n1 m.span (omega (arith, v.0, l)) (omega (arith, r)) one.high v.1 one.leaves o2 in
        let n : length (constants_in values) + 0 ≡ length (constants_in values) = omega arith in
        segment_is x k _ _ at (h + 1) (h + 1) (plain u) _ _ _ _ _ n refl refl (segment_join x k _ _ at (h + count values) (h + 1) (plain u) (plain u) _ _ _ _ _ _ _ _ one two)
    tree_segment (Core f args m) zone u d k h base start at tail j p a l s g r e o w =
        let is = instrs_of_all args d base start at k in
        let n1 = at + length is in
        let one = all_segment args zone u d k h base start at j p.1 a l s g r e (on_first x.depths x.stages (at + 1) (afters_all args u h) (state (h + 1) (plain u) ∷ []) o) in
        let o2 = states_rest x k _ at (h + count args) (plain u) (afters_all args u h) is (spans_of_all args) _ one (state (h + 1) (plain u) ∷ []) o in
        let some = takes_some f (count args) p.0.0 in
        let c : h + 1 ≡ h + count args - count args + 1 = omega arith in
        let two = segment_one x (k + length (constants_in args)) 0 n1 (h + count args) (h + 1) (plain u) (plain u) (instr.Core f (count args)) m.span refl one.leaves one.high
        (omega arith, some, subst (λ n. depth_at x.depths (n1 + 1) ≡ Some n) c o2.0.0) o2.0.1 o2.0 (omega (arith, one.high, some)) (λ w. p.0.0) in
        let n : length (constants_in args) + 0 ≡ length (constants_in args) = omega arith in
        segment_is x k _ _ at (h + 1) (h + 1) (plain u) _ _ _ _ _ n refl refl (segment_join x k _ _ at (h + count args) (h + 1) (plain u) (plain u) _ _ _ _ _ _ _ _ one two)
    tree_segment (Call f args m) zone u d k h base start at tail j p a l s g r e o w =
        let fun = p.0.function in
        let told = tells f fun p.0.found in
        let takes_all = p.0.arity in
        let ja = nested_second x.owner u zone (is_inside (nth ks f)) (any_inside ks args) (is_outside (nth ks f)) (any_outside ks args) (is_pure (nth ks f)) (all_pure ks args) j in
        let may = calls_so x.owner u zone (is_inside (nth ks f) || any_inside ks args) (is_outside (nth ks f) || any_outside ks args) (is_pure (nth ks f) && all_pure ks args) fun p.0.zoned
        (λ q. or_left (is_inside (nth ks f)) (any_inside ks args) (ap is_inside p.0.found ∙ q)) (λ q. or_left (is_outside (nth ks f)) (any_outside ks args) (ap is_outside p.0.found ∙ q)) (λ q. and_left (is_pure (nth ks f)) (all_pure ks args) (ap is_pure p.0.found ∙ q)) j in
        let is = instrs_of_all args d base start at k in
        let n1 = at + length is in
        let one = all_segment args zone u d k h base start at ja p.1 a l s g (omega (arith, r)) e (on_first x.depths x.stages (at + 1) (afters_all args u h) (state (h + 1) (plain u) ∷ []) o) in
        let o2 = states_rest x k _ at (h + count args) (plain u) (afters_all args u h) is (spans_of_all args) _ one (state (h + 1) (plain u) ∷ []) o in
        let c : h + 1 ≡ h + count args - fun.parameters + 1 = omega (arith, takes_all) in
        let two = segment_one x (k + length (constants_in args)) 0 n1 (h + count args) (h + 1) (plain u) (plain u) (instr.Call f) m.span refl one.leaves one.high
        (takes_parameters x.functions.parameters f (h + count args) x.most fun.parameters told.1 (omega (arith, takes_all)) (omega (arith, takes_all, r)), subst (λ n. depth_at x.depths (n1 + 1) ≡ Some n) c o2.0.0)
        ((kind_of fun, told.2, may), o2.0.1) o2.0 (omega (arith, r)) (λ w. told.0) in
        let n : length (constants_in args) + 0 ≡ length (constants_in args) = omega arith in
        let seen = ap (λ v. gen_all args d base start at ++ CallOf f v ∷ []) (index_found x.functions.parameters f fun.parameters told.1 ∙ takes_all) in
        segment_is x k _ _ at (h + 1) (h + 1) (plain u) _ _ _ _ _ n refl seen (segment_join x k _ _ at (h + count args) (h + 1) (plain u) (plain u) _ _ _ _ _ _ _ _ one two)
    tree_segment (VectorOf args m) zone u d k h base start at tail j p a l s g r e o w =
        let is = instrs_of_all args d base start at k in
        let n1 = at + length is in
        let one = all_segment args zone u d k h base start at j p.1 a l s g (omega (arith, r)) e (on_first x.depths x.stages (at + 1) (afters_all args u h) (state (h + 1) (plain u) ∷ []) o) in
        let o2 = states_rest x k _ at (h + count args) (plain u) (afters_all args u h) is (spans_of_all args) _ one (state (h + 1) (plain u) ∷ []) o in
        let c : h + 1 ≡ h + count args - count args + 1 = omega arith in
        let two = segment_one x (k + length (constants_in args)) 0 n1 (h + count args) (h + 1) (plain u) (plain u) (instr.Vector (count args)) m.span refl one.leaves one.high
        (omega arith, omega (arith, r), subst (λ n. depth_at x.depths (n1 + 1) ≡ Some n) c o2.0.0) o2.0.1 o2.0 (omega (arith, r)) (λ w. tt) in
        let n : length (constants_in args) + 0 ≡ length (constants_in args) = omega arith in
        segment_is x k _ _ at (h + 1) (h + 1) (plain u) _ _ _ _ _ n refl refl (segment_join x k _ _ at (h + count args) (h + 1) (plain u) (plain u) _ _ _ _ _ _ _ _ one two)
    tree_segment (Println args m) zone u d k h base start at tail j p a l s g r e o w =
        let ja = nested_impure x.owner u zone (any_inside ks args) true (any_inside ks args) (any_outside ks args) (all_pure ks args) (λ q. q) (λ q. refl) j in
        let may = stands x.owner u zone (any_inside ks args) true false Outside p.0 (λ q. absurd (false≢true q)) (λ q. refl) j in
        let is = instrs_of_all args d base start at k in
        let n1 = at + length is in
        let one = all_segment args zone u d k h base start at ja p.2 a l s g (omega (arith, r)) e (on_first x.depths x.stages (at + 1) (afters_all args u h) (state (h + 1) (plain u) ∷ []) o) in
        let o2 = states_rest x k _ at (h + count args) (plain u) (afters_all args u h) is (spans_of_all args) _ one (state (h + 1) (plain u) ∷ []) o in
        let c : h + 1 ≡ h + count args - count args + 1 = omega arith in
        let two = segment_one x (k + length (constants_in args)) 0 n1 (h + count args) (h + 1) (plain u) (plain u) (instr.Print (count args)) m.span refl one.leaves one.high
        (omega arith, omega (arith, r), subst (λ n. depth_at x.depths (n1 + 1) ≡ Some n) c o2.0.0) (impure x.owner u zone (any_inside ks args) true j, may, o2.0.1) o2.0 (omega (arith, r)) (λ w. tt) in
        let n : length (constants_in args) + 0 ≡ length (constants_in args) = omega arith in
        segment_is x k _ _ at (h + 1) (h + 1) (plain u) _ _ _ _ _ n refl refl (segment_join x k _ _ at (h + count args) (h + 1) (plain u) (plain u) _ _ _ _ _ _ _ _ one two)
    tree_segment (Dosync body m) zone u d k h base start at tail j p a l s g r e o w =
        let not_pure = impure x.owner u zone false (outside_in ks body) j in
        let is = instrs_of body d base start (at + 1) k in
        let n1 = at + 1 + length is in
        let one = tree_segment body in_dosync (suc u) d k h base start (at + 1) None (omega arith, not_pure) p a l s g r o.0 (on_first x.depths x.stages (at + 1 + 1) (afters body (suc u) h) (state (h + 1) (plain u) ∷ []) o.1) tt in
        let o2 = states_rest x k _ (at + 1) (h + 1) (plain (suc u)) (afters body (suc u) h) is (spans_of body) _ one (state (h + 1) (plain u) ∷ []) o.1 in
        let low : u ≡ suc u - 1 = omega arith in
        let last = segment_one x (k + length (constants_of body)) 0 n1 (h + 1) (h + 1) (plain (suc u)) (plain u) instr.TxEnd m.span refl one.leaves one.high o2.0.0
        (omega arith, subst (λ n. stage_at x.stages (n1 + 1) ≡ Some (plain n)) low o2.0.1) o2.0 one.high (λ w. tt) in
        let inner = segment_join x k _ _ (at + 1) (h + 1) (h + 1) (plain (suc u)) (plain u) _ _ _ _ _ _ _ _ one last in
        let all = segment_cons x k _ at h h (h + 1) (plain u) (plain (suc u)) (plain u) instr.TxBegin _ _ m.span _ _ refl e g o.0.0 (not_pure, o.0.1) (λ w. tt) inner in
        let n : length (constants_of body) + 0 ≡ length (constants_of body) = omega arith in
        segment_is x k _ _ at (h + 1) (h + 1) (plain u) _ _ _ _ _ n refl refl all
    tree_segment (Look form cell m) zone u d k h base start at tail j p a l s g r e o w =
        let at_form = (rule (form_of.Look form)).stands in
        let not_pure = impure x.owner u zone (only_inside at_form || inside_in ks cell) (only_outside at_form || outside_in ks cell) j in
        let may = stands x.owner u zone (only_inside at_form || inside_in ks cell) (only_outside at_form || outside_in ks cell) false at_form p.0 (or_left (only_inside at_form) (inside_in ks cell)) (or_left (only_outside at_form) (outside_in ks cell)) j in
        let jc = nested_impure x.owner u zone (only_inside at_form || inside_in ks cell) (only_outside at_form || outside_in ks cell) (inside_in ks cell) (outside_in ks cell) (pure_in ks cell) (or_right (only_inside at_form) (inside_in ks cell)) (or_right (only_outside at_form) (outside_in ks cell)) j in
        let is = instrs_of cell d base start at k in
        let n1 = at + length is in
        let one = tree_segment cell zone u d k h base start at None jc p.1 a l s g r e (on_first x.depths x.stages (at + 1) (afters cell u h) (state (h + 1) (plain u) ∷ []) o) tt in
        let o2 = states_rest x k _ at (h + 1) (plain u) (afters cell u h) is (spans_of cell) _ one (state (h + 1) (plain u) ∷ []) o in
        let last = segment_one x (k + length (constants_of cell)) 0 n1 (h + 1) (h + 1) (plain u) (plain u) (instr.Look form) m.span refl one.leaves one.high (omega arith, o2.0.0) ((not_pure, may), o2.0.1) o2.0 one.high (λ w1. tt) in
        let n : length (constants_of cell) + 0 ≡ length (constants_of cell) = omega arith in
        segment_is x k _ _ at (h + 1) (h + 1) (plain u) _ _ _ _ _ n refl refl (segment_join x k _ _ at (h + 1) (h + 1) (plain u) (plain u) _ _ _ _ _ _ _ _ one last)
    tree_segment (Put form cell value m) zone u d k h base start at tail j p a l s g r e o w =
        let at_form = (rule (form_of.Put form)).stands in
        let here = only_inside at_form || (inside_in ks cell || inside_in ks value) in
        let out = only_outside at_form || (outside_in ks cell || outside_in ks value) in
        let not_pure = impure x.owner u zone here out j in
        let may = stands x.owner u zone here out false at_form p.0 (or_left (only_inside at_form) (inside_in ks cell || inside_in ks value)) (or_left (only_outside at_form) (outside_in ks cell || outside_in ks value)) j in
        let jr = nested_impure x.owner u zone here out (inside_in ks cell || inside_in ks value) (outside_in ks cell || outside_in ks value) (pure_in ks cell && pure_in ks value)
        (or_right (only_inside at_form) (inside_in ks cell || inside_in ks value)) (or_right (only_outside at_form) (outside_in ks cell || outside_in ks value)) j in
        let jc = nested_first x.owner u zone (inside_in ks cell) (inside_in ks value) (outside_in ks cell) (outside_in ks value) (pure_in ks cell) (pure_in ks value) jr in
        let jv = nested_second x.owner u zone (inside_in ks cell) (inside_in ks value) (outside_in ks cell) (outside_in ks value) (pure_in ks cell) (pure_in ks value) jr in
        let kc = k + length (constants_of cell) in
        let is = instrs_of cell d base start at k in
        let n1 = at + length is in
        let js = instrs_of value d base start n1 kc in
        let n2 = n1 + length js in
        let after = state (h + 1) (plain u) ∷ [] in
        let one = tree_segment cell zone u d k h base start at None jc p.1 (at_first x.constants k (constants_of cell) (constants_of value) a) l (omega (arith, s)) g (omega (arith, r)) e (on_first x.depths x.stages (at + 1) (afters cell u h) (afters value u (h + 1) ++ after) o) tt in
        let o2 = states_rest x k _ at (h + 1) (plain u) (afters cell u h) is (spans_of cell) _ one (afters value u (h + 1) ++ after) o in
        let two = tree_segment value zone u d kc (h + 1) base start n1 None jv p.2 (at_rest x.constants k (constants_of cell) (constants_of value) a) l (omega (arith, s)) one.high (omega (arith, r)) one.leaves (on_first x.depths x.stages (n1 + 1) (afters value u (h + 1)) after o2) tt in
        let o3 = states_rest x kc _ n1 (h + 1 + 1) (plain u) (afters value u (h + 1)) js (spans_of value) _ two after o2 in
        let low : h + 1 ≡ h + 1 + 1 - 1 = omega arith in
        let last = segment_one x (kc + length (constants_of value)) 0 n2 (h + 1 + 1) (h + 1) (plain u) (plain u) (instr.Put form) m.span refl two.leaves two.high
        (omega arith, subst (λ n. depth_at x.depths (n2 + 1) ≡ Some n) low o3.0.0) ((not_pure, may), o3.0.1) o3.0 one.high (λ w1. tt) in
        let inner = segment_join x kc _ _ n1 (h + 1 + 1) (h + 1) (plain u) (plain u) _ _ _ _ _ _ _ _ two last in
        let n : length (constants_of cell) + (length (constants_of value) + 0) ≡ length (constants_of cell ++ constants_of value) = omega (arith, length-append (constants_of cell) (constants_of value)) in
        let seen = seen_then x k _ at (h + 1) (plain u) (afters cell u h) is (spans_of cell) (gen cell d base start at) one (λ q. gen value d base start q ++ PutOf form m.span ∷ []) in
        segment_is x k _ _ at (h + 1) (h + 1) (plain u) _ _ _ _ _ n refl seen (segment_join x k _ _ at (h + 1) (h + 1) (plain u) (plain u) _ _ _ _ _ _ _ _ one inner)
    tree_segment (Update form cell callee args m) zone u d k h base start at tail j p a l s g r e o w =
        let at_form = (rule (form_of.Update form)).stands in
        let here = only_inside at_form || (inside_in ks cell || any_inside ks args) in
        let out = only_outside at_form || (outside_in ks cell || any_outside ks args) in
        let not_pure = impure x.owner u zone here out j in
        let may = stands x.owner u zone here out false at_form p.0 (or_left (only_inside at_form) (inside_in ks cell || any_inside ks args)) (or_left (only_outside at_form) (outside_in ks cell || any_outside ks args)) j in
        let jr = nested_impure x.owner u zone here out (inside_in ks cell || any_inside ks args) (outside_in ks cell || any_outside ks args) (pure_in ks cell && all_pure ks args)
        (or_right (only_inside at_form) (inside_in ks cell || any_inside ks args)) (or_right (only_outside at_form) (outside_in ks cell || any_outside ks args)) j in
        let jc = nested_first x.owner u zone (inside_in ks cell) (any_inside ks args) (outside_in ks cell) (any_outside ks args) (pure_in ks cell) (all_pure ks args) jr in
        let ja = nested_second x.owner u zone (inside_in ks cell) (any_inside ks args) (outside_in ks cell) (any_outside ks args) (pure_in ks cell) (all_pure ks args) jr in
        let c = count args in
        let kc = k + length (constants_of cell) in
        let ka = kc + length (constants_in args) in
        let is = instrs_of cell d base start at k in
        let n1 = at + length is in
        let js = instrs_of_all args d base start n1 kc in
        let n2 = n1 + length js in
        let after = updated form callee c u h in
        let one = tree_segment cell zone u d k h base start at None jc p.1 (at_first x.constants k (constants_of cell) (constants_in args) a) l (omega (arith, s)) g (omega (arith, r)) e (on_first x.depths x.stages (at + 1) (afters cell u h) (afters_all args u (h + 1) ++ after) o) tt in
        let o2 = states_rest x k _ at (h + 1) (plain u) (afters cell u h) is (spans_of cell) _ one (afters_all args u (h + 1) ++ after) o in
        let two = all_segment args zone u d kc (h + 1) base start n1 ja p.3 (at_rest x.constants k (constants_of cell) (constants_in args) a) l (omega (arith, s)) one.high (omega (arith, r)) one.leaves (on_first x.depths x.stages (n1 + 1) (afters_all args u (h + 1)) after o2) in
        let o3 = states_rest x kc _ n1 (h + 1 + c) (plain u) (afters_all args u (h + 1)) js (spans_of_all args) _ two after o2 in
        let last = update_segment form callee c u h ka n2 m.span p.2 (not_pure, may) two.leaves (omega (arith, r)) o3 in
        let inner = segment_join x kc _ _ n1 (h + 1 + c) (h + 1) (plain u) (plain u) _ _ _ _ _ _ _ _ two last in
        let n : length (constants_of cell) + (length (constants_in args) + 0) ≡ length (constants_of cell ++ constants_in args) = omega (arith, length-append (constants_of cell) (constants_in args)) in
        let seen = seen_then x k _ at (h + 1) (plain u) (afters cell u h) is (spans_of cell) (gen cell d base start at) one (λ q. gen_all args d base start q ++ (OpenOf (opening form callee) c m.span ∷ callee_code callee (suc c) m.span ∷ CloseOf form m.span ∷ [])) in
        segment_is x k _ _ at (h + 1) (h + 1) (plain u) _ _ _ _ _ n refl seen (segment_join x k _ _ at (h + 1) (h + 1) (plain u) (plain u) _ _ _ _ _ _ _ _ one inner)
    tree_segment (Send cell callee args m) zone u d k h base start at tail j p a l s g r e o w =
        let here = inside_in ks cell || any_inside ks args in
        let out = outside_in ks cell || any_outside ks args in
        let not_pure = impure x.owner u zone here out j in
        let jr = nested_impure x.owner u zone here out here out (pure_in ks cell && all_pure ks args) (λ q. q) (λ q. q) j in
        let jc = nested_first x.owner u zone (inside_in ks cell) (any_inside ks args) (outside_in ks cell) (any_outside ks args) (pure_in ks cell) (all_pure ks args) jr in
        let ja = nested_second x.owner u zone (inside_in ks cell) (any_inside ks args) (outside_in ks cell) (any_outside ks args) (pure_in ks cell) (all_pure ks args) jr in
        let c = count args in
        let kc = k + length (constants_of cell) in
        let is = instrs_of cell d base start at k in
        let n1 = at + length is in
        let js = instrs_of_all args d base start n1 kc in
        let n2 = n1 + length js in
        let after = state (h + 1) (plain u) ∷ [] in
        let one = tree_segment cell zone u d k h base start at None jc p.0 (at_first x.constants k (constants_of cell) (constants_in args) a) l (omega (arith, s)) g (omega (arith, r)) e (on_first x.depths x.stages (at + 1) (afters cell u h) (afters_all args u (h + 1) ++ after) o) tt in
        let o2 = states_rest x k _ at (h + 1) (plain u) (afters cell u h) is (spans_of cell) _ one (afters_all args u (h + 1) ++ after) o in
        let two = all_segment args zone u d kc (h + 1) base start n1 ja p.2 (at_rest x.constants k (constants_of cell) (constants_in args) a) l (omega (arith, s)) one.high (omega (arith, r)) one.leaves (on_first x.depths x.stages (n1 + 1) (afters_all args u (h + 1)) after o2) in
        let o3 = states_rest x kc _ n1 (h + 1 + c) (plain u) (afters_all args u (h + 1)) js (spans_of_all args) _ two after o2 in
        let low : h + 1 ≡ h + 1 + c - c = omega arith in
        let last = segment_one x (kc + length (constants_in args)) 0 n2 (h + 1 + c) (h + 1) (plain u) (plain u) (instr.Send callee c) m.span refl two.leaves two.high
        (omega arith, subst (λ n. depth_at x.depths (n2 + 1) ≡ Some n) low o3.0.0) ((not_pure, tt), callee_sent callee (suc c) p.1, o3.0.1) o3.0 one.high (λ w1. sent_takes callee c p.1) in
        let inner = segment_join x kc _ _ n1 (h + 1 + c) (h + 1) (plain u) (plain u) _ _ _ _ _ _ _ _ two last in
        let n : length (constants_of cell) + (length (constants_in args) + 0) ≡ length (constants_of cell ++ constants_in args) = omega (arith, length-append (constants_of cell) (constants_in args)) in
        let seen = seen_then x k _ at (h + 1) (plain u) (afters cell u h) is (spans_of cell) (gen cell d base start at) one (λ q. gen_all args d base start q ++ SendOf callee c m.span ∷ []) in
        segment_is x k _ _ at (h + 1) (h + 1) (plain u) _ _ _ _ _ n refl seen (segment_join x k _ _ at (h + 1) (h + 1) (plain u) (plain u) _ _ _ _ _ _ _ _ one inner)

    all_segment : (ts : Trees) (zone : Zone) (u d k h base start at : ℕ) →
        NestedAll u zone ts → SoundAll ks zone d ts → At x.constants k (constants_in ts) → d ≤ x.body.locals → stored_in ts d ≤ x.body.locals → h ≤ x.most → top_args ts h ≤ x.most →
        Here x.depths x.stages at h (plain u) → On x.depths x.stages (at + 1) (afters_all ts u h) →
        Segment x k (length (constants_in ts)) at (h + count ts) (plain u) (afters_all ts u h) (instrs_of_all ts d base start at k) (spans_of_all ts) (gen_all ts d base start at)
    all_segment none zone u d k h base start at j p a l s g r e o =
        let f : h ≡ h + 0 = omega arith in segment_is x k 0 0 at h (h + 0) (plain u) _ _ _ _ _ refl f refl (segment_nil x k at h (plain u) e g)
    all_segment (more t ts) zone u d k h base start at j p a l s g r e o =
        let jt = nested_first x.owner u zone (inside_in ks t) (any_inside ks ts) (outside_in ks t) (any_outside ks ts) (pure_in ks t) (all_pure ks ts) j in
        let jr = nested_second x.owner u zone (inside_in ks t) (any_inside ks ts) (outside_in ks t) (any_outside ks ts) (pure_in ks t) (all_pure ks ts) j in
        let kt = k + length (constants_of t) in
        let is = instrs_of t d base start at k in
        let n1 = at + length is in
        let one = tree_segment t zone u d k h base start at None jt p.0 (at_first x.constants k (constants_of t) (constants_in ts) a) l (omega (arith, s)) g (omega (arith, r)) e (on_first x.depths x.stages (at + 1) (afters t u h) (afters_all ts u (h + 1)) o) tt in
        let o2 = states_rest x k _ at (h + 1) (plain u) (afters t u h) is (spans_of t) _ one (afters_all ts u (h + 1)) o in
        let two = all_segment ts zone u d kt (h + 1) base start n1 jr p.1 (at_rest x.constants k (constants_of t) (constants_in ts) a) l (omega (arith, s)) one.high (omega (arith, r)) one.leaves o2 in
        let n : length (constants_of t) + length (constants_in ts) ≡ length (constants_of t ++ constants_in ts) = sym (length-append (constants_of t) (constants_in ts)) in
        let f : h + 1 + count ts ≡ h + suc (count ts) = omega arith in
        let seen = seen_then x k _ at (h + 1) (plain u) (afters t u h) is (spans_of t) (gen t d base start at) one (gen_all ts d base start) in
        segment_is x k _ _ at (h + 1 + count ts) (h + suc (count ts)) (plain u) _ _ _ _ _ n f seen (segment_join x k _ _ at (h + 1) (h + 1 + count ts) (plain u) (plain u) _ _ _ _ _ _ _ _ one two)

    let_segment : (ts : Trees) (span : Span) (zone : Zone) (u d k h base start at : ℕ) →
        NestedAll u zone ts → SoundLet ks zone d ts → At x.constants k (constants_in ts) → d ≤ x.body.locals → stored_let ts d ≤ x.body.locals → h ≤ x.most → top_in ts h ≤ x.most →
        Here x.depths x.stages at h (plain u) → On x.depths x.stages (at + 1) (afters_let ts u h) →
        Segment x k (length (constants_in ts)) at h (plain u) (afters_let ts u h) (instrs_of_let ts d base start at k) (spans_of_let span ts) (gen_let ts d base start at)
    let_segment none span zone u d k h base start at j p a l s g r e o = segment_nil x k at h (plain u) e g
    let_segment (more t ts) span zone u d k h base start at j p a l s g r e o =
        let jt = nested_first x.owner u zone (inside_in ks t) (any_inside ks ts) (outside_in ks t) (any_outside ks ts) (pure_in ks t) (all_pure ks ts) j in
        let jr = nested_second x.owner u zone (inside_in ks t) (any_inside ks ts) (outside_in ks t) (any_outside ks ts) (pure_in ks t) (all_pure ks ts) j in
        let kt = k + length (constants_of t) in
        let is = instrs_of t d base start at k in
        let n1 = at + length is in
        let one = tree_segment t zone u d k h base start at None jt p.0 (at_first x.constants k (constants_of t) (constants_in ts) a) l (omega (arith, s)) g (omega (arith, r)) e (on_first x.depths x.stages (at + 1) (afters t u h) (state h (plain u) ∷ afters_let ts u h) o) tt in
        let o2 = states_rest x k _ at (h + 1) (plain u) (afters t u h) is (spans_of t) _ one (state h (plain u) ∷ afters_let ts u h) o in
        let low : h ≡ h + 1 - 1 = omega arith in
        let two = let_segment ts span zone u (d + 1) kt h base start (n1 + 1) jr p.1 (at_rest x.constants k (constants_of t) (constants_in ts) a) (omega (arith, s)) (omega (arith, s)) g (omega (arith, r)) o2.0 o2.1 in
        let kept = segment_cons x kt _ n1 (h + 1) h h (plain u) (plain u) (plain u) (instr.Store d) (afters_let ts u h) _ span _ _ refl one.leaves one.high
        (omega arith, subst (λ n. depth_at x.depths (n1 + 1) ≡ Some n) low o2.0.0) o2.0.1 (λ w. omega (arith, s)) two in
        let n : length (constants_of t) + length (constants_in ts) ≡ length (constants_of t ++ constants_in ts) = sym (length-append (constants_of t) (constants_in ts)) in
        let seen = seen_then x k _ at (h + 1) (plain u) (afters t u h) is (spans_of t) (gen t d base start at) one (λ f. Store d ∷ gen_let ts (d + 1) base start (f + 1)) in
        segment_is x k _ _ at h h (plain u) _ _ _ _ _ n refl seen (segment_join x k _ _ at (h + 1) h (plain u) (plain u) _ _ _ _ _ _ _ _ one kept)

    do_segment : (ts : Trees) (span : Span) (zone : Zone) (u d k h base start at : ℕ) (tail : Option ℕ) →
        NestedAll u zone ts → SoundDo ks zone d tail ts → At x.constants k (constants_in ts) → d ≤ x.body.locals → stored_in ts d ≤ x.body.locals → h ≤ x.most → top_in ts h ≤ x.most →
        Here x.depths x.stages at h (plain u) → On x.depths x.stages (at + 1) (afters_do ts u h) → Loops x.depths x.stages base start d u h tail →
        Segment x k (length (constants_in ts)) at (h + 1) (plain u) (afters_do ts u h) (instrs_of_do ts d base start at k) (spans_of_do span ts) (gen_do ts d base start at)
    do_segment none span zone u d k h base start at tail j p a l s g r e o w = absurd p
    do_segment (more t none) span zone u d k h base start at tail j p a l s g r e o w =
        let jt = nested_first x.owner u zone (inside_in ks t) false (outside_in ks t) false (pure_in ks t) true j in
        let n : length (constants_of t) ≡ length (constants_of t ++ []) = ap length (sym (append-nil (constants_of t))) in
        segment_is x k _ _ at (h + 1) (h + 1) (plain u) _ _ _ _ _ n refl refl (tree_segment t zone u d k h base start at tail jt p (at_first x.constants k (constants_of t) [] a) l (omega (arith, s)) g (omega (arith, r)) e o w)
    do_segment (more t (more v ts)) span zone u d k h base start at tail j p a l s g r e o w =
        let jt = nested_first x.owner u zone (inside_in ks t) (any_inside ks (more v ts)) (outside_in ks t) (any_outside ks (more v ts)) (pure_in ks t) (all_pure ks (more v ts)) j in
        let jr = nested_second x.owner u zone (inside_in ks t) (any_inside ks (more v ts)) (outside_in ks t) (any_outside ks (more v ts)) (pure_in ks t) (all_pure ks (more v ts)) j in
        let kt = k + length (constants_of t) in
        let is = instrs_of t d base start at k in
        let n1 = at + length is in
        let one = tree_segment t zone u d k h base start at None jt p.0 (at_first x.constants k (constants_of t) (constants_in (more v ts)) a) l (omega (arith, s)) g (omega (arith, r)) e (on_first x.depths x.stages (at + 1) (afters t u h) (state h (plain u) ∷ afters_do (more v ts) u h) o) tt in
        let o2 = states_rest x k _ at (h + 1) (plain u) (afters t u h) is (spans_of t) _ one (state h (plain u) ∷ afters_do (more v ts) u h) o in
        let low : h ≡ h + 1 - 1 = omega arith in
        let two = do_segment (more v ts) span zone u d kt h base start (n1 + 1) tail jr p.1 (at_rest x.constants k (constants_of t) (constants_in (more v ts)) a) l (omega (arith, s)) g (omega (arith, r)) o2.0 o2.1 w in
        let kept = segment_cons x kt _ n1 (h + 1) h (h + 1) (plain u) (plain u) (plain u) instr.Pop (afters_do (more v ts) u h) _ span _ _ refl one.leaves one.high
        (omega arith, subst (λ n. depth_at x.depths (n1 + 1) ≡ Some n) low o2.0.0) o2.0.1 (λ w. tt) two in
        let n : length (constants_of t) + length (constants_in (more v ts)) ≡ length (constants_of t ++ constants_in (more v ts)) = sym (length-append (constants_of t) (constants_in (more v ts))) in
        let seen = seen_then x k _ at (h + 1) (plain u) (afters t u h) is (spans_of t) (gen t d base start at) one (λ f. Pop ∷ gen_do (more v ts) d base start (f + 1)) in
        segment_is x k _ _ at (h + 1) (h + 1) (plain u) _ _ _ _ _ n refl seen (segment_join x k _ _ at (h + 1) (h + 1) (plain u) (plain u) _ _ _ _ _ _ _ _ one kept)
