-- Where the parts of a special form stand, once a form is expanded.
use Rattle.std.proofs.Common.{◌≡◌, ℕ, zero, suc, ◌<◌, ◌≤◌, ◌⊎◌, inl, inr, Bool, true, false, ◌&&◌, nat_lt, Option, Some, None, Ok, Err, refl, sym, ap, subst, ◌∙◌, arith, if◌then◌else◌}
use Rattle.std.proofs.lemmas.Bool.{false≢true}
use Rattle.txs_value_data.specs.declared.fault.Span.{Span}
use Rattle.txs_value_cell.specs.declared.form.CellForm.{CellForm}
use Rattle.txs_value_cell.specs.declared.form.CellForm.TheVariants as on_cell
use Rattle.txs_value_data.specs.declared.op.Op.{Op}
use Rattle.txs_value_data.specs.declared.op.Callee.{Callee}
use Rattle.txs_value_data.specs.declared.op.Callee.TheVariants.{Core as CoreOp, Function as TheFunction}
use Rattle.txs_reader.specs.declared.form.Bracket.TheVariants.{Round, Square}
use Rattle.txs_reader.specs.Tree.{PlainForm as Form, PlainForms as Forms, leaf, group, first, place, number, symbol, nil, truth, text, keyword, parts}
use Rattle.txs_reader.specs.Tree.{none as no_forms}
use Rattle.txs_resolve_expand.specs.declared.names.FormName.{FormName}
use Rattle.txs_resolve_expand.specs.declared.names.FormName.TheVariants as kind
use Rattle.txs_resolve_expand.specs.declared.scope.Definition.TheVariants.{Constant, Cell as ACell, Function as AFunction}
use Rattle.txs_resolve_expand.specs.Scope.{Scope, Meaning, a_form, dotted, a_local, the_current, defined_as, operation, unknown, meaning}
use Rattle.txs_resolve_expand.specs.declared.error.ResolveErrorKind.TheVariants.{BadForm, TooMany}
use Rattle.txs_resolve_expand.specs.declared.shapes.Sequence.{Sequence}
use Rattle.txs_resolve_expand.specs.declared.shapes.Sequence.TheVariants as sequence
use Rattle.txs_resolve_expand.specs.declared.shapes.Spot.{Spot}
use Rattle.txs_resolve_expand.specs.Answers.{◌>>=◌, refuse}
use Rattle.txs_resolve_expand.specs.Expansions.{alone, body, expand_once, expansion, expansion_by, form_at, hidden, is_even, list, or_same}
use Rattle.txs_resolve_expand.specs.Expressions.{Answer, Special, row, one_part, putting, choice, binding, changing, Core as ACore, whole, parted, some_room, callee_at, callee_of, are_pairs, cell_form, of_family, special, folds, is_chain, all_but_last, last_of, applied, list_core, core_of}
use Rattle.txs_theorem_language.specs.TextOrder.{Nests, NestIn}
use Rattle.txs_theorem_language.proofs.Windows.{nests_on, nest_ends, nest_wider, alone_written, Frame, Made, made_nil, made_hidden, made_body, made_and, made_or, made_cond, chosen_and, chosen_or, body_and, body_or, Front, Lies, is_written, is_made, is_front, LieRow, written_row}

-- names and values in turn, in a stretch
abbrev pub LiePairs : Span → ℕ → ℕ → Forms → Type 0
LiePairs at lo hi no_forms = lo ≤ hi
LiePairs at lo hi (first n no_forms) = ((place n).from < hi) × (lo ≤ hi)
LiePairs at lo hi (first n (first e fs)) = (mid : ℕ) × ((place n).from < mid) × Lies at lo mid e × LiePairs at mid hi fs

-- two branches where the one that is written first stands first in the tree, or begins where the choice does
abbrev pub IsStraight : ℕ → Form → Form → Type 0
IsStraight from a b = ((place (alone b)).from ≤ from) ⊎ ((place (alone a)).from ≤ (place (alone b)).from)

-- two branches that are turned
pub record Turned (at : Span) (lo hi : ℕ) (a b : Form) : Type 0 where
  pub mid : ℕ
  pub one : Lies at lo mid a
  pub other : Lies at mid hi b
  pub begins : at.from < (place (alone a)).from
  pub order : (place (alone a)).from < (place (alone b)).from

-- a branch alone, where nothing stands for the other
pub record Halved (at : Span) (lo hi : ℕ) (a b : Form) : Type 0 where
  pub is : b ≡ leaf nil at
  pub one : Lies at lo hi a
  pub other : Frame at lo lo

-- the branches of a choice
abbrev pub LieBranches : Bool → Span → ℕ → ℕ → Form → Form → Type 0
LieBranches false at lo hi a b = (mid : ℕ) × Lies at lo mid a × Lies at mid hi b × IsStraight at.from a b
LieBranches true at lo hi a b = Turned at lo hi a b ⊎ Halved at lo hi a b

-- parts in a row behind where the form begins; what stands first in a `do` may be the place of the written form
abbrev pub RowLies : Sequence → Span → ℕ → ℕ → Forms → Type 0
RowLies sequence.Do at lo hi fs = LieRow at lo hi fs
RowLies _ at lo hi fs = (lo ≤ at.from) × LieRow at at.from hi fs

-- where the parts of a special form stand that has this place
abbrev pub Fits : Span → ℕ → ℕ → Special → Type 0
Fits at lo hi (row k fs) = RowLies k at lo hi fs
Fits at lo hi (one_part k f) = (lo ≤ at.from) × (mid : ℕ) × (at.from ≤ mid) × Lies at mid hi f
Fits at lo hi (putting form r e) = (lo ≤ at.from) × (mid : ℕ) × Lies at at.from mid r × Lies at mid hi e
Fits at lo hi (choice turn c a b) = (mid : ℕ) × Lies at lo mid c × LieBranches turn at mid hi a b
Fits at lo hi (binding is_loop pairs fs) = (mid : ℕ) × LiePairs at lo mid pairs × Lies at mid hi fs
Fits at lo hi (changing k r f args) = (lo ≤ at.from) × (mid : ℕ) × Lies at at.from mid r × ((place f).from < mid) × (at.from < mid) × LieRow at mid hi args

-- what a form is has its parts there, or is refused before the end
abbrev pub Fit : Span → ℕ → ℕ → Answer ACore → Type 0
Fit at lo hi (Ok (whole x)) = lo ≤ hi
Fit at lo hi (Ok (parted sp)) = Fits at lo hi sp
Fit at lo hi (Err e) = e.at.from < hi

-- ---- what is refused

-- a refusal that begins before this offset
abbrev pub EndsBefore : {A : Type 0} → ℕ → Answer A → Type 0
EndsBefore hi (Ok x) = Unit {0}
EndsBefore hi (Err e) = e.at.from < hi

callee_before : (m : Meaning) (s : Spot) (at : Span) (hi : ℕ) → at.from < hi → s.span.from < hi → EndsBefore hi (callee_at m s at)
callee_before (a_form f) s at hi lt le = lt
callee_before dotted s at hi lt le = lt
callee_before (a_local i) s at hi lt le = lt
callee_before the_current s at hi lt le = lt
callee_before (defined_as (Constant v)) s at hi lt le = lt
callee_before (defined_as (ACell k)) s at hi lt le = lt
callee_before (defined_as (AFunction n l)) s at hi lt le = by (nat_lt l s.room)
  where
    by : (y : Bool) → EndsBefore hi (if y then Ok (TheFunction n) else refuse TooMany s.span)
    by true = tt
    by false = le
callee_before (operation op) s at hi lt le = tt
callee_before unknown s at hi lt le = lt

pub callee_of_before : (scope : Scope) (s : Spot) (form : Form) (hi : ℕ) → (place form).from < hi → s.span.from < hi → EndsBefore hi (callee_of scope s form)
callee_of_before scope s (leaf nil at) hi lt le = lt
callee_of_before scope s (leaf (truth b) at) hi lt le = lt
callee_of_before scope s (leaf (number z) at) hi lt le = lt
callee_of_before scope s (leaf (text bytes) at) hi lt le = lt
callee_of_before scope s (leaf (keyword name) at) hi lt le = lt
callee_of_before scope s (leaf (symbol name) at) hi lt le = callee_before (meaning name scope) s at hi lt le
callee_of_before scope s (group b forms at) hi lt le = lt

-- ---- lists by their names

-- the names and values of a binding vector
pairs_in : (at : Span) (m n lo hi : ℕ) (fs : Forms) → m ≤ lo → hi ≤ n → NestIn lo hi fs → LiePairs at m n fs
pairs_in at m n lo hi no_forms le ge h = omega (arith, le, ge, h)
pairs_in at m n lo hi (first x no_forms) le ge h = (omega (arith, nests_on x h.1, h.2, ge), omega (arith, le, h.0, nests_on x h.1, h.2, ge))
pairs_in at m n lo hi (first x (first e fs)) le ge h = (
  (place e).to,
  omega (arith, nests_on x h.1, h.2.0, nests_on e h.2.1),
  is_written e (omega (arith, le, h.0, nests_on x h.1, h.2.0)) h.2.1 (omega arith),
  pairs_in at (place e).to n (place e).to hi fs (omega arith) ge h.2.2,
)

module _ (scope : Scope) (s : Spot) (lo hi q : ℕ) (lq : lo ≤ q) (aq : s.span.from < q) (last : s.span.from < hi) (ends : hi ≤ s.span.to) where
  abbrev at : Span
  at = s.span

  -- what stands behind the head
  frame : (m n : ℕ) → q ≤ m → m ≤ n → n ≤ hi → Frame s.span m n
  frame m n ge le nle = record { begins = omega (arith, aq, ge); order = le; ends = omega (arith, nle, ends) }

  do_in : (e : Form) (rest : Forms) → NestIn q hi (first e rest) → LieRow s.span lo hi (first e rest)
  do_in e rest h = written_row s.span lo hi (first e rest) (nest_wider lo q hi hi (first e rest) lq (omega arith) h)

  body_in : (m : ℕ) (fs : Forms) → q ≤ m → NestIn m hi fs → Lies s.span m hi (body fs s.span)
  body_in m fs ge h = is_made (body fs s.span) (frame m hi ge (nest_ends m hi fs h) (omega arith)) (made_body fs h)

  logic_in : (e f : Form) (rest : Forms) (b : Form) → NestIn q hi (first e (first f rest)) → Made s.span (place e).to hi b → Fits s.span lo hi (binding false (first (hidden s.span) (first e no_forms)) b)
  logic_in e f rest b h made = (
    (place e).to,
    ((place e).to, omega (arith, aq, h.0, nests_on e h.1), is_written e (omega (arith, lq, h.0)) h.1 (omega arith), omega arith),
    is_made b (frame (place e).to hi (omega (arith, h.0, nests_on e h.1)) (nest_ends (place e).to hi (first f rest) h.2) (omega arith)) made,
  )

  cond_in : (c e : Form) (rest : Forms) → NestIn q hi (first c (first e rest)) → Fits s.span lo hi (choice false c e (list kind.Cond rest s.span))
  cond_in c e rest h =
      let f = frame (place e).to hi (omega (arith, h.0, nests_on c h.1, h.2.0, nests_on e h.2.1)) (nest_ends (place e).to hi rest h.2.2) (omega arith) in (
        (place c).to,
        is_written c (omega (arith, lq, h.0)) h.1 (omega arith),
        ((place e).to, is_written e h.2.0 h.2.1 (omega arith), is_made (list kind.Cond rest s.span) f (made_cond rest h.2.2), at_cond rest),
      )
    where
      at_cond : (fs : Forms) → IsStraight s.span.from e (list kind.Cond fs s.span)
      at_cond no_forms = inl (omega arith)
      at_cond (first f no_forms) = inl (omega arith)
      at_cond (first f (first g fs)) = inl (omega arith)

  -- two written branches
  written_straight : (a b : Form) → Nests a → Nests b → (place a).to ≤ (place b).from → IsStraight s.span.from a b
  written_straight a b ha hb le =
      let ka = alone_written a ha in
      let kb = alone_written b hb in
      inr (omega (arith, ka.ends, nests_on (alone a) ka.nests, kb.begins, le))

  -- `(if c a)`
  half_in : (m : ℕ) (a : Form) → q ≤ m → m ≤ hi → Lies s.span m hi a → LieBranches false s.span m hi a (leaf nil s.span)
  half_in m a ge le lies = (hi, lies, is_made (leaf nil s.span) (frame hi hi (omega (arith, ge, le)) (omega arith) (omega arith)) made_nil, inl (omega arith))

  module _ (own : lo ≤ s.span.from) where
    family_in : (o : Option CellForm) (args : Forms) → NestIn q hi args → Fit s.span lo hi (of_family o s.span args)
    family_in (Some (on_cell.Look form)) (first r no_forms) h = (own, s.span.from, omega arith, is_written r (omega (arith, aq, h.0)) h.1 h.2)
    family_in (Some (on_cell.Put form)) (first r (first e no_forms)) h =
        (own, (place r).to, is_written r (omega (arith, aq, h.0)) h.1 (omega arith), is_written e h.2.0 h.2.1 h.2.2)
    family_in (Some (on_cell.Update form)) (first r (first f args)) h =
        (own, (place f).to, is_written r (omega (arith, aq, h.0)) h.1 (omega (arith, h.2.0, nests_on f h.2.1)), nests_on f h.2.1, omega (arith, aq, h.0, nests_on r h.1, h.2.0, nests_on f h.2.1), written_row s.span (place f).to hi args h.2.2)
    family_in (Some on_cell.Send) (first r (first f args)) h =
        (own, (place f).to, is_written r (omega (arith, aq, h.0)) h.1 (omega (arith, h.2.0, nests_on f h.2.1)), nests_on f h.2.1, omega (arith, aq, h.0, nests_on r h.1, h.2.0, nests_on f h.2.1), written_row s.span (place f).to hi args h.2.2)
    family_in _ _ h = last

    own_row : (args : Forms) → NestIn q hi args → (lo ≤ s.span.from) × LieRow s.span s.span.from hi args
    own_row args h = (own, written_row s.span s.span.from hi args (nest_wider s.span.from q hi hi args (omega (arith, aq)) (omega arith) h))

    bound_fits : (is_loop : Bool) (pairs : Forms) (there : Span) (forms : Forms) → NestIn q hi (first (group Square pairs there) forms) → (y : Bool)
        → Fit s.span lo hi (if y then Ok (parted (binding is_loop pairs (body forms s.span))) else refuse BadForm s.span)
    bound_fits is_loop pairs there forms h false = last
    bound_fits is_loop pairs there forms h true = (
      there.to,
      pairs_in s.span lo there.to there.from there.to pairs (omega (arith, lq, h.0)) (omega arith) h.1.1,
      body_in there.to forms (omega (arith, h.0, h.1.0)) h.2,
    )

    -- two branches of an `if-not`: the test stands before them
    turned_in : (c a b : Form) → NestIn q hi (first c (first a (first b no_forms))) → Turned s.span (place c).to hi a b
    turned_in c a b h =
        let ka = alone_written a h.2.1 in
        let kb = alone_written b h.2.2.1 in
        record {
          mid = (place a).to;
          one = is_written a h.2.0 h.2.1 (omega arith);
          other = is_written b h.2.2.0 h.2.2.1 h.2.2.2;
          begins = omega (arith, aq, h.0, nests_on c h.1, h.2.0, ka.begins);
          order = omega (arith, ka.ends, nests_on (alone a) ka.nests, h.2.2.0, kb.begins);
        }

    special_in : (f : FormName) (args : Forms) → NestIn q hi args → Fit s.span lo hi (special f s args)
    special_in kind.If (first c (first a no_forms)) h = (
      (place c).to,
      is_written c (omega (arith, lq, h.0)) h.1 (omega arith),
      half_in (place c).to a (omega (arith, h.0, nests_on c h.1)) (omega (arith, h.2.0, nests_on a h.2.1, h.2.2)) (is_written a h.2.0 h.2.1 h.2.2),
    )
    special_in kind.If (first c (first a (first b no_forms))) h = (
      (place c).to,
      is_written c (omega (arith, lq, h.0)) h.1 (omega arith),
      ((place a).to, is_written a h.2.0 h.2.1 (omega arith), is_written b h.2.2.0 h.2.2.1 h.2.2.2, written_straight a b h.2.1 h.2.2.1 h.2.2.0),
    )
    special_in kind.IfNot (first c (first a no_forms)) h = (
      (place c).to,
      is_written c (omega (arith, lq, h.0)) h.1 (omega arith),
      inr (record { is = refl; one = is_written a h.2.0 h.2.1 h.2.2; other = frame (place c).to (place c).to (omega (arith, h.0, nests_on c h.1)) (omega arith) (omega (arith, h.2.0, nests_on a h.2.1, h.2.2)) }),
    )
    special_in kind.IfNot (first c (first a (first b no_forms))) h =
        ((place c).to, is_written c (omega (arith, lq, h.0)) h.1 (omega arith), inl (turned_in c a b h))
    special_in kind.Do (first e rest) h = do_in e rest h
    special_in kind.Let (first (group Square pairs there) forms) h = bound_fits false pairs there forms h (are_pairs pairs)
    special_in kind.Loop (first (group Square pairs there) forms) h = bound_fits true pairs there forms h (are_pairs pairs)
    special_in kind.Recur args h = own_row args h
    special_in kind.Println args h = own_row args h
    special_in kind.Dosync forms h =
        (own, q, omega (arith, aq), body_in q forms (omega arith) h)
    special_in name args h = family_in (cell_form name) args h

    -- a form by its name, expanded once
    abbrev by_name : FormName → Forms → Option Form → Answer ACore
    by_name name args (Some form) = core_of scope s form
    by_name name args None = special name s args

    cond_by : (c e : Form) (rest : Forms) → NestIn q hi (first c (first e rest)) → (y : Bool)
        → Fit s.span lo hi (by_name kind.Cond (first c (first e rest)) (if y then Some (list kind.If (first c (first e (first (list kind.Cond rest s.span) no_forms))) s.span) else None))
    cond_by c e rest h true = cond_in c e rest h
    cond_by c e rest h false = last

    named_in : (name : FormName) (args : Forms) → NestIn q hi args → Fit s.span lo hi (by_name name args (expansion name args s.span))
    named_in kind.When no_forms h = last
    named_in kind.When (first c es) h = (
      (place c).to,
      is_written c (omega (arith, lq, h.0)) h.1 (omega arith),
      half_in (place c).to (body es s.span) (omega (arith, h.0, nests_on c h.1)) (nest_ends (place c).to hi es h.2) (body_in (place c).to es (omega (arith, h.0, nests_on c h.1)) h.2),
    )
    named_in kind.WhenNot no_forms h = last
    named_in kind.WhenNot (first c es) h = (
      (place c).to,
      is_written c (omega (arith, lq, h.0)) h.1 (omega arith),
      inr (record { is = refl; one = body_in (place c).to es (omega (arith, h.0, nests_on c h.1)) h.2; other = frame (place c).to (place c).to (omega (arith, h.0, nests_on c h.1)) (omega arith) (nest_ends (place c).to hi es h.2) }),
    )
    named_in kind.And no_forms h = omega (arith, lq, h)
    named_in kind.And (first e no_forms) h = last
    named_in kind.And (first e (first f rest)) h = logic_in e f rest _ h (body_and f rest h.2)
    named_in kind.Or no_forms h = omega (arith, lq, h)
    named_in kind.Or (first e no_forms) h = last
    named_in kind.Or (first e (first f rest)) h = logic_in e f rest _ h (body_or f rest h.2)
    named_in kind.Cond no_forms h = omega (arith, lq, h)
    named_in kind.Cond (first c no_forms) h = last
    named_in kind.Cond (first c (first e rest)) h = cond_by c e rest h (is_even (parts rest))
    named_in kind.Do no_forms h = omega (arith, lq, h)
    named_in kind.Do (first e rest) h = special_in kind.Do (first e rest) h
    named_in kind.Ns args h = special_in kind.Ns args h
    named_in kind.Def args h = special_in kind.Def args h
    named_in kind.Defn args h = special_in kind.Defn args h
    named_in kind.Future args h = special_in kind.Future args h
    named_in kind.If args h = special_in kind.If args h
    named_in kind.Let args h = special_in kind.Let args h
    named_in kind.Loop args h = special_in kind.Loop args h
    named_in kind.Recur args h = special_in kind.Recur args h
    named_in kind.IfNot args h = special_in kind.IfNot args h
    named_in kind.Println args h = special_in kind.Println args h
    named_in kind.Dosync args h = special_in kind.Dosync args h
    named_in kind.Deref args h = special_in kind.Deref args h
    named_in kind.RefSet args h = special_in kind.RefSet args h
    named_in kind.Alter args h = special_in kind.Alter args h
    named_in kind.Commute args h = special_in kind.Commute args h
    named_in kind.Ensure args h = special_in kind.Ensure args h
    named_in kind.Swap args h = special_in kind.Swap args h
    named_in kind.Reset args h = special_in kind.Reset args h
    named_in kind.Send args h = special_in kind.Send args h
    named_in kind.Ref args h = special_in kind.Ref args h
    named_in kind.Atom args h = special_in kind.Atom args h
    named_in kind.Agent args h = special_in kind.Agent args h

    -- a list with a form's name at its head
    list_in : (head : Form) (args : Forms) (name : FormName) → form_at head ≡ Some name → NestIn q hi args → Fit s.span lo hi (core_of scope s (expand_once (group Round (first head args) s.span)))
    list_in head args name is h = subst (Fit s.span lo hi) (sym (ap (λ o. core_of scope s (or_same (expansion_by o args s.span) (group Round (first head args) s.span))) is ∙ same (expansion name args s.span))) (named_in name args h)
      where
        same : (o : Option Form) → core_of scope s (or_same o (group Round (first head args) s.span)) ≡ by_name name args o
        same (Some form) = refl
        same None = ap (λ o. list_core o scope s head args) is

-- ---- calls

and_right : (a b : Bool) → (a && b) ≡ true → b ≡ true
and_right true b h = h
and_right false b h = absurd (false≢true h)

-- all but the last of forms in a row, and the last
record Split (lo hi : ℕ) (front : Forms) (end : Form) : Type 0 where
  mid : ℕ
  nests : NestIn lo mid front
  begins : mid ≤ (place end).from
  on : Nests end
  ends : (place end).to ≤ hi

nest_split : (lo hi : ℕ) (g : Form) (rest : Forms) → NestIn lo hi (first g rest) → Split lo hi (all_but_last (first g rest)) (last_of g rest)
nest_split lo hi g no_forms h = record { mid = lo; nests = omega arith; begins = h.0; on = h.1; ends = h.2 }
nest_split lo hi g (first f rest) h =
    let k = nest_split (place g).to hi f rest h.2 in
    record { mid = k.mid; nests = (h.0, h.1, k.nests); begins = k.begins; on = k.on; ends = k.ends }

module _ (scope : Scope) (s : Spot) (lo hi : ℕ) (own : lo ≤ s.span.from) (last : s.span.from < hi) (ends : hi ≤ s.span.to) (head : Form) (none : form_at head ≡ None) (q : ℕ) (aq : s.span.from ≤ q) (hq : (place head).from ≤ q) where
  -- a chain is its front, and the last operand
  chain_in : (op : Op) (args : Forms) → NestIn q hi args → (y : Bool) → is_chain op (parts args) ≡ y
      → LieRow s.span s.span.from hi (if y then first (group Round (first head (all_but_last args)) s.span) (first (last_of head args) no_forms) else args)
  chain_in op args h false is = written_row s.span s.span.from hi args (nest_wider s.span.from q hi hi args aq (omega arith) h)
  chain_in op no_forms h true is = absurd (false≢true (and_right (folds op) false is))
  chain_in op (first e no_forms) h true is = absurd (false≢true (and_right (folds op) false is))
  chain_in op (first e (first f no_forms)) h true is = absurd (false≢true (and_right (folds op) false is))
  chain_in op (first e (first f (first g rest))) h true is =
      let k = nest_split (place f).to hi g rest h.2.2 in
      let front : Front s.span s.span.from k.mid head e f (all_but_last (first g rest)) = record { operation = none; from = q; begins = omega arith; ends = omega (arith, ends, nests_on (last_of g rest) k.on, k.begins, k.ends); behind = aq; head_before = hq; nests = (h.0, h.1, (h.2.0, h.2.1, k.nests)) } in (
        k.mid,
        is_front head e f (all_but_last (first g rest)) front,
        (hi, is_written (last_of g rest) k.begins k.on k.ends, omega arith),
      )

  applied_in : (callee : Callee) (args : Forms) → NestIn q hi args → Fit s.span lo hi (Ok (applied callee head args s.span))
  applied_in (CoreOp op) args h = (own, chain_in op args h (is_chain op (parts args)) refl)
  applied_in (TheFunction n) args h = (own, written_row s.span s.span.from hi args (nest_wider s.span.from q hi hi args aq (omega arith) h))

  -- a list that has no form's name at its head
  called_in : (args : Forms) → NestIn q hi args → (place head).from < hi → Fit s.span lo hi (core_of scope s (expand_once (group Round (first head args) s.span)))
  called_in args h lt =
      subst (Fit s.span lo hi) (sym (ap (λ o. core_of scope s (or_same (expansion_by o args s.span) (group Round (first head args) s.span))) none ∙ ap (λ o. list_core o scope s head args) none))
      (by_room s.room (callee_of scope s head) (callee_of_before scope s head hi lt last))
    where
      by_room : (n : ℕ) (x : Answer Callee) → EndsBefore hi x → Fit s.span lo hi (some_room n (refuse TooMany s.span) (x >>= λ callee. Ok (applied callee head args s.span)))
      by_room zero x k = last
      by_room (suc n) (Ok callee) k = applied_in callee args h
      by_room (suc n) (Err e) k = k

-- ---- any form, once it is no other's only part

-- a written form within its own place
pub written_fits : (scope : Scope) (room : ℕ) (wanted : Bool) (f : Form) → Nests f → Fit (place f) (place f).from (place f).to (core_of scope (record { room = room; span = place f; wanted = wanted }) (expand_once f))
written_fits scope room wanted (leaf x at) h = omega (arith, h)
written_fits scope room wanted (group Square fs at) h = (omega arith, written_row at at.from at.to fs h.1)
written_fits scope room wanted (group Round no_forms at) h = h.0
written_fits scope room wanted (group Round (first head args) at) h = by (form_at head) refl
  where
    s : Spot
    s = record { room = room; span = at; wanted = wanted }

    by : (o : Option FormName) → form_at head ≡ o → Fit at at.from at.to (core_of scope s (expand_once (group Round (first head args) at)))
    by (Some name) is = list_in scope s at.from at.to (place head).to (omega (arith, h.1.0, nests_on head h.1.1)) (omega (arith, h.1.0, nests_on head h.1.1)) h.0 (omega arith) (omega arith) head args name is h.1.2
    by None is = called_in scope s at.from at.to (omega arith) h.0 (omega arith) head is (place head).to (omega (arith, h.1.0, nests_on head h.1.1)) (omega (arith, nests_on head h.1.1)) args h.1.2 (omega (arith, nests_on head h.1.1, nest_ends (place head).to at.to args h.1.2))

or_straight : (at : Span) (lo hi : ℕ) (f : Form) (fs : Forms) → at.from < lo → NestIn lo hi (first f fs) → IsStraight at.from (hidden at) (list kind.Or (first f fs) at)
or_straight at lo hi f no_forms lt h = inr (omega (arith, lt, h.0, (alone_written f h.1).begins))
or_straight at lo hi f (first g fs) lt h = inr (omega arith)

-- what an expansion makes
pub made_fits : (scope : Scope) (room : ℕ) (wanted : Bool) (at : Span) (lo hi : ℕ) (f : Form) → Frame at lo hi → Made at lo hi f → Fit at lo hi (core_of scope (record { room = room; span = at; wanted = wanted }) (expand_once f))
made_fits scope room wanted at lo hi _ k made_nil = k.order
made_fits scope room wanted at lo hi _ k made_hidden = k.order
made_fits scope room wanted at lo hi _ k (made_body no_forms h) = h
made_fits scope room wanted at lo hi _ k (made_body (first e rest) h) = written_row at lo hi (first e rest) h
made_fits scope room wanted at lo hi _ k (made_and f no_forms h) = omega (arith, k.begins, k.order)
made_fits scope room wanted at lo hi _ k (made_and f (first g rest) h) =
    logic_in scope (record { room = room; span = at; wanted = wanted }) lo hi lo (omega arith) k.begins (omega (arith, k.begins, k.order)) k.ends f g rest _ h (body_and g rest h.2)
made_fits scope room wanted at lo hi _ k (made_or f no_forms h) = omega (arith, k.begins, k.order)
made_fits scope room wanted at lo hi _ k (made_or f (first g rest) h) =
    logic_in scope (record { room = room; span = at; wanted = wanted }) lo hi lo (omega arith) k.begins (omega (arith, k.begins, k.order)) k.ends f g rest _ h (body_or g rest h.2)
made_fits scope room wanted at lo hi _ k (made_cond no_forms h) = h
made_fits scope room wanted at lo hi _ k (made_cond (first c no_forms) h) = omega (arith, k.begins, k.order)
made_fits scope room wanted at lo hi _ k (made_cond (first c (first e rest)) h) = by (is_even (parts rest))
  where
    s : Spot
    s = record { room = room; span = at; wanted = wanted }

    by : (y : Bool) → Fit at lo hi (core_of scope s (or_same (if y then Some (list kind.If (first c (first e (first (list kind.Cond rest at) no_forms))) at) else None) (list kind.Cond (first c (first e rest)) at)))
    by true = cond_in scope s lo hi lo (omega arith) k.begins (omega (arith, k.begins, k.order)) k.ends c e rest h
    by false = omega (arith, k.begins, k.order)
made_fits scope room wanted at lo hi _ k (chosen_and f fs h) = (
  lo,
  is_made (hidden at) (record { begins = k.begins; order = omega arith; ends = omega (arith, k.order, k.ends) }) made_hidden,
  (hi, is_made _ k (made_and f fs h), is_made (hidden at) (record { begins = omega (arith, k.begins, k.order); order = omega arith; ends = k.ends }) made_hidden, inl (omega arith)),
)
made_fits scope room wanted at lo hi _ k (chosen_or f fs h) =
    let here = is_made (hidden at) (record { begins = k.begins; order = omega arith; ends = omega (arith, k.order, k.ends) }) made_hidden in
    (lo, here, (lo, here, is_made _ k (made_or f fs h), or_straight at lo hi f fs k.begins h))
made_fits scope room wanted at lo hi _ k (body_and f fs h) = (hi, is_made _ k (chosen_and f fs h), omega arith)
made_fits scope room wanted at lo hi _ k (body_or f fs h) = (hi, is_made _ k (chosen_or f fs h), omega arith)

-- the front of a chain
pub front_fits : (scope : Scope) (room : ℕ) (wanted : Bool) (at : Span) (lo hi : ℕ) (head e f : Form) (rest : Forms) → Front at lo hi head e f rest
    → Fit at lo hi (core_of scope (record { room = room; span = at; wanted = wanted }) (expand_once (group Round (first head (first e (first f rest))) at)))
front_fits scope room wanted at lo hi head e f rest k =
    let lt : k.from < hi = omega (arith, k.nests.0, nests_on e k.nests.1, nest_ends (place e).to hi (first f rest) k.nests.2) in
    called_in scope (record { room = room; span = at; wanted = wanted }) lo hi k.begins (omega (arith, k.behind, lt)) k.ends head k.operation k.from k.behind k.head_before (first e (first f rest)) k.nests (omega (arith, k.head_before, lt))
