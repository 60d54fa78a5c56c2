-- Where the parts of forms stand, also those that expansions make of written ones.
use Rattle.std.proofs.Common.{◌≡◌, ℕ, ◌<◌, ◌≤◌, Bool, true, false, [], None, arith, if◌then◌else◌}
use Rattle.txs_value_data.specs.declared.fault.Span.{Span}
use Rattle.txs_reader.specs.declared.form.Bracket.TheVariants.{Round, Square}
use Rattle.txs_reader.specs.Tree.{PlainForm as Form, PlainForms as Forms, leaf, group, first, place, symbol, nil}
use Rattle.txs_reader.specs.Tree.{none as no_forms}
use Rattle.txs_resolve_expand.specs.declared.names.FormName.TheVariants as kind
use Rattle.txs_resolve_expand.specs.Expansions.{alone, form_at, hidden, is_alone, list, three}
use Rattle.txs_theorem_language.specs.TextOrder.{Nests, NestIn}

-- ---- written forms

pub nests_on : (f : Form) → Nests f → (place f).from < (place f).to
nests_on (leaf x span) h = h
nests_on (group b fs span) h = h.0

pub nest_ends : (m n : ℕ) (fs : Forms) → NestIn m n fs → m ≤ n
nest_ends m n no_forms h = h
nest_ends m n (first f fs) h = omega (arith, h.0, nests_on f h.1, nest_ends (place f).to n fs h.2)

pub nest_wider : (m n a b : ℕ) (fs : Forms) → m ≤ n → a ≤ b → NestIn n a fs → NestIn m b fs
nest_wider m n a b no_forms le ge h = omega (arith, le, ge, h)
nest_wider m n a b (first f fs) le ge h = (omega (arith, le, h.0), h.1, nest_wider (place f).to (place f).to a b fs (omega arith) ge h.2)

-- ---- forms that stand in a stretch of the text

-- a stretch within a written form, behind where it begins
pub record Frame (at : Span) (lo hi : ℕ) : Type 0 where
  pub begins : at.from < lo
  pub order : lo ≤ hi
  pub ends : hi ≤ at.to

-- what an expansion makes of the forms in such a stretch
pub data Made (at : Span) (lo hi : ℕ) : Form → Type 0 where
  made_nil : Made at lo hi (leaf nil at)
  made_hidden : Made at lo hi (leaf (symbol []) at)
  made_body : (fs : Forms) → NestIn lo hi fs → Made at lo hi (list kind.Do fs at)
  made_and : (f : Form) (fs : Forms) → NestIn lo hi (first f fs) → Made at lo hi (list kind.And (first f fs) at)
  made_or : (f : Form) (fs : Forms) → NestIn lo hi (first f fs) → Made at lo hi (list kind.Or (first f fs) at)
  made_cond : (fs : Forms) → NestIn lo hi fs → Made at lo hi (list kind.Cond fs at)
  chosen_and : (f : Form) (fs : Forms) → NestIn lo hi (first f fs) → Made at lo hi (list kind.If (three (hidden at) (list kind.And (first f fs) at) (hidden at)) at)
  chosen_or : (f : Form) (fs : Forms) → NestIn lo hi (first f fs) → Made at lo hi (list kind.If (three (hidden at) (hidden at) (list kind.Or (first f fs) at)) at)
  body_and : (f : Form) (fs : Forms) → NestIn lo hi (first f fs) → Made at lo hi (list kind.Do (first (list kind.If (three (hidden at) (list kind.And (first f fs) at) (hidden at)) at) no_forms) at)
  body_or : (f : Form) (fs : Forms) → NestIn lo hi (first f fs) → Made at lo hi (list kind.Do (first (list kind.If (three (hidden at) (hidden at) (list kind.Or (first f fs) at)) at) no_forms) at)

-- the front of a chain of operands, which has the place of the chain
pub record Front (at : Span) (lo hi : ℕ) (head e f : Form) (rest : Forms) : Type 0 where
  pub operation : form_at head ≡ None
  pub from : ℕ
  pub begins : lo ≤ at.from
  pub ends : hi ≤ at.to
  pub behind : at.from ≤ from
  pub head_before : (place head).from ≤ from
  pub nests : NestIn from hi (first e (first f rest))

-- a form stands in such a stretch
pub data Lies (at : Span) (lo hi : ℕ) : Form → Type 0 where
  is_written : (f : Form) → lo ≤ (place f).from → Nests f → (place f).to ≤ hi → Lies at lo hi f
  is_made : (f : Form) → Frame at lo hi → Made at lo hi f → Lies at lo hi f
  is_front : (head e f : Form) (rest : Forms) → Front at lo hi head e f rest → Lies at lo hi (group Round (first head (first e (first f rest))) at)

-- forms stand one behind the other in such a stretch
abbrev pub LieRow : Span → ℕ → ℕ → Forms → Type 0
LieRow at lo hi no_forms = lo ≤ hi
LieRow at lo hi (first f fs) = (mid : ℕ) × Lies at lo mid f × LieRow at mid hi fs

pub written_row : (at : Span) (lo hi : ℕ) (fs : Forms) → NestIn lo hi fs → LieRow at lo hi fs
written_row at lo hi no_forms h = h
written_row at lo hi (first f fs) h = ((place f).to, is_written f h.0 h.1 (omega arith), written_row at (place f).to hi fs h.2)

-- ---- the only part of a form

pub record AloneIn (f g : Form) : Type 0 where
  pub nests : Nests g
  pub begins : (place f).from ≤ (place g).from
  pub ends : (place g).to ≤ (place f).to

pub alone_written : (f : Form) → Nests f → AloneIn f (alone f)
alone_written (leaf x at) h = record { nests = h; begins = omega arith; ends = omega arith }
alone_written (group Square fs at) h = record { nests = h; begins = omega arith; ends = omega arith }
alone_written (group Round no_forms at) h = record { nests = h; begins = omega arith; ends = omega arith }
alone_written (group Round (first head no_forms) at) h = record { nests = h; begins = omega arith; ends = omega arith }
alone_written (group Round (first head (first e (first f rest))) at) h = record { nests = h; begins = omega arith; ends = omega arith }
alone_written (group Round (first head (first e no_forms)) at) h = by (alone_written e h.1.2.1) (is_alone (form_at head))
  where
    by : AloneIn e (alone e) → (y : Bool) → AloneIn (group Round (first head (first e no_forms)) at) (if y then alone e else group Round (first head (first e no_forms)) at)
    by k false = record { nests = h; begins = omega arith; ends = omega arith }
    by k true =
        record {
          nests = k.nests;
          begins = omega (arith, h.1.0, nests_on head h.1.1, h.1.2.0, k.begins);
          ends = omega (arith, k.ends, h.1.2.2);
        }

written_alone : (at : Span) (lo hi : ℕ) (f : Form) → lo ≤ (place f).from → Nests f → (place f).to ≤ hi → Lies at lo hi (alone f)
written_alone at lo hi f ge h le =
    let k = alone_written f h in
    is_written (alone f) (omega (arith, ge, k.begins)) k.nests (omega (arith, le, k.ends))

one_alone : (at : Span) (lo hi : ℕ) (f : Form) → NestIn lo hi (first f no_forms) → Lies at lo hi (alone f)
one_alone at lo hi f h = written_alone at lo hi f h.0 h.1 h.2

made_alone : (at : Span) (lo hi : ℕ) (f : Form) → Frame at lo hi → Made at lo hi f → Lies at lo hi (alone f)
made_alone at lo hi _ k made_nil = is_made _ k made_nil
made_alone at lo hi _ k made_hidden = is_made _ k made_hidden
made_alone at lo hi _ k (made_body no_forms h) = is_made _ k (made_body no_forms h)
made_alone at lo hi _ k (made_body (first e no_forms) h) = one_alone at lo hi e h
made_alone at lo hi _ k (made_body (first e (first f rest)) h) = is_made _ k (made_body (first e (first f rest)) h)
made_alone at lo hi _ k (made_and f no_forms h) = one_alone at lo hi f h
made_alone at lo hi _ k (made_and f (first g rest) h) = is_made _ k (made_and f (first g rest) h)
made_alone at lo hi _ k (made_or f no_forms h) = one_alone at lo hi f h
made_alone at lo hi _ k (made_or f (first g rest) h) = is_made _ k (made_or f (first g rest) h)
made_alone at lo hi _ k (made_cond no_forms h) = is_made _ k (made_cond no_forms h)
made_alone at lo hi _ k (made_cond (first f no_forms) h) = is_made _ k (made_cond (first f no_forms) h)
made_alone at lo hi _ k (made_cond (first f (first g rest)) h) = is_made _ k (made_cond (first f (first g rest)) h)
made_alone at lo hi _ k (chosen_and f fs h) = is_made _ k (chosen_and f fs h)
made_alone at lo hi _ k (chosen_or f fs h) = is_made _ k (chosen_or f fs h)
made_alone at lo hi _ k (body_and f fs h) = is_made _ k (chosen_and f fs h)
made_alone at lo hi _ k (body_or f fs h) = is_made _ k (chosen_or f fs h)

pub lies_alone : (at : Span) (lo hi : ℕ) (f : Form) → Lies at lo hi f → Lies at lo hi (alone f)
lies_alone at lo hi _ (is_written f ge h le) = written_alone at lo hi f ge h le
lies_alone at lo hi _ (is_made f k m) = made_alone at lo hi f k m
lies_alone at lo hi _ (is_front head e f rest k) = is_front head e f rest k

-- a form in a stretch begins before its end, and not before the written form
pub lies_from : (at : Span) (lo hi : ℕ) (f : Form) → at.from ≤ lo → Lies at lo hi f → at.from ≤ (place f).from
lies_from at lo hi _ le (is_written f ge h ends) = omega (arith, le, ge)
lies_from at lo hi _ le (is_made _ k made_nil) = omega arith
lies_from at lo hi _ le (is_made _ k made_hidden) = omega arith
lies_from at lo hi _ le (is_made _ k (made_body fs h)) = omega arith
lies_from at lo hi _ le (is_made _ k (made_and f fs h)) = omega arith
lies_from at lo hi _ le (is_made _ k (made_or f fs h)) = omega arith
lies_from at lo hi _ le (is_made _ k (made_cond fs h)) = omega arith
lies_from at lo hi _ le (is_made _ k (chosen_and f fs h)) = omega arith
lies_from at lo hi _ le (is_made _ k (chosen_or f fs h)) = omega arith
lies_from at lo hi _ le (is_made _ k (body_and f fs h)) = omega arith
lies_from at lo hi _ le (is_made _ k (body_or f fs h)) = omega arith
lies_from at lo hi _ le (is_front head e f rest k) = omega arith

pub lies_order : (at : Span) (lo hi : ℕ) (f : Form) → Lies at lo hi f → lo ≤ hi
lies_order at lo hi _ (is_written f ge h le) = omega (arith, ge, nests_on f h, le)
lies_order at lo hi _ (is_made f k m) = k.order
lies_order at lo hi _ (is_front head e f rest k) = omega (arith, k.begins, k.behind, nest_ends k.from hi (first e (first f rest)) k.nests)
