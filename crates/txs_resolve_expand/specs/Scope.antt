-- What a name stands for, by the names in scope.
use Rattle.std.specs.Prelude.{ℕ, Bool, true, false, not, ◌&&◌, ◌==◌, bytes_eq, codes, List, [], ◌∷◌, length, Option, Some, None, if◌then◌else◌}
use Rattle.std.specs.List.{list_any}
use Rattle.txs_value_data.specs.Operations.{op_name, operations}
use Rattle.txs_value_data.specs.Places.{with_name}
use Rattle.txs_value_data.specs.declared.op.Op.{Op}
use Rattle.txs_resolve_expand.specs.declared.names.FormName.{FormName}
use Rattle.txs_resolve_expand.specs.declared.names.FormName.TheVariants as kind
use Rattle.txs_resolve_expand.specs.declared.scope.Definition.{Definition}

-- a name and what it is defined as
pub record Entry : Type 0 where
  pub name : List ℕ
  pub what : Definition

-- the names in scope: of the locals, the nearest first; what is defined, the first first; and the function that is being defined
pub record Scope : Type 0 where
  pub locals : List (List ℕ)
  pub defined : List Entry
  pub current : Option (List ℕ)

-- the same definitions with these locals
abbrev pub with_locals : List (List ℕ) → Scope → Scope
with_locals names scope = record { locals = names; defined = scope.defined; current = scope.current }

-- a scope with one more local, which is nearer than the others
abbrev pub with_local : List ℕ → Scope → Scope
with_local name scope = with_locals (name ∷ scope.locals) scope

-- the number of the first of these names that is this one: they are numbered from the last one on, from 0
abbrev pub number_in : List ℕ → List (List ℕ) → Option ℕ
number_in name [] = None
number_in name (n ∷ ns) = if bytes_eq name n then Some (length ns) else number_in name ns

-- the nearest local of this name: locals are numbered by nesting
abbrev pub local_number : List ℕ → Scope → Option ℕ
local_number name scope = number_in name scope.locals

-- what a name is defined as
abbrev pub definition_of : List ℕ → List Entry → Option Definition
definition_of name [] = None
definition_of name (e ∷ es) = if bytes_eq e.name name then Some e.what else definition_of name es

-- the function that is being defined has this name
abbrev pub is_current : List ℕ → Option (List ℕ) → Bool
is_current name None = false
is_current name (Some n) = bytes_eq n name

-- the name of a form
abbrev pub form_name : FormName → List ℕ
form_name kind.Ns = codes "ns"
form_name kind.Def = codes "def"
form_name kind.Defn = codes "defn"
form_name kind.Future = codes "future"
form_name kind.If = codes "if"
form_name kind.Do = codes "do"
form_name kind.Let = codes "let"
form_name kind.Loop = codes "loop"
form_name kind.Recur = codes "recur"
form_name kind.When = codes "when"
form_name kind.WhenNot = codes "when-not"
form_name kind.IfNot = codes "if-not"
form_name kind.And = codes "and"
form_name kind.Or = codes "or"
form_name kind.Cond = codes "cond"
form_name kind.Println = codes "println"
form_name kind.Dosync = codes "dosync"
form_name kind.Deref = codes "deref"
form_name kind.RefSet = codes "ref-set"
form_name kind.Alter = codes "alter"
form_name kind.Commute = codes "commute"
form_name kind.Ensure = codes "ensure"
form_name kind.Swap = codes "swap!"
form_name kind.Reset = codes "reset!"
form_name kind.Send = codes "send"
form_name kind.Ref = codes "ref"
form_name kind.Atom = codes "atom"
form_name kind.Agent = codes "agent"

-- the forms that have a name, which nothing else may have
abbrev pub form_names : List FormName
form_names =
    kind.Ns ∷ kind.Def ∷ kind.Defn ∷ kind.Future ∷ kind.If ∷ kind.Do ∷ kind.Let ∷ kind.Loop ∷ kind.Recur
    ∷ kind.When ∷ kind.WhenNot ∷ kind.IfNot ∷ kind.And ∷ kind.Or ∷ kind.Cond ∷ kind.Println ∷ kind.Dosync
    ∷ kind.Deref ∷ kind.RefSet ∷ kind.Alter ∷ kind.Commute ∷ kind.Ensure ∷ kind.Swap ∷ kind.Reset ∷ kind.Send
    ∷ kind.Ref ∷ kind.Atom ∷ kind.Agent ∷ []

-- a dot is the byte 46
abbrev pub is_dot : ℕ → Bool
is_dot b = b == 46

-- whether there is none
abbrev pub is_none : {A : Type 0} → Option A → Bool
is_none None = true
is_none (Some x) = false

-- a name that a local may have: that of no form, and without a dot
unfoldable pub may_bind : List ℕ → Bool
may_bind name = is_none (with_name form_name name form_names) && not (list_any is_dot name)

-- what a name may be for
pub data Meaning : Type 0 where
  a_form : FormName → Meaning
  dotted : Meaning
  a_local : ℕ → Meaning
  the_current : Meaning
  defined_as : Definition → Meaning
  operation : Op → Meaning
  unknown : Meaning

-- a form's name stands for the form, whatever else has it
abbrev pub or_form : Option FormName → Meaning → Meaning
or_form (Some f) other = a_form f
or_form None other = other

-- a local hides what is defined
abbrev pub or_local : Option ℕ → Meaning → Meaning
or_local (Some i) other = a_local i
or_local None other = other

-- a definition, else what a name stands for without one
abbrev pub or_defined : Option Definition → Meaning → Meaning
or_defined (Some d) other = defined_as d
or_defined None other = other

-- a core operation, else nothing
abbrev pub or_unknown : Option Op → Meaning
or_unknown (Some op) = operation op
or_unknown None = unknown

-- a form, else the nearest enclosing local, else the function that is being defined or an earlier definition, else a core operation
unfoldable pub meaning : List ℕ → Scope → Meaning
meaning name scope =
    or_form (with_name form_name name form_names)
    (if list_any is_dot name then dotted else
    or_local (local_number name scope)
    (if is_current name scope.current then the_current else
    or_defined (definition_of name scope.defined) (or_unknown (with_name op_name name operations))))
