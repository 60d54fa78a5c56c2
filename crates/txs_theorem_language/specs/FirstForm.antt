-- At which form of a script the resolution of names stops.
use Rattle.std.specs.Prelude.{◌≡◌, List, ◌∷◌, ◌++◌, Ok, Err}
use Rattle.txs_reader.specs.Tree.{PlainForm as Form}
use Rattle.txs_resolve_expand.specs.declared.error.ResolveError.{ResolveError}
use Rattle.txs_resolve_expand.specs.Namespace.{behind_namespace}
use Rattle.txs_resolve.specs.Names.{State, nothing, step, steps}

-- The top-level forms before one of them are all resolved, and that one, behind what they define, is refused so; whatever
-- is behind it, it is refused so.
pub record StopsAt (forms : List Form) (e : ResolveError) : Type 0 where
  pub before : List Form
  pub form : Form
  pub behind : List Form
  pub whole : behind_namespace forms ≡ before ++ form ∷ behind
  pub defined : State
  pub resolved : steps nothing before ≡ Ok defined
  pub refused : step defined form ≡ Err e
  pub always : (others : List Form) → steps nothing (before ++ form ∷ others) ≡ Err e
