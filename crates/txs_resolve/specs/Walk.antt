-- What the walk's answers say.
use Rattle.std.specs.Prelude.{◌≡◌, ◌≤◌, ◌<◌, ◌-◌, ℕ, List, [], drop, length, Result, Ok, Err, IsOk}
use Rattle.txs_tree_meaning.specs.Tree.{Tree, Trees, Mark}
use Rattle.txs_tree_meaning.specs.declared.node.Node.{Node}
use Rattle.txs_tree_meaning.specs.View.{tree_of}
use Rattle.txs_resolve_expand.specs.Scope.{Scope, with_local, with_locals}
use Rattle.txs_resolve_expand.specs.declared.error.ResolveError.{ResolveError}
use Rattle.txs_resolve_expand.specs.declared.error.ResolveErrorKind.TheVariants.{TooMany}
use Rattle.txs_resolve_expand.specs.declared.shapes.Spot.{Spot}
use Rattle.txs_resolve_expand.specs.Expressions.{Answer, Bound}
use Rattle.txs_resolve.specs.BodyGiven.{row, Puts}
use Rattle.txs_resolve.specs.Made.{Makes}
use Rattle.txs_resolve.specs.declared.nodes.Nodes.{Nodes}
use Rattle.txs_resolve.specs.declared.stop.Stop.{Stop}
use Rattle.txs_resolve.specs.declared.stop.Stop.TheVariants.{Refused, Memory}
use Rattle.txs_resolve_expand.specs.declared.parts.Special.{Special}
use Rattle.txs_value_data.specs.Limits.{most_locals}

-- the node is the definition's, or the form is refused as the definition says; memory is wanted only for a form that isn't refused
abbrev pub Becomes : Result Node Stop → Answer Tree → Type 0
Becomes (Ok n) wanted = wanted ≡ Ok (tree_of n)
Becomes (Err (Refused e)) wanted = wanted ≡ Err e
Becomes (Err Memory) wanted = IsOk wanted

-- more nodes are behind these, of the definition's trees, unless they are lost; or it refuses
abbrev pub PushesAll : Result (Unit {0}) ResolveError → Nodes → Nodes → Answer Trees → Type 0
PushesAll (Ok u) before now wanted = (ts : List Tree) × (wanted ≡ Ok (row ts)) × Puts before now ts
PushesAll (Err e) before now wanted = wanted ≡ Err e

-- the same of the values of a `let`, behind which these names are in scope
abbrev pub PushesBound : Result (Unit {0}) ResolveError → Nodes → Nodes → Scope → Answer Bound → Type 0
PushesBound (Ok u) before now scope wanted = (ts : List Tree) × (wanted ≡ Ok (record { values = row ts; scope = scope })) × Puts before now ts
PushesBound (Err e) before now scope wanted = wanted ≡ Err e

-- the same of the parts of a special form, which are put together to the definition's tree
abbrev pub Fills : Result (Unit {0}) ResolveError → Special → Nodes → Nodes → Mark → Answer Tree → Type 0
Fills (Ok u) special before now m wanted = (ts : List Tree) × (t : Tree) × Makes special ts m t × (wanted ≡ Ok t) × Puts before now ts
Fills (Err e) special before now m wanted = wanted ≡ Err e

-- the inner scope has the outer one's locals behind its own, and the same definitions
abbrev pub IsWithin : Scope → Scope → Type 0
IsWithin outer inner =
    (length outer.locals ≤ length inner.locals)
    × (with_locals (drop (length inner.locals - length outer.locals) inner.locals) inner ≡ outer)

-- one more local is in scope, hidden, and this is its number; or there were 200
abbrev pub Hides : Result ℕ ResolveError → Spot → Scope → Scope → Type 0
Hides (Ok n) s before now = (n ≡ length before.locals) × (length before.locals < most_locals) × (now ≡ with_local [] before)
Hides (Err e) s before now = (most_locals ≤ length before.locals) × (e ≡ record { kind = TooMany; at = s.span })
