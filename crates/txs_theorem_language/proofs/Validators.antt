-- What the name of a validator stands for.
use Rattle.std.proofs.Common.{◌≡◌, ◌≤◌, ℕ, Bool, true, List, Option, Some, None, Ok, nat_lt, if◌then◌else◌, refl, ap, ◌∙◌, arith}
use Rattle.std.proofs.lemmas.Bool.Decides.{nat_tests}
use Rattle.txs_value_data.specs.Operations.{op_name, operations}
use Rattle.txs_value_data.specs.declared.fault.Span.{Span}
use Rattle.txs_value_data.specs.declared.op.Op.{Op}
use Rattle.txs_value_data.specs.declared.op.Callee.{Callee}
use Rattle.txs_value_data.specs.declared.op.Callee.TheVariants.{Core as CoreOp, Function as TheFunction}
use Rattle.txs_reader.specs.Tree.{leaf, symbol}
use Rattle.txs_resolve_expand.specs.declared.scope.Definition.TheVariants.{Function as AFunction}
use Rattle.txs_value_data.specs.Places.{with_name}
use Rattle.txs_resolve_expand.specs.Scope.{Entry, Meaning, definition_of, may_bind}
use Rattle.txs_resolve_expand.specs.declared.error.ResolveErrorKind.TheVariants.{TooMany, UnknownName}
use Rattle.txs_resolve_expand.specs.Answers.{◌>>=◌, refuse}
use Rattle.txs_resolve_expand.specs.Expressions.{Answer, callee_at, spot_at}
use Rattle.txs_resolve.specs.Names.{top_scope, validator_named}
use Rattle.txs_theorem_language.proofs.Names.{defined_is, operation_is, unknown_is}

module _ (es : List Entry) (span : Span) (name : List ℕ) (at : Span) (lawful : may_bind name ≡ true) where
  abbrev called : Meaning → Answer (Option Callee)
  called m = callee_at m (spot_at 1001 span true) at >>= λ callee. Ok (Some callee)

  pub names_function : (n levels : ℕ) → definition_of name es ≡ Some (AFunction n levels) → levels ≤ 1000 → validator_named es span (Some (leaf (symbol name) at)) ≡ Ok (Some (TheFunction n))
  names_function n levels is le =
      let room : nat_lt levels 1001 ≡ true = grind (arith, nat_tests, le) in
      ap called (defined_is name (top_scope es) lawful tt refl (AFunction n levels) is)
      ∙ ap (λ (y : Bool). (if y then Ok (TheFunction n) else refuse TooMany span) >>= λ callee. Ok (Some callee)) room

  pub names_operation : (op : Op) → definition_of name es ≡ None → with_name op_name name operations ≡ Some op → validator_named es span (Some (leaf (symbol name) at)) ≡ Ok (Some (CoreOp op))
  names_operation op missing is = ap called (operation_is name (top_scope es) lawful tt refl op missing is)

  pub names_nothing : definition_of name es ≡ None → with_name op_name name operations ≡ None → validator_named es span (Some (leaf (symbol name) at)) ≡ refuse UnknownName at
  names_nothing missing is = ap called (unknown_is name (top_scope es) lawful tt refl missing is)
