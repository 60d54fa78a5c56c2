use Rattle.std.proofs.Common.{◌≡◌, drop}
use Rattle.txs_value_data.specs.Places.{with_name}
use Rattle.txs_resolve_expand.specs.Scope.{form_name, form_names}
use Rattle.txs_resolve_expand.proofs.names.form_of.Given as goal

abbrev pub invariant-loop-form : goal.invariant-loop-form
invariant-loop-form l = with_name form_name l.name form_names ≡ with_name form_name l.name (drop l.form-index l.form-items)
