use Rattle.std.proofs.Common.{refl, sym, ap, ◌∙◌}
use Rattle.std.specs.List.{list_any}
use Rattle.txs_value_data.specs.Operations.{op_name, operations}
use Rattle.txs_value_data.specs.Places.{with_name}
use Rattle.txs_resolve_expand.specs.Scope.{form_name, form_names, is_dot}
use Rattle.txs_resolve_expand.proofs.Heads.{stands_so}
use Rattle.txs_resolve_expand.proofs.scope.Scope.lookup.Goals as goal

pub returns-in-Some : goal.returns-in-Some
returns-in-Some c =
    let form = c.in-Some.ensures ∙ ap (λ n. with_name form_name n form_names) c.as_bytes-bytes.ensures.value in
    stands_so c.args.name.now c.args.self.now _ _ _ _ _ _ form refl refl refl refl refl

pub returns-then-has_dot : goal.returns-then-has_dot
returns-then-has_dot c =
    let form = c.in_default.ensures ∙ ap (λ n. with_name form_name n form_names) c.as_bytes-bytes.ensures.value in
    let dot = sym c.if-has_dot.true ∙ c.has_dot.ensures ∙ ap (list_any is_dot) c.as_bytes-bytes.ensures.value in
    stands_so c.args.name.now c.args.self.now _ _ _ _ _ _ form dot refl refl refl refl

pub returns-in-Some-find : goal.returns-in-Some-find
returns-in-Some-find c =
    let form = c.in_default.ensures ∙ ap (λ n. with_name form_name n form_names) c.as_bytes-bytes.ensures.value in
    let dot = sym c.if-has_dot.false ∙ c.has_dot.ensures ∙ ap (list_any is_dot) c.as_bytes-bytes.ensures.value in
    stands_so c.args.name.now c.args.self.now _ _ _ _ _ _ form dot c.in-Some-find.ensures refl refl refl

pub returns-then-is_current : goal.returns-then-is_current
returns-then-is_current c =
    let form = c.in_default.ensures ∙ ap (λ n. with_name form_name n form_names) c.as_bytes-bytes.ensures.value in
    let dot = sym c.if-has_dot.false ∙ c.has_dot.ensures ∙ ap (list_any is_dot) c.as_bytes-bytes.ensures.value in
    let current = sym c.if-is_current.true ∙ c.is_current.ensures in
    stands_so c.args.name.now c.args.self.now _ _ _ _ _ _ form dot c.in_default-find.ensures current refl refl

pub returns-in-Some-definition : goal.returns-in-Some-definition
returns-in-Some-definition c =
    let form = c.in_default.ensures ∙ ap (λ n. with_name form_name n form_names) c.as_bytes-bytes.ensures.value in
    let dot = sym c.if-has_dot.false ∙ c.has_dot.ensures ∙ ap (list_any is_dot) c.as_bytes-bytes.ensures.value in
    let current = sym c.if-is_current.false ∙ c.is_current.ensures in
    stands_so c.args.name.now c.args.self.now _ _ _ _ _ _ form dot c.in_default-find.ensures current c.in-Some-definition.ensures refl

pub returns-in-Some-operation_of : goal.returns-in-Some-operation_of
returns-in-Some-operation_of c =
    let form = c.in_default.ensures ∙ ap (λ n. with_name form_name n form_names) c.as_bytes-bytes.ensures.value in
    let dot = sym c.if-has_dot.false ∙ c.has_dot.ensures ∙ ap (list_any is_dot) c.as_bytes-bytes.ensures.value in
    let current = sym c.if-is_current.false ∙ c.is_current.ensures in
    let op = c.in-Some-operation_of.ensures ∙ ap (λ n. with_name op_name n operations) c.as_bytes-bytes.ensures.value in
    stands_so c.args.name.now c.args.self.now _ _ _ _ _ _ form dot c.in_default-find.ensures current c.in_default-definition.ensures op

pub returns-in-None : goal.returns-in-None
returns-in-None c =
    let form = c.in_default.ensures ∙ ap (λ n. with_name form_name n form_names) c.as_bytes-bytes.ensures.value in
    let dot = sym c.if-has_dot.false ∙ c.has_dot.ensures ∙ ap (list_any is_dot) c.as_bytes-bytes.ensures.value in
    let current = sym c.if-is_current.false ∙ c.is_current.ensures in
    let op = c.in-None.ensures ∙ ap (λ n. with_name op_name n operations) c.as_bytes-bytes.ensures.value in
    stands_so c.args.name.now c.args.self.now _ _ _ _ _ _ form dot c.in_default-find.ensures current c.in_default-definition.ensures op
