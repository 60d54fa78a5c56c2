use Rattle.std.proofs.Common.{◌+◌, [], ◌∷◌, ◌++◌, drop, sym, ap, ◌∙◌}
use Rattle.txs_tree_meaning.specs.Known.{known_of, known_from}
use Rattle.txs_tree_meaning.specs.View.{function_of, functions_of}
use Rattle.txs_check.specs.Signatures.{bare, class_in, known_as}
use Rattle.txs_check.proofs.Lists.{functions_left}
use Rattle.txs_check.proofs.Same.{signature, row_same, from_same}
use Rattle.txs_check.proofs.class.signatures_of.Goals as goal

pub loop-function-preserved : goal.loop-function-preserved
loop-function-preserved c =
    let fs = c.args.functions.now in
    let i = c.loop-function.function-index in
    let f = function_of c.function-item.result in
    let rest = functions_of (drop (i + 1) fs) in
    let ss = c.loop-function.signatures.items in
    let ks = known_as ss in
    let row = signature f.parameters c.class_of-class.result in
    let same = c.class_of-class.ensures ∙ ap (λ l. class_in (known_as l) f.body) c.as_slice.ensures.value in
    let e = functions_left fs i c.function-item.result c.loop-function-test.true c.function-item.is in
    ap (λ l. bare (known_from (known_as l) rest)) c.in_ok-push.ensures.items
    ∙ from_same (ks ++ known_of ks f ∷ []) (known_as (ss ++ row ∷ [])) rest (row_same ss f c.class_of-class.result same)
    ∙ ap (λ l. bare (known_from ks l)) (sym e)
    ∙ c.loop-function.invariant
