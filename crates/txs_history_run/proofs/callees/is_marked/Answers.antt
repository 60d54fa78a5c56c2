use Rattle.std.proofs.Common.{◌≡◌, ◌<◌, length, get_or, refl, rules, Some, None, Option}
use Rattle.std.proofs.lemmas.Bool.{false≢true}
use Rattle.txs_verify.specs.declared.walk.Mark.{Mark}
use Rattle.txs_history_run.proofs.Sent.{mark_read, no_mark}
use Rattle.txs_history_run.proofs.callees.is_marked.Goals as goal

pub returns-in-Some : goal.returns-in-Some
returns-in-Some c =
    let ms = c.args.places.now in
    let m = c.in-Some.field-0 in
    let within : c.args.at < length ms = search rules in
    let read : Some m ≡ get_or ms c.args.at (Some m) = search rules in
    ((λ t. (m, mark_read ms c.args.at (Some m) within read)), (λ x. refl))

pub returns-in-None : goal.returns-in-None
returns-in-None c =
    let ms = c.args.places.now in
    let none : Option Mark = None in
    let within : c.args.at < length ms = search rules in
    let read : none ≡ get_or ms c.args.at none = search rules in
    ((λ t. absurd (false≢true t)), (λ x. no_mark ms c.args.at x.0 (mark_read ms c.args.at none within read) x.1))
