use Rattle.std.proofs.Common.{◌≡◌, ◌++◌, ◌∙◌, sym, ap, length, rules, arith}
use Rattle.txs_value_data.specs.Rows.{stored}
use Rattle.std.proofs.lemmas.List.{length-append}
use Rattle.txs_value_data.proofs.BodyLemmas.{body-pop, body-pop-leaf, made_mut}
use Rattle.txs_value_data.proofs.value.Body.pop.Goals as goal

pub returns-then-behind-gt0 : goal.returns-then-behind-gt0
returns-then-behind-gt0 c =
    let ds = stored c.self.inside.root in
    let es = c.self.inside.tail in
    let m = c.len-behind.result in
    ap (λ xs. ds ++ xs) c.truncate.ensures.values ∙ body-pop ds es c.args.self.now c.self.view_is m c.len-behind.ensures c.if-behind-gt0.true

pub returns : goal.returns
returns c =
    let root = c.in-Some.root in
    let es = c.self.inside.tail in
    let seen : root ++ es ≡ c.args.self.now = ap (λ r. stored r ++ es) (sym c.in-Some.is) ∙ c.self.view_is in
    let none : length es ≡ 0 = omega (arith, c.len-behind.ensures) in
    let leaf = c.in_ok-leaf.leaf in
    let row = c.in_ok-tail.tail in
    let rows : c.in_ok-rows.rows.now ≡ root = made_mut c.in_ok-rows.rows.now c.root.inside.shared.value c.in_ok-rows.ensures.value ∙ c.root.view_is in
    let ended : (c.make_mut.follows.lender c.pop.new.self).value ≡ c.pop.new.self = search (rules, c.make_mut.follows.holds c.pop.new.self) in
    rw ended
    (ap (λ xs. c.pop.new.self ++ xs) c.truncate-2.ensures.values ∙ body-pop-leaf root es c.args.self.now c.pop.new.self leaf row seen none (sym rows ∙ c.in_ok-leaf.ensures.rest) c.in_ok-leaf.ensures.full (c.in_ok-tail.ensures ∙ c.leaf.view_is))

pub pop-requires : goal.pop-requires
pop-requires c =
    let root = c.in-Some.root in
    let es = c.self.inside.tail in
    let seen : root ++ es ≡ c.args.self.now = ap (λ r. stored r ++ es) (sym c.in-Some.is) ∙ c.self.view_is in
    let none : length es ≡ 0 = omega (arith, c.len-behind.ensures) in
    let rows : c.in_ok-rows.rows.now ≡ root = made_mut c.in_ok-rows.rows.now c.root.inside.shared.value c.in_ok-rows.ensures.value ∙ c.root.view_is in
    omega (arith, c.requires, ap length seen, length-append root es, none, ap length rows)
