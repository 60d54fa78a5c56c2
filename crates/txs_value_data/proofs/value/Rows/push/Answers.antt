use Rattle.std.proofs.Common.{◌≡◌, ◌<◌, ◌≤◌, ◌++◌, ◌∷◌, [], length, arith, ap, ◌∙◌, sym, subst}
use Rattle.txs_value_data.specs.Rows.{joined, AreRows}
use Rattle.txs_value_data.proofs.RowsLemmas.{leaves-push, leaves_full, branches-push, branches_full, row_alone}
use Rattle.txs_value_data.proofs.value.Rows.push.Goals as goal

pub invariant_of-self-then-len-lt32 : goal.invariant_of-self-then-len-lt32
invariant_of-self-then-len-lt32 c =
    let cs = c.self.inside.leaves.items in
    let room : length cs < 32 = omega (arith, c.self.inside.leaves.ok.0) in
    (c.self.invariant.0, leaves_full c.self.inside.branches.items cs c.args.self.now c.self.invariant.0 c.self.invariant.1 c.self.view_is c.push.new.self.items c.args.leaf c.in_ok-push.ensures.items c.requires.full room)

pub returns-then-len-lt32 : goal.returns-then-len-lt32
returns-then-len-lt32 c =
    leaves-push c.self.inside.branches.items c.self.inside.leaves.items c.args.self.now c.self.invariant.0 c.self.invariant.1 c.self.view_is c.push.new.self.items c.args.leaf c.in_ok-push.ensures.items

pub invariant_of-self-2 : goal.invariant_of-self-2
invariant_of-self-2 c =
    let bs = c.self.inside.branches.items in
    let cs = c.self.inside.leaves.items in
    let b = joined c.in_ok-shared.shared.value.items in
    let is : c.push-2.new.self.items ≡ bs ++ b ∷ [] = c.in_ok-push-2.ensures.items in
    let is_b : b ≡ joined cs = ap (λ v. joined v.items) (c.in_ok-shared.ensures.ok ∙ c.replace-full.ensures.value) in
    let many : 32 ≤ length cs = omega (arith, c.self.inside.leaves.ok.0) in
    let is_l : c.replace-full.new.dest.items ≡ c.args.leaf ∷ [] = ap (λ v. v.items) c.replace-full.ensures.after ∙ c.push_reserved.ensures.items ∙ ap (λ xs. xs ++ c.args.leaf ∷ []) c.in-Ok.ensures.items in
    (branches_full bs cs c.args.self.now c.self.invariant.0 c.self.invariant.1 c.self.view_is c.push-2.new.self.items b is is_b many c.requires.room, row_alone c.replace-full.new.dest.items c.args.leaf is_l c.requires.full)

pub returns : goal.returns
returns c =
    let bs = c.self.inside.branches.items in
    let cs = c.self.inside.leaves.items in
    let b = joined c.in_ok-shared.shared.value.items in
    let is : c.push-2.new.self.items ≡ bs ++ b ∷ [] = c.in_ok-push-2.ensures.items in
    let is_b : b ≡ joined cs = ap (λ v. joined v.items) (c.in_ok-shared.ensures.ok ∙ c.replace-full.ensures.value) in
    let is_l : c.replace-full.new.dest.items ≡ c.args.leaf ∷ [] = ap (λ v. v.items) c.replace-full.ensures.after ∙ c.push_reserved.ensures.items ∙ ap (λ xs. xs ++ c.args.leaf ∷ []) c.in-Ok.ensures.items in
    branches-push bs cs c.args.self.now c.self.invariant.0 c.self.invariant.1 c.self.view_is c.push-2.new.self.items c.replace-full.new.dest.items b c.args.leaf is is_b is_l

pub invariant_of-self-in_err-push-2 : goal.invariant_of-self-in_err-push-2
invariant_of-self-in_err-push-2 c =
    let is_l : c.replace-full.new.dest.items ≡ c.args.leaf ∷ [] = ap (λ v. v.items) c.replace-full.ensures.after ∙ c.push_reserved.ensures.items ∙ ap (λ xs. xs ++ c.args.leaf ∷ []) c.in-Ok.ensures.items in
    (subst (λ xs. AreRows 1024 64 xs) (sym c.in_err-push-2.ensures.items) c.self.invariant.0, row_alone c.replace-full.new.dest.items c.args.leaf is_l c.requires.full)

pub invariant_of-self-in_err-shared : goal.invariant_of-self-in_err-shared
invariant_of-self-in_err-shared c =
    let is_l : c.replace-full.new.dest.items ≡ c.args.leaf ∷ [] = ap (λ v. v.items) c.replace-full.ensures.after ∙ c.push_reserved.ensures.items ∙ ap (λ xs. xs ++ c.args.leaf ∷ []) c.in-Ok.ensures.items in
    (c.self.invariant.0, row_alone c.replace-full.new.dest.items c.args.leaf is_l c.requires.full)
