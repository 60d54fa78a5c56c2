use Rattle.std.proofs.Common.{◌≡◌, ◌∙◌, ℕ, List, ap, refl, rules}
use Rattle.txs_world_protocol.specs.Ask.{Writes}
use Rattle.txs_world_protocol.specs.declared.ask.Ask.TheVariants.{Commit}
use Rattle.txs_value_cell.specs.declared.action.Action.{Action}
use Rattle.txs_value_data.specs.declared.value.CellId.{CellId}
use Rattle.txs_machine_transaction.proofs.asks.commit_with.Goals as goal

-- with equal parts it is the same ask
same_parts : (at view : ℕ) (ws vs ts us : Writes) (es cs : List CellId) (xs ys : List Action) → ws ≡ vs → es ≡ cs → ts ≡ us → xs ≡ ys → Commit at ws es view ts xs ≡ Commit at vs cs view us ys
same_parts at view ws vs ts us es cs xs ys e f g h =
    ap (λ (is : Writes). Commit at is es view ts xs) e ∙ ap (λ (is : List CellId). Commit at vs is view ts xs) f ∙ ap (λ (is : Writes). Commit at vs cs view is xs) g ∙ ap (λ (is : List Action). Commit at vs cs view us is) h

pub returns : goal.returns
returns c =
    same_parts c.args.at c.args.view _ _ _ _ _ _ _ _ (c.from_vec-sets.ensures ∙ c.in_ok-writes.ensures) (c.in_ok-ensured.ensures ∙ c.ensured.ensures) (search rules) refl
