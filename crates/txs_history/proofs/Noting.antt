-- What becomes of a log by an ask.
use Rattle.std.proofs.Common.{ℕ, Bool, true, false, [], sym, ◌∙◌}
use Rattle.std.proofs.lemmas.List.{append-nil}
use mathlib.Core.List.{IsPrefix}
use Rattle.txs_history.proofs.Adding.{added_prefix}
use Rattle.txs_history.specs.declared.asked.Asked.{Asked}
use Rattle.txs_history.specs.Asked.{History}
use Rattle.txs_history.specs.Logged.{Noted, WasNoted}

-- the log goes on
pub noted_on : (m : Bool) (key : ℕ) (own past new seen : History) (e : Asked) → WasNoted m key own past new seen e → IsPrefix own new
noted_on m key own past new seen e n = go m n.done
  where
    go : (b : Bool) → Noted b key own past n.before new seen e → IsPrefix own new
    go true d = ([], append-nil own ∙ sym d.0)
    go false d = added_prefix key own past new e (record { before = n.before; own = n.own_is; past = n.past_is; same = n.same; added = d.0 })
