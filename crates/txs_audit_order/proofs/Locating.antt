-- Where an event is in the traces.
use Rattle.std.proofs.Common.{◌≡◌, ◌<◌, ◌+◌, ℕ, zero, suc, List, [], ◌∷◌, length, map, Option, refl, sym, ap, ◌∙◌, arith}
use Rattle.std.proofs.lemmas.List.{length-map}
use Rattle.txs_value_data.specs.Places.{nth}
use Rattle.txs_theorem_audit.specs.Audited.{entry_of, nth_behind, ran_as, report_as}
use Rattle.txs_world_protocol.specs.declared.report.ActorReport.{ActorReport}
use Rattle.txs_world_protocol.specs.declared.report.Report.{Report}
use Rattle.txs_audit_order.specs.Named.{plain_entry}

behind_front : {A : Type 0} (xs ys : List A) (a : ℕ) → a < length xs → nth_behind xs ys a ≡ nth xs a
behind_front [] ys a lt = absurd (omega (arith, lt))
behind_front (x ∷ xs) ys zero lt = refl
behind_front (x ∷ xs) ys (suc a) lt = behind_front xs ys a (omega (arith, lt))

behind_past : {A : Type 0} (xs ys : List A) (a k : ℕ) → a ≡ length xs + k → nth_behind xs ys a ≡ nth ys k
behind_past [] ys a k e = let z : a ≡ k = omega (arith, e) in ap (nth ys) z
behind_past (x ∷ xs) ys zero k e = absurd (omega (arith, e))
behind_past (x ∷ xs) ys (suc a) k e = behind_past xs ys a k (omega (arith, e))

pub entry_nth : (xs : List ActorReport) (a : ℕ) → nth (map ran_as xs) a ≡ plain_entry (nth xs a)
entry_nth [] a = refl
entry_nth (x ∷ xs) zero = refl
entry_nth (x ∷ xs) (suc a) = entry_nth xs a

pub entry_thread : (r : Report) (a : ℕ) (o : Option ActorReport) → a < length r.threads.items → o ≡ nth r.threads.items a → plain_entry o ≡ entry_of (report_as r) a
entry_thread r a o lt e =
    let many = length-map r.threads.items ran_as in
    ap plain_entry e ∙ sym (entry_nth r.threads.items a) ∙ sym (behind_front (map ran_as r.threads.items) (map ran_as r.agents.items) a (omega (arith, lt, many)))

pub entry_agent : (r : Report) (a k : ℕ) (o : Option ActorReport) → a ≡ length r.threads.items + k → o ≡ nth r.agents.items k → plain_entry o ≡ entry_of (report_as r) a
entry_agent r a k o at e =
    let many = length-map r.threads.items ran_as in
    ap plain_entry e ∙ sym (entry_nth r.agents.items k) ∙ sym (behind_past (map ran_as r.threads.items) (map ran_as r.agents.items) a k (omega (arith, at, many)))
