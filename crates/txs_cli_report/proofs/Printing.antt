-- What actors printed is written, one actor after the other.
use Rattle.std.proofs.Common.{◌≡◌, ◌+◌, ◌<◌, ◌≤◌, ◌++◌, ◌∷◌, ◌∙◌, ℕ, List, [], Option, length, get_or, drop, refl, sym, ap, append_assoc}
use Rattle.std.proofs.lemmas.List.{drop_all}
use Rattle.std.specs.Io.KnownBytes.{Appends}
use Rattle.txs_disasm.proofs.SentLemmas.{Sent-trans, Sent-whole}
use Rattle.txs_disasm.specs.Sent.{Sent}
use Rattle.txs_world_protocol.specs.declared.report.ActorReport.{ActorReport}
use Rattle.txs_cli_report.specs.Lines.{all_printed}
use Rattle.txs_cli_report.specs.Told.{IsBegun}
use Rattle.txs_cli_report.proofs.Threads.{dropped}

-- one more actor
pub printed_next : (a b c : Option (List ℕ)) (rs : List ActorReport) (k : ℕ) (r : ActorReport) (bytes : List ℕ) → k < length rs → r ≡ get_or rs k r → bytes ≡ r.printed.items
    → Sent a b (all_printed rs) (all_printed (drop k rs)) → Appends b c bytes → Sent a c (all_printed rs) (all_printed (drop (k + 1) rs))
printed_next a b c rs k r bytes l e is s p =
    let more = all_printed (drop (k + 1) rs) in
    let split : all_printed (drop k rs) ≡ bytes ++ more = ap (λ (xs : List ActorReport). all_printed xs) (dropped rs k r l e) ∙ ap (λ (xs : List ℕ). xs ++ more) (sym is) in
    Sent-trans a b c (all_printed rs) (all_printed (drop k rs)) more s (record { bytes = bytes; got = p; whole = split })

-- a beginning of what one more printed is a beginning of all
pub printed_begun : (a b c : Option (List ℕ)) (rs : List ActorReport) (k : ℕ) (r : ActorReport) (bytes : List ℕ) → k < length rs → r ≡ get_or rs k r → bytes ≡ r.printed.items
    → Sent a b (all_printed rs) (all_printed (drop k rs)) → IsBegun b c bytes → IsBegun a c (all_printed rs)
printed_begun a b c rs k r bytes l e is s h =
    let more = all_printed (drop (k + 1) rs) in
    let split : all_printed (drop k rs) ≡ bytes ++ more = ap (λ (xs : List ActorReport). all_printed xs) (dropped rs k r l e) ∙ ap (λ (xs : List ℕ). xs ++ more) (sym is) in
    let cut : all_printed (drop k rs) ≡ h.sent.bytes ++ (h.left ++ more) = split ∙ ap (λ (xs : List ℕ). xs ++ more) h.sent.whole ∙ append_assoc h.sent.bytes h.left more in
    record { left = h.left ++ more; sent = Sent-trans a b c (all_printed rs) (all_printed (drop k rs)) (h.left ++ more) s (record { bytes = h.sent.bytes; got = h.sent.got; whole = cut }) }

-- behind the last actor all is written
pub printed_all : (a b : Option (List ℕ)) (rs : List ActorReport) (k : ℕ) → length rs ≤ k → Sent a b (all_printed rs) (all_printed (drop k rs)) → Appends a b (all_printed rs)
printed_all a b rs k past s = Sent-whole a b (all_printed rs) (all_printed (drop k rs)) (ap (λ (xs : List ActorReport). all_printed xs) (drop_all k rs past)) s

-- what some actors printed and then others
pub printed_both : (rs ss : List ActorReport) → all_printed (rs ++ ss) ≡ all_printed rs ++ all_printed ss
printed_both [] ss = refl
printed_both (r ∷ rs) ss = ap (λ (l : List ℕ). r.printed.items ++ l) (printed_both rs ss) ∙ sym (append_assoc r.printed.items (all_printed rs) (all_printed ss))

-- with lines behind
pub printed_told : (rs ss : List ActorReport) (lines : List ℕ) → all_printed rs ++ (all_printed ss ++ lines) ≡ all_printed (rs ++ ss) ++ lines
printed_told rs ss lines = sym (append_assoc (all_printed rs) (all_printed ss) lines) ∙ ap (λ (l : List ℕ). l ++ lines) (sym (printed_both rs ss))
