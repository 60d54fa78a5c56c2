-- Which events sent the actions of each cell's agent.
use Rattle.std.proofs.Common.{◌≡◌, ◌<◌, ◌==◌, ℕ, zero, suc, Bool, true, false, List, [], ◌∷◌, ◌++◌, length, map, get_or, set, replicate, refl, sym, ap, ◌∙◌, subst, arith, append-nil, if◌then◌else◌}
use Rattle.std.proofs.lemmas.Bool.{eqb-true, eq-eqb, false≢true}
use Rattle.std.proofs.lemmas.List.{append_assoc, get_or-replicate, get_or-set_other, get_or-set_same, length-replicate, length-set, map-append}
use Rattle.txs_value_cell.specs.declared.action.Action.{Action}
use Rattle.txs_world_book.specs.Book.{sent_to}
use Rattle.txs_world_protocol.specs.declared.event.Event.{Event}
use Rattle.txs_theorem_serial.specs.Order.{senders_from, sent_by}
use Rattle.txs_audit_order.specs.Sent.{AreSenders, in_store, with_events, with_sender, with_sent}

sender_many : (rows : List (List ℕ)) (m k : ℕ) → length (with_sender rows m k) ≡ length rows
sender_many rows m k = length-set rows m (get_or rows m [] ++ k ∷ [])

sent_many : (rows : List (List ℕ)) (k : ℕ) (xs : List Action) → length (with_sent rows k xs) ≡ length rows
sent_many rows k [] = refl
sent_many rows k (x ∷ xs) = sent_many (with_sender rows x.agent.number k) k xs ∙ sender_many rows x.agent.number k

events_many : (rows : List (List ℕ)) (k : ℕ) (es : List Event) → length (with_events rows k es) ≡ length rows
events_many rows k [] = refl
events_many rows k (e ∷ es) = events_many (with_sent rows k (sent_by e.kind)) (suc k) es ∙ sent_many rows k (sent_by e.kind)

-- a cell's row after one action more
one_sent : (rows : List (List ℕ)) (m k n : ℕ) → n < length rows → (t : Bool) → (m == n) ≡ t → get_or (with_sender rows m k) n [] ≡ (if t then get_or rows n [] ++ k ∷ [] else get_or rows n [])
one_sent rows m k n lt true e =
    let same : m ≡ n = eqb-true m n e in
    subst (λ j. get_or (set rows j (get_or rows j [] ++ k ∷ [])) n [] ≡ get_or rows n [] ++ k ∷ []) (sym same) (get_or-set_same rows n (get_or rows n [] ++ k ∷ []) [] lt)
one_sent rows m k n lt false e = get_or-set_other rows m n (get_or rows m [] ++ k ∷ []) [] (λ s. false≢true (sym e ∙ eq-eqb m n (sym s)))

-- a cell's row after these actions more
row_sent : (rows : List (List ℕ)) (k : ℕ) (xs : List Action) (n : ℕ) → n < length rows → get_or (with_sent rows k xs) n [] ≡ get_or rows n [] ++ replicate (length (sent_to n xs)) k
row_sent rows k [] n lt = sym (append-nil (get_or rows n []))
row_sent rows k (x ∷ xs) n lt =
    row_sent (with_sender rows x.agent.number k) k xs n (let many = sender_many rows x.agent.number k in omega (arith, lt, many)) ∙ go (x.agent.number == n) refl
  where
    more : List ℕ
    more = replicate (length (sent_to n xs)) k

    go : (t : Bool) → (x.agent.number == n) ≡ t → get_or (with_sender rows x.agent.number k) n [] ++ more ≡ get_or rows n [] ++ replicate (length (if t then x ∷ sent_to n xs else sent_to n xs)) k
    go true e = ap (λ r. r ++ more) (one_sent rows x.agent.number k n lt true e) ∙ append_assoc (get_or rows n []) (k ∷ []) more
    go false e = ap (λ r. r ++ more) (one_sent rows x.agent.number k n lt false e)

map_same : (m k : ℕ) → map in_store (replicate m k) ≡ replicate m (in_store k)
map_same zero k = refl
map_same (suc m) k = ap (λ r. in_store k ∷ r) (map_same m k)

-- a cell's row after these events more
row_events : (rows : List (List ℕ)) (k : ℕ) (es : List Event) (n : ℕ) → n < length rows → map in_store (get_or (with_events rows k es) n []) ≡ map in_store (get_or rows n []) ++ senders_from n k es
row_events rows k [] n lt = sym (append-nil (map in_store (get_or rows n [])))
row_events rows k (e ∷ es) n lt =
    row_events (with_sent rows k xs) (suc k) es n (let many = sent_many rows k xs in omega (arith, lt, many))
    ∙ ap (λ r. map in_store r ++ senders_from n (suc k) es) (row_sent rows k xs n lt)
    ∙ ap (λ r. r ++ senders_from n (suc k) es) (map-append in_store (get_or rows n []) (replicate (length (sent_to n xs)) k) ∙ ap (λ r. map in_store (get_or rows n []) ++ r) (map_same (length (sent_to n xs)) k))
    ∙ append_assoc (map in_store (get_or rows n [])) (replicate (length (sent_to n xs)) (in_store k)) (senders_from n (suc k) es)
  where
    xs : List Action
    xs = sent_by e.kind

-- rows that held nothing hold the senders
pub are_senders : (cells : ℕ) (book : List Event) (rows : List (List ℕ)) → rows ≡ with_events (replicate cells []) 0 book → AreSenders cells book rows
are_senders cells book rows is = record {
  many = ap length is ∙ events_many empty 0 book ∙ size;
  each = λ n lt. ap (λ r. map in_store (get_or r n [])) is ∙ row_events empty 0 book n (omega (arith, lt, size)) ∙ ap (λ r. map in_store r ++ senders_from n 0 book) (get_or-replicate cells n [] [] lt);
}
  where
    empty : List (List ℕ)
    empty = replicate cells []

    size : length empty ≡ cells
    size = length-replicate cells []
