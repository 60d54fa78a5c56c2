-- The events of a trace with their worlds, by what is kept of the books.
use Rattle.std.proofs.Common.{◌≡◌, ◌<◌, ◌+◌, ℕ, zero, suc, List, [], ◌∷◌, ◌++◌, length, map, take, get_or, Option, Some, None, refl, sym, ap, ◌∙◌, arith}
use Rattle.std.proofs.lemmas.List.{map-append, take_more}
use Rattle.txs_value_data.specs.Places.{nth}
use Rattle.txs_value_cell.specs.Cells.{World}
use Rattle.txs_value_cell.specs.declared.cell.CellDefinition.{CellDefinition}
use Rattle.txs_value_data.specs.declared.value.Value.{Value}
use Rattle.txs_world_protocol.specs.SeenEvent.{SeenEvent}
use Rattle.txs_world_protocol.specs.declared.event.Event.{Event}
use Rattle.txs_world_book.specs.Atom.{atom_after}
use Rattle.txs_world_book.specs.Book.{opening, value_or}
use Rattle.txs_world_book.specs.Served.{cells_of}
use Rattle.txs_tree_eval_transaction.specs.Views.{held, world_of}
use Rattle.txs_world_protocol.specs.declared.event.Place as event
use Rattle.txs_theorem_runs.specs.Shared as shared
use Rattle.txs_theorem_runs.specs.Told.{Place, seen_before, seen_of}
use Rattle.txs_theorem_audit.specs.Audited.{books_of, place_of}
use Rattle.txs_audit_book.specs.Replayed.{WorldsAre}
use Rattle.txs_audit_evidence.specs.Evidence.{PlainBooks, SwapsIn, replay_in}

-- ---- worlds

-- worlds that agree everywhere are the same
same_world : (R Q : World) → ((c : ℕ) → R c ≡ Q c) → R ≡ Q
same_world R Q h = λ i. λ c. h c i

-- what is kept of a book that has events gives its worlds
pub world_seen : (b : PlainBooks) (hs : List (List (ℕ × Value))) → WorldsAre (replay_in b) hs → (n : ℕ) (o : Option (List (ℕ × Value))) → SwapsIn b n o → 0 < length (books_of b.report n)
    → (k : ℕ) → world_of (record { cells = hs; swaps = o; place = k }) ≡ shared.world_of b.program.cells n (books_of b.report n) k
world_seen b hs w zero o s some k = ap (λ (x : Option (List (ℕ × Value))). world_of (record { cells = hs; swaps = x; place = k })) s ∙ w.store k
world_seen b hs w (suc n) None s some k = absurd (let none : length (books_of b.report (suc n)) ≡ 0 = ap length s in omega (arith, some, none))
world_seen b hs w (suc n) (Some h) s some k =
    let cells = b.program.cells in
    let book = books_of b.report (suc n) in
    w.atoms h k
    ∙ same_world (λ c. value_or (held h k) (opening (cells_of cells) c)) (λ c. atom_after (opening (cells_of cells) c) book k) (λ c. sym (s (opening (cells_of cells) c) k))

-- ---- traces

-- events before others
ahead : (cells : List CellDefinition) (books : ℕ → List Event) (p : Place) (o : Option Event) (es ds : List SeenEvent) → seen_before cells books p o (es ++ ds) ≡ seen_before cells books p o es ++ ds
ahead cells books p None es ds = refl
ahead cells books p (Some e) es ds = refl

-- the events of two traces, one behind the other
pub seen_append : (cells : List CellDefinition) (books : ℕ → List Event) (ps qs : List Place) → seen_of cells books (ps ++ qs) ≡ seen_of cells books ps ++ seen_of cells books qs
seen_append cells books [] qs = refl
seen_append cells books (p ∷ ps) qs =
    ap (seen_before cells books p (nth (books p.book) p.at)) (seen_append cells books ps qs) ∙ ahead cells books p (nth (books p.book) p.at) (seen_of cells books ps) (seen_of cells books qs)

-- ---- what is kept of a trace

-- one more entry
pub seen_more : (cells : List CellDefinition) (books : ℕ → List Event) (trace : List event.Place) (i : ℕ) (d : event.Place) → i < length trace
    → (es ds : List SeenEvent) → es ≡ seen_of cells books (map place_of (take i trace)) → ds ≡ es ++ seen_of cells books (place_of (get_or trace i d) ∷ []) → ds ≡ seen_of cells books (map place_of (take (i + 1) trace))
seen_more cells books trace i d lt es ds so_far more =
    let p = get_or trace i d in
    more
    ∙ ap (λ l. l ++ seen_of cells books (place_of p ∷ [])) so_far
    ∙ sym (seen_append cells books (map place_of (take i trace)) (place_of p ∷ []))
    ∙ ap (seen_of cells books) (sym (map-append place_of (take i trace) (p ∷ [])) ∙ ap (map place_of) (sym (take_more trace i d lt)))
