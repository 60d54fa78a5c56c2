use Rattle.std.proofs.Common.{◌≡◌, ◌≤◌, ◌+◌, ◌∙◌, ℕ, List, Result, Ok, Err, OnOk, ap, arith, false, inl, inr, is_err, length, nat_lt, refl, rules, true, vec_capacity, vec_len}
use Rattle.txs_world_protocol.specs.declared.event.Place.{Place}
use Rattle.txs_theorem_runs.specs.Shared.{book_for}
use Rattle.txs_world_shared.specs.SharedState.{numbered_book}
use Rattle.txs_world_protocol.specs.Ask.{may_add_event}
use Rattle.txs_machine.specs.Serving.{with_place}
use Rattle.txs_machine.proofs.RunOver.{reads_alone}
use Rattle.txs_machine.proofs.run.serve_noted.Goals as goal

-- an answer that isn't an error is one
ok_then : {A E : Type 0} (r : Result A E) (P : Type 0) → false ≡ is_err r → OnOk r P → P
ok_then (Ok x) P e h = h
ok_then (Err x) P e h = absurd cc

-- an ask that adds nothing
pub returns-then-not-may_add_event : goal.returns-then-not-may_add_event
returns-then-not-may_add_event c =
    let none : may_add_event c.args.ask ≡ false = search rules in
    reads_alone c.args.shared.now c.serve.new.self c.args.actor c.args.ask c.serve.result c.args.trace.now.items none c.serve.ensures

-- no room for a place
pub returns-then-is_err : goal.returns-then-is_err
returns-then-is_err c =
    let adds : may_add_event c.args.ask ≡ true = search rules in
    inr (record { adds = adds; replied = refl; state = refl; places = c.reserve.ensures.items })

pub note-requires : goal.note-requires
note-requires c =
    let trace = c.reserve.new.self in
    let room : vec_len trace + 1 ≤ vec_capacity trace = ok_then c.reserve.result _ c.if-is_err.ensures.value c.reserve.ensures.ok in
    omega (arith, room)

pub returns : goal.returns
returns c =
    let s = c.args.shared.now in
    let t = c.serve-reply.new.self in
    let p = c.next_place-next.result in
    let is = c.next_place-next.ensures in
    let b = book_for s.cells c.args.ask in
    let places = c.reserve.new.self.items in
    let before = length (numbered_book s b) in
    inl (record {
      answered = c.serve-reply.ensures;
      next = p;
      is_next = is;
      noted = c.note.ensures
          ∙ ap (λ (n : ℕ). with_place (nat_lt n (length (numbered_book t p.book))) places p) is.at
          ∙ ap (λ (n : ℕ). with_place (nat_lt before (length (numbered_book t n))) places p) is.book
          ∙ ap (λ (l : List Place). with_place (nat_lt before (length (numbered_book t b))) l p) c.reserve.ensures.items;
    })
