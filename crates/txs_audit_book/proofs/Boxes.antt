-- Inboxes as plain data.
use Rattle.std.proofs.Common.{◌≡◌, ◌<◌, ℕ, zero, suc, List, [], ◌∷◌, length, get_or, set, refl, sym, ap, ◌∙◌, subst, arith}
use Rattle.txs_audit_book.specs.Gone.{PlainInbox, plain_inbox, plain_inboxes, no_inbox}
use Rattle.txs_audit_book.specs.declared.inbox.Inbox.{Inbox}

pub plain_many : (bs : List Inbox) → length (plain_inboxes bs) ≡ length bs
plain_many [] = refl
plain_many (b ∷ bs) = ap suc (plain_many bs)

plain_at : (bs : List Inbox) (i : ℕ) (d : Inbox) → i < length bs → get_or (plain_inboxes bs) i no_inbox ≡ plain_inbox (get_or bs i d)
plain_at [] i d lt = absurd (omega (arith, lt))
plain_at (x ∷ bs) zero d lt = refl
plain_at (x ∷ bs) (suc i) d lt = plain_at bs i d (omega (arith, lt))

-- there are as many as before
pub set_many : (bs : List Inbox) (i : ℕ) (new : Inbox) → length (set bs i new) ≡ length bs
set_many [] i new = refl
set_many (b ∷ bs) zero new = refl
set_many (b ∷ bs) (suc i) new = ap suc (set_many bs i new)

-- an inbox that was read
pub old_plain : (bs : List Inbox) (i n : ℕ) (old : Inbox) → old ≡ get_or bs i old → i ≡ n → n < length bs → plain_inbox old ≡ get_or (plain_inboxes bs) n no_inbox
old_plain bs i n old at is lt = ap plain_inbox (subst (λ k. old ≡ get_or bs k old) is at) ∙ sym (plain_at bs n old lt)

set_plain : (f : PlainInbox → PlainInbox) (bs : List Inbox) (i : ℕ) (old new : Inbox) → old ≡ get_or bs i old → plain_inbox new ≡ f (plain_inbox old) → plain_inboxes (set bs i new) ≡ set (plain_inboxes bs) i (f (get_or (plain_inboxes bs) i no_inbox))
set_plain f [] i old new at e = refl
set_plain f (b ∷ bs) zero old new at e = ap (λ p. p ∷ plain_inboxes bs) (e ∙ ap (λ (y : Inbox). f (plain_inbox y)) at)
set_plain f (b ∷ bs) (suc i) old new at e = ap (λ l. plain_inbox b ∷ l) (set_plain f bs i old new at e)

-- one that was changed
pub new_plain : (f : PlainInbox → PlainInbox) (bs : List Inbox) (i n : ℕ) (old new : Inbox) → old ≡ get_or bs i old → i ≡ n → plain_inbox new ≡ f (plain_inbox old) → plain_inboxes (set bs i new) ≡ set (plain_inboxes bs) n (f (get_or (plain_inboxes bs) n no_inbox))
new_plain f bs i n old new at is e = set_plain f bs i old new at e ∙ ap (λ k. set (plain_inboxes bs) k (f (get_or (plain_inboxes bs) k no_inbox))) is
