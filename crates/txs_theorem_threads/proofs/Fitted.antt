-- Exchanges that fit events, up to a phase; one more exchange.
use Rattle.std.proofs.Common.{ℕ, Bool, true, false, List, [], Some, None, sym, subst, ◌≡◌, ◌∷◌, ◌++◌}
use Rattle.std.proofs.lemmas.List.{append-nil}
use Rattle.txs_world_protocol.specs.SeenEvent.{SeenEvent, home}
use Rattle.txs_world_protocol.specs.declared.ask.Ask.TheVariants as ask
use Rattle.txs_world_protocol.specs.declared.ask.Ask.{Ask}
use Rattle.txs_world_protocol.specs.declared.ask.Reply.TheVariants as reply
use Rattle.txs_world_protocol.specs.declared.ask.Reply.{Reply}
use Rattle.txs_frame.specs.Frame.{has_number, cells_in}
use Rattle.txs_value_cell.specs.Cells.{World}
use Rattle.txs_value_cell.specs.declared.cell.CellDefinition.{CellDefinition}
use Rattle.txs_value_data.specs.declared.value.CellId.{CellId}
use Rattle.txs_tree_meaning.specs.Transaction.{merged}
use Rattle.txs_theorem_threads.specs.RepliesFit.{Phase, Out, In, Viewed, WithSwap, OnEvent, SaysOutdated, SaysHeld, SaysCommuted, SaysRead, SaysCommit, SaysFail, SaysRefused, SaysSent, SaysSendRefused, SaysSwap, SaysBroke, AgreeOn, Goes, OutFits, InFits, ViewedFits, SwapFits, belongs, PhaseFits, IfBelongs, ReplyFits, RepliesFit}
use Rattle.txs_theorem_threads.specs.RepliesFitTo.{RepliesFitTo, FittingToFits, OneMoreFits}

-- what holds, holds where something is said of it
pub if_belongs : (b : Bool) (P : Type 0) → P → IfBelongs b P
if_belongs true P p = p
if_belongs false P p = tt

module _ (cells : List CellDefinition) (fs : List SeenEvent) (next next1 : Goes) (k : (ph : Phase) (es : List SeenEvent) → next ph es → next1 ph (es ++ fs)) where
  on_more : (ph : Phase) (book : ℕ) (P : SeenEvent → Type 0) (es : List SeenEvent) → OnEvent book P (next ph) es → OnEvent book P (next1 ph) (es ++ fs)
  on_more ph book P [] h = absurd h
  on_more ph book P (e ∷ es) h = (h.0, h.1, k ph es h.2)

  out_more : (a : Ask) (r : Reply) (es : List SeenEvent) → OutFits cells a r next es → OutFits cells a r next1 (es ++ fs)
  out_more ask.Begin (reply.At p) es h = (h.0, k (In h.0) es h.1)
  out_more (ask.Peek c) (reply.Is v) es h = on_more Out (home cells c) (λ e. SaysRead c e.kind × (e.C c.number ≡ v)) es h
  out_more (ask.Send a) reply.Done es h = on_more Out 0 (λ e. SaysSent a e.kind) es h
  out_more (ask.Send a) (reply.AgentIsFailed g) es h = on_more Out 0 (λ e. (a.agent ≡ g) × SaysSendRefused g e.kind) es h
  out_more (ask.OpenAt c) (reply.Opened p v) es h = (h.0, h.1, k (WithSwap c h.0) es h.2)
  out_more (ask.CloseAt c None v) reply.Done es h = on_more Out (home cells c) (λ e. SaysSwap v e.kind) es h
  out_more _ _ es h = absurd h

  in_more : (R : World) (a : Ask) (r : Reply) (es : List SeenEvent) → InFits R a r next es → InFits R a r next1 (es ++ fs)
  in_more R (ask.Look c p) (reply.Is v) es h = (h.0, k (In R) es h.1)
  in_more R (ask.Look c p) (reply.Retry d) es h = on_more Out 0 (λ e. (R ≡ e.R) × SaysOutdated c e.kind) es h
  in_more R (ask.View cs) (reply.Views q vs) es h = (h.0, h.1, k (Viewed R h.0) es h.2)
  in_more R (ask.Commit p ws rs q cs sends) reply.Done es h = on_more Out 0 (λ e. (R ≡ e.R) × (cs ≡ []) × SaysCommit ws sends e.kind) es h
  in_more R (ask.Commit p ws rs q cs sends) (reply.Retry d) es h = on_more Out 0 (λ e. (R ≡ e.R) × SaysHeld d e.kind × (has_number (cells_in ws ++ rs) d.number ≡ true)) es h
  in_more R (ask.Commit p ws rs q cs sends) (reply.AgentIsFailed g) es h = on_more Out 0 (λ e. (R ≡ e.R) × (cs ≡ []) × SaysRefused e.kind) es h
  in_more R (ask.Fail p q) reply.Done es h = on_more Out 0 (λ e. (R ≡ e.R) × SaysFail e.kind) es h
  in_more R _ _ es h = absurd h

  viewed_more : (R Q : World) (a : Ask) (r : Reply) (es : List SeenEvent) → ViewedFits R Q a r next es → ViewedFits R Q a r next1 (es ++ fs)
  viewed_more R Q (ask.Commit p ws rs q cs sends) reply.Done es h = on_more Out 0 (λ e. (R ≡ e.R) × AgreeOn cs Q e.C × SaysCommit (merged ws cs) sends e.kind) es h
  viewed_more R Q (ask.Commit p ws rs q cs sends) (reply.Retry d) es h = on_more Out 0 (λ e. (R ≡ e.R) × SaysHeld d e.kind × (has_number (cells_in ws ++ rs) d.number ≡ true)) es h
  viewed_more R Q (ask.Commit p ws rs q cs sends) (reply.Changed d) es h = on_more (In R) 0 (λ e. (R ≡ e.R) × SaysCommuted d e.kind × (has_number (cells_in cs) d.number ≡ true)) es h
  viewed_more R Q (ask.Commit p ws rs q cs sends) (reply.AgentIsFailed g) es h = on_more Out 0 (λ e. (R ≡ e.R) × (Q ≡ e.Q) × SaysRefused e.kind) es h
  viewed_more R Q (ask.Fail p q) reply.Done es h = on_more Out 0 (λ e. (R ≡ e.R) × (Q ≡ e.Q) × SaysFail e.kind) es h
  viewed_more R Q _ _ es h = absurd h

  swap_more : (c : CellId) (W : World) (a : Ask) (r : Reply) (es : List SeenEvent) → SwapFits cells c W a r next es → SwapFits cells c W a r next1 (es ++ fs)
  swap_more c W (ask.CloseAt d (Some p) v) reply.Done es h = on_more Out (home cells c) (λ e. (c ≡ d) × (W c.number ≡ e.C c.number) × SaysSwap v e.kind) es h
  swap_more c W (ask.CloseAt d (Some p) v) (reply.Changed x) es h = k Out es h
  swap_more c W (ask.Broke d p) reply.Done es h = on_more Out (home cells c) (λ e. (c ≡ d) × (W ≡ e.R) × SaysBroke e.kind) es h
  swap_more c W _ _ es h = absurd h

  phase_more : (ph : Phase) (a : Ask) (r : Reply) (es : List SeenEvent) → PhaseFits cells ph a r next es → PhaseFits cells ph a r next1 (es ++ fs)
  phase_more Out a r es h = out_more a r es h
  phase_more (In R) a r es h = in_more R a r es h
  phase_more (Viewed R Q) a r es h = viewed_more R Q a r es h
  phase_more (WithSwap c W) a r es h = swap_more c W a r es h

-- what goes on after a reply, where more is known of it
pub reply_then : (cells : List CellDefinition) (ph : Phase) (q : Ask) (r : Reply) (next next1 : Goes) → ((ph1 : Phase) (es1 : List SeenEvent) → next ph1 es1 → next1 ph1 es1) → (es : List SeenEvent) → ReplyFits cells ph q r next es → ReplyFits cells ph q r next1 es
reply_then cells ph q r next next1 k es h = go (belongs ph q) h
  where
    go : (b : Bool) → IfBelongs b (PhaseFits cells ph q r next es) → IfBelongs b (PhaseFits cells ph q r next1 es)
    go true g = subst (PhaseFits cells ph q r next1) (append-nil es) (phase_more cells [] next next1 (λ ph1 es1 n. subst (next1 ph1) (sym (append-nil es1)) (k ph1 es1 n)) ph q r es g)
    go false g = tt

pub fits_of : FittingToFits
fits_of cells ph [] es end h = h.0
fits_of cells ph (x ∷ xs) es end h =
    if_belongs (belongs ph x.ask) (PhaseFits cells ph x.ask x.reply (λ ph1 es1. RepliesFit cells ph1 xs es1) es)
    (subst (PhaseFits cells ph x.ask x.reply (λ ph1 es1. RepliesFit cells ph1 xs es1)) (append-nil es)
    (phase_more cells [] (λ ph1 es1. RepliesFitTo cells ph1 xs es1 end) (λ ph1 es1. RepliesFit cells ph1 xs es1) (λ ph1 es1 g. subst (RepliesFit cells ph1 xs) (sym (append-nil es1)) (fits_of cells ph1 xs es1 end g)) ph x.ask x.reply es h.1))

pub fits_more : OneMoreFits
fits_more cells ph [] es mid x fs end h m =
    let one : Phase → List SeenEvent → Type 0 = λ q l. (belongs q x.ask ≡ true) × PhaseFits cells q x.ask x.reply (λ ph1 es1. (es1 ≡ []) × (ph1 ≡ end)) l in
    subst (λ l. one ph (l ++ fs)) (sym h.0) (subst (λ q. one q fs) (sym h.1) m)
fits_more cells ph (y ∷ xs) es mid x fs end h m =
    (h.0, phase_more cells fs (λ ph1 es1. RepliesFitTo cells ph1 xs es1 mid) (λ ph1 es1. RepliesFitTo cells ph1 (xs ++ x ∷ []) es1 end) (λ ph1 es1 g. fits_more cells ph1 xs es1 mid x fs end g m) ph y.ask y.reply es h.1)
