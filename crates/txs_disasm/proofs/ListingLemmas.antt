-- The four parts of a listing, one behind the other: what a writer got of it, where it got so much of each.
use Rattle.std.proofs.Common.{◌≡◌, ℕ, List, [], ◌++◌, refl, sym, ◌∙◌, append_assoc, subst}
use Rattle.std.specs.Prelude.{Option}
use Rattle.std.specs.Io.KnownBytes.{Appends}
use Rattle.txs_disasm.specs.Sent.{Sent, IsCut}
use Rattle.txs_disasm.proofs.LineLemmas.{IsCut-on, Sent-on}
use Rattle.txs_disasm.proofs.SentLemmas.{IsCut-after, Sent-all, Sent-none, Sent-trans, Sent-whole}

pub IsCut-first : (u v : Option (List ℕ)) (cells constants functions threads page : List ℕ) → page ≡ [] → IsCut u v (page ++ cells) → IsCut u v (cells ++ constants ++ functions ++ threads)
IsCut-first u v cells constants functions threads page empty k =
    let all : List ℕ = cells ++ constants ++ functions ++ threads in
    let rest : List ℕ = constants ++ (functions ++ threads) in
    let in_parts : all ≡ cells ++ rest = append_assoc (cells ++ constants) functions threads ∙ append_assoc cells constants (functions ++ threads) in
    let begun : Sent u u all (page ++ all) = subst (λ l. Sent u u all (l ++ all)) (sym empty) (Sent-none u all) in
    IsCut-on u u all page all cells rest in_parts begun v k

module _ (u v w x : Option (List ℕ)) (cells constants functions threads p0 p1 p2 p3 : List ℕ) (empty : p0 ≡ []) (one : Sent u v (p0 ++ cells) p1) where
  abbrev all : List ℕ
  all = cells ++ constants ++ functions ++ threads

  in_parts : all ≡ cells ++ (constants ++ (functions ++ threads))
  in_parts = append_assoc (cells ++ constants) functions threads ∙ append_assoc cells constants (functions ++ threads)

  begun : Sent u u all (p0 ++ all)
  begun = subst (λ l. Sent u u all (l ++ all)) (sym empty) (Sent-none u all)

  first : Sent u v all (p1 ++ (constants ++ (functions ++ threads)))
  first = Sent-on u u all p0 all cells (constants ++ (functions ++ threads)) in_parts begun v p1 one

  pub IsCut-second : IsCut v w (p1 ++ constants) → IsCut u w all
  IsCut-second k = IsCut-on u v all p1 (constants ++ (functions ++ threads)) constants (functions ++ threads) refl first w k

  module _ (two : Sent v w (p1 ++ constants) p2) where
    second : Sent u w all (p2 ++ (functions ++ threads))
    second = Sent-on u v all p1 (constants ++ (functions ++ threads)) constants (functions ++ threads) refl first w p2 two

    pub IsCut-third : IsCut w x (p2 ++ functions) → IsCut u x all
    IsCut-third k = IsCut-on u w all p2 (functions ++ threads) functions threads refl second x k

    module _ (three : Sent w x (p2 ++ functions) p3) where
      third : Sent u x all (p3 ++ threads)
      third = Sent-on u w all p2 (functions ++ threads) functions threads refl second x p3 three

      pub IsCut-fourth : (y : Option (List ℕ)) → IsCut x y (p3 ++ threads) → IsCut u y all
      IsCut-fourth y k = IsCut-after u x y all (p3 ++ threads) third k

      module _ (y z : Option (List ℕ)) (p4 : List ℕ) (four : Sent x y (p3 ++ threads) p4) where
        fourth : Sent u y all p4
        fourth = Sent-trans u x y all (p3 ++ threads) p4 third four

        pub IsCut-last : IsCut y z p4 → IsCut u z all
        IsCut-last k = IsCut-after u y z all p4 fourth k

        pub Appends-listing : Appends y z p4 → Appends u z all
        Appends-listing p = Sent-whole u z all [] refl (Sent-trans u y z all p4 [] fourth (Sent-all y z p4 p))
