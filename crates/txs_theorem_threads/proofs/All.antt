-- All threads of a program.
use Rattle.std.proofs.Common.{◌≡◌, ℕ, zero, suc, List, [], ◌∷◌, length, map, Option, Some, None, refl, sym, ap, subst}
use Rattle.txs_value_data.specs.Places.{nth}
use Rattle.txs_tree_meaning.specs.Known.{Known, known}
use Rattle.txs_tree_meaning.specs.Sound.{SoundThread, SoundThreads, SoundSource}
use Rattle.txs_tree_meaning.specs.Tree.{PlainThread}
use Rattle.txs_code_meaning.specs.Machine.{ThreadCode}
use Rattle.txs_theorem_threads.specs.Behaves.{Behaves}
use Rattle.txs_theorem_threads.specs.FollowsAll.{source_of, SoundFollowsAll, GeneratedFollows}
use Rattle.txs_theorem_threads.proofs.Sound.{ever_meant}
use Rattle.txs_theorem_threads.proofs.Ends.{behaves_follows}

abbrev IsThere : {A : Type 0} → Option A → Type 0
IsThere None = ⊥
IsThere (Some a) = Unit {0}

-- a thread of a sound program is sound
sound_at : (ks : List Known) (ts : List PlainThread) (i : ℕ) (t : PlainThread) → SoundThreads ks ts → nth ts i ≡ Some t → SoundThread ks t
sound_at ks [] i t h e = absurd (subst IsThere (sym e) tt)
sound_at ks (u ∷ ts) zero t h e = let same : u ≡ t = cc in subst (SoundThread ks) same h.0
sound_at ks (u ∷ ts) (suc i) t h e = sound_at ks ts i t h.1 e

pub sound_follows_all : SoundFollowsAll
sound_follows_all codes p sound behaves = record {
  as_many = behaves.as_many;
  each = λ i c t e f.
      let one : SoundSource (source_of p t) = record { functions = sound.functions; cells = sound.cells; main = (sound_at (known p.functions) p.threads i t sound.threads f).0 } in
      behaves_follows c (source_of p t) (behaves.each i c t e f) one (ever_meant (source_of p t) one);
}

length_map : {A B : Type 0} (f : A → B) (xs : List A) → length (map f xs) ≡ length xs
length_map f [] = refl
length_map f (x ∷ xs) = ap suc (length_map f xs)

-- what stands at a place of the images is the image of what stands there
image_at : {B : Type 0} (P : B → PlainThread → Type 0) (f : PlainThread → B) → ((t : PlainThread) → P (f t) t) → (ts : List PlainThread) (i : ℕ) (c : B) (t : PlainThread) → nth (map f ts) i ≡ Some c → nth ts i ≡ Some t → P c t
image_at P f h [] i c t e k = absurd (subst IsThere (sym k) tt)
image_at P f h (u ∷ ts) zero c t e k =
    let one : f u ≡ c = cc in
    let two : u ≡ t = cc in
    subst (P c) two (subst (λ x. P x u) one (h u))
image_at P f h (u ∷ ts) (suc i) c t e k = image_at P f h ts i c t e k

pub generated_follows : GeneratedFollows
generated_follows g behaves p sound =
    let f : PlainThread → ThreadCode = λ t. g (source_of p t) in
    sound_follows_all (map f p.threads) p sound (record {
      as_many = length_map f p.threads;
      each = λ i c t e k.
          image_at (λ x u. SoundThread (known p.functions) u → Behaves x (source_of p u)) f (λ u s. behaves (source_of p u) (record { functions = sound.functions; cells = sound.cells; main = s.0 })) p.threads i c t e k
          (sound_at (known p.functions) p.threads i t sound.threads k);
    })
