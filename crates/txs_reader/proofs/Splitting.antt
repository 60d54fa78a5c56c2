-- One piece more.
use Rattle.std.proofs.Common.{◌≡◌, ℕ, ◌+◌, List, [], ◌∷◌, ◌++◌, length, refl, sym, ap, ◌∙◌, append_assoc, arith, length-append}
use Rattle.std.proofs.lemmas.List.{append-nil}
use Rattle.std.specs.List.{flat_map}
use Rattle.txs_reader.specs.Script.{Piece, written, IsPiece, EndsAt, Splits, Token, token, tokens}

pub Splits-push : (bytes : List ℕ) (ps : List Piece) (rest : List ℕ) (p : Piece) (more : List ℕ) → Splits bytes ps rest → rest ≡ written p ++ more → IsPiece p → EndsAt p more → Splits bytes (ps ++ p ∷ []) more
Splits-push bytes [] rest p more s e is ends = (more, s ∙ e, is, ends, refl)
Splits-push bytes (q ∷ ps) rest p more s e is ends = (s.0, s.1, s.2, s.3, Splits-push s.0 ps rest p more s.4 e is ends)

pub length-Splits : (bytes : List ℕ) (ps : List Piece) (rest : List ℕ) → Splits bytes ps rest → length (flat_map written ps) + length rest ≡ length bytes
length-Splits bytes [] rest s = omega (arith, ap length s)
length-Splits bytes (q ∷ ps) rest s = omega (arith, ap length s.1, length-append (written q) s.0, length-append (written q) (flat_map written ps), length-Splits s.0 ps rest s.4)

shift : (at n m : ℕ) → at + n + m ≡ at + (n + m)
shift at n m = omega arith

pub tokens-push : (at : ℕ) (ps : List Piece) (p : Piece) → tokens at (ps ++ p ∷ []) ≡ tokens at ps ++ token (at + length (flat_map written ps)) p
tokens-push at [] p =
    let e : at + 0 ≡ at = omega arith in
    rw e (append-nil (token at p))
tokens-push at (q ∷ ps) p =
    let e : (at + length (written q)) + length (flat_map written ps) ≡ at + length (written q ++ flat_map written ps) = omega (arith, length-append (written q) (flat_map written ps)) in
    ap (λ (ts : List Token). token at q ++ ts) (tokens-push (at + length (written q)) ps p ∙ ap (λ (n : ℕ). tokens (at + length (written q)) ps ++ token n p) e)
    ∙ sym (append_assoc (token at q) _ _)
