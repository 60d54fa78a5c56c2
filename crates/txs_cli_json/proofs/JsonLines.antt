-- Lines of JSON, one behind the other.
use Rattle.std.proofs.Common.{◌≡◌, ℕ, ◌≤◌, List, [], ◌∷◌, ◌++◌, Some, codes, decimal, zero, suc, ◌+◌, ◌<◌, min, false, Result, Ok, Err, refl, sym, ap, ◌∙◌, subst, append_assoc, rules, arith}
use Rattle.std.specs.Prelude.{OnOk, is_ok, if◌then◌else◌}
use Rattle.serde_json.proofs.OnLiterals.{serde_json_on_literals}
use Rattle.serde_json.specs.Data.{Data, Members, no_members, number, unsigned, string, put, depth}
use Rattle.std.proofs.lemmas.List.{append-nil}
use Rattle.serde_json.specs.Read.{read, max_depth}
use Rattle.serde_json.specs.Written.{compact_text, has_float}
use Rattle.serde_json.proofs.Views.{get_member-put}
use Rattle.txs_value_data.specs.Printed.{Extends}
use Rattle.txs_cli_json.specs.Json.{IsLineOf, IsJsonLine, AreJsonLines, AddsLine, AddsLines, times, typed, end_line, problem_line}

-- the text that is written of a value that fits, with a newline behind it
pub line_of : (n : ℕ) (d : Data) (text : List ℕ) → n ≤ 120 → depth d ≤ n → has_float d ≡ false → (has_float d ≡ false → text ≡ compact_text d) → (depth d ≤ max_depth → read text ≡ Some d) → IsLineOf d (text ++ 10 ∷ [])
line_of n d text small shallow whole is reads =
    let same = is whole in
    let back = reads (omega arith) in
    record { text = ap (λ t. t ++ 10 ∷ []) same; reads = subst (λ t. read t ≡ Some d) same back }

-- a line of an object with its type is of that type
pub json_line : (kind : List ℕ) (ms : Members) (line : List ℕ) → IsLineOf (typed kind ms) line → IsJsonLine kind line
json_line kind ms line is = record { value = typed kind ms; line_of = is; of_type = get_member-put (codes "type") (string kind) ms }

-- one more line
pub lines_snoc : (kinds : List (List ℕ)) (text kind line : List ℕ) → AreJsonLines kinds text → IsJsonLine kind line → AreJsonLines (kinds ++ kind ∷ []) (text ++ line)
lines_snoc [] text kind line is one = rw is (line, [], one, refl, search rules)
lines_snoc (k ∷ kinds) text kind line is one =
    (is.0, is.1 ++ line, is.2, lines_snoc kinds is.1 kind line is.3 one, rw is.4 (append_assoc is.0 is.1 line))

-- more lines
pub lines_append : (kinds more : List (List ℕ)) (text rest : List ℕ) → AreJsonLines kinds text → AreJsonLines more rest → AreJsonLines (kinds ++ more) (text ++ rest)
lines_append [] more text rest is others = rw is others
lines_append (k ∷ kinds) more text rest is others =
    (is.0, is.1 ++ rest, is.2, lines_append kinds more is.1 rest is.3 others, rw is.4 (append_assoc is.0 is.1 rest))

-- a line that is written, or for which there is no memory
pub line_written : {A E : Type 0} (r : Result A E) (d : Data) (old text new : List ℕ) → IsLineOf d text → new ≡ (if is_ok r then old ++ text else old) → OnOk r ((line : List ℕ) × IsLineOf d line × (new ≡ old ++ line))
line_written (Ok x) d old text new is n = (text, is, n)
line_written (Err e) d old text new is n = tt

-- the last line, as a text
pub end_text : (n : ℕ) → compact_text (typed (codes "end") (put (codes "status") (number (unsigned n)) no_members)) ++ 10 ∷ [] ≡ end_line n
unfolding serde_json_on_literals
end_text n = ap (λ t. codes "{\"status\":" ++ t) (append_assoc (decimal n) (codes ",\"type\":\"end\"}") (10 ∷ []))

-- the line of a problem, as a text
pub problem_text : (message : List ℕ) → compact_text (typed (codes "problem") (put (codes "message") (string message) no_members)) ++ 10 ∷ [] ≡ problem_line message
unfolding serde_json_on_literals
problem_text message = ap (λ t. codes "{\"message\":" ++ t) (append_assoc (compact_text (string message)) (codes ",\"type\":\"problem\"}") (10 ∷ []))

-- the line of an object whose members are known, as a text
pub known_line : {A E : Type 0} (r : Result A E) (kind : List ℕ) (ms known : Members) (old text new : List ℕ) → ms ≡ known → compact_text (typed kind known) ++ 10 ∷ [] ≡ text
    → OnOk r ((line : List ℕ) × IsLineOf (typed kind ms) line × (new ≡ old ++ line)) → OnOk r (new ≡ old ++ text)
known_line (Ok x) kind ms known old text new same is h = h.2 ∙ ap (λ t. old ++ t) (h.1.text ∙ ap (λ m. compact_text (typed kind m) ++ 10 ∷ []) same ∙ is)
known_line (Err e) kind ms known old text new same is h = tt

-- ---- lines of one type

times_snoc : (n : ℕ) (kind : List ℕ) → times (suc n) kind ≡ times n kind ++ kind ∷ []
times_snoc zero kind = refl
times_snoc (suc n) kind = ap (λ ks. kind ∷ ks) (times_snoc n kind)

-- no line yet
pub lines_none : (n : ℕ) (kind old : List ℕ) → AddsLines (times (min 0 n) kind) old old
lines_none n kind old =
    let none : min 0 n ≡ 0 = omega arith in
    subst (λ k. AddsLines (times k kind) old old) (sym none) ([], refl, sym (append-nil old))

-- one more
pub lines_next : (i n : ℕ) (kind old mid new : List ℕ) → i < n → AddsLines (times (min i n) kind) old mid → AddsLine kind mid new → AddsLines (times (min (i + 1) n) kind) old new
lines_next i n kind old mid new l so_far one =
    let next : min (i + 1) n ≡ suc (min i n) = omega arith in
    let more : AddsLines (times (min i n) kind ++ kind ∷ []) old new = (
      so_far.0 ++ one.0,
      lines_snoc (times (min i n) kind) so_far.0 kind one.0 so_far.1 one.1,
      one.2 ∙ ap (λ t. t ++ one.0) so_far.2 ∙ append_assoc old so_far.0 one.0,
    ) in
    subst (λ k. AddsLines (times k kind) old new) (sym next) (subst (λ ks. AddsLines ks old new) (sym (times_snoc (min i n) kind)) more)

-- all
pub lines_all : (i n : ℕ) (kind old new : List ℕ) → n ≤ i → AddsLines (times (min i n) kind) old new → AddsLines (times n kind) old new
lines_all i n kind old new past so_far =
    let all : min i n ≡ n = omega arith in
    subst (λ k. AddsLines (times k kind) old new) all so_far

-- lines behind lines
pub lines_both : (kinds more : List (List ℕ)) (old mid new : List ℕ) → AddsLines kinds old mid → AddsLines more mid new → AddsLines (kinds ++ more) old new
lines_both kinds more old mid new first second = (
  first.0 ++ second.0,
  lines_append kinds more first.0 second.0 first.1 second.1,
  second.2 ∙ ap (λ t. t ++ second.0) first.2 ∙ append_assoc old first.0 second.0,
)

-- an object's line is one of its type
pub typed_lines : {A E : Type 0} (r : Result A E) (kind : List ℕ) (ms : Members) (old new : List ℕ) → OnOk r ((line : List ℕ) × IsLineOf (typed kind ms) line × (new ≡ old ++ line)) → OnOk r (AddsLine kind old new)
typed_lines (Ok x) kind ms old new h = (h.0, json_line kind ms h.0 h.1, h.2)
typed_lines (Err e) kind ms old new h = tt

-- one line is lines
pub lines_one : {A E : Type 0} (r : Result A E) (kind old new : List ℕ) → OnOk r (AddsLine kind old new) → OnOk r (AddsLines (kind ∷ []) old new)
lines_one (Ok x) kind old new h = (h.0, (h.0, [], h.1, refl, sym (append-nil h.0)), h.2)
lines_one (Err e) kind old new h = tt

-- lines are behind what was there
pub lines_kept : (kinds : List (List ℕ)) (old new : List ℕ) → AddsLines kinds old new → Extends old new
lines_kept kinds old new h = record { more = h.0; is = h.2 }

-- also where no more came
pub lines_kept_by : (kinds : List (List ℕ)) (old mid new : List ℕ) → AddsLines kinds old mid → new ≡ mid → Extends old new
lines_kept_by kinds old mid new h same = record { more = h.0; is = same ∙ h.2 }

-- the lines of four parts, the last of which may lack memory
pub four_lines : {A E : Type 0} (r : Result A E) (a b c d : List (List ℕ)) (old first second third new : List ℕ) → AddsLines a old first → AddsLines b first second → AddsLines c second third
    → OnOk r (AddsLines d third new) → OnOk r (AddsLines (a ++ (b ++ (c ++ d))) old new)
four_lines (Ok x) a b c d old first second third new p q s h = lines_both a (b ++ (c ++ d)) old first new p (lines_both b (c ++ d) first second new q (lines_both c d second third new s h))
four_lines (Err e) a b c d old first second third new p q s h = tt

-- what is behind lines is behind what was there
pub kept_behind : (kinds : List (List ℕ)) (old mid new : List ℕ) → AddsLines kinds old mid → Extends mid new → Extends old new
kept_behind kinds old mid new h e = record { more = h.0 ++ e.more; is = e.is ∙ ap (λ t. t ++ e.more) h.2 ∙ append_assoc old h.0 e.more }

-- no lines
pub no_lines : (kinds : List (List ℕ)) (old : List ℕ) → kinds ≡ [] → AddsLines kinds old old
no_lines kinds old none = subst (λ ks. AddsLines ks old old) (sym none) ([], refl, sym (append-nil old))
