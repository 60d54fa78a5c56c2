use Rattle.std.proofs.Common.{◌≡◌, ◌≢◌, ◌∷◌, ℕ, List, ◌+◌, ◌-◌, ◌<◌, drop, get_or, length, sym, subst, ap, ◌∙◌, arith, length-drop}
use Rattle.std.specs.Prelude.{string_bytes}
use Rattle.txs_reader.specs.Escapes.{TextUpTo}
use Rattle.txs_reader.proofs.Escapes.{plain_run, plain_rest, mark_small, mark_at, backslash, byte_of, head_of_rest, escape_end, escape_more, text_begins}
use Rattle.txs_reader.proofs.Steps.{front, text_unclosed, text_bad_escape}
use Rattle.txs_reader.proofs.quoted.read_quoted.Goals as goal

pub returns-in-None-clause-err : goal.returns-in-None-clause-err
returns-in-None-clause-err c =
    let rest = plain_rest c.args.script.now c.args.at _ _ _ c.loop-len.invariant.so_far c.rest_at.ensures c.in-None.ensures.none in
    rw c.span_of.ensures (text_unclosed c.args.script.now c.args.at _ _ rest.0 rest.1)

pub push_between-requires-clause-back : goal.push_between-requires-clause-back
push_between-requires-clause-back c =
    mark_small _ (mark_at c.args.script.now _ _ _ c.rest_at.ensures c.in-Some.ensures.some.0 c.in-Some.ensures.some.1)

pub returns-then-byte_at-eq34-clause-ok : goal.returns-then-byte_at-eq34-clause-ok
returns-then-byte_at-eq34-clause-ok c =
    let run = plain_run c.args.script.now c.args.at _ c.in-Some.len _ _ _ c.loop-len.invariant.so_far c.rest_at.ensures c.in-Some.ensures.some.0 c.in-Some.ensures.some.1 c.in_ok-push_between.ensures in
    (run.so_far, sym c.byte_at.ensures ∙ c.if-byte_at-eq34.true, run.inside)

pub read_escape-requires-clause-begins : goal.read_escape-requires-clause-begins
read_escape-requires-clause-begins c =
    let run = plain_run c.args.script.now c.args.at _ c.in-Some.len _ _ _ c.loop-len.invariant.so_far c.rest_at.ensures c.in-Some.ensures.some.0 c.in-Some.ensures.some.1 c.in_ok-push_between.ensures in
    let other : get_or c.args.script.now (c.loop-len.last + 1 + c.in-Some.len) 0 ≢ 34 = λ e. c.if-byte_at-eq34.false (c.byte_at.ensures ∙ e) in
    rw c.rest_at-in-loop-len.ensures (head_of_rest _ _ run.inside ∙ backslash _ run.stops other)

pub returns-in-None-read_escape-clause-err : goal.returns-in-None-read_escape-clause-err
returns-in-None-read_escape-clause-err c =
    let run = plain_run c.args.script.now c.args.at _ c.in-Some.len _ _ _ c.loop-len.invariant.so_far c.rest_at.ensures c.in-Some.ensures.some.0 c.in-Some.ensures.some.1 c.in_ok-push_between.ensures in
    let other : get_or c.args.script.now (c.loop-len.last + 1 + c.in-Some.len) 0 ≢ 34 = λ e. c.if-byte_at-eq34.false (c.byte_at.ensures ∙ e) in
    rw c.span_of-in-None-read_escape.ensures (text_bad_escape c.args.script.now c.args.at _ _ run.so_far run.inside (backslash _ run.stops other) (rw c.rest_at-in-loop-len.ensures at c.in-None-read_escape.ensures.none))

pub loop-len-preserved : goal.loop-len-preserved
loop-len-preserved c =
    let bytes = c.args.script.now in
    let end = c.loop-len.last + 1 + c.in-Some.len in
    let len = c.in-Some-read_escape.escape.len in
    let run = plain_run bytes c.args.at _ c.in-Some.len _ _ _ c.loop-len.invariant.so_far c.rest_at.ensures c.in-Some.ensures.some.0 c.in-Some.ensures.some.1 c.in_ok-push_between.ensures in
    let other : get_or bytes end 0 ≢ 34 = λ e. c.if-byte_at-eq34.false (c.byte_at.ensures ∙ e) in
    let begins : get_or c.rest_at-in-loop-len.result.now 0 0 ≡ 92 = rw c.rest_at-in-loop-len.ensures (head_of_rest bytes end run.inside ∙ backslash _ run.stops other) in
    let ends = escape_end c.rest_at-in-loop-len.result.now c.in-Some-read_escape.escape.value len begins c.in-Some-read_escape.ensures.some in
    let more = escape_more bytes c.args.at end c.in-Some-read_escape.escape.value len _ _ c.rest_at-in-loop-len.result.now run.so_far c.rest_at-in-loop-len.ensures c.in-Some-read_escape.ensures.some c.in_ok-push-in-Some-read_escape.ensures.bytes in
    let size : length c.rest_at-in-loop-len.result.now ≡ length bytes - end = ap length c.rest_at-in-loop-len.ensures ∙ length-drop end bytes in
    let place : end + (len - 1) ≡ end + len - 1 = omega (arith, ends.long) in
    let next : end + len ≡ end + len - 1 + 1 = omega (arith, ends.long) in
    record {
      within = omega (arith, ends.within, ends.long, size, run.inside);
      small = subst (λ (i : ℕ). get_or bytes i 0 < 128) place (subst (λ (b : ℕ). b < 128) (byte_of bytes c.rest_at-in-loop-len.result.now end (len - 1) c.rest_at-in-loop-len.ensures) ends.small);
      so_far = subst (λ (i : ℕ). TextUpTo bytes c.args.at i (string_bytes c.push.new.self)) next more;
    }

pub loop-len-init : goal.loop-len-init
loop-len-init c =
    let bytes = c.args.script.now in
    let at = c.args.at in
    record {
      within = c.requires.inside;
      small = subst (λ (b : ℕ). b < 128) (sym c.requires.quote) (omega arith);
      so_far = subst (λ (out : List ℕ). TextUpTo bytes at (at + 1) out) (sym c.requires.empty) (text_begins bytes at (front bytes at c.requires.inside ∙ ap (λ (b : ℕ). b ∷ drop (at + 1) bytes) c.requires.quote));
    }

pub loop-len-smaller : goal.loop-len-smaller
loop-len-smaller c =
    let bytes = c.args.script.now in
    let end = c.loop-len.last + 1 + c.in-Some.len in
    let run = plain_run bytes c.args.at _ c.in-Some.len _ _ _ c.loop-len.invariant.so_far c.rest_at.ensures c.in-Some.ensures.some.0 c.in-Some.ensures.some.1 c.in_ok-push_between.ensures in
    let other : get_or bytes end 0 ≢ 34 = λ e. c.if-byte_at-eq34.false (c.byte_at.ensures ∙ e) in
    let begins : get_or c.rest_at-in-loop-len.result.now 0 0 ≡ 92 = rw c.rest_at-in-loop-len.ensures (head_of_rest bytes end run.inside ∙ backslash _ run.stops other) in
    let ends = escape_end c.rest_at-in-loop-len.result.now c.in-Some-read_escape.escape.value c.in-Some-read_escape.escape.len begins c.in-Some-read_escape.ensures.some in
    omega (arith, ends.long, c.loop-len.invariant.within)

pub push_between-requires-clause-within : goal.push_between-requires-clause-within
push_between-requires-clause-within c = omega (arith, length-drop (c.loop-len.last + 1) c.args.script.now, ap length c.rest_at.ensures, c.in-Some.ensures.some.1)

pub push_between-requires-clause-front : goal.push_between-requires-clause-front
push_between-requires-clause-front c = c.loop-len.invariant.small

pub byte_at-requires : goal.byte_at-requires
byte_at-requires c = omega (arith, length-drop (c.loop-len.last + 1) c.args.script.now, ap length c.rest_at.ensures, c.in-Some.ensures.some.1)

pub rest_at-requires-in-loop-len : goal.rest_at-requires-in-loop-len
rest_at-requires-in-loop-len c = omega (arith, length-drop (c.loop-len.last + 1) c.args.script.now, ap length c.rest_at.ensures, c.in-Some.ensures.some.1)

pub read_escape-requires-clause-some : goal.read_escape-requires-clause-some
read_escape-requires-clause-some c =
    omega (arith, length-drop (c.loop-len.last + 1 + c.in-Some.len) c.args.script.now, ap length c.rest_at-in-loop-len.ensures, length-drop (c.loop-len.last + 1) c.args.script.now, ap length c.rest_at.ensures, c.in-Some.ensures.some.1)

pub overflow_add-end-in-loop-len : goal.overflow_add-end-in-loop-len
overflow_add-end-in-loop-len c = omega (arith, length-drop (c.loop-len.last + 1) c.args.script.now, ap length c.rest_at.ensures, c.in-Some.ensures.some.1)

pub overflow_add-last-in-Some-read_escape : goal.overflow_add-last-in-Some-read_escape
overflow_add-last-in-Some-read_escape c =
    let bytes = c.args.script.now in
    let end = c.loop-len.last + 1 + c.in-Some.len in
    let run = plain_run bytes c.args.at _ c.in-Some.len _ _ _ c.loop-len.invariant.so_far c.rest_at.ensures c.in-Some.ensures.some.0 c.in-Some.ensures.some.1 c.in_ok-push_between.ensures in
    let other : get_or bytes end 0 ≢ 34 = λ e. c.if-byte_at-eq34.false (c.byte_at.ensures ∙ e) in
    let begins : get_or c.rest_at-in-loop-len.result.now 0 0 ≡ 92 = rw c.rest_at-in-loop-len.ensures (head_of_rest bytes end run.inside ∙ backslash _ run.stops other) in
    let ends = escape_end c.rest_at-in-loop-len.result.now c.in-Some-read_escape.escape.value c.in-Some-read_escape.escape.len begins c.in-Some-read_escape.ensures.some in
    let size : length c.rest_at-in-loop-len.result.now ≡ length bytes - end = ap length c.rest_at-in-loop-len.ensures ∙ length-drop end bytes in
    omega (arith, ends.within, size, run.inside)

pub span_of-requires-in-None-read_escape-clause-small : goal.span_of-requires-in-None-read_escape-clause-small
span_of-requires-in-None-read_escape-clause-small c = omega (arith, length-drop (c.loop-len.last + 1) c.args.script.now, ap length c.rest_at.ensures, c.in-Some.ensures.some.1)
