use Rattle.std.proofs.Common.{◌≡◌, ◌+◌, ◌-◌, arith, sym, drop, take, length, length-drop}
use Rattle.std.proofs.lemmas.List.{map_push}
use Rattle.std.proofs.lemmas.Slice.{between_to_end}
use Rattle.salt_ast.specs.Spans.{pieces, piece_of}
use Rattle.salt_ast.proofs.Steps.{blank_goes_on, token_goes_on, token_fails, lex_ends, AreInOrder-push, AreInOrder-later}
use Rattle.salt_ast.proofs.scanner.tokens_of.Goals as goal

pub loop-at-preserved-then-is_blank : goal.loop-at-preserved-then-is_blank
loop-at-preserved-then-is_blank c = record {
  so_far = blank_goes_on c.args.bytes.now c.loop-at.at (pieces c.args.bytes.now c.loop-at.tokens) c.loop-at-test.true c.loop-at.invariant.so_far (sym c.if-is_blank.ensures);
  in_order = AreInOrder-later 0 c.loop-at.tokens c.loop-at.at (c.loop-at.at + 1) c.loop-at.invariant.in_order (omega arith);
  in_range = omega arith;
}

pub loop-at-preserved : goal.loop-at-preserved
loop-at-preserved c =
    let bs = c.args.bytes.now in
    let at = c.loop-at.at in
    let rest : take (length bs - at) (drop at bs) ≡ drop at bs = between_to_end bs at (length bs) (omega arith) in
    let within = c.in-Some.ensures.within in
    let long = rw rest at within.1 in
    let len = length-drop at bs in
    record {
      so_far = rw (c.in_ok-push.ensures.ok, map_push (piece_of bs) c.loop-at.tokens _) (token_goes_on bs at (pieces bs c.loop-at.tokens) c.loop-at-test.true c.loop-at.invariant.so_far c.in-Some.kind c.in-Some.len (sym c.if-is_blank.ensures) (sym (rw rest at c.in-Some.ensures.value)) within.0 long);
      in_order = rw c.in_ok-push.ensures.ok (AreInOrder-push 0 c.loop-at.tokens at _ c.loop-at.invariant.in_order (omega arith) within.0);
      in_range = omega (arith, long, len);
    }

pub returns-in_default-clause-reads : goal.returns-in_default-clause-reads
returns-in_default-clause-reads c =
    let bs = c.args.bytes.now in
    let at = c.loop-at.at in
    let rest : take (length bs - at) (drop at bs) ≡ drop at bs = between_to_end bs at (length bs) (omega arith) in
    token_fails bs at (pieces bs c.loop-at.tokens) c.loop-at-test.true c.loop-at.invariant.so_far (sym c.if-is_blank.ensures) (sym (rw rest at c.in_default.ensures.value))

pub returns-clause-reads : goal.returns-clause-reads
returns-clause-reads c = lex_ends c.args.bytes.now c.loop-at.at (pieces c.args.bytes.now c.loop-at.tokens) c.loop-at-test.false c.loop-at.invariant.so_far
