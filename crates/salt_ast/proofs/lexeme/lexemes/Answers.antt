use Rattle.std.proofs.Common.{◌≡◌, ◌+◌, ◌-◌, arith, sym, drop, take, length, length-drop}
use Rattle.std.proofs.lemmas.Slice.{between_to_end}
use Rattle.salt_ast.proofs.Lexing.{lexed_blank, lexed_ends, lexed_fails, lexed_none, lexed_token}
use Rattle.salt_ast.proofs.TokenLaws.{token_at_front}
use Rattle.salt_ast.proofs.lexeme.lexemes.Goals as goal

pub loop-at-init : goal.loop-at-init
loop-at-init c = record { lexed = lexed_none c.args.bytes.now c.in_ok-lexemes.lexemes.items c.in_ok-lexemes.ensures.items; in_range = omega arith }

pub loop-at-preserved-then-is_blank : goal.loop-at-preserved-then-is_blank
loop-at-preserved-then-is_blank c = record {
  lexed = lexed_blank c.args.bytes.now c.loop-at.at c.loop-at.lexemes.items c.loop-at.invariant.lexed c.loop-at-test.true (sym c.if-is_blank.ensures);
  in_range = omega arith;
}

pub overflow_add-text : goal.overflow_add-text
overflow_add-text c =
    let bs = c.args.bytes.now in
    let at = c.loop-at.at in
    let rest : take (length bs - at) (drop at bs) ≡ drop at bs = between_to_end bs at (length bs) (omega arith) in
    let long = rw rest at c.in-Some.ensures.within.1 in
    omega (arith, long, length-drop at bs)

pub slice_bounds-text-end : goal.slice_bounds-text-end
slice_bounds-text-end c =
    let bs = c.args.bytes.now in
    let at = c.loop-at.at in
    let rest : take (length bs - at) (drop at bs) ≡ drop at bs = between_to_end bs at (length bs) (omega arith) in
    let long = rw rest at c.in-Some.ensures.within.1 in
    omega (arith, long, length-drop at bs)

pub lexeme_of-requires : goal.lexeme_of-requires
lexeme_of-requires c =
    let bs = c.args.bytes.now in
    let at = c.loop-at.at in
    let rest : take (length bs - at) (drop at bs) ≡ drop at bs = between_to_end bs at (length bs) (omega arith) in
    let only : at + c.in-Some.len - at ≡ c.in-Some.len = omega arith in
    rw only (token_at_front (drop at bs) c.in-Some.kind c.in-Some.len (sym (rw rest at c.in-Some.ensures.value)))

pub loop-at-preserved : goal.loop-at-preserved
loop-at-preserved c =
    let bs = c.args.bytes.now in
    let at = c.loop-at.at in
    let rest : take (length bs - at) (drop at bs) ≡ drop at bs = between_to_end bs at (length bs) (omega arith) in
    let only : at + c.in-Some.len - at ≡ c.in-Some.len = omega arith in
    let within = c.in-Some.ensures.within in
    let long = rw rest at within.1 in
    let len = length-drop at bs in
    record {
      lexed = rw c.in_ok-push.ensures.items (lexed_token bs at c.loop-at.lexemes.items c.lexeme_of.result c.in-Some.kind c.in-Some.len c.loop-at.invariant.lexed c.loop-at-test.true
          (sym c.if-is_blank.ensures) (sym (rw rest at c.in-Some.ensures.value)) within.0 long (rw only at c.lexeme_of.ensures));
      in_range = omega (arith, long, len);
    }

pub returns-in_default-clause-syntax : goal.returns-in_default-clause-syntax
returns-in_default-clause-syntax c = λ _.
    let bs = c.args.bytes.now in
    let at = c.loop-at.at in
    let rest : take (length bs - at) (drop at bs) ≡ drop at bs = between_to_end bs at (length bs) (omega arith) in
    lexed_fails bs at c.loop-at.lexemes.items c.loop-at.invariant.lexed c.loop-at-test.true (sym c.if-is_blank.ensures) (sym (rw rest at c.in_default.ensures.value))

pub returns-clause-found : goal.returns-clause-found
returns-clause-found c = lexed_ends c.args.bytes.now c.loop-at.at c.loop-at.lexemes.items c.loop-at.invariant.lexed c.loop-at-test.false

pub returns-clause-short : goal.returns-clause-short
returns-clause-short c = omega (arith, c.loop-at.invariant.lexed.few, c.loop-at.lexemes.ok)
