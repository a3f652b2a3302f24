use Rattle.salt_values.specs.declared.limits.TheConstants.{SCRIPT_MOST}
use Rattle.std.proofs.Common.{◌≡◌, ℕ, Option, ◌∷◌, [], List, Result, Ok, Err, refl, sym, ◌∙◌, ap, arith, true, false, Bool, eqb, length, Vec, Global}
use Rattle.std.proofs.lemmas.Bool.Decides.{nat_tests}
use Rattle.salt_io.specs.Lines.{script_of}
use Rattle.salt_io.specs.Streams.{IsAtEnd, bytes_before}
use Rattle.salt_io.specs.declared.line_text.LineText.{LineText}
use Rattle.salt_io.specs.declared.lines.Next.{Next}
use Rattle.salt_io.specs.declared.lines.Next.TheVariants.{Line, TooLong}
use Rattle.salt_io.specs.declared.lines.LineErr.{LineErr}
use Rattle.salt_io.specs.declared.lines.LineErr.TheVariants.{ReadFault, ScriptTooLong}
use Rattle.salt_io.proofs.HowFar.{Found, IsEmpty, Reads, Steps, at_end-before, reading-of, reads-byte, reads-text, reads-join, reads-line, reads-last, reads-nothing, reads-fault, reads-cut_off, found-line, found-long, reads-none, unasked}
use Rattle.salt_io.proofs.lines.Lines.next_line.Goals as goal

pub returns-in_err-byte-clause-cut_off : goal.returns-in_err-byte-clause-cut_off
returns-in_err-byte-clause-cut_off g c is =
    let same = rw is at c.from_residual.ensures.1 in
    let fault : c.in_err-byte.field-0.0 ≡ ReadFault = sym same in
    reads-fault SCRIPT_MOST _ _ _ _ _ _ _ _ _ _ c.loop-byte.invariant.reads (c.in_err-byte.ensures.fault_left (ap Err fault)) (omega (arith, c.in_err-byte.ensures.counts, c.in_err-byte.ensures.within))

pub returns-in_err-byte-clause-too_long : goal.returns-in_err-byte-clause-too_long
returns-in_err-byte-clause-too_long g c is =
    let same = rw is at c.from_residual.ensures.1 in
    let long : c.in_err-byte.field-0.0 ≡ ScriptTooLong = sym same in
    reads-cut_off SCRIPT_MOST _ _ _ _ _ _ _ _ _ c.loop-byte.invariant.reads (c.in_err-byte.ensures.long (ap Err long)) (c.in_err-byte.ensures.more (ap Err long))

-- a byte came: what that leaves in hand, and of the source
steps : {Source : Type 0} (start now after : Source) (kept kept' : List ℕ) (byte : ℕ) → ((kept ≡ [] → ⊥) → after ≡ now) → ((kept ≡ [] → ⊥) → kept ≡ byte ∷ kept')
    → Steps kept kept' byte (now ≡ start) (after ≡ start)
steps start now after kept kept' byte in_hand first = record { unasked = λ some same. in_hand some ∙ same; first = first }

-- the source has not told its end
not-over : {P : Type 0} (before now : Bool) → (before ≡ true → (now ≡ true) × P) → now ≡ false → before ≡ true → ⊥
not-over before now over goes_on ended = let e : now ≡ true = (over ended).0 in cc

-- where a whole line was in hand at the call, the source has not been asked
unasked-then : {Source : Type 0} (before now : Option (List ℕ)) (taken_before taken : ℕ) (line : List ℕ) (state : LineText) (in_hand kept : List ℕ) (start asked after : Source)
    → Reads before now taken_before taken line state in_hand kept (asked ≡ start) → ((kept ≡ [] → ⊥) → after ≡ asked) → ((script_of in_hand).ended ≡ [] → ⊥) → after ≡ start
unasked-then before now taken_before taken line state in_hand kept start asked after r same whole =
    let u = unasked before now taken_before taken line state in_hand kept (asked ≡ start) r whole in same u.1 ∙ u.0

pub loop-byte-init : goal.loop-byte-init
loop-byte-init g c = record {
  of = c.requires;
  reads = reads-none _ _ _ _ _ _ refl c.clear.ensures.items c.new-text.ensures;
  over = λ ended. (ended, refl);
  fits = let none : length c.clear.new.self.items ≡ 0 = ap length c.clear.ensures.items in omega arith;
  no_fault = refl;
}

pub loop-byte-preserved-then-byte-ne-LF : goal.loop-byte-preserved-then-byte-ne-LF
loop-byte-preserved-then-byte-ne-LF g c =
    let given = rw c.in-Some.is at c.in_ok-byte.ensures.some in
    let counted = rw c.in-Some.is at c.in_ok-byte.ensures.counted in
    let first = rw c.in-Some.is at c.in_ok-byte.ensures.first in
    let goes_on = rw c.in-Some.is at c.in_ok-byte.ensures.goes_on in
    record {
      of = reading-of c.next_byte.new.self c.take_text.new.self (g.S.Source.left c.next_byte.new.source) _ _ _ _ c.in_ok-take_text.ensures.taken c.in_ok-byte.ensures.of;
      reads = reads-text _ (g.S.Source.left c.next_byte.new.source) _ c.next_byte.new.self c.take_text.new.self _ _ _ _ _ _ c.in_ok-take_text.ensures.taken
          (reads-byte _ _ _ _ _ _ _ _ _ _ _ _ _ _ _ _ c.loop-byte.invariant.reads (steps _ _ _ _ _ _ c.in_ok-byte.ensures.in_hand first) given counted c.if-byte-ne-LF.true c.in_ok-add.ensures.text);
      over = λ ended. absurd (not-over _ _ c.loop-byte.invariant.over goes_on ended);
      fits = c.in_ok-take_text.ensures.fits (c.in_ok-add.ensures.within c.loop-byte.invariant.fits);
      no_fault = c.in_ok-byte.ensures.no_fault (λ e. cc) ∙ c.loop-byte.invariant.no_fault;
    }

pub loop-byte-preserved : goal.loop-byte-preserved
loop-byte-preserved g c =
    let given = rw c.in-Some.is at c.in_ok-byte.ensures.some in
    let counted = rw c.in-Some.is at c.in_ok-byte.ensures.counted in
    let first = rw c.in-Some.is at c.in_ok-byte.ensures.first in
    let goes_on = rw c.in-Some.is at c.in_ok-byte.ensures.goes_on in
    let joins = rw c.if-branch.false at c.in_ok-end_piece.ensures.text in
    record {
      of = c.in_ok-byte.ensures.of;
      reads = reads-join _ _ _ _ _ _ _ _ _ _ _ _ _ _ _ _ c.loop-byte.invariant.reads (steps _ _ _ _ _ _ c.in_ok-byte.ensures.in_hand first) given counted c.if-byte-ne-LF.false joins;
      over = λ ended. absurd (not-over _ _ c.loop-byte.invariant.over goes_on ended);
      fits = c.in_ok-end_piece.ensures.within c.loop-byte.invariant.fits;
      no_fault = c.in_ok-byte.ensures.no_fault (λ e. cc) ∙ c.loop-byte.invariant.no_fault;
    }

line-of : (is_long : Bool) (kind : Next) → (kind ≡ Line → is_long ≡ false) → let answer : Next → Result Next LineErr = Ok in answer kind ≡ answer Line → is_long ≡ false
line-of is_long kind short is = let e : kind ≡ Line = cc in short e

long-of : (is_long : Bool) (kind : Next) → (kind ≡ TooLong → is_long ≡ true) → let answer : Next → Result Next LineErr = Ok in answer kind ≡ answer TooLong → is_long ≡ true
long-of is_long kind long is = let e : kind ≡ TooLong = cc in long e

found : (g : _) (c : goal.After-kind_of g) → Found SCRIPT_MOST (bytes_before c.args.self.now.kept (g.S.Source.left c.args.source.now)) (bytes_before c.next_byte.new.self.kept (g.S.Source.left c.next_byte.new.source)) c.args.self.now.taken c.next_byte.new.self c.end_piece.new.line.items c.end_piece.new.self.is_long
found g c =
    let given = rw c.in-Some.is at c.in_ok-byte.ensures.some in
    let counted = rw c.in-Some.is at c.in_ok-byte.ensures.counted in
    let ends = rw c.if-branch.true at c.in_ok-end_piece.ensures.text in
    reads-line _ _ _ _ _ _ _ _ _ _ _ _ _ _ _ c.loop-byte.invariant.reads given counted c.in_ok-byte.ensures.within c.if-byte-ne-LF.false ends

pub returns-then-branch-clause-line : goal.returns-then-branch-clause-line
returns-then-branch-clause-line g c is = found-line _ _ _ _ _ _ _ (line-of _ c.kind_of.result c.kind_of.ensures.short is) (found g c)

pub returns-then-branch-clause-long : goal.returns-then-branch-clause-long
returns-then-branch-clause-long g c is = found-long _ _ _ _ _ _ _ (long-of _ c.kind_of.result c.kind_of.ensures.long is) (found g c)

nil-length : (xs : List ℕ) → length xs ≡ 0 → xs ≡ []
nil-length [] e = refl
nil-length (x ∷ xs) e = absurd (omega arith)

is_nil : (v : Vec ℕ Global) → length v.items ≡ v.len → true ≡ eqb v.len 0 → v.items ≡ []
is_nil v same empty = nil-length v.items (let h : v.len ≡ 0 = grind (arith, nat_tests) in same ∙ h)

is_some : (v : Vec ℕ Global) → length v.items ≡ v.len → false ≡ eqb v.len 0 → v.items ≡ [] → ⊥
is_some v same some nil = let e : length v.items ≡ 0 = ap length nil in grind (arith, nat_tests)

over-at-end : (kept : List ℕ) (left : Option (List ℕ)) → (kept ≡ []) × IsAtEnd left → IsAtEnd (bytes_before kept left)
over-at-end kept left h = rw h.0 (at_end-before left h.1)

-- where the script ends with no text so far
nothing : (g : _) (c : goal.Then-is_empty g) → IsEmpty (bytes_before c.args.self.now.kept (g.S.Source.left c.args.source.now)) c.args.self.now.taken c.next_byte.new.self.taken
nothing g c =
    let taken = rw c.in_default.is at c.in_ok-byte.ensures.none in
    let same = rw c.in_default.is at c.in_ok-byte.ensures.same in
    let at_end = rw c.in_default.is at c.in_ok-byte.ensures.end in
    let ended = over-at-end _ _ (c.in_ok-byte.ensures.of at_end) in
    let empty = is_nil c.end_script.new.line (sym c.end_script.new.line.ok.0) c.if-is_empty.ensures in
    reads-nothing _ _ _ _ _ _ _ _ _ _ _ _ c.loop-byte.invariant.reads taken (rw (← same) at ended) empty c.in_ok-end_script.ensures.text

pub returns-then-is_empty-clause-end : goal.returns-then-is_empty-clause-end
returns-then-is_empty-clause-end g c is = (nothing g c).none

pub returns-then-is_empty-clause-end_taken : goal.returns-then-is_empty-clause-end_taken
returns-then-is_empty-clause-end_taken g c is = (nothing g c).taken

last : (g : _) (c : goal.After-kind_of-2 g) → Found SCRIPT_MOST (bytes_before c.args.self.now.kept (g.S.Source.left c.args.source.now)) (bytes_before c.next_byte.new.self.kept (g.S.Source.left c.next_byte.new.source)) c.args.self.now.taken c.next_byte.new.self c.end_script.new.line.items c.end_script.new.self.is_long
last g c =
    let taken = rw c.in_default.is at c.in_ok-byte.ensures.none in
    let same = rw c.in_default.is at c.in_ok-byte.ensures.same in
    let at_end = rw c.in_default.is at c.in_ok-byte.ensures.end in
    let some = is_some c.end_script.new.line (sym c.end_script.new.line.ok.0) c.if-is_empty.ensures in
    reads-last _ _ _ _ _ _ _ _ _ _ _ _ _ _ c.loop-byte.invariant.reads same taken c.in_ok-byte.ensures.within at_end some c.in_ok-end_script.ensures.text

pub returns-clause-line : goal.returns-clause-line
returns-clause-line g c is = found-line _ _ _ _ _ _ _ (line-of _ c.kind_of-2.result c.kind_of-2.ensures.short is) (last g c)

pub returns-clause-long : goal.returns-clause-long
returns-clause-long g c is = found-long _ _ _ _ _ _ _ (long-of _ c.kind_of-2.result c.kind_of-2.ensures.long is) (last g c)

pub returns-in_err-byte-clause-in_hand : goal.returns-in_err-byte-clause-in_hand
returns-in_err-byte-clause-in_hand g c whole = unasked-then _ _ _ _ _ _ _ _ _ _ _ c.loop-byte.invariant.reads c.in_err-byte.ensures.in_hand whole

pub returns-in_err-add-clause-in_hand : goal.returns-in_err-add-clause-in_hand
returns-in_err-add-clause-in_hand g c whole = unasked-then _ _ _ _ _ _ _ _ _ _ _ c.loop-byte.invariant.reads c.in_ok-byte.ensures.in_hand whole

pub returns-in_err-take_text-clause-in_hand : goal.returns-in_err-take_text-clause-in_hand
returns-in_err-take_text-clause-in_hand g c whole = unasked-then _ _ _ _ _ _ _ _ _ _ _ c.loop-byte.invariant.reads c.in_ok-byte.ensures.in_hand whole

pub returns-in_err-take_text-clause-of : goal.returns-in_err-take_text-clause-of
returns-in_err-take_text-clause-of g c = rw c.in_err-take_text.ensures.err c.in_ok-byte.ensures.of

pub returns-in_err-end_piece-clause-in_hand : goal.returns-in_err-end_piece-clause-in_hand
returns-in_err-end_piece-clause-in_hand g c whole = unasked-then _ _ _ _ _ _ _ _ _ _ _ c.loop-byte.invariant.reads c.in_ok-byte.ensures.in_hand whole

pub returns-then-branch-clause-in_hand : goal.returns-then-branch-clause-in_hand
returns-then-branch-clause-in_hand g c whole = unasked-then _ _ _ _ _ _ _ _ _ _ _ c.loop-byte.invariant.reads c.in_ok-byte.ensures.in_hand whole

pub returns-in_err-end_script-clause-in_hand : goal.returns-in_err-end_script-clause-in_hand
returns-in_err-end_script-clause-in_hand g c whole = unasked-then _ _ _ _ _ _ _ _ _ _ _ c.loop-byte.invariant.reads c.in_ok-byte.ensures.in_hand whole

pub returns-then-is_empty-clause-in_hand : goal.returns-then-is_empty-clause-in_hand
returns-then-is_empty-clause-in_hand g c whole = unasked-then _ _ _ _ _ _ _ _ _ _ _ c.loop-byte.invariant.reads c.in_ok-byte.ensures.in_hand whole

pub returns-clause-in_hand : goal.returns-clause-in_hand
returns-clause-in_hand g c whole = unasked-then _ _ _ _ _ _ _ _ _ _ _ c.loop-byte.invariant.reads c.in_ok-byte.ensures.in_hand whole
