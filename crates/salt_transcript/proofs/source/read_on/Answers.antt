use Rattle.salt_audit.specs.Transcripts.{IsVerdict}
use Rattle.salt_audit.specs.declared.verdict.Verdict.{Verdict}
use Rattle.salt_io.specs.Streams.{bytes_before}
use Rattle.salt_transcript.proofs.ReadIn.{end_read, more_read, none_read, of_all, of_piece}
use Rattle.salt_transcript.proofs.Stopping.{settled_within, too_long}
use Rattle.salt_transcript.proofs.source.read_on.Goals as goal
use Rattle.salt_transcript.specs.Stopping.{IsTooLong}
use Rattle.std.proofs.Common.{List, Ok, [], ap, arith, drop, refl, rules, subst, take, ℕ, ◌++◌, ◌∙◌, ◌≡◌}
use Rattle.std.proofs.lemmas.List.{length-append, length-drop, length-take-le}

pub reads-init : goal.reads-init
reads-init g c = record {
  sized = refl;
  leads = c.requires.leads;
  come = ([], c.requires.come, refl, none_read (g.S.Source.left c.args.source.now));
  faults = refl;
}

pub returns-then-count-eq0-clause-only : goal.returns-then-count-eq0-clause-only
returns-then-count-eq0-clause-only g c =
    let left = g.S.Source.left in
    let come = c.reads.invariant.come in
    let end = c.in_ok-count.ensures.end c.if-count-eq0.true (omega (arith, c.reads.invariant.sized)) in
    let verdict = c.in_ok-ended.field-0 in
    of_all (λ (bytes : List ℕ). (other : Verdict) → IsVerdict bytes other → other ≡ verdict) (left c.args.source.now) come.0
    (end_read (left c.args.source.now) (left c.reads.source) (left c.read.new.self) come.0 c.read.new.buf c.in_ok-count.count come.3 c.in_ok-count.ensures.taken c.if-count-eq0.true end)
    (λ other h. c.one_verdict.ensures come.0 other verdict h (c.in_ok-ended.ensures come.0 come.1))

pub returns-in-Some-clause-verdict : goal.returns-in-Some-clause-verdict
returns-in-Some-clause-verdict g c =
    let left = g.S.Source.left in
    let come = c.reads.invariant.come in
    let buf = c.read.new.buf in
    let count = c.in_ok-count.count in
    let within = c.min-within.result in
    let ends = rw c.in-Some.is at c.in_ok-verdict.ensures.ends in
    of_piece (λ (bytes : List ℕ). IsVerdict bytes c.in-Some.verdict) (left c.args.source.now) (left c.reads.source) (left c.read.new.self) come.0 buf count within come.3 c.in_ok-count.ensures.taken
    (omega (arith, c.min-within.ensures)) (λ more. let settled = ends come.0 (drop within (take count buf) ++ more) come.1 in settled.is)

pub returns-in-Some-clause-only : goal.returns-in-Some-clause-only
returns-in-Some-clause-only g c =
    let left = g.S.Source.left in
    let come = c.reads.invariant.come in
    let buf = c.read.new.buf in
    let count = c.in_ok-count.count in
    let within = c.min-within.result in
    let verdict = c.in-Some.verdict in
    let ends = rw c.in-Some.is at c.in_ok-verdict.ensures.ends in
    of_piece (λ (bytes : List ℕ). (other : Verdict) → IsVerdict bytes other → other ≡ verdict) (left c.args.source.now) (left c.reads.source) (left c.read.new.self) come.0 buf count within come.3
    c.in_ok-count.ensures.taken (omega (arith, c.min-within.ensures))
    (λ more other h.
    let settled = ends come.0 (drop within (take count buf) ++ more) come.1 in
    c.one_verdict.ensures (come.0 ++ (take within buf ++ (drop within (take count buf) ++ more))) other verdict h settled.is)

pub returns-in-Some-clause-within : goal.returns-in-Some-clause-within
returns-in-Some-clause-within g c =
    let left = g.S.Source.left in
    let come = c.reads.invariant.come in
    let buf = c.read.new.buf in
    let count = c.in_ok-count.count in
    let within = c.min-within.result in
    let ends = rw c.in-Some.is at c.in_ok-verdict.ensures.ends in
    let most = come.2 in
    let taken = length-take-le within buf (omega (arith, c.min-within.ensures, c.in_ok-count.ensures.within)) in
    of_piece (λ (bytes : List ℕ). IsTooLong bytes → ⊥) (left c.args.source.now) (left c.reads.source) (left c.read.new.self) come.0 buf count within come.3 c.in_ok-count.ensures.taken
    (omega (arith, c.min-within.ensures))
    (λ more.
    settled_within come.0 (take within buf) (drop within (take count buf) ++ more) c.in-Some.verdict (omega (arith, c.min-within.ensures, most, taken))
    (ends come.0 (drop within (take count buf) ++ more) come.1))

pub returns-then-within-count-clause-long : goal.returns-then-within-count-clause-long
returns-then-within-count-clause-long g c = λ is.
    let left = g.S.Source.left in
    let come = c.reads.invariant.come in
    let buf = c.read.new.buf in
    let count = c.in_ok-count.count in
    let within = c.min-within.result in
    let goes = c.in_ok-verdict.ensures.goes_on (ap Ok c.in_default.is) come.0 come.1 in
    let most = come.2 in
    let taken = length-take-le within buf (omega (arith, c.min-within.ensures, c.in_ok-count.ensures.within)) in
    let read = length-take-le count buf c.in_ok-count.ensures.within in
    let behind = length-drop within (take count buf) in
    of_piece IsTooLong (left c.args.source.now) (left c.reads.source) (left c.read.new.self) come.0 buf count within come.3 c.in_ok-count.ensures.taken (omega (arith, c.min-within.ensures))
    (λ more.
    let parts = length-append (drop within (take count buf)) more in
    too_long c.next.new.self come.0 (take within buf) (drop within (take count buf) ++ more) goes (omega (arith, c.min-within.ensures, most, taken, c.if-within-count.true))
    (omega (arith, parts, behind, read, c.if-within-count.true)))

pub reads-preserved : goal.reads-preserved
reads-preserved g c =
    let left = g.S.Source.left in
    let come = c.reads.invariant.come in
    let buf = c.read.new.buf in
    let count = c.in_ok-count.count in
    let within = c.min-within.result in
    let all : count ≡ within = omega (arith, c.min-within.ensures, c.if-within-count.false) in
    let taken : left c.reads.source ≡ bytes_before (take within buf) (left c.read.new.self) =
    subst (λ (n : ℕ). left c.reads.source ≡ bytes_before (take n buf) (left c.read.new.self)) all c.in_ok-count.ensures.taken in
    let most = come.2 in
    let parts = length-append come.0 (take within buf) in
    let size = length-take-le within buf (omega (arith, c.min-within.ensures, c.in_ok-count.ensures.within)) in
    record {
      sized = search rules;
      leads = c.in_ok-verdict.ensures.leads;
      come = (
        come.0 ++ take within buf,
        c.in_ok-verdict.ensures.goes_on (ap Ok c.in_default.is) come.0 come.1,
        omega (arith, most, parts, size, all),
        more_read (left c.args.source.now) (left c.reads.source) (left c.read.new.self) come.0 (take within buf) come.3 taken,
      );
      faults = c.in_ok-count.ensures.same ∙ c.reads.invariant.faults;
    }
