use Rattle.salt_bytes.specs.Log.{entries_in}
use Rattle.salt_decisions.proofs.Begun.{a_stays, are_parts, b_stays, begun_counts, begun_keeps, blank_a, blank_b, blank_image, blank_stays, blank_with_a, blank_with_b, first_blank, full_a, full_b, made_blank, one_zero, zero_one}
use Rattle.salt_decisions.proofs.Moving.{some_same}
use Rattle.salt_decisions.proofs.Snapshots.{full_appended}
use Rattle.salt_decisions.proofs.open.begin.Goals as goal
use Rattle.salt_decisions.specs.Header.{numbered_of}
use Rattle.salt_decisions.specs.Opened.{IsBlankImage, first_payload}
use Rattle.salt_disk.specs.Disks.{FullOnly, IsUnchanged, KeepsOthers}
use Rattle.salt_disk.specs.declared.disks.DiskErr.TheVariants.{Full}
use Rattle.salt_disk.specs.declared.disks.DiskErr.{DiskErr}
use Rattle.salt_gatelog.specs.Log as gates
use Rattle.std.proofs.Common.{Err, None, Option, Some, [], ap, arith, length, refl, subst, sym, ◌+◌, ◌≡◌, ◌∙◌}
use Rattle.std.proofs.lemmas.Result.{err_from_is_err_and}
use Rattle.std.specs.Prelude.{map}
use Rattle.std.specs.Result.{result_err}

pub returns-in_err-payload-clause-images_b : goal.returns-in_err-payload-clause-images_b
returns-in_err-payload-clause-images_b g c =
    let d0 = g.D.Disks.view c.args.disks.now in
    blank_image d0 1 c.requires.settled_b (λ told. blank_b d0.bytes (c.requires.blank told))

pub returns-in_err-_other-clause-images_a : goal.returns-in_err-_other-clause-images_a
returns-in_err-_other-clause-images_a g c =
    let d0 = g.D.Disks.view c.args.disks.now in
    let d1 = g.D.Disks.view c.create.new.disks in
    first_blank d1 c.args.shape (a_stays d0 d1 (result_err c.create.result) IsBlankImage c.create.ensures.others (blank_image d0 0 c.requires.settled_a (λ told. blank_a d0.bytes (c.requires.blank told))))

pub returns-in_err-_other-clause-images_b : goal.returns-in_err-_other-clause-images_b
returns-in_err-_other-clause-images_b g c =
    let d0 = g.D.Disks.view c.args.disks.now in
    let d1 = g.D.Disks.view c.create.new.disks in
    made_blank d0 d1 1 c.create.ensures.others.shape (λ told. blank_b d0.bytes (c.requires.blank told)) c.create.ensures.images

pub returns-in_err-gate-clause-images_a : goal.returns-in_err-gate-clause-images_a
returns-in_err-gate-clause-images_a g c =
    let d0 = g.D.Disks.view c.args.disks.now in
    let d1 = g.D.Disks.view c.create.new.disks in
    let d2 = g.D.Disks.view c.create-2.new.disks in
    let keeps : KeepsOthers 1 d0 d1 None = c.in_ok-_other.ensures.others in
    first_blank d2 c.args.shape (made_blank d1 d2 0 c.create-2.ensures.others.shape
    (λ told. ap entries_in (keeps.kept 0 zero_one).bytes ∙ blank_a d0.bytes (c.requires.blank (sym keeps.shape.told ∙ told)))
    c.create-2.ensures.images)

pub returns-in_err-gate-clause-images_b : goal.returns-in_err-gate-clause-images_b
returns-in_err-gate-clause-images_b g c =
    let d0 = g.D.Disks.view c.args.disks.now in
    let d1 = g.D.Disks.view c.create.new.disks in
    let d2 = g.D.Disks.view c.create-2.new.disks in
    b_stays d1 d2 (result_err c.create-2.result) IsBlankImage c.create-2.ensures.others (made_blank d0 d1 1 c.create.ensures.others.shape (λ told. blank_b d0.bytes (c.requires.blank told)) c.create.ensures.images)

pub returns-in_err-append-clause-images_b : goal.returns-in_err-append-clause-images_b
returns-in_err-append-clause-images_b g c =
    let d0 = g.D.Disks.view c.args.disks.now in
    let d1 = g.D.Disks.view c.create.new.disks in
    let d2 = g.D.Disks.view c.create-2.new.disks in
    let d3 = g.D.Disks.view c.append.new.disks in
    let own : KeepsOthers 0 d2 d3 (result_err c.append.result) = subst (λ dev. KeepsOthers dev d2 d3 (result_err c.append.result)) c.in_ok-gate.ensures.log.0 c.append.ensures.others in
    b_stays d2 d3 (result_err c.append.result) IsBlankImage own
    (b_stays d1 d2 (result_err c.create-2.result) IsBlankImage c.create-2.ensures.others (made_blank d0 d1 1 c.create.ensures.others.shape (λ told. blank_b d0.bytes (c.requires.blank told)) c.create.ensures.images))

pub returns-clause-images_b : goal.returns-clause-images_b
returns-clause-images_b g c =
    let d0 = g.D.Disks.view c.args.disks.now in
    let d1 = g.D.Disks.view c.create.new.disks in
    let d2 = g.D.Disks.view c.create-2.new.disks in
    let d3 = g.D.Disks.view c.append.new.disks in
    let own : KeepsOthers 0 d2 d3 (result_err c.append.result) = subst (λ dev. KeepsOthers dev d2 d3 (result_err c.append.result)) c.in_ok-gate.ensures.log.0 c.append.ensures.others in
    b_stays d2 d3 (result_err c.append.result) IsBlankImage own
    (b_stays d1 d2 (result_err c.create-2.result) IsBlankImage c.create-2.ensures.others (made_blank d0 d1 1 c.create.ensures.others.shape (λ told. blank_b d0.bytes (c.requires.blank told)) c.create.ensures.images))

pub returns-clause-ok : goal.returns-clause-ok
returns-clause-ok g c =
    let d0 = g.D.Disks.view c.args.disks.now in
    let d1 = g.D.Disks.view c.create.new.disks in
    let d2 = g.D.Disks.view c.create-2.new.disks in
    let d3 = g.D.Disks.view c.append.new.disks in
    let gate = c.in_ok-gate.gate in
    let own : KeepsOthers 0 d2 d3 None = subst (λ dev. KeepsOthers dev d2 d3 None) c.in_ok-gate.ensures.log.0 c.in_ok-append.ensures.others in
    record {
      own = refl;
      holds = record {
        format = refl;
        generation = refl;
        shape = refl;
        boot = refl;
        decisions = refl;
        definitions = ap (map numbered_of) c.new.ensures;
        conts = λ rises cs is. c.new-2.ensures ∙ some_same [] cs is;
        parts = are_parts c.args.shape c.requires.parts;
      };
      counting = begun_counts c.args.shape d0 d1 d2 d3 c.in_ok-_other._other gate c.append.new.self c.deref.result.now c.requires.parts (c.deref.ensures.value ∙ c.in_ok-payload.ensures.put) c.requires.known
          c.in_ok-_other.ensures.log.0 c.in_ok-_other.ensures.log.1 c.in_ok-_other.ensures.others c.in_ok-gate.ensures.log.0 c.in_ok-gate.ensures.others own c.append.ensures.device
          (c.in_ok-append.ensures.ok [] c.in_ok-gate.ensures.log.1);
    }

pub returns-clause-others : goal.returns-clause-others
returns-clause-others g c =
    let d0 = g.D.Disks.view c.args.disks.now in
    let d1 = g.D.Disks.view c.create.new.disks in
    let d2 = g.D.Disks.view c.create-2.new.disks in
    let d3 = g.D.Disks.view c.append.new.disks in
    let own : KeepsOthers 0 d2 d3 None = subst (λ dev. KeepsOthers dev d2 d3 None) c.in_ok-gate.ensures.log.0 c.in_ok-append.ensures.others in
    begun_keeps c.args.shape d0 d1 d2 d3 c.in_ok-_other._other c.in_ok-gate.gate c.append.new.self c.deref.result.now c.requires.parts (c.deref.ensures.value ∙ c.in_ok-payload.ensures.put) c.requires.known
    c.in_ok-_other.ensures.log.0 c.in_ok-_other.ensures.log.1 c.in_ok-_other.ensures.others c.in_ok-gate.ensures.log.0 c.in_ok-gate.ensures.others own c.append.ensures.device
    (c.in_ok-append.ensures.ok [] c.in_ok-gate.ensures.log.1)

pub returns-in_err-_other-clause-full : goal.returns-in_err-_other-clause-full
returns-in_err-_other-clause-full g c told =
    let d0 = g.D.Disks.view c.args.disks.now in
    let d1 = g.D.Disks.view c.create.new.disks in
    let p = err_from_is_err_and c.from_residual-in_err-_other.result c.from_residual-in_err-_other.ensures.1 in
    rw (p.1, p.2) (full_b d0 d1 (first_payload c.args.shape) (Some c.in_err-_other.field-0.0) c.in_err-_other.ensures.others.shape (c.in_err-_other.ensures.unwritten told) (λ n is. c.in_err-_other.ensures.untouched n (cc is)) c.in_err-_other.ensures.full)

pub returns-in_err-gate-clause-full : goal.returns-in_err-gate-clause-full
returns-in_err-gate-clause-full g c told =
    let d1 = g.D.Disks.view c.create.new.disks in
    let d2 = g.D.Disks.view c.create-2.new.disks in
    let p = err_from_is_err_and c.from_residual-in_err-gate.result c.from_residual-in_err-gate.ensures.1 in
    rw (p.1, p.2) (full_a d1 d2 (first_payload c.args.shape) 1 (Some c.in_err-gate.field-0.0) c.in_err-gate.ensures.others.shape (omega arith) c.in_err-gate.ensures.full)

pub returns-in_err-append-clause-full : goal.returns-in_err-append-clause-full
returns-in_err-append-clause-full g c told =
    let d2 = g.D.Disks.view c.create-2.new.disks in
    let d3 = g.D.Disks.view c.append.new.disks in
    let p = err_from_is_err_and c.from_residual-in_err-append.result c.from_residual-in_err-append.ensures.1 in
    let gate = c.in_ok-gate.gate in
    let answer : Option DiskErr = Some c.in_err-append.field-0.0 in
    let end : gates.gate_of gate + 10 + length c.deref.result.now ≡ 10 + length (first_payload c.args.shape) =
    omega (arith, c.in_ok-gate.ensures.log.1.end, ap length (c.deref.ensures.value ∙ c.in_ok-payload.ensures.put)) in
    let only = full_appended (gates.device_of gate) (d2.limit (gates.device_of gate)) (d2.limit (gates.device_of gate)) (10 + length (first_payload c.args.shape)) (gates.gate_of gate + 10 + length c.deref.result.now) answer refl end c.in_err-append.ensures.full in
    rw (p.1, p.2) (full_a d2 d3 (first_payload c.args.shape) (10 + length (first_payload c.args.shape)) answer c.in_err-append.ensures.others.shape (omega arith)
    (subst (λ dev. FullOnly dev (d2.limit dev) (10 + length (first_payload c.args.shape)) answer) c.in_ok-gate.ensures.log.0 only))

pub returns-in_err-_other-clause-blank : goal.returns-in_err-_other-clause-blank
returns-in_err-_other-clause-blank g c dev is told =
    let d0 = g.D.Disks.view c.args.disks.now in
    let d1 = g.D.Disks.view c.create.new.disks in
    let p = err_from_is_err_and c.from_residual-in_err-_other.result c.from_residual-in_err-_other.ensures.1 in
    let full : c.in_err-_other.field-0.0 ≡ Full dev = cc (is, p.1, p.2) in
    let keeps : KeepsOthers 1 d0 d1 (Some (Full dev)) = subst (λ e. KeepsOthers 1 d0 d1 (Some e)) full c.in_err-_other.ensures.others in
    blank_stays d0 d1 (keeps.kept 0 zero_one).bytes (c.in_err-_other.ensures.untouched dev (ap Err full)).bytes (c.requires.blank told)

pub returns-in_err-gate-clause-blank : goal.returns-in_err-gate-clause-blank
returns-in_err-gate-clause-blank g c dev is told =
    let d0 = g.D.Disks.view c.args.disks.now in
    let d1 = g.D.Disks.view c.create.new.disks in
    let d2 = g.D.Disks.view c.create-2.new.disks in
    let p = err_from_is_err_and c.from_residual-in_err-gate.result c.from_residual-in_err-gate.ensures.1 in
    let full : c.in_err-gate.field-0.0 ≡ Full dev = cc (is, p.1, p.2) in
    let keeps : KeepsOthers 0 d1 d2 (Some (Full dev)) = subst (λ e. KeepsOthers 0 d1 d2 (Some e)) full c.in_err-gate.ensures.others in
    blank_stays d1 d2 (c.in_err-gate.ensures.untouched dev (ap Err full)).bytes (keeps.kept 1 one_zero).bytes
    (blank_with_b d0 d1 c.in_ok-_other._other c.in_ok-_other.ensures.others c.in_ok-_other.ensures.log.0 c.in_ok-_other.ensures.log.1 told (c.requires.blank told))

pub returns-in_err-append-clause-blank : goal.returns-in_err-append-clause-blank
returns-in_err-append-clause-blank g c dev is told =
    let d0 = g.D.Disks.view c.args.disks.now in
    let d1 = g.D.Disks.view c.create.new.disks in
    let d2 = g.D.Disks.view c.create-2.new.disks in
    let d3 = g.D.Disks.view c.append.new.disks in
    let p = err_from_is_err_and c.from_residual-in_err-append.result c.from_residual-in_err-append.ensures.1 in
    let full : c.in_err-append.field-0.0 ≡ Full dev = cc (is, p.1, p.2) in
    let at = c.in_ok-gate.ensures.log.0 in
    let keeps : KeepsOthers 0 d2 d3 (Some (Full dev)) = subst (λ e. KeepsOthers 0 d2 d3 (Some e)) full (subst (λ k. KeepsOthers k d2 d3 (Some c.in_err-append.field-0.0)) at c.in_err-append.ensures.others) in
    let same : IsUnchanged d2 d3 0 = subst (IsUnchanged d2 d3) at (c.in_err-append.ensures.untouched dev (ap Err full)) in
    let first = c.in_ok-_other.ensures.others in
    blank_stays d2 d3 same.bytes (keeps.kept 1 one_zero).bytes
    (blank_with_a d1 d2 c.in_ok-gate.gate c.in_ok-gate.ensures.others at c.in_ok-gate.ensures.log.1 (first.shape.told ∙ told)
    (blank_with_b d0 d1 c.in_ok-_other._other first c.in_ok-_other.ensures.log.0 c.in_ok-_other.ensures.log.1 told (c.requires.blank told)))
