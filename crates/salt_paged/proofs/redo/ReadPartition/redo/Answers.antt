use Rattle.salt_bytes.specs.Partition.{Prepared}
use Rattle.salt_checkpoint.proofs.Torn.{keeps_more, named_refl}
use Rattle.salt_checkpoint.specs.Sides.{KeepsNamed}
use Rattle.salt_disk.proofs.CallAfterCall.{cause_memory, cause_none, cause_on, keeps_on, same_shape}
use Rattle.salt_disk.specs.Disks.{FullOnly, KeepsOthers}
use Rattle.salt_disk.specs.declared.disks.DiskErr.TheVariants.{Full}
use Rattle.salt_disk.specs.declared.disks.DiskErr.{DiskErr}
use Rattle.salt_bytes.specs.Page.{page_place}
use Rattle.salt_partition.proofs.Seeing.{units_push}
use Rattle.salt_paged.proofs.Fulls.{full_at}
use Rattle.salt_paged.proofs.Redone.{full_wider, prefix_all, prefix_next, put_at, unit_within, within_all}
use Rattle.salt_paged.proofs.redo.ReadPartition.redo.Goals as goal
use Rattle.salt_paged.specs.Openings.{page_bound}
use Rattle.salt_paged.specs.Partitions.{StandsUpTo, page_count, pages_of}
use Rattle.salt_partition.specs.Contents.{ArePut, units_of}
use Rattle.salt_bytes.specs.Spellable.{Every}
use Rattle.salt_values.specs.Id.{has_id}
use Rattle.std.proofs.Common.{List, None, Some, [], ap, arith, length, refl, subst, sym, ◌++◌, ◌≡◌, ◌≤◌, ◌∙◌, ◌∷◌}
use Rattle.std.proofs.lemmas.Iterator.Adapters.{YieldsList-from_vec}
use Rattle.std.proofs.lemmas.Iterator.Consumers.{YieldsList-end, YieldsList-turn}
use Rattle.std.proofs.lemmas.Result.{err_from_is_err_and}

pub loop-unit-init : goal.loop-unit-init
loop-unit-init g c =
    let d = g.D.Disks.view c.args.disks.now in
    record {
      stands = λ p v is. is.is c.args.decided.now;
      same = refl;
      keeps = record { shape = same_shape d; kept = λ dev apart. record { bytes = refl; images = λ image left. left }; images = λ dev apart image left. left };
      named = λ p v is image left. (image, left, named_refl v.log.header.sides image);
      cause = cause_none d;
      pages = λ p v is told. omega (arith, ap length is.sides);
      first = refl;
    }

pub redo_unit-requires : goal.redo_unit-requires
redo_unit-requires g c =
    let r = c.requires in
    let l = c.loop-unit in
    let us = c.args.decided.now in
    let unit = c.in-Some.unit in
    let all = c.args.self.units.items in
    let from = c.into_iter-unit-iterator.ensures.into_iter_gives in
    let t = YieldsList-turn (YieldsList-from_vec {s = c.into_iter-unit-iterator.result} all from.0 (from.1 ∙ c.args.self.units.ok.0)) l.yielded l.unit-iterator l.yielded_by c.next.result c.next.new.self unit c.in-Some.is c.next.ensures.steps in
    let is = l.invariant.stands r.p r.v r.is in
    record {
      p = r.p;
      v = r.v;
      applied = us;
      done = units_of l.yielded;
      is = is;
      named = ap (has_id unit.unit) (sym c.as_slice.ensures) ∙ sym (c.in_ok-set.ensures unit.unit) ∙ sym c.is_in-is_decided.ensures;
      put = put_at all (length l.yielded) unit (subst (Every ArePut) (sym r.is.units) is.put) t;
    }

pub loop-unit-preserved : goal.loop-unit-preserved
loop-unit-preserved g c =
    let l = c.loop-unit in
    let d0 = g.D.Disks.view c.args.disks.now in
    let d = g.D.Disks.view l.disks in
    let e = g.D.Disks.view c.redo_unit.new.disks in
    let us = c.args.decided.now in
    let unit = c.in-Some.unit in
    let pages = pages_of c.args.self.partition in
    let all = c.args.self.units.items in
    let from = c.into_iter-unit-iterator.ensures.into_iter_gives in
    let t = YieldsList-turn (YieldsList-from_vec {s = c.into_iter-unit-iterator.result} all from.0 (from.1 ∙ c.args.self.units.ok.0)) l.yielded l.unit-iterator l.yielded_by c.next.result c.next.new.self unit c.in-Some.is c.next.ensures.steps in
    let named : has_id unit.unit us ≡ c.is_in-is_decided.result = ap (has_id unit.unit) (sym c.as_slice.ensures) ∙ sym (c.in_ok-set.ensures unit.unit) ∙ sym c.is_in-is_decided.ensures in
    record {
      stands = λ p v is. subst (λ done. StandsUpTo e c.redo_unit.new.partition p v us done) (sym (units_push l.yielded unit)) (c.in_ok-redo_unit.ensures.ok p v us (units_of l.yielded) (l.invariant.stands p v is) named);
      same = c.redo_unit.ensures.same ∙ l.invariant.same;
      keeps = keeps_on (λ dev. dev ≡ pages) d0 d e None l.invariant.keeps (subst (λ k. KeepsOthers k d e None) l.invariant.same c.in_ok-redo_unit.ensures.others);
      named = λ p v is.
          let sides = v.log.header.sides in
          keeps_more sides d0 d e pages (l.invariant.named p v is)
          (subst (λ k. KeepsNamed sides d e k) l.invariant.same (c.redo_unit.ensures.images p v us (units_of l.yielded) (l.invariant.stands p v is)));
      cause = cause_on d0 d e None l.invariant.cause c.in_ok-redo_unit.ensures.cause;
      pages = λ p v is told.
          unit_within us v l.yielded unit c.is_in-is_decided.result (page_count l.partition) (page_count c.redo_unit.new.partition) named (l.invariant.pages p v is told)
          (c.redo_unit.ensures.pages p v us (units_of l.yielded) (l.invariant.stands p v is) named (l.invariant.keeps.shape.told ∙ told));
      first = prefix_next all l.yielded unit l.invariant.first t;
    }

-- NO MEMORY for the set of units

pub returns-in_err-set-clause-images : goal.returns-in_err-set-clause-images
returns-in_err-set-clause-images g c p v is image left = (image, left, named_refl v.log.header.sides image)

pub returns-in_err-set-clause-cause : goal.returns-in_err-set-clause-cause
returns-in_err-set-clause-cause g c =
    let d = g.D.Disks.view c.args.disks.now in
    let p = err_from_is_err_and c.from_residual.result c.from_residual.ensures.1 in
    rw (p.1, p.2) (cause_memory d d (cause_none d))

-- AN ERROR

pub returns-in_err-redo_unit-clause-images : goal.returns-in_err-redo_unit-clause-images
returns-in_err-redo_unit-clause-images g c p v is =
    let l = c.loop-unit in
    let d0 = g.D.Disks.view c.args.disks.now in
    let d = g.D.Disks.view l.disks in
    let e = g.D.Disks.view c.redo_unit.new.disks in
    let sides = v.log.header.sides in
    keeps_more sides d0 d e (pages_of c.args.self.partition) (l.invariant.named p v is)
    (subst (λ k. KeepsNamed sides d e k) l.invariant.same (c.redo_unit.ensures.images p v c.args.decided.now (units_of l.yielded) (l.invariant.stands p v is)))

pub returns-in_err-redo_unit-clause-others : goal.returns-in_err-redo_unit-clause-others
returns-in_err-redo_unit-clause-others g c =
    let l = c.loop-unit in
    let d0 = g.D.Disks.view c.args.disks.now in
    let d = g.D.Disks.view l.disks in
    let e = g.D.Disks.view c.redo_unit.new.disks in
    let answer = Some c.in_err-redo_unit.field-0.0 in
    let p = err_from_is_err_and c.from_residual-in_err-redo_unit.result c.from_residual-in_err-redo_unit.ensures.1 in
    rw (p.1, p.2) (keeps_on (λ dev. dev ≡ pages_of c.args.self.partition) d0 d e answer l.invariant.keeps (subst (λ k. KeepsOthers k d e answer) l.invariant.same c.in_err-redo_unit.ensures.others))

pub returns-in_err-redo_unit-clause-cause : goal.returns-in_err-redo_unit-clause-cause
returns-in_err-redo_unit-clause-cause g c =
    let l = c.loop-unit in
    let d0 = g.D.Disks.view c.args.disks.now in
    let d = g.D.Disks.view l.disks in
    let e = g.D.Disks.view c.redo_unit.new.disks in
    let p = err_from_is_err_and c.from_residual-in_err-redo_unit.result c.from_residual-in_err-redo_unit.ensures.1 in
    rw (p.1, p.2) (cause_on d0 d e (Some c.in_err-redo_unit.field-0.0) l.invariant.cause c.in_err-redo_unit.ensures.cause)

pub returns-in_err-redo_unit-clause-full : goal.returns-in_err-redo_unit-clause-full
returns-in_err-redo_unit-clause-full g c p v is told =
    let l = c.loop-unit in
    let d0 = g.D.Disks.view c.args.disks.now in
    let d = g.D.Disks.view l.disks in
    let us = c.args.decided.now in
    let unit = c.in-Some.unit in
    let all = c.args.self.units.items in
    let from = c.into_iter-unit-iterator.ensures.into_iter_gives in
    let t = YieldsList-turn (YieldsList-from_vec {s = c.into_iter-unit-iterator.result} all from.0 (from.1 ∙ c.args.self.units.ok.0)) l.yielded l.unit-iterator l.yielded_by c.next.result c.next.new.self unit c.in-Some.is c.next.ensures.steps in
    let named : has_id unit.unit us ≡ c.is_in-is_decided.result = ap (has_id unit.unit) (sym c.as_slice.ensures) ∙ sym (c.in_ok-set.ensures unit.unit) ∙ sym c.is_in-is_decided.ensures in
    let count = page_count c.redo_unit.new.partition in
    let few : count ≤ page_bound us v = within_all us v all (l.yielded ++ unit ∷ []) count is.units (prefix_next all l.yielded unit l.invariant.first t)
    (unit_within us v l.yielded unit c.is_in-is_decided.result (page_count l.partition) count named (l.invariant.pages p v is told)
    (c.redo_unit.ensures.pages p v us (units_of l.yielded) (l.invariant.stands p v is) named (l.invariant.keeps.shape.told ∙ told))) in
    let answer = Some c.in_err-redo_unit.field-0.0 in
    let q = err_from_is_err_and c.from_residual-in_err-redo_unit.result c.from_residual-in_err-redo_unit.ensures.1 in
    let pages = pages_of c.args.self.partition in
    let full : FullOnly pages (d.limit pages) (page_place count 0) answer = subst (λ k. FullOnly k (d.limit k) (page_place count 0) answer) l.invariant.same c.in_err-redo_unit.ensures.full in
    rw (q.1, q.2) (full_wider pages (d0.limit pages) count (page_bound us v) answer few (subst (λ k. FullOnly pages k (page_place count 0) answer) (l.invariant.keeps.shape.limit pages) full))

pub returns-in_err-redo_unit-clause-device : goal.returns-in_err-redo_unit-clause-device
returns-in_err-redo_unit-clause-device g c n is =
    let l = c.loop-unit in
    let q = err_from_is_err_and c.from_residual-in_err-redo_unit.result c.from_residual-in_err-redo_unit.ensures.1 in
    let same : c.in_err-redo_unit.field-0.0 ≡ Full n = cc (q.1, q.2, is) in
    let pages = pages_of l.partition in
    full_at pages ((g.D.Disks.view l.disks).limit pages) (page_place (page_count c.redo_unit.new.partition) 0) n (Some c.in_err-redo_unit.field-0.0) (ap (λ (e : DiskErr). Some e) same) c.in_err-redo_unit.ensures.full ∙ l.invariant.same

-- ALL ARE DONE

pub returns-clause-ok : goal.returns-clause-ok
returns-clause-ok g c p v is =
    let l = c.loop-unit in
    let all = c.args.self.units.items in
    let from = c.into_iter-unit-iterator.ensures.into_iter_gives in
    let t = YieldsList-end (YieldsList-from_vec {s = c.into_iter-unit-iterator.result} all from.0 (from.1 ∙ c.args.self.units.ok.0)) l.yielded l.unit-iterator l.yielded_by c.next.result c.next.new.self c.in-None.is c.next.ensures.steps in
    let same : l.yielded ≡ all = prefix_all all l.yielded l.invariant.first t.1 in
    subst (λ (done : List Prepared). StandsUpTo (g.D.Disks.view l.disks) l.partition p v c.args.decided.now done) (ap units_of same ∙ is.units) (l.invariant.stands p v is)
