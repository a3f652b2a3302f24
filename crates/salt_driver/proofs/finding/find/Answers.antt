use Rattle.salt_disk.specs.Disks.{KeepsAll}
use Rattle.salt_model.specs.declared.events.Event.{Event}
use Rattle.salt_driver.proofs.Counted.{opening-join, opening-none}
use Rattle.salt_driver.proofs.AtFirst.{at-first, fails-to-find, falls-unfound, first-before, later-by, no-more-behind, none-told, same-found}
use Rattle.salt_driver.proofs.finding.find.Goals as goal
use Rattle.salt_driver.specs.Counting.{CountsOpening}
use Rattle.salt_driver.specs.Opening.{FindsFirst, IsUnfound}
use Rattle.salt_storage.proofs.Staying.{stays-behind, stays-same}
use Rattle.std.proofs.Common.{ap, inl, inr, subst, sym, ◌∙◌}
use Rattle.std.proofs.lemmas.Result.{err_from_is_err_and}
use Rattle.std.specs.Prelude.{Err, List, None, Ok, [], refl}

pub stops-init : goal.stops-init
stops-init g c =
    let v = g.D.Disks.view c.args.disks.now in
    let s = c.args.storage.now in
    record {
      unopened = c.requires.unopened;
      settled = c.requires.settled;
      unfound = none-told c.args.story.now c.requires.empty;
      less = same-found (g.S.Storage.refuses v s) (g.S.Storage.finds v s);
      counts = subst (λ (told : List Event). CountsOpening v v None [] told) (sym c.requires.empty) (opening-none v []);
      untold = inl c.requires.empty;
      finds = λ k h. h;
      untouched = inl (refl, refl, c.requires.empty);
      within = stays-same (g.S.Storage.asked s) v;
    }

pub stops-preserved : goal.stops-preserved
stops-preserved g c =
    let view = g.D.Disks.view in
    let no = ap Ok c.in_default.is in
    let known = c.stops.invariant in
    let f = c.in_ok-found.ensures.falls no in
    record {
      unopened = c.in_ok-found.ensures.unopened no;
      settled = c.in_ok-found.ensures.settled no;
      unfound = falls-unfound c.stops.story c.try_find.new.story known.unfound f.falls;
      less = no-more-behind _ _ _ _ _ _ known.less f.less;
      counts = opening-join (view c.args.disks.now) (view c.stops.disks) (view c.try_find.new.disks) _ [] c.stops.story c.try_find.new.story known.counts c.in_ok-found.ensures.counts;
      untold = inr (c.in_ok-found.ensures.tried no);
      finds = λ k h. c.in_ok-found.ensures.finds no k (known.finds k h);
      untouched = inr (λ refusal is refused told. (at-first view (g.S.Storage.refuses) c.args.disks.now c.stops.disks c.args.storage.now c.stops.storage c.stops.story (λ v. ⊥) known.untouched
          (λ refusal is refused told. (c.in_ok-found.ensures.unwritten refusal is refused told).1 no) refusal is refused told).0);
      within = stays-behind known.within c.in_ok-found.ensures.within;
    }

pub returns-in-Some-clause-found : goal.returns-in-Some-clause-found
returns-in-Some-clause-found g c =
    let view = g.D.Disks.view in
    let known = c.stops.invariant in
    first-before _ (g.S.Storage.finds (view c.args.disks.now) c.args.storage.now) (g.S.Storage.finds (view c.stops.disks) c.stops.storage) (g.S.Storage.holds (view c.try_find.new.disks) c.try_find.new.storage)
    (g.S.Storage.refuses (view c.args.disks.now) c.args.storage.now) (g.S.Storage.refuses (view c.stops.disks) c.stops.storage) c.in-Some.found known.less
    (subst (λ b. FindsFirst b (g.S.Storage.finds (view c.stops.disks) c.stops.storage) (g.S.Storage.holds (view c.try_find.new.disks) c.try_find.new.storage) c.in-Some.found) known.within.shape.told
    (c.in_ok-found.ensures.found c.in-Some.found (ap Ok c.in-Some.is)))

pub returns-in-Some-clause-unfound : goal.returns-in-Some-clause-unfound
returns-in-Some-clause-unfound g c = subst IsUnfound (sym (c.in_ok-found.ensures.untold c.in-Some.found (ap Ok c.in-Some.is))) c.stops.invariant.unfound

pub returns-in-Some-clause-counts : goal.returns-in-Some-clause-counts
returns-in-Some-clause-counts g c =
    let view = g.D.Disks.view in
    opening-join (view c.args.disks.now) (view c.stops.disks) (view c.try_find.new.disks) _ [] c.stops.story c.try_find.new.story c.stops.invariant.counts c.in_ok-found.ensures.counts

pub returns-in-Some-clause-within : goal.returns-in-Some-clause-within
returns-in-Some-clause-within g c = stays-behind c.stops.invariant.within c.in_ok-found.ensures.within

pub returns-in-Some-clause-unwritten : goal.returns-in-Some-clause-unwritten
returns-in-Some-clause-unwritten g c =
    let view = g.D.Disks.view in
    λ refusal is refused told.
    let first = at-first view (g.S.Storage.refuses) c.args.disks.now c.stops.disks c.args.storage.now c.stops.storage c.stops.story (λ v. KeepsAll v (view c.try_find.new.disks) None) c.stops.invariant.untouched
    (λ refusal is refused told. (c.in_ok-found.ensures.unwritten refusal is refused told).0.keeps) refusal is refused told in
    (first.0, c.in_ok-found.ensures.untold c.in-Some.found (ap Ok c.in-Some.is) ∙ first.1)

pub returns-in_err-found-clause-err : goal.returns-in_err-found-clause-err
returns-in_err-found-clause-err g c =
    let view = g.D.Disks.view in
    let known = c.stops.invariant in
    let p = err_from_is_err_and c.from_residual.result c.from_residual.ensures.1 in
    rw (p.1, p.2) (fails-to-find (g.S.Storage.refuses (view c.args.disks.now) c.args.storage.now) (g.S.Storage.refuses (view c.stops.disks) c.stops.storage) (g.S.Storage.refuses (view c.try_find.new.disks) c.try_find.new.storage)
    (g.S.Storage.finds (view c.args.disks.now) c.args.storage.now) (g.S.Storage.finds (view c.stops.disks) c.stops.storage) (g.S.Storage.finds (view c.try_find.new.disks) c.try_find.new.storage) _ _ c.stops.story c.try_find.new.story
    c.in_err-found.ensures.unrefused known.less c.in_err-found.ensures.still c.in_err-found.ensures.refuses
    (later-by c.stops.story (g.S.Storage.tried (view c.stops.disks) c.stops.storage) _ known.untold c.in_err-found.ensures.later) (λ dev is. c.in_err-found.ensures.full dev (ap Err is)))

pub returns-in_err-found-clause-unfound : goal.returns-in_err-found-clause-unfound
returns-in_err-found-clause-unfound g c = subst IsUnfound (sym c.in_err-found.ensures.unrefused) c.stops.invariant.unfound

pub returns-in_err-found-clause-rests : goal.returns-in_err-found-clause-rests
returns-in_err-found-clause-rests g c =
    let p = err_from_is_err_and c.from_residual.result c.from_residual.ensures.1 in
    rw p.1 (λ k h. c.in_err-found.ensures.rests k (c.stops.invariant.finds k h))

pub returns-in_err-found-clause-counts : goal.returns-in_err-found-clause-counts
returns-in_err-found-clause-counts g c =
    let view = g.D.Disks.view in
    let p = err_from_is_err_and c.from_residual.result c.from_residual.ensures.1 in
    rw (p.1, p.2) (opening-join (view c.args.disks.now) (view c.stops.disks) (view c.try_find.new.disks) _ [] c.stops.story c.try_find.new.story c.stops.invariant.counts c.in_err-found.ensures.counts)

pub returns-in_err-found-clause-within : goal.returns-in_err-found-clause-within
returns-in_err-found-clause-within g c = stays-behind c.stops.invariant.within c.in_err-found.ensures.within

pub returns-in-Some-clause-able : goal.returns-in-Some-clause-able
returns-in-Some-clause-able g c = c.try_find.ensures.able

pub returns-in_err-found-clause-able : goal.returns-in_err-found-clause-able
returns-in_err-found-clause-able g c = c.try_find.ensures.able
