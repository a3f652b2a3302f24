use Rattle.salt_rows.proofs.Halved.{fewer_between, kept_between, standing_halved}
use Rattle.salt_rows.proofs.Read.{frames_page}
use Rattle.salt_rows.proofs.store.RowStore.halve.Goals as goal
use Rattle.salt_rows.specs.Frames.{CanFrame}
use Rattle.std.proofs.Common.{get_or, subst, sym, ◌≡◌, ◌∙◌}
use Rattle.std.proofs.lemmas.List.{get_or_default}

pub half_of-requires : goal.half_of-requires
half_of-requires g c =
    let d = g.D.Disks.view c.args.disks.now in
    let x = c.args.self.now in
    let s = c.requires.stands in
    subst (λ side. CanFrame d x.pool c.args.page side) (sym (c.index-side.ensures ∙ get_or_default x.sides.items c.args.page c.index-side.result.now 0 c.requires.below)) (frames_page d x s.dev s.named s.t s.is c.args.page c.requires.below)

pub put_half-requires : goal.put_half-requires
put_half-requires g c =
    let d = g.D.Disks.view c.args.disks.now in
    let e = g.D.Disks.view c.half_of.new.disks in
    let x = c.args.self.now in
    let s = c.requires.stands in
    let side : c.index-side.result.now ≡ get_or x.sides.items c.args.page 0 = c.index-side.ensures ∙ get_or_default x.sides.items c.args.page c.index-side.result.now 0 c.requires.below in
    let f = c.in_ok-half.ensures.rows in
    let half = c.in_ok-half.half in
    record {
      kept = kept_between d e x c.half_of.new.pool s.dev s.named s.t s.is c.in_ok-half.ensures.kept c.args.page c.index-side.result.now c.requires.below side f.0 f.1 f.2 half f.3 c.mark.new.self c.in_ok-mark.ensures.marked;
      few = fewer_between d e x c.half_of.new.pool s.dev s.named s.t s.is c.in_ok-half.ensures.kept c.args.page c.index-side.result.now c.requires.below side f.0 f.1 f.2 half f.3 c.mark.new.self c.in_ok-mark.ensures.marked c.requires.room;
    }

pub returns-clause-rows : goal.returns-clause-rows
returns-clause-rows g c = λ dev named t is.
    let d = g.D.Disks.view c.args.disks.now in
    let e = g.D.Disks.view c.half_of.new.disks in
    let x = c.args.self.now in
    let side : c.index-side.result.now ≡ get_or x.sides.items c.args.page 0 = c.index-side.ensures ∙ get_or_default x.sides.items c.args.page c.index-side.result.now 0 c.requires.below in
    let f = c.in_ok-half.ensures.rows in
    standing_halved d e x c.half_of.new.pool dev named t is c.in_ok-half.ensures.kept c.args.page c.index-side.result.now c.requires.below side f.0 f.1 f.2 c.in_ok-half.half f.3 c.mark.new.self c.in_ok-mark.ensures.marked c.put_half.new.self c.in_ok-put_half.ensures.put
