use Rattle.salt_ast.specs.Paths.{retries, rests, way_on_commit, way_on_failure}
use Rattle.salt_ast.specs.declared.programs.PartDef.{PartDef}
use Rattle.salt_cont.proofs.Told.{part_adds, rest_by_table, small_step, told_step, zeros_behind_last, zeros_small}
use Rattle.salt_cont.proofs.rests.rests_behind.Goals as goal
use Rattle.salt_cont.specs.Rests.{rest_told}
use Rattle.std.proofs.Common.{Some, arith, drop, length, refl, subst, suc, sym, ℕ, ◌*◌, ◌+◌, ◌-◌, ◌<◌, ◌∙◌, ◌≡◌, ◌≤◌}
use Rattle.std.proofs.lemmas.List.{length-set}

pub loop-at-init : goal.loop-at-init
loop-at-init c = record {
  from = c.requires.within;
  sized = refl;
  to = omega arith;
  told = zeros_behind_last 32 (length c.args.parts.now) (suc (length c.args.parts.now)) c.args.parts.now;
  small = zeros_small 32 ((length c.args.parts.now - length c.args.parts.now) * 16384);
}

pub loop-at-preserved : goal.loop-at-preserved
loop-at-preserved c =
    let parts = c.args.parts.now in
    let count = length parts in
    let at = c.loop-at.at in
    let part = c.index-parts-at.result in
    let table = c.loop-at.rests in
    let kept = c.loop-at.invariant in
    let more = c.loop-at-test.true in
    let few : count ≤ 32 = c.requires.few.count in
    let to : at ≤ count = kept.to in
    let one : at ≡ suc (at - 1) = omega (arith, more) in
    let number : at - 1 + 1 ≡ at = omega (arith, more) in
    let within : at - 1 < count = omega (arith, more, to) in
    let sized : length table ≡ 32 = kept.sized in
    let inside : at - 1 < length table = omega (arith, within, few, sized) in
    let block : length part.block ≤ 64 = subst (λ (q : PartDef). length q.block ≤ 64) (sym c.index-parts-at.is) (c.requires.few.blocks (at - 1) part within) in
    let tries : c.retries.result < 256 = omega arith in
    let bound : ℕ = (count - at) * 16384 in
    let adds : c.part_rest.result ≤ bound + 16384 = rw c.part_rest.ensures
    (part_adds (length part.block) c.retries.result (rest_told table (way_on_commit count (at - 1 + 1) part.then)) (rest_told table (way_on_failure part.on_failure))
    bound block tries (kept.small (way_on_commit count (at - 1 + 1) part.then)) (kept.small (way_on_failure part.on_failure))) in
    record {
      from = omega (arith, more);
      sized = length-set table (at - 1) c.part_rest.result ∙ sized;
      to = omega (arith, to);
      told = told_step count at (at - 1) parts part table c.part_rest.result one within c.index-parts-at.is inside kept.told
          (rest_by_table count at (at - 1 + 1) part (retries (Some part)) c.retries.result table (rests count (suc at) (drop at parts)) c.part_rest.result
          number c.retries.ensures kept.told c.part_rest.ensures);
      small = small_step bound ((count - (at - 1)) * 16384) (at - 1) table c.part_rest.result inside kept.small (omega (arith, adds, more, to)) (omega (arith, more, to));
    }
