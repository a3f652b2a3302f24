use Rattle.salt_locks.proofs.clash.clashes.Goals as goal
use Rattle.salt_model.specs.Locks.{is_clash, is_same_owner}
use Rattle.salt_ranges.specs.Ranges.{meets}
use Rattle.std.proofs.Common.{refl, sym, ◌≡◌, ◌∙◌}
use Rattle.std.specs.Prelude.{Bool, false, not, true, ◌&&◌, ◌==◌}

with_false : (a b : Bool) → b ≡ false → false ≡ (a && b)
with_false true b e = sym e
with_false false b e = refl

pub returns-else-is_clash : goal.returns-else-is_clash
returns-else-is_clash c =
    let l = c.args.lock.now in
    let r = c.args.reach.now in
    c.if-is_clash.false ∙ with_false (not (is_same_owner c.args.owner l.owner) && (l.table == r.table) && meets l.range r.range) (is_clash l.family l.mode c.args.family r.mode)
    (sym c.is_clash.ensures ∙ c.if-is_clash.false)
