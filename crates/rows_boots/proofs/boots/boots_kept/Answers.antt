use Rattle.rows_boots.proofs.boots.boots_kept.Goals as goal
use Rattle.salt_model.specs.Kept.{Kept}
use Rattle.salt_stands.specs.Stands.{are_spent}
use Rattle.salt_storage.specs.Storing.{IsFound, booted}
use Rattle.salt_storage.specs.declared.found.Found.{Found}
use Rattle.std.proofs.Common.{IsTrue, ap, arith, false, sym, ◌+◌, ◌≡◌, ◌≤◌, ◌∙◌}

-- of what was found, and of that with a boot more
unspent : (x : Found) (k : Kept) → IsFound x k → are_spent x.boot x.decisions ≡ false → are_spent k.boot k.decisions ≡ false
unspent x k f h = ap (λ n. are_spent n k.decisions) (sym f.boot) ∙ ap (are_spent x.boot) (sym f.decisions) ∙ h

new_unspent : (x : Found) (k : Kept) → IsFound x k → x.boot ≤ 0 → x.decisions ≤ 0 → are_spent (k.boot + 1) k.decisions ≡ false
new_unspent x k f boot decisions =
    let first : k.boot + 1 ≡ 1 = omega (arith, f.boot, boot) in
    let none : k.decisions ≡ 0 = omega (arith, f.decisions, decisions) in
    ap (λ n. are_spent n k.decisions) first ∙ ap (are_spent 1) none

pub boot-requires-clause-held : goal.boot-requires-clause-held
boot-requires-clause-held g c now =
    let h = c.in_ok-found.ensures.found in
    (h.0, h.4 (sym c.in_ok-found.ensures.within.shape.told ∙ now), unspent c.in_ok-found.found h.0 h.1 c.in_ok-found.ensures.numbers)

pub boot-requires-2-clause-able : goal.boot-requires-2-clause-able
boot-requires-2-clause-able g c = c.arm.ensures.able c.in_ok-boot.ensures.able

pub boot-requires-2-clause-held : goal.boot-requires-2-clause-held
boot-requires-2-clause-held g c now =
    let h = c.in_ok-found.ensures.found in
    let was : IsTrue (g.D.Disks.view c.args.disks.now).told = sym c.in_ok-found.ensures.within.shape.told ∙ sym c.in_ok-boot.ensures.within.shape.told ∙ sym c.arm.ensures.within.shape.told ∙ now in
    (booted h.0, c.arm.ensures.holds (booted h.0) (c.in_ok-boot.ensures.holds h.0 (h.4 was)), new_unspent c.in_ok-found.found h.0 h.1 c.if-found-gt0.false c.if-found-gt0-2.false)

pub reopen-requires-clause-left : goal.reopen-requires-clause-left
reopen-requires-clause-left g c now =
    let h = c.in_ok-found.ensures.found in
    let was : IsTrue (g.D.Disks.view c.args.disks.now).told =
    sym c.in_ok-found.ensures.within.shape.told ∙ sym c.in_ok-boot.ensures.within.shape.told ∙ sym c.arm.ensures.within.shape.told ∙ sym c.in-Err.ensures.within.shape.told ∙ sym c.restart.ensures.within.shape.told ∙ now in
    let k = booted h.0 in
    (k, booted k, c.restart.ensures.leaves k (booted k) (c.in-Err.ensures.leaves k (c.arm.ensures.holds k (c.in_ok-boot.ensures.holds h.0 (h.4 was)))))
