use Rattle.salt_commit.proofs.Entered.{boot_images, boot_ok}
use Rattle.salt_commit.proofs.Fields.{shown}
use Rattle.salt_commit.proofs.store.Store.append_boot.Goals as goal
use Rattle.salt_commit.specs.Stores.{IsStore, last_boot, numbers_in, reading}
use Rattle.salt_commit.specs.declared.store.Store.{Store}
use Rattle.salt_decisions.proofs.Appended.{on_err}
use Rattle.salt_place.specs.declared.placement.Shape.{Shape}
use Rattle.std.proofs.Common.{ap, arith, refl, subst, sym, ◌+◌, ◌<◌, ◌^◌, ◌∙◌}
use Rattle.std.specs.Result.{result_err}

pub invariant_of-self : goal.invariant_of-self
invariant_of-self g c = c.self.invariant ∙ ap (λ (s : Shape). s.parts) (sym c.boot.ensures.shape)

pub invariant_of-self-2 : goal.invariant_of-self-2
invariant_of-self-2 g c = c.self.invariant ∙ ap (λ (s : Shape). s.parts) (sym c.boot.ensures.shape)

pub returns-in_err-boot-clause-images : goal.returns-in_err-boot-clause-images
returns-in_err-boot-clause-images g c which co v is told =
    let was = subst (λ (y : Store). IsStore reading (g.D.Disks.view c.args.disks.now) y which co v) (sym c.self.view_is) is in
    let room : last_boot (shown c.self.inside) + 1 < 2 ^ 64 = omega (arith, c.requires.below, ap (λ (y : Store). last_boot y) c.self.view_is) in
    boot_images reading (g.D.Disks.view c.args.disks.now) (g.D.Disks.view c.boot.new.disks) (shown c.self.inside) which co v was room (result_err c.boot.result) c.boot.ensures.others told (c.boot.ensures.images which co.log was.decisions)

pub returns-in_err-boot-clause-same : goal.returns-in_err-boot-clause-same
returns-in_err-boot-clause-same g c = on_err _ (c.in_err-boot.ensures.same ∙ ap (λ (y : Store). numbers_in y) c.self.view_is)

pub returns-clause-ok : goal.returns-clause-ok
returns-clause-ok g c which co v is =
    let was = subst (λ (y : Store). IsStore reading (g.D.Disks.view c.args.disks.now) y which co v) (sym c.self.view_is) is in
    let room : last_boot (shown c.self.inside) + 1 < 2 ^ 64 = omega (arith, c.requires.below, ap (λ (y : Store). last_boot y) c.self.view_is) in
    boot_ok reading (g.D.Disks.view c.args.disks.now) (g.D.Disks.view c.boot.new.disks) (shown c.self.inside) which co v was room _ c.in_ok-boot.ensures.others refl (c.in_ok-boot.ensures.ok which co.log was.decisions)

pub returns-clause-images : goal.returns-clause-images
returns-clause-images g c which co v is told =
    let was = subst (λ (y : Store). IsStore reading (g.D.Disks.view c.args.disks.now) y which co v) (sym c.self.view_is) is in
    let room : last_boot (shown c.self.inside) + 1 < 2 ^ 64 = omega (arith, c.requires.below, ap (λ (y : Store). last_boot y) c.self.view_is) in
    boot_images reading (g.D.Disks.view c.args.disks.now) (g.D.Disks.view c.boot.new.disks) (shown c.self.inside) which co v was room (result_err c.boot.result) c.boot.ensures.others told (c.boot.ensures.images which co.log was.decisions)
