use Rattle.law_definitions.specs.Texts.{definition_in}
use Rattle.salt_commit.proofs.Entered.{definition_images, definition_ok}
use Rattle.salt_commit.proofs.Fields.{shown}
use Rattle.salt_commit.proofs.store.Store.append_definition.Goals as goal
use Rattle.salt_commit.specs.Stores.{IsStore, last_decision, numbers_in, reading}
use Rattle.salt_commit.specs.declared.store.Store.{Store}
use Rattle.salt_decisions.proofs.Appended.{on_err}
use Rattle.salt_place.specs.declared.placement.Shape.{Shape}
use Rattle.std.proofs.Common.{ap, arith, length, refl, subst, sym, ◌+◌, ◌<◌, ◌^◌, ◌∙◌}
use Rattle.std.specs.Result.{result_err}

pub invariant_of-self : goal.invariant_of-self
invariant_of-self g c = c.self.invariant ∙ ap (λ (s : Shape). s.parts) (sym c.define.ensures.shape)

pub invariant_of-self-2 : goal.invariant_of-self-2
invariant_of-self-2 g c = c.self.invariant ∙ ap (λ (s : Shape). s.parts) (sym c.define.ensures.shape)

pub returns-in_err-number-clause-images : goal.returns-in_err-number-clause-images
returns-in_err-number-clause-images g c which co v def is may told =
    let was = subst (λ (y : Store). IsStore reading (g.D.Disks.view c.args.disks.now) y which co v) (sym c.self.view_is) is in
    let room : last_decision (shown c.self.inside) + 1 < 2 ^ 64 = omega (arith, c.requires.below, ap (λ (y : Store). last_decision y) c.self.view_is) in
    let short : length c.args.text.now < 2 ^ 64 = omega arith in
    definition_images reading (g.D.Disks.view c.args.disks.now) (g.D.Disks.view c.define.new.disks) (shown c.self.inside) which co v was c.args.text.now def room short (λ now. may) (c.what_fits_still_fits.ensures definition_in co.definitions def)
    (result_err c.define.result) c.define.ensures.others told (c.define.ensures.images which co.log was.decisions)

pub returns-in_err-number-clause-same : goal.returns-in_err-number-clause-same
returns-in_err-number-clause-same g c = on_err _ (c.in_err-number.ensures.same ∙ ap (λ (y : Store). numbers_in y) c.self.view_is)

pub returns-clause-ok : goal.returns-clause-ok
returns-clause-ok g c which co v def is may =
    let was = subst (λ (y : Store). IsStore reading (g.D.Disks.view c.args.disks.now) y which co v) (sym c.self.view_is) is in
    let room : last_decision (shown c.self.inside) + 1 < 2 ^ 64 = omega (arith, c.requires.below, ap (λ (y : Store). last_decision y) c.self.view_is) in
    let short : length c.args.text.now < 2 ^ 64 = omega arith in
    definition_ok reading (g.D.Disks.view c.args.disks.now) (g.D.Disks.view c.define.new.disks) (shown c.self.inside) which co v was c.args.text.now def room short may (c.what_fits_still_fits.ensures definition_in co.definitions def)
    _ c.in_ok-number.ensures.others refl (c.in_ok-number.ensures.ok which co.log was.decisions)

pub returns-clause-images : goal.returns-clause-images
returns-clause-images g c which co v def is may told =
    let was = subst (λ (y : Store). IsStore reading (g.D.Disks.view c.args.disks.now) y which co v) (sym c.self.view_is) is in
    let room : last_decision (shown c.self.inside) + 1 < 2 ^ 64 = omega (arith, c.requires.below, ap (λ (y : Store). last_decision y) c.self.view_is) in
    let short : length c.args.text.now < 2 ^ 64 = omega arith in
    definition_images reading (g.D.Disks.view c.args.disks.now) (g.D.Disks.view c.define.new.disks) (shown c.self.inside) which co v was c.args.text.now def room short (λ now. may) (c.what_fits_still_fits.ensures definition_in co.definitions def)
    (result_err c.define.result) c.define.ensures.others told (c.define.ensures.images which co.log was.decisions)
