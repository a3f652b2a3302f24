use Rattle.salt_commit.proofs.Fields.{shown}
use Rattle.salt_commit.proofs.Reading.{stands_after, taken}
use Rattle.salt_commit.proofs.store.Store.load_part.Goals as goal
use Rattle.salt_commit.specs.Stores.{IsStore, reading, shape_of_store}
use Rattle.salt_commit.specs.declared.store.Store.{Store}
use Rattle.std.proofs.Common.{ap, arith, length, refl, subst, sym, ◌<◌, ◌∙◌}
use Rattle.std.proofs.lemmas.List.{length-set}
use Rattle.std.specs.Result.{result_err}

pub invariant_of-self : goal.invariant_of-self
invariant_of-self g c = length-set c.self.inside.parts.items c.args.number c.load.new.self ∙ c.self.invariant

pub returns-clause-rows : goal.returns-clause-rows
returns-clause-rows g c which co v is told =
    let was = subst (λ (y : Store). IsStore reading (g.D.Disks.view c.args.disks.now) y which co v) (sym c.self.view_is) is in
    let p = c.args.number in
    let x = shown c.self.inside in
    let within : p < length x.parts = omega (arith, c.requires.below, ap (λ (y : Store). (shape_of_store y).parts) c.self.view_is, c.self.invariant) in
    c.load.ensures.rows p (v p) _ (taken reading (g.D.Disks.view c.args.disks.now) x which co v was p c.index_mut-part.result.now within c.index_mut-part.ensures.value) told

pub returns-clause-stands : goal.returns-clause-stands
returns-clause-stands g c which co v is =
    let was = subst (λ (y : Store). IsStore reading (g.D.Disks.view c.args.disks.now) y which co v) (sym c.self.view_is) is in
    let x = shown c.self.inside in
    let d = g.D.Disks.view c.args.disks.now in
    let p = c.args.number in
    let q = c.index_mut-part.result.now in
    let within : p < length x.parts = omega (arith, c.requires.below, ap (λ (y : Store). (shape_of_store y).parts) c.self.view_is, c.self.invariant) in
    let own = taken reading d x which co v was p q within c.index_mut-part.ensures.value in
    stands_after reading d x which co v was p q within c.index_mut-part.ensures.value (g.D.Disks.view c.load.new.disks) (result_err c.load.result) _ c.load.new.self c.load.ensures.kept (c.load.ensures.stands p (v p) _ own) refl refl
