use Rattle.salt_commit.proofs.Committed.{answer_is}
use Rattle.salt_commit.proofs.Fields.{shown}
use Rattle.salt_commit.proofs.Reading.{row_of_all, stands_after, taken}
use Rattle.salt_commit.proofs.store.Store.get.Goals as goal
use Rattle.salt_commit.specs.Stores.{IsStore, reading}
use Rattle.salt_commit.specs.declared.store.Store.{Store}
use Rattle.salt_model.specs.Tables.{place, row_at}
use Rattle.salt_stands.specs.Commits.{partition_count}
use Rattle.salt_stands.specs.Partition.{part_of_key}
use Rattle.salt_stands.specs.Pieces.{tables_at_part}
use Rattle.std.proofs.Common.{None, Some, ap, arith, length, refl, subst, sym, ◌<◌, ◌≡◌, ◌∙◌}
use Rattle.std.proofs.lemmas.List.{length-set}
use Rattle.std.proofs.lemmas.Result.{err_from_is_err_and}

pub invariant_of-self : goal.invariant_of-self
invariant_of-self g c = length-set c.self.inside.parts.items c.part_of-number.result c.get.new.self ∙ c.self.invariant

pub invariant_of-self-2 : goal.invariant_of-self-2
invariant_of-self-2 g c = length-set c.self.inside.parts.items c.part_of-number.result c.get.new.self ∙ c.self.invariant

pub returns-in_err-row-clause-stands : goal.returns-in_err-row-clause-stands
returns-in_err-row-clause-stands g c which co v is =
    let was = subst (λ (y : Store). IsStore reading (g.D.Disks.view c.args.disks.now) y which co v) (sym c.self.view_is) is in
    let x = shown c.self.inside in
    let d = g.D.Disks.view c.args.disks.now in
    let p = c.part_of-number.result in
    let q = c.index_mut-part.result.now in
    let within : p < length x.parts = omega (arith, c.part_of-number.ensures.below, ap (λ s. s.parts) c.shape.ensures.value, ap (λ s. s.parts) was.decisions.holds.shape, was.size) in
    let own = taken reading d x which co v was p q within c.index_mut-part.ensures.value in
    let e = err_from_is_err_and c.from_residual.result c.from_residual.ensures.1 in
    rw (answer_is c.from_residual.result e.0 c.in_err-row.field-0.0 e.1 e.2)
    (stands_after reading d x which co v was p q within c.index_mut-part.ensures.value (g.D.Disks.view c.get.new.disks) (Some c.in_err-row.field-0.0) _ c.get.new.self c.in_err-row.ensures.kept (c.in_err-row.ensures.stands p (v p) _ own) refl refl)

pub returns-clause-row : goal.returns-clause-row
returns-clause-row g c which co v is told =
    let was = subst (λ (y : Store). IsStore reading (g.D.Disks.view c.args.disks.now) y which co v) (sym c.self.view_is) is in
    let x = shown c.self.inside in
    let d = g.D.Disks.view c.args.disks.now in
    let p = c.part_of-number.result in
    let q = c.index_mut-part.result.now in
    let key = c.args.key.now in
    let within : p < length x.parts = omega (arith, c.part_of-number.ensures.below, ap (λ s. s.parts) c.shape.ensures.value, ap (λ s. s.parts) was.decisions.holds.shape, was.size) in
    let own = taken reading d x which co v was p q within c.index_mut-part.ensures.value in
    let here : p ≡ part_of_key co.log.header.shape key = c.part_of-number.ensures.part ∙ ap (λ s. part_of_key s key) (c.shape.ensures.value ∙ was.decisions.holds.shape) in
    let low : part_of_key co.log.header.shape key < partition_count co = omega (arith, here, within, was.size) in
    c.in_ok-row.ensures.row p (v p) _ own told ∙ ap (λ k. row_at (place c.args.table key) (tables_at_part co k (v k))) here ∙ sym (row_of_all reading d x which co v was told c.args.table key low)

pub returns-clause-stands : goal.returns-clause-stands
returns-clause-stands g c which co v is =
    let was = subst (λ (y : Store). IsStore reading (g.D.Disks.view c.args.disks.now) y which co v) (sym c.self.view_is) is in
    let x = shown c.self.inside in
    let d = g.D.Disks.view c.args.disks.now in
    let p = c.part_of-number.result in
    let q = c.index_mut-part.result.now in
    let within : p < length x.parts = omega (arith, c.part_of-number.ensures.below, ap (λ s. s.parts) c.shape.ensures.value, ap (λ s. s.parts) was.decisions.holds.shape, was.size) in
    let own = taken reading d x which co v was p q within c.index_mut-part.ensures.value in
    stands_after reading d x which co v was p q within c.index_mut-part.ensures.value (g.D.Disks.view c.get.new.disks) None _ c.get.new.self c.in_ok-row.ensures.kept (c.in_ok-row.ensures.stands p (v p) _ own) refl refl
