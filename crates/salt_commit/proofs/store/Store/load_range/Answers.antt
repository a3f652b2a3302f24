use Rattle.salt_commit.proofs.Loaded.{one_loaded, on_ok}
use Rattle.salt_commit.proofs.Ready.{store_placed}
use Rattle.salt_commit.proofs.store.Store.load_range.Goals as goal
use Rattle.salt_commit.specs.Stores.{reading, shape_of_store}
use Rattle.salt_commit.specs.declared.store.Store.{Store}
use Rattle.salt_stands.specs.Commits.{each_tables, partition_count}
use Rattle.salt_stands.specs.Partition.{part_of_key}
use Rattle.std.proofs.Common.{ap, arith, ◌<◌, ◌∙◌}

pub load_part-requires : goal.load_part-requires
load_part-requires g c =
    record { stands = c.requires.stands; below = omega (arith, c.in-Some.ensures.below, ap (λ k. k.parts) (c.shape.ensures.value ∙ ap (λ (y : Store). shape_of_store y) c.self.view_is)) }

pub load_parts-requires : goal.load_parts-requires
load_parts-requires g c = record { stands = c.requires.stands }

pub returns-in-Some-clause-rows : goal.returns-in-Some-clause-rows
returns-in-Some-clause-rows g c which co v is told =
    let d = g.D.Disks.view c.args.disks.now in
    let p = c.in-Some.number in
    let shape = c.shape.ensures.value ∙ ap (λ (y : Store). shape_of_store y) c.self.view_is ∙ is.decisions.holds.shape in
    let low : p < partition_count co = omega (arith, c.in-Some.ensures.below, ap (λ k. k.parts) shape) in
    on_ok c.load_part.result
    (one_loaded co.log.header.shape c.args.range.now (each_tables co v) (partition_count co) (store_placed reading d c.args.self.now which co v is told) c.args.out.now c.load_part.new.out p low
    (λ key k below inside at. c.in-Some.ensures.alone key k (omega (arith, below, ap (λ k. k.parts) shape)) inside (ap (λ k. part_of_key k key) shape ∙ at)))
    (c.load_part.ensures.rows which co v is told)
