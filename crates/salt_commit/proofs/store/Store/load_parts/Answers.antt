use Rattle.salt_commit.proofs.Fields.{shown}
use Rattle.salt_commit.proofs.Loaded.{all_loaded, on_ok}
use Rattle.salt_commit.proofs.Reading.{store_after_reads}
use Rattle.salt_commit.proofs.Ready.{store_placed}
use Rattle.salt_commit.proofs.store.Store.load_parts.Goals as goal
use Rattle.salt_commit.specs.Stores.{IsStore, decided_by, reading}
use Rattle.salt_commit.specs.declared.store.Store.{Store}
use Rattle.salt_parts.specs.Loading.{HaveAllLoaded}
use Rattle.salt_stands.specs.Commits.{each_tables, partition_count}
use Rattle.std.proofs.Common.{refl, subst, sym, ◌∙◌}
use Rattle.std.specs.Prelude.{OnOk}
use Rattle.std.specs.Result.{result_err}

pub invariant_of-self : goal.invariant_of-self
invariant_of-self g c = c.load_all.ensures.size ∙ c.self.invariant

pub returns-clause-rows : goal.returns-clause-rows
returns-clause-rows g c which co v is told =
    let d = g.D.Disks.view c.args.disks.now in
    let x = shown c.self.inside in
    let was = subst (λ (y : Store). IsStore reading d y which co v) (sym c.self.view_is) is in
    on_ok c.load_all.result
    (all_loaded co.log.header.shape c.args.range.now (each_tables co v) (partition_count co) (store_placed reading d x which co v was told) c.args.out.now c.load_all.new.out)
    (subst (λ n. OnOk c.load_all.result (HaveAllLoaded c.args.range.now (each_tables co v) n c.args.out.now c.load_all.new.out)) was.size (c.load_all.ensures.rows v (decided_by co) was.parts told))

pub returns-clause-stands : goal.returns-clause-stands
returns-clause-stands g c which co v is =
    let d = g.D.Disks.view c.args.disks.now in
    let was = subst (λ (y : Store). IsStore reading d y which co v) (sym c.self.view_is) is in
    store_after_reads reading d (g.D.Disks.view c.load_all.new.disks) (shown c.self.inside) _ which co v (result_err c.load_all.result) was c.load_all.ensures.kept refl c.load_all.ensures.size (c.load_all.ensures.stands v (decided_by co) was.parts)
