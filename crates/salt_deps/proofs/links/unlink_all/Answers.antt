use Rattle.salt_deps.proofs.Linking.{unlinks-next, unlinks-none}
use Rattle.salt_deps.proofs.Seeing.{take-next}
use Rattle.salt_deps.proofs.links.unlink_all.Goals as goal
use Rattle.salt_deps.specs.Maps.{is_source}
use Rattle.salt_values.specs.Id.{has_id}
use Rattle.salt_values.specs.Id.{is_same_id}
use Rattle.salt_values.specs.declared.id.Id.{Id}
use Rattle.std.proofs.Common.{get_or, not, subst, take, ◌&&◌, ◌≡◌}

pub loop-reader-init : goal.loop-reader-init
loop-reader-init c = unlinks-none c.args.sources.now c.args.source

pub loop-reader-preserved : goal.loop-reader-preserved
loop-reader-preserved c =
    let zero : Id = record { boot = 0; seq = 0 } in
    let at = c.loop-reader.reader-index in
    let names = c.args.readers.now in
    subst (λ l. (x y : Id) → is_source c.unlink.new.sources x y ≡ (is_source c.args.sources.now x y && not (has_id x l && is_same_id y c.args.source))) (take-next names at zero c.loop-reader-test.true)
    (unlinks-next c.args.sources.now c.loop-reader.sources c.unlink.new.sources (get_or names at zero) c.args.source (take at names) c.loop-reader.invariant c.unlink.ensures)
