use Rattle.salt_deps.proofs.Linking.{lists-next, lists-none}
use Rattle.salt_deps.proofs.Seeing.{take-next}
use Rattle.salt_deps.proofs.links.list_readers.Goals as goal
use Rattle.salt_deps.specs.Maps.{is_listed}
use Rattle.salt_values.specs.Id.{has_id}
use Rattle.salt_values.specs.Id.{is_same_id}
use Rattle.salt_values.specs.declared.id.Id.{Id}
use Rattle.std.proofs.Common.{get_or, subst, take, ◌&&◌, ◌||◌, ◌≡◌}

pub loop-source-init : goal.loop-source-init
loop-source-init c = lists-none c.args.readers.now c.args.reader

pub loop-source-preserved : goal.loop-source-preserved
loop-source-preserved c =
    let zero : Id = record { boot = 0; seq = 0 } in
    let at = c.loop-source.source-index in
    let names = c.args.sources.now in
    subst (λ l. (x y : Id) → is_listed c.list_reader.new.readers x y ≡ (is_listed c.args.readers.now x y || (is_same_id x c.args.reader && has_id y l))) (take-next names at zero c.loop-source-test.true)
    (lists-next c.args.readers.now c.loop-source.readers c.list_reader.new.readers c.args.reader (get_or names at zero) (take at names) c.loop-source.invariant c.in_ok-list_reader.ensures.ok)
