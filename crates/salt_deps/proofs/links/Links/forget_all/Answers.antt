use Rattle.salt_deps.proofs.Linking.{forgets-next, forgets-none}
use Rattle.salt_deps.proofs.Seeing.{take-next}
use Rattle.salt_deps.proofs.links.Links.forget_all.Goals as goal
use Rattle.salt_deps.specs.Maps.{is_source}
use Rattle.salt_values.specs.Id.{has_id}
use Rattle.salt_values.specs.declared.id.Id.{Id}
use Rattle.std.proofs.Common.{get_or, not, subst, take, ◌&&◌, ◌||◌, ◌≡◌}

pub loop-name-init : goal.loop-name-init
loop-name-init c = forgets-none c.args.self.now.sources

pub loop-name-preserved : goal.loop-name-preserved
loop-name-preserved c =
    let zero : Id = record { boot = 0; seq = 0 } in
    let at = c.loop-name.name-index in
    let names = c.args.names.now in
    subst (λ l. (x y : Id) → is_source c.forget.new.self.sources x y ≡ (is_source c.args.self.now.sources x y && not (has_id x l || has_id y l))) (take-next names at zero c.loop-name-test.true)
    (forgets-next c.args.self.now.sources c.loop-name.self.sources c.forget.new.self.sources (take at names) (get_or names at zero) c.loop-name.invariant c.forget.ensures)
