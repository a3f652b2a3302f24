use Rattle.law_states.specs.KeptSources.{unless_among}
use Rattle.salt_deps.proofs.Seeing.{take-next}
use Rattle.salt_deps.proofs.Writing.{unless-more, unless-none}
use Rattle.salt_deps.proofs.places.Writers.drop_programs.Goals as goal
use Rattle.salt_model.specs.Tables.{place_cmp}
use Rattle.salt_values.specs.declared.id.Id.{Id}
use Rattle.std.proofs.Common.{[], ap, get_or, subst, take, ◌∙◌, ◌∷◌, ◌≡◌}
use Rattle.std.specs.BTreeMap.{get}

pub loop-name-init : goal.loop-name-init
loop-name-init c q = unless-none (get place_cmp c.args.self.now.last q)

pub loop-name-preserved : goal.loop-name-preserved
loop-name-preserved c q =
    let zero : Id = record { boot = 0; seq = 0 } in
    let at = c.loop-name.name-index in
    let names = c.args.names.now in
    let old = get place_cmp c.args.self.now.last q in
    subst (λ l. get place_cmp c.drop_program.new.self.last q ≡ unless_among l old) (take-next names at zero c.loop-name-test.true)
    (c.drop_program.ensures q ∙ (ap (unless_among (get_or names at zero ∷ [])) (c.loop-name.invariant q) ∙ unless-more (take at names) (get_or names at zero) old))
