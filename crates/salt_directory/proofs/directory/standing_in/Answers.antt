use Rattle.salt_directory.proofs.Placed.{none_at, up_to_itself}
use Rattle.salt_directory.proofs.directory.standing_in.Goals as goal
use Rattle.salt_directory.specs.Pages.{page_of}
use Rattle.salt_model.specs.declared.places.Place.{Place}
use Rattle.salt_stands.proofs.Places.{equal_is, place_same}
use Rattle.std.proofs.Common.{ap, sym, ℕ, ◌≡◌, ◌∙◌}

pub returns-in_default : goal.returns-in_default
returns-in_default c = ((c.range.ensures.in_range tt).5 c.in_default.ensures.steps.0 c.args.place.now (tt, up_to_itself c.args.place.now), λ count below. tt)

pub returns-then-eq : goal.returns-then-eq
returns-then-eq c =
    let last = (c.range.ensures.in_range tt).3 (c.in-Some.nearest.now, c.in-Some.page.now) c.next_back.new.self c.in-Some.ensures.steps in
    let same : c.in-Some.nearest.now ≡ c.args.place.now = place_same _ _ (equal_is _ (sym c.eq.ensures ∙ c.if-eq.true)) in
    ap (page_of c.args.pages.now.entries) (sym same) ∙ last.1

pub returns-else-eq : goal.returns-else-eq
returns-else-eq c =
    let q = c.args.place.now in
    let e : Place × ℕ = (c.in-Some.nearest.now, c.in-Some.page.now) in
    let up_to = c.range.ensures.in_range tt in
    let last = up_to.3 e c.next_back.new.self c.in-Some.ensures.steps in
    let greatest = up_to.4 e c.next_back.new.self c.in-Some.ensures.steps q (tt, up_to_itself q) in
    (none_at q e.0 (page_of c.args.pages.now.entries q) last.0.1 (sym c.eq.ensures ∙ c.if-eq.false) greatest, λ count below. below e.0 e.1 last.1)
