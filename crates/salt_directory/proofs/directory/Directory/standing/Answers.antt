use Rattle.salt_directory.proofs.directory.Directory.standing.Goals as goal
use Rattle.salt_directory.specs.Directories.{IsFound, IsKnown}
use Rattle.salt_model.specs.declared.places.Place.{Place}
use Rattle.salt_stands.proofs.Places.{equal_is, place_same}
use Rattle.std.proofs.Common.{List, subst, sym, ℕ, ◌≡◌, ◌∙◌}

pub returns-in-Some : goal.returns-in-Some
returns-in-Some c =
    let asked = c.in-Some.asked in
    let same : asked.place ≡ c.args.place.now = place_same _ _ (equal_is _ (sym c.eq.ensures ∙ c.if-eq.true)) in
    let kept = subst (IsKnown c.self.inside.pages.entries) c.in-Some.is c.self.invariant in
    subst (λ q. IsFound c.args.self.now q asked.standing) same (subst (λ (l : List (Place × ℕ)). IsFound l asked.place asked.standing) c.self.view_is kept)
