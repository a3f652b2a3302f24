use Rattle.salt_deps.proofs.Grouping.{among-by, by-pairs, by-reader, by-whole}
use Rattle.salt_deps.proofs.due.reads_among.Goals as goal
use Rattle.salt_deps.specs.Group.{ReadsAmong, reads_in}
use Rattle.salt_deps.specs.Maps.{sources_at}
use Rattle.salt_deps.specs.declared.readings.Readings.{Readings}
use Rattle.salt_values.specs.Id.{has_id}
use Rattle.salt_values.specs.declared.id.Id.{Id}
use Rattle.std.proofs.Common.{Bool, List, ap, not, refl, subst, sym, true, ◌&&◌, ◌||◌, ◌∙◌, ◌∷◌, ◌≡◌}
use Rattle.std.specs.List.{list_all}

-- whether the program's own sources are among the names
abbrev own : Readings → List Id → Id → Bool
own readings found name = list_all (λ y. has_id y found) (sources_at readings.links.sources name)

among : (readings : Readings) (found : List Id) (name : Id) (whole result : Bool) → has_id name found ≡ true →
    (has_id name readings.group.readers.keys ≡ true → whole ≡ list_all (λ y. has_id y found) readings.group.sources.keys) →
    (own readings found name && (whole || not (has_id name readings.group.readers.keys))) ≡ result → ReadsAmong (reads_in readings) found name result
among readings found name whole result here told is =
    subst (ReadsAmong (reads_in readings) found name) is
    (among-by (reads_in readings) found (sources_at readings.links.sources name) readings.group.readers.keys readings.group.sources.keys name whole (λ y. refl) here told)

pub returns-then-whole : goal.returns-then-whole
returns-then-whole c =
    let readings = c.args.readings.now in
    let found = c.args.base ∷ c.args.set.now.keys in
    among readings found c.args.name c.args.whole c.args.whole c.requires.here c.requires.whole
    (by-whole (own readings found c.args.name) c.args.whole (not (has_id c.args.name readings.group.readers.keys)) (sym c.links_among.ensures ∙ c.if-links_among.true) c.if-whole.true)

pub returns-else-whole : goal.returns-else-whole
returns-else-whole c =
    let readings = c.args.readings.now in
    let found = c.args.base ∷ c.args.set.now.keys in
    among readings found c.args.name c.args.whole (not c.is_in.result) c.requires.here c.requires.whole
    (by-reader (own readings found c.args.name) c.args.whole (not (has_id c.args.name readings.group.readers.keys)) (sym c.links_among.ensures ∙ c.if-links_among.true) c.if-whole.false
    ∙ ap not (sym c.is_in.ensures))

pub returns-else-links_among : goal.returns-else-links_among
returns-else-links_among c =
    let readings = c.args.readings.now in
    let found = c.args.base ∷ c.args.set.now.keys in
    among readings found c.args.name c.args.whole c.links_among.result c.requires.here c.requires.whole
    (by-pairs (own readings found c.args.name) c.args.whole (not (has_id c.args.name readings.group.readers.keys)) (sym c.links_among.ensures ∙ c.if-links_among.false)
    ∙ sym c.links_among.ensures)
