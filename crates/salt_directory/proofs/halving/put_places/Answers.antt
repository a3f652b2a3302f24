use Rattle.salt_directory.proofs.Halved.{placed_more}
use Rattle.salt_directory.proofs.halving.put_places.Goals as goal
use Rattle.salt_directory.specs.Halves.{placed_on}
use Rattle.salt_model.specs.Tables.{place_cmp}
use Rattle.salt_model.specs.declared.places.Place.{Place}
use Rattle.std.proofs.Common.{List, ap, sym, ℕ, ◌≡◌, ◌∙◌}
use Rattle.std.proofs.lemmas.Iterator.Adapters.{YieldsList-from_vec}
use Rattle.std.proofs.lemmas.Iterator.Consumers.{YieldsList-end}
use Rattle.std.proofs.lemmas.List.{map-id}
use Rattle.std.specs.BTreeMap.{insert_entry}

pub loop-place-preserved : goal.loop-place-preserved
loop-place-preserved c =
    let l = c.loop-place in
    c.in_ok-insert.ensures.entries
    ∙ ap (λ (entries : List (Place × ℕ)). insert_entry place_cmp entries c.in-Some.place c.args.page) l.invariant
    ∙ sym (placed_more c.args.page l.yielded c.in-Some.place c.args.directory.now)

pub returns : goal.returns
returns c =
    let l = c.loop-place in
    let all = c.args.places.items in
    let from = c.into_iter-place-iterator.ensures.into_iter_gives in
    let t = YieldsList-end (YieldsList-from_vec {s = c.into_iter-place-iterator.result} all from.0 (from.1 ∙ c.args.places.ok.0)) l.yielded l.place-iterator l.yielded_by c.next.result c.next.new.self c.in-None.is c.next.ensures.steps in
    let same : l.yielded ≡ all = sym (map-id l.yielded) ∙ t.0 in
    l.invariant ∙ ap (λ (qs : List Place). placed_on c.args.page qs c.args.directory.now) same
