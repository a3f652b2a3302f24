use Rattle.salt_directory.proofs.directory.next_place.Goals as goal
use Rattle.salt_directory.specs.Directories.{IsNextPlace, first_behind}
use Rattle.salt_model.specs.Tables.{place_cmp}
use Rattle.salt_model.specs.Words.{first_of_list}
use Rattle.salt_ranges.specs.Ranges.{has_key}
use Rattle.std.proofs.Common.{Some, ap, refl, subst, sym, true, ◌==◌, ◌≡◌, ◌∙◌}
use Rattle.std.proofs.lemmas.Bool.{eq-eqb}
use Rattle.std.specs.BTreeMap.Range.{entries_between}
use Rattle.std.specs.Option.{option_copied}
use Rattle.std.specs.declared.ops.Bound.TheVariants.{Unbounded}

pub returns-in_ok-copy-clause-next : goal.returns-in_ok-copy-clause-next
returns-in_ok-copy-clause-next c =
    let es = c.args.directory.now in
    let first : first_behind c.args.table c.args.range.now (option_copied c.args.after) es ≡ Some (c.in-Some.place.now, c.in-Some.page.now) =
    ap (λ s. first_of_list (entries_between place_cmp s Unbounded es)) (sym c.in_ok-start.ensures) ∙ sym c.in-Some.ensures.first in
    let here : (c.args.table == c.in-Some.place.now.table) ≡ true = eq-eqb _ _ (sym c.if-place-table.true) in
    let within : has_key c.args.range.now c.in-Some.place.now.key ≡ true = sym c.has.ensures ∙ c.if-has.true in
    subst (λ o. IsNextPlace c.args.table c.args.range.now o (Some (c.in_ok-copy.field-0, c.in-Some.page.now))) (sym first) (rw (here, within) refl, c.in_ok-copy.ensures, refl)
