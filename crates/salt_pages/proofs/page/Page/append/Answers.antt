use Rattle.salt_bytes.specs.Page.{TableRow}
use Rattle.salt_pages.proofs.Appended.{appended, some_room}
use Rattle.salt_pages.proofs.Bytes.{are_bytes}
use Rattle.salt_pages.proofs.Inserted.{few_now}
use Rattle.salt_pages.proofs.Spelled.{read_back}
use Rattle.salt_pages.proofs.Tagged.{tagged_so, tags_more}
use Rattle.salt_pages.proofs.page.Page.append.Goals as goal
use Rattle.salt_pages.specs.Pages.{page_rows}
use Rattle.std.proofs.Common.{List, [], ap, arith, length, ◌+◌, ◌++◌, ◌∙◌, ◌∷◌}

pub overflow_cast-rows : goal.overflow_cast-rows
overflow_cast-rows c =
    omega (
      arith,
      few_now c.self.inside.bytes.items c.self.inside.places.items c.self.inside.free (page_rows c.self.inside.bytes.items) c.self.invariant.spelled (length c.args.spelled.now) c.put_place.new.places.items
          (some_room c.args.spelled.now (are_bytes c.args.spelled.now (λ k. omega (arith, c.type_inv.spelled k))) c.requires.0 c.requires.1) (omega (arith, c.if-free-spelled.false)) c.in_ok-put_place.ensures.placed,
      ap length c.as_slice-rows.ensures.value,
    )

pub invariant_of-self-2 : goal.invariant_of-self-2
invariant_of-self-2 c =
    let old = c.self.inside in
    let rows = page_rows old.bytes.items in
    let r = c.requires.0 in
    let more = rows ++ r ∷ [] in
    tagged_so c.add_spelled.new.bytes.items c.put_place.new.places.items c.put_place.new.tags.items (old.free + length c.args.spelled.now) more
    (appended c.args.spelled.now (are_bytes c.args.spelled.now (λ k. omega (arith, c.type_inv.spelled k))) r c.requires.1 old.bytes.items old.places.items old.free rows c.self.invariant.spelled (omega (arith, c.if-free-spelled.false))
    c.add_spelled.new.bytes.items c.put_place.new.places.items (length c.as_slice-rows.result.now) (ap length c.as_slice-rows.ensures.value) c.add_spelled.ensures c.in_ok-put_place.ensures.placed)
    (tags_more rows r old.tags.items c.put_place.new.tags.items c.tag_in.result (c.tag_in.ensures r c.requires.1) c.self.invariant.tagged c.in_ok-put_place.ensures.tagged)

pub returns-clause-rows : goal.returns-clause-rows
returns-clause-rows c = λ r taken.
    let old = c.self.inside in
    let rows = page_rows old.bytes.items in
    read_back c.add_spelled.new.bytes.items c.put_place.new.places.items (old.free + length c.args.spelled.now) (rows ++ r ∷ [])
    (appended c.args.spelled.now (are_bytes c.args.spelled.now (λ k. omega (arith, c.type_inv.spelled k))) r taken old.bytes.items old.places.items old.free rows c.self.invariant.spelled (omega (arith, c.if-free-spelled.false))
    c.add_spelled.new.bytes.items c.put_place.new.places.items (length c.as_slice-rows.result.now) (ap length c.as_slice-rows.ensures.value) c.add_spelled.ensures c.in_ok-put_place.ensures.placed)
    ∙ ap (λ (l : List TableRow). l ++ r ∷ []) c.self.view_is
