use Rattle.salt_bytes.specs.Values.{spell_values}
use Rattle.salt_pages.proofs.Removed.{in_order, in_places}
use Rattle.salt_pages.proofs.Replaced.{as_many_bytes, other_room, replaced, same_room, within_row}
use Rattle.salt_pages.proofs.replacing.replace_in.Goals as goal
use Rattle.salt_pages.specs.Filling.{filled}
use Rattle.salt_pages.specs.Pages.{page_rows}
use Rattle.std.proofs.Common.{List, ap, arith, get_or, ℕ, ◌+◌, ◌∙◌}
use Rattle.std.proofs.lemmas.List.{with_items_is}

pub bounds-places-i : goal.bounds-places-i
bounds-places-i c = in_places c.args.bytes.now.items c.args.places.now c.args.free (page_rows c.args.bytes.now.items) c.requires.spelled c.args.i c.requires.below

pub place_behind-end-requires : goal.place_behind-end-requires
place_behind-end-requires c = in_places c.args.bytes.now.items c.args.places.now c.args.free (page_rows c.args.bytes.now.items) c.requires.spelled c.args.i c.requires.below

pub overflow_sub-end : goal.overflow_sub-end
overflow_sub-end c = in_order c.args.bytes.now.items c.args.places.now c.args.free (page_rows c.args.bytes.now.items) c.requires.spelled c.args.i c.requires.below c.place_behind-end.result c.place_behind-end.ensures

pub returns-then-end-place-clause-fits : goal.returns-then-end-place-clause-fits
returns-then-end-place-clause-fits c =
    other_room c.args.bytes.now.items c.args.places.now c.args.free (page_rows c.args.bytes.now.items) c.requires.spelled c.args.i c.requires.below c.args.row.now c.row_room.result c.place_behind-end.result c.row_room.ensures.is c.place_behind-end.ensures c.if-end-place.true

pub put_row-requires-clause-room : goal.put_row-requires-clause-room
put_row-requires-clause-room c =
    let bytes = c.args.bytes.now.items in
    within_row bytes c.args.places.now c.args.free (page_rows bytes) c.requires.spelled c.args.i c.requires.below c.args.row.now c.row_room.result c.place_behind-end.result c.row_room.ensures.is c.place_behind-end.ensures c.if-end-place.false
    c.as_mut_slice.result.now c.as_mut_slice.ensures.value

pub returns-clause-fits : goal.returns-clause-fits
returns-clause-fits c =
    same_room c.args.bytes.now.items c.args.places.now c.args.free (page_rows c.args.bytes.now.items) c.requires.spelled c.args.i c.requires.below c.args.row.now c.row_room.result c.place_behind-end.result c.row_room.ensures.is c.place_behind-end.ensures c.if-end-place.false

pub returns-clause-set : goal.returns-clause-set
returns-clause-set c = λ r e true.
    let bytes = c.args.bytes.now.items in
    let same = as_many_bytes bytes c.args.places.now c.args.free (page_rows bytes) c.requires.spelled c.args.i c.requires.below c.args.row.now c.row_room.result c.place_behind-end.result c.row_room.ensures.is c.place_behind-end.ensures c.if-end-place.false r e in
    replaced bytes c.args.places.now c.args.free (page_rows bytes) c.requires.spelled c.args.i c.requires.below r e c.args.row.now c.requires.row c.requires.values same _
    (with_items_is c.args.bytes.now c.put_row.new.out (omega (arith, c.put_row.ensures.length, c.as_mut_slice.ensures.len)) ∙ c.put_row.ensures.bytes
    ∙ ap (λ (l : List ℕ). filled l (get_or c.args.places.now c.args.i 0 + 2) (spell_values c.args.row.now)) c.as_mut_slice.ensures.value)
