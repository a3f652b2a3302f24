use Rattle.salt_bytes.specs.Page.{TableRow}
use Rattle.salt_pages.proofs.Inserted.{row_of}
use Rattle.salt_pages.proofs.Replaced.{seen_so, tags_replaced}
use Rattle.salt_pages.proofs.Spelled.{read_back, some_at}
use Rattle.salt_pages.proofs.Tagged.{tagged_so}
use Rattle.salt_pages.proofs.page.Page.replace.Goals as goal
use Rattle.salt_pages.specs.Pages.{page_rows}
use Rattle.salt_pages.specs.Tags.{tag_of}
use Rattle.std.proofs.Common.{List, ap, arith, length, refl, set, ◌<◌, ◌∙◌}
use Rattle.std.specs.Prelude.{slice_get}

pub invariant_of-self : goal.invariant_of-self
invariant_of-self c =
    let page = c.self.inside in
    let rows = page_rows page.bytes.items in
    let low : c.args.i < length rows = omega (arith, c.requires.below, ap length c.self.view_is) in
    let r = some_at rows c.args.i low in
    tagged_so c.replace_in-put.new.bytes.items page.places.items (set page.tags.items c.args.i c.tag_of.result) page.free (set rows c.args.i (row_of r.0.table c.args.row.now))
    (seen_so c.replace_in-put.new.bytes.items c.as_slice-2.result.now page.places.items page.free rows c.args.i r.0.table c.as_slice-3.result.now c.args.row.now c.as_slice-2.ensures.value c.as_slice-3.ensures (c.if-put.ensures.set r.0 r.1 refl))
    (tags_replaced rows c.args.i r.0.table c.args.row.now c.as_slice-then-put.result.now c.index-as_slice-0.result page.tags.items c.tag_of.result c.requires.row c.as_slice-then-put.ensures (c.tag_of.ensures ∙ ap tag_of c.index-as_slice-0.is) c.self.invariant.tagged)

pub returns-then-put-clause-set : goal.returns-then-put-clause-set
returns-then-put-clause-set c = λ r e put.
    let page = c.self.inside in
    let rows = page_rows page.bytes.items in
    read_back c.replace_in-put.new.bytes.items page.places.items page.free (set rows c.args.i (row_of r.table c.args.row.now))
    (seen_so c.replace_in-put.new.bytes.items c.as_slice-2.result.now page.places.items page.free rows c.args.i r.table c.as_slice-3.result.now c.args.row.now c.as_slice-2.ensures.value c.as_slice-3.ensures
    (c.if-put.ensures.set r (ap (λ (l : List TableRow). slice_get l c.args.i) c.self.view_is ∙ e) refl))
    ∙ ap (λ (l : List TableRow). set l c.args.i (row_of r.table c.args.row.now)) c.self.view_is
