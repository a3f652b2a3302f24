use Rattle.salt_loaded.proofs.Fronts.{row_is}
use Rattle.salt_loaded.proofs.Grown.{spot_there, stands_behind, stay, with_row, with_spot}
use Rattle.salt_loaded.proofs.loading.Loading.push_keyed.Goals as goal
use Rattle.salt_loaded.specs.Keys.{key_told}
use Rattle.salt_loaded.specs.Rows.{with_rows}
use Rattle.salt_loaded.specs.Spots.{IsSpot, rows_at}
use Rattle.salt_loaded.specs.declared.order.Spot.{Spot}
use Rattle.std.proofs.Common.{[], ap, drop, length, subst, sym, ◌++◌, ◌∙◌, ◌∷◌}
use Rattle.std.specs.Prelude.{is_some}

pub invariant_of-self-in_err-push : goal.invariant_of-self-in_err-push
invariant_of-self-in_err-push c =
    rw (c.in_ok-extend_from_slice.ensures.items, c.in_err-push.ensures.items) (stay c.self.inside.bytes.items c.args.row.now c.self.inside.spots.items c.self.invariant)

pub invariant_of-self-2 : goal.invariant_of-self-2
invariant_of-self-2 c =
    let bytes = c.self.inside.bytes.items in
    let row = c.args.row.now in
    let at = ap (λ l. drop (length l) (bytes ++ row)) c.as_slice-at.ensures.value ∙ stands_behind bytes row in
    let is = spot_there (bytes ++ row) row (key_told c.args.key.now) (length c.as_slice-at.result.now) at (ap is_some c.requires.spelled.1) c.requires.key in
    rw (c.in_ok-extend_from_slice.ensures.items, c.in_ok-push.ensures.items)
    (with_spot bytes row c.self.inside.spots.items c.spot_of.result c.self.invariant (subst (IsSpot (bytes ++ row)) (sym c.spot_of.ensures) is))

pub returns : goal.returns
returns c =
    λ r h.
    let bytes = c.self.inside.bytes.items in
    let spots = c.self.inside.spots.items in
    let row = c.args.row.now in
    let rows =
    (λ i. rows_at (c.in_ok-extend_from_slice.ensures.items i) (c.in_ok-push.ensures.items i))
    ∙ with_row bytes row spots c.spot_of.result c.self.invariant (ap (λ (s : Spot). s.at) c.spot_of.ensures ∙ ap length c.as_slice-at.ensures.value)
    ∙ ap (λ x. rows_at bytes spots ++ (x ∷ [])) (row_is row [] r h) in
    (λ i. record { table = c.self.inside.table; rows = rows i }) ∙ ap (with_rows (r ∷ [])) c.self.view_is
