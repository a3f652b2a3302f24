use Rattle.salt_codec.specs.Entries.{IsPutTo}
use Rattle.salt_devices.proofs.InHand.{all_stand, few_values, head_is, same_value}
use Rattle.salt_devices.proofs.fits.can_be_put.Goals as goal
use Rattle.salt_values.specs.Value.{key_of}
use Rattle.std.proofs.Common.{arith, length, subst, sym, true, ◌≡◌, ◌≤◌, ◌∙◌}

pub returns-then-len-le-COLUMNS_MOST : goal.returns-then-len-le-COLUMNS_MOST
returns-then-len-le-COLUMNS_MOST c same =
    let row = c.in-Some.row in
    let key = c.args.change.now.key in
    let some : 1 ≤ length row = subst (λ r. 1 ≤ length r) c.as_slice.ensures c.in-len1-up.len_at_least in
    let few : length row ≤ 16 = omega (arith, c.len.ensures, c.if-len-le-COLUMNS_MOST.true) in
    let first = head_is c.as_slice.result.now c.first-item.result c.in-len1-up.len_at_least c.first-item.is in
    subst (λ o. IsPutTo true key o) (sym c.in-Some.is)
    (few_values (length row) some few, subst (λ r. key_of r ≡ c.first-item.result) c.as_slice.ensures first ∙ same_value c.first-item.result key (sym c.eq.ensures ∙ same), all_stand row)
