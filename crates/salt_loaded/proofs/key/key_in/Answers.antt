use Rattle.salt_loaded.proofs.Fronts.{not_short, null_first, number_first, text_first}
use Rattle.salt_loaded.proofs.key.key_in.Goals as goal
use Rattle.salt_loaded.specs.Keys.{text_taken}
use Rattle.salt_values.specs.declared.value.Value.TheVariants.{Int, Text}
use Rattle.std.proofs.Common.{ap, arith, rules, sym, to_z, of_z, w64, ◌∙◌, ◌≡◌}

pub returns-in_default : goal.returns-in_default
returns-in_default c = absurd (not_short c.args.row.now c.requires c.in_default.len_below)

pub returns-in-1 : goal.returns-in-1
returns-in-1 c =
    let n = number_first c.args.row.now c.requires c.in-len2-up.len_at_least c.in-1.is in
    let fits : to_z w64 (of_z w64 c.number_in.result) ≡ c.number_in.result = search rules in
    ap (λ x. Int x) (fits ∙ c.number_in.ensures n.0 n.1 n.2) ∙ sym n.3

pub returns-in-2 : goal.returns-in-2
returns-in-2 c =
    let t = text_first c.args.row.now c.requires c.in-len2-up.len_at_least c.in-2.is in
    ap (λ x. Text x) (c.text_in.ensures ∙ ap text_taken t.2) ∙ sym t.3

pub returns-in_default-kind : goal.returns-in_default-kind
returns-in_default-kind c = sym (null_first c.args.row.now c.requires c.in-len2-up.len_at_least (λ h. omega arith) (λ h. omega arith))
