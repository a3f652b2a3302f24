use Rattle.std.proofs.Common.{List, IfOk, subst, sym, ℕ, ◌∙◌, ◌≡◌}
use Rattle.salt_parse.proofs.Quotes.{plain_text}
use Rattle.salt_parse.proofs.quoted.content.Goals as goal

pub returns-then-is_plain : goal.returns-then-is_plain
returns-then-is_plain c =
    let plain = plain_text c.args.quoted.now (sym c.is_plain.ensures ∙ c.if-is_plain.true) in
    subst (λ (bs : List ℕ). IfOk c.from_slice.result (λ v. v.items ≡ bs)) (sym plain) c.from_slice.ensures.items
