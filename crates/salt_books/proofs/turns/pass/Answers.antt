use Rattle.salt_books.proofs.turns.pass.Goals as goal
use Rattle.salt_model.specs.Turns.{ids_after}
use Rattle.salt_values.specs.Id.{is_same_id}
use Rattle.salt_values.specs.declared.id.Id.{Id}
use Rattle.std.proofs.Common.{List, [], ap, arith, cond, get_or, length, subst, sym, true, ◌<◌, ◌∙◌, ◌∷◌, ◌≡◌}
use Rattle.std.specs.List.{remove}

first-passed : (b : Id) (xs : List Id) (d : Id) → 0 < length xs → is_same_id b (get_or xs 0 d) ≡ true → remove xs 0 ≡ ids_after b xs
first-passed b [] d some same = absurd (omega (arith, some))
first-passed b (x ∷ xs) d some same = sym (ap (λ t. cond t xs (ids_after b xs)) same)

pub returns-then-is_first : goal.returns-then-is_first
returns-then-is_first c =
    let first = subst (λ (l : List Id). (0 < length l) × (is_same_id c.args.base (get_or l 0 c.args.base) ≡ true)) c.as_slice.ensures (c.is_first.ensures c.if-is_first.true c.args.base) in
    c.remove.ensures ∙ first-passed c.args.base c.args.ids.now c.args.base first.0 first.1

pub returns : goal.returns
returns c = c.from_vec.ensures ∙ (c.in_ok-left.ensures ∙ ap (ids_after c.args.base) c.as_slice-2.ensures)

pub remove-requires : goal.remove-requires
remove-requires c = (subst (λ (l : List Id). (0 < length l) × (is_same_id c.args.base (get_or l 0 c.args.base) ≡ true)) c.as_slice.ensures (c.is_first.ensures c.if-is_first.true c.args.base)).0
