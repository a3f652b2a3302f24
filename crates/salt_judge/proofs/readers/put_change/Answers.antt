use Rattle.salt_judge.proofs.readers.put_change.Goals as goal
use Rattle.salt_judge.specs.ReadAfter.{is_elsewhere, written_first}
use Rattle.salt_judge.specs.declared.reads.Writing.{Writing}
use Rattle.salt_values.specs.declared.value.Value.{Value}
use Rattle.std.proofs.Common.{List, ap, rules, ◌∙◌, ◌∷◌, ◌≡◌}
use Rattle.std.proofs.lemmas.Fn.{filter_same}
use Rattle.std.specs.List.{filter}

pub returns : goal.returns
returns c =
    let w : Writing = record { unit = c.args.unit; table = c.args.change.now.table; key = c.in_ok-copy.field-0 } in
    let left : c.retain.new.self.items ≡ filter (is_elsewhere w) c.args.last.now.items = filter_same _ (is_elsewhere w) _ (λ x b f' k. search rules) _ _ c.retain.ensures.filtered in
    c.in_ok-insert.ensures.items ∙ ap (λ (l : List Writing). w ∷ l) left
    ∙ ap (λ (k : Value). written_first (record { unit = c.args.unit; table = c.args.change.now.table; key = k }) c.args.last.now.items) c.in_ok-copy.ensures
