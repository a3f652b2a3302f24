use Rattle.std.proofs.Common.{None, [], ap, refl, rules, subst, sym, ◌++◌, ◌∙◌, ◌∷◌, ◌≡◌}
use Rattle.salt_ast.specs.Limits.{value_passed}
use Rattle.salt_ast.specs.Words.{first_in}
use Rattle.salt_script.proofs.Keeping.{holds_whole}
use Rattle.salt_script.proofs.Reading.{comma_read, fails_whole, front_more, literal_read, no_comma, no_literal, with_front}
use Rattle.salt_script.proofs.args.items.Goals as goal
use Rattle.salt_script.specs.Answers.{GivesOrLimit}
use Rattle.salt_script.specs.Literals.{HoldsArgs, at_item, behind_item, closed_at, items_at, literal_at}
use Rattle.salt_ast.specs.Symbols.{symbols_in}

pub returns-in_err-take : goal.returns-in_err-take
returns-in_err-take c =
    let all = fails_whole (first_in value_passed) c.in_err-take.field-0.0 (literal_at (symbols_in c.args.tokens.now))
    (items_at at_item (symbols_in c.args.tokens.now)) c.in_err-take.ensures.err (no_literal (symbols_in c.args.tokens.now)) in
    search rules

pub items-init : goal.items-init
items-init c =
    let first = c.in_ok-take.ensures.ok in (
      first.value ∷ [],
      first.holds [] (holds_whole (first_in value_passed) None c.new.result [] refl refl c.new.ensures),
      first.printable,
      literal_read (symbols_in c.args.tokens.now) first.value (symbols_in c.take.new.self.rest.now) first.read,
    )

pub items-preserved : goal.items-preserved
items-preserved c =
    let more = c.in_ok-take-2.ensures.ok in
    let read = c.items.invariant.0 in
    let held : HoldsArgs c.skip_comma.new.self read = search rules in
    let comma = comma_read (symbols_in c.items.args.rest.now) (symbols_in c.skip_comma.new.self.rest.now) c.items-test.ensures.comma in (
      read ++ more.value ∷ [],
      more.holds read held,
      more.printable,
      c.items.invariant.3 ∙ ap (with_front read) (comma ∙ literal_read (symbols_in c.skip_comma.new.self.rest.now) more.value
          (symbols_in c.take-in-items.new.self.rest.now) more.read) ∙ front_more read more.value (items_at behind_item (symbols_in c.take-in-items.new.self.rest.now)),
    )

pub returns-in_err-take-2 : goal.returns-in_err-take-2
returns-in_err-take-2 c =
    let read = c.items.invariant.0 in
    let comma = comma_read (symbols_in c.items.args.rest.now) (symbols_in c.skip_comma.new.self.rest.now) c.items-test.ensures.comma in
    let all = fails_whole (first_in value_passed) c.in_err-take-2.field-0.0 (literal_at (symbols_in c.skip_comma.new.self.rest.now))
    (items_at at_item (symbols_in c.args.tokens.now)) c.in_err-take-2.ensures.err
    (λ none. c.items.invariant.3 ∙ ap (with_front read) (comma ∙ no_literal (symbols_in c.skip_comma.new.self.rest.now) none)) in
    search rules

pub returns : goal.returns
returns c =
    let read = c.items.invariant.0 in
    let held : HoldsArgs c.skip_comma.new.self read = search rules in
    let same : closed_at read (symbols_in c.items.args.rest.now) ≡ closed_at read (symbols_in c.skip_comma.new.self.rest.now) = search rules in
    let is = c.items.invariant.3 ∙ no_comma read (symbols_in c.items.args.rest.now) c.items-test.ensures.comma ∙ same in
    subst (GivesOrLimit (first_in value_passed) c.close.result) (sym is) (c.close.ensures read held)
