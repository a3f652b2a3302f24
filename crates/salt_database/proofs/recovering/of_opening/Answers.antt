use Rattle.salt_database.proofs.recovering.of_opening.Goals as goal
use Rattle.salt_database.specs.Performing.{ComesInOpening}
use Rattle.salt_driver.proofs.Untold.{not-both}
use Rattle.salt_model.specs.declared.events.Event.{Event}
use Rattle.std.proofs.Common.{subst, sym, ◌∙◌}
use Rattle.std.specs.Prelude.{Some, ◌≡◌}

same-some : (e f : Event) → Some e ≡ Some f → e ≡ f
same-some e f h = cc

pub returns-then-is_told-clause-plain : goal.returns-then-is_told-clause-plain
returns-then-is_told-clause-plain g c = λ untold e is. let no = sym untold ∙ sym c.is_told.ensures ∙ c.if-is_told.true in cc

pub returns-in_default-clause-same : goal.returns-in_default-clause-same
returns-in_default-clause-same g c = λ told. absurd (not-both (sym c.is_told.ensures ∙ c.if-is_told.false) told)

pub returns-in_default-clause-plain : goal.returns-in_default-clause-plain
returns-in_default-clause-plain g c = λ untold e is. cc

pub returns-then-comes_in_opening-clause-same : goal.returns-then-comes_in_opening-clause-same
returns-then-comes_in_opening-clause-same g c = λ told. absurd (not-both (sym c.is_told.ensures ∙ c.if-is_told.false) told)

pub returns-then-comes_in_opening-clause-plain : goal.returns-then-comes_in_opening-clause-plain
returns-then-comes_in_opening-clause-plain g c = λ untold e is. subst ComesInOpening (same-some _ e is) (c.comes_in_opening.ensures c.if-comes_in_opening.true)

pub returns-else-comes_in_opening-clause-same : goal.returns-else-comes_in_opening-clause-same
returns-else-comes_in_opening-clause-same g c = λ told. absurd (not-both (sym c.is_told.ensures ∙ c.if-is_told.false) told)

pub returns-else-comes_in_opening-clause-plain : goal.returns-else-comes_in_opening-clause-plain
returns-else-comes_in_opening-clause-plain g c = λ untold e is. cc

pub returns-then-is_told-clause-of : goal.returns-then-is_told-clause-of
returns-then-is_told-clause-of g c = λ e is. is

pub returns-in_default-clause-of : goal.returns-in_default-clause-of
returns-in_default-clause-of g c = λ e is. cc

pub returns-then-comes_in_opening-clause-of : goal.returns-then-comes_in_opening-clause-of
returns-then-comes_in_opening-clause-of g c = λ e is. c.in-Some.is ∙ is

pub returns-else-comes_in_opening-clause-of : goal.returns-else-comes_in_opening-clause-of
returns-else-comes_in_opening-clause-of g c = λ e is. cc
