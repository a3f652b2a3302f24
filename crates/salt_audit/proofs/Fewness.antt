-- A program whose text is read has few parts.
use Rattle.salt_ast.specs.ProgramLimits.{program_limit}
use Rattle.salt_ast.specs.declared.lines.Line.{Line}
use Rattle.salt_ast.specs.declared.programs.ProgramDef.{ProgramDef}
use Rattle.law_definitions.specs.Texts.{IsTextOf, definition_in}
use Rattle.salt_cont.specs.Catalogues.{AllAreFew}
use Rattle.salt_events.specs.Definitions.{line_defining}
use Rattle.salt_scheduler.specs.Refusals.{HasFewParts}
use Rattle.salt_model.specs.Kept.{Definition, OfProgram, OfTable}
use Rattle.std.proofs.Common.{List, None, Option, Some, [], arith, option_map, subst, sym, ℕ, ◌++◌, ◌∷◌, ◌≡◌}

some_is : {A : Type 0} (x y : A) → Some x ≡ Some y → x ≡ y
some_is x y e = cc

pub few_parts : (limited : (catalogue : List ProgramDef) (p : ProgramDef) → AllAreFew catalogue → program_limit p ≡ None → AllAreFew (catalogue ++ p ∷ [])) (text : List ℕ) →
    ((d : Definition) → definition_in text ≡ Some d → IsTextOf d text) → (line : Line) (o : Option Definition) → definition_in text ≡ o →
    Some line ≡ option_map line_defining o → HasFewParts line
few_parts limited text reads line None e h = absurd cc
few_parts limited text reads line (Some (OfTable d)) e h = subst HasFewParts (sym (some_is line (line_defining (OfTable d)) h)) tt
few_parts limited text reads line (Some (OfProgram p)) e h =
    let few = (limited [] p tt (reads (OfProgram p) e).0.within).0 in
    subst HasFewParts (sym (some_is line (line_defining (OfProgram p)) h)) (omega (arith, few.count))
