-- What is kept can be drained: programs are spelled and proper, and their continuations stand at parts of them.
use Rattle.salt_ast.specs.Paths.{at_number}
use Rattle.salt_ast.specs.ProgramJudgement.{are_arguments}
use Rattle.salt_ast.specs.Programs.{IsBody, IsPart, IsProgram, Several, and_more, is_acid, is_base, is_block, is_part, is_program, last_one}
use Rattle.salt_ast.specs.Statements.{ListedBy, items}
use Rattle.salt_ast.specs.declared.programs.Body.{Body}
use Rattle.salt_ast.specs.declared.programs.Body.TheVariants.{Acid, Base}
use Rattle.salt_ast.specs.declared.programs.PartDef.{PartDef}
use Rattle.salt_ast.specs.declared.programs.ProgramDef.{ProgramDef}
use Rattle.salt_ast.specs.declared.trees.Expr.{Expr}
use Rattle.salt_ast.specs.declared.trees.TableDef.{TableDef}
use Rattle.salt_stands.specs.Fitting.{is_cont_of, stands_at_part}
use Rattle.salt_model.specs.Kept.{Definition, Kept, OfProgram, OfTable, kept_program, parts_of, program_of_definition, programs_of, schema_of}
use Rattle.salt_model.specs.Printable.{IsSpelledProgram}
use Rattle.salt_model.specs.Words.{Every}
use Rattle.law_openings.specs.Draining.{CanDrain, LeadsOn, StandsAtPart}
use Rattle.salt_program.specs.Refusals.{parts_in}
use Rattle.salt_storage.specs.Storing.{IsSpelledDefinition}
use Rattle.salt_ast.specs.Symbols.{Symbols}
use Rattle.salt_ast.specs.declared.sign.Sign.{Sign}
use Rattle.law_types.specs.Typed.{IsContOf, IsProperProgram, IsTyped}
use Rattle.salt_values.specs.declared.cont.Cont.{Cont}
use Rattle.std.proofs.Common.{arith, subst}
use Rattle.std.specs.List.{filter_map}
use Rattle.std.specs.Prelude.{Bool, List, None, Option, Some, [], false, is_some, length, nat_lt, refl, true, ◌&&◌, ◌<◌, ◌∷◌, ◌≡◌}

-- BLOCKS of what is spelled have a statement.

listed-some : {A : Type 0} (mark : Sign) (Item : Symbols → A → Type 0) (ts : Symbols) (xs : List A) → ListedBy mark Item ts xs → 0 < length xs
listed-some mark Item _ _ (items i l) = omega arith

part-some : (Inner Deeper : Symbols → Expr → Type 0) (ts : Symbols) (p : PartDef) → IsPart Inner Deeper ts p → 0 < length p.block
part-some Inner Deeper _ _ (is_part (is_block l) t f) = listed-some _ _ _ _ l

parts-some : (Inner Deeper : Symbols → Expr → Type 0) (ts : Symbols) (ps : List PartDef) → Several (IsPart Inner Deeper) ts ps → Every (λ (p : PartDef). 0 < length p.block) ps
parts-some Inner Deeper _ _ (last_one p) = (part-some Inner Deeper _ _ p, tt)
parts-some Inner Deeper _ _ (and_more p s) = (part-some Inner Deeper _ _ p, parts-some Inner Deeper _ _ s)

body-some : (Inner Deeper : Symbols → Expr → Type 0) (ts : Symbols) (b : Body) → IsBody Inner Deeper ts b → Every (λ (p : PartDef). 0 < length p.block) (parts_in b)
body-some Inner Deeper _ _ (is_acid l) = tt
body-some Inner Deeper _ _ (is_base s) = parts-some Inner Deeper _ _ s

program-some : (Inner Deeper : Symbols → Expr → Type 0) (ts : Symbols) (p : ProgramDef) → IsProgram Inner Deeper ts p → Every (λ (p : PartDef). 0 < length p.block) (parts_in p.body)
program-some Inner Deeper _ _ (is_program f v b) = body-some Inner Deeper _ _ b

parts-same : (p : ProgramDef) → parts_in p.body ≡ parts_of p
parts-same p = by p.body
  where
    by : (b : Body) → parts_in b ≡ elim b [ Acid block ↦ [] | Base parts ↦ parts ]
    by (Acid block) = refl
    by (Base parts) = refl

-- PROGRAMS of what may be kept

pub spelled-programs : (ds : List Definition) → Every IsSpelledDefinition ds → Every IsSpelledProgram (filter_map program_of_definition ds)
spelled-programs [] h = tt
spelled-programs (OfTable d ∷ ds) h = spelled-programs ds h.1
spelled-programs (OfProgram p ∷ ds) h = (h.0, spelled-programs ds h.1)

pub every-both : {A : Type 0} (P Q R : A → Type 0) → ((x : A) → P x → Q x → R x) → (xs : List A) → Every P xs → Every Q xs → Every R xs
every-both P Q R f [] h k = tt
every-both P Q R f (x ∷ xs) h k = (f x h.0 k.0, every-both P Q R f xs h.1 k.1)

leads-drained : (schema : List TableDef) (p : ProgramDef) → IsProperProgram schema p → IsSpelledProgram p → LeadsOn p
leads-drained schema p proper spelled = record {
  ways = proper.branches;
  blocks = subst (Every (λ (part : PartDef). 0 < length part.block)) (parts-same p) (program-some _ _ _ p spelled.spells.spelled);
}

-- CONTINUATIONS stand at parts.

both-first : (a b : Bool) → (a && b) ≡ true → a ≡ true
both-first true b h = refl
both-first false b h = cc

both-second : (a b : Bool) → (a && b) ≡ true → b ≡ true
both-second true b h = h
both-second false b h = cc

stands : (k : Kept) (c : Cont) → IsContOf k c → StandsAtPart k c
stands k c h = by (kept_program c.program k) refl h
  where
    at : (p : ProgramDef) → kept_program c.program k ≡ Some p → (o : Option PartDef) → at_number c.next (parts_of p) ≡ o → is_some o ≡ true → StandsAtPart k c
    at p found None e h = absurd cc
    at p found (Some part) e h = record { program = p; part = part; found = found; there = e }

    by : (o : Option ProgramDef) → kept_program c.program k ≡ o → is_cont_of o c ≡ true → StandsAtPart k c
    by None e h = absurd cc
    by (Some p) e h =
        let place = both-second (are_arguments p.vars c.vars) (stands_at_part p c.next c.tries) (both-second (are_arguments p.params c.args) _ h) in
        at p e (at_number c.next (parts_of p)) refl (both-first (is_some (at_number c.next (parts_of p))) _ (both-second (nat_lt 1 c.next) _ place))

every-stands : (k : Kept) (cs : List Cont) → Every (IsContOf k) cs → Every (StandsAtPart k) cs
every-stands k [] h = tt
every-stands k (c ∷ cs) h = (stands k c h.0, every-stands k cs h.1)

pub can-drain : (k : Kept) → IsTyped k → Every IsSpelledDefinition k.definitions → CanDrain k
can-drain k typed spelled = record {
  programs = every-both (IsProperProgram (schema_of k)) IsSpelledProgram LeadsOn (leads-drained (schema_of k)) (programs_of k) typed.programs (spelled-programs k.definitions spelled);
  conts = every-stands k k.conts typed.conts;
}
