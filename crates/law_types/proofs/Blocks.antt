-- The statements of a unit's program or part are not refused.
use Rattle.salt_ast.specs.Judgement.{statement_fault}
use Rattle.salt_ast.specs.Paths.{at_number, body_statements, part_block, statements_in}
use Rattle.salt_ast.specs.declared.programs.Body.TheVariants.{Acid, Base}
use Rattle.salt_ast.specs.declared.programs.Body.{Body}
use Rattle.salt_ast.specs.declared.programs.PartDef.{PartDef}
use Rattle.salt_ast.specs.declared.programs.ProgramDef.{ProgramDef}
use Rattle.salt_ast.specs.declared.trees.Statement.{Statement}
use Rattle.law_story.proofs.Every.{every-left, every-right}
use Rattle.salt_model.specs.Kept.{Kept, block_of_call, block_of_kind, block_of_part, cont_of, kept_program, schema_of}
use Rattle.salt_model.specs.Words.{Every}
use Rattle.salt_model.specs.declared.events.UnitKind.TheVariants as kind
use Rattle.salt_model.specs.declared.events.UnitKind.{UnitKind}
use Rattle.law_types.proofs.Conts.{proper}
use Rattle.law_types.specs.Typed.{IsJudgedFor, IsTyped, scope_of_program}
use Rattle.salt_values.specs.declared.cont.Cont.{Cont}
use Rattle.std.proofs.Common.{subst}
use Rattle.std.specs.Prelude.{IfSome, List, None, Option, Some, [], map, option_and_then, option_map, refl, suc, zero, ℕ, ◌∷◌, ◌≡◌}

of-call : (Q : Statement → Type 0) (p : ProgramDef) → Every Q (body_statements p.body) → Every Q (block_of_call p)
of-call Q p h = by p.body h
  where
    by : (b : Body) → Every Q (body_statements b) → Every Q (block_of_call (record p { body = b }))
    by (Acid block) g = every-left Q block [] g
    by (Base parts) g = tt

of-number : (Q : Statement → Type 0) (parts : List PartDef) (n : ℕ) (part : PartDef) → Every Q (statements_in (map part_block parts)) → at_number n parts ≡ Some part → Every Q part.block
of-number Q [] n part h e = absurd cc
of-number Q (q ∷ parts) zero part h e = absurd cc
of-number Q (q ∷ parts) (suc zero) part h e =
    let same : q ≡ part = cc in
    subst (λ (x : PartDef). Every Q x.block) same (every-left Q q.block (statements_in (map part_block parts)) h)
of-number Q (q ∷ parts) (suc (suc n)) part h e = of-number Q parts (suc n) part (every-right Q q.block (statements_in (map part_block parts)) h) e

of-part : (Q : Statement → Type 0) (p : ProgramDef) (n : ℕ) → Every Q (body_statements p.body) → Every Q (block_of_part p n)
of-part Q p n h = by p.body h
  where
    at : (parts : List PartDef) (o : Option PartDef) → at_number n parts ≡ o → Every Q (statements_in (map part_block parts)) →
        Every Q (elim o as (λ _. List Statement) [ None ↦ [] | Some part ↦ part.block ])
    at parts None e g = tt
    at parts (Some part) e g = of-number Q parts n part g e

    none : at_number {A = PartDef} n [] ≡ None
    none = refl

    by : (b : Body) → Every Q (body_statements b) → Every Q (block_of_part (record p { body = b }) n)
    by (Acid block) g = at [] None none tt
    by (Base parts) g = at parts (at_number n parts) refl g

module _ (k : Kept) (typed : IsTyped k) where
  abbrev Judged : Option ProgramDef → Statement → Type 0
  Judged o st = statement_fault (schema_of k) (scope_of_program o) st ≡ None

  judged-in : (block : ProgramDef → List Statement) → ((Q : Statement → Type 0) (p : ProgramDef) → Every Q (body_statements p.body) → Every Q (block p)) →
      (n : List ℕ) (o : Option ProgramDef) → kept_program n k ≡ o → IfSome (option_map block o) (Every (Judged o))
  judged-in block each n None e = tt
  judged-in block each n (Some p) e = each (Judged (Some p)) p (proper k typed n p e).judged

  pub block-judged : (u : UnitKind) → IfSome (block_of_kind k u) (Every (IsJudgedFor k u))
  block-judged (kind.Acid s) = tt
  block-judged (kind.Call s n args) = judged-in block_of_call of-call n (kept_program n k) refl
  block-judged (kind.First s b n args) = judged-in (λ p. block_of_part p 1) (λ Q p. of-part Q p 1) n (kept_program n k) refl
  block-judged (kind.Later b part) = by (cont_of b k)
    where
      by : (o : Option Cont) → IfSome (option_and_then (λ (c : Cont). option_map (λ p. block_of_part p part) (kept_program c.program k)) o)
          (Every (Judged (option_and_then (λ (c : Cont). kept_program c.program k) o)))
      by None = tt
      by (Some c) = judged-in (λ p. block_of_part p part) (λ Q p. of-part Q p part) c.program (kept_program c.program k) refl
