-- A move makes of the continuations what the definitions say.
use Rattle.salt_ast.specs.Paths.{Position, next_on_commit, next_on_failure}
use Rattle.salt_ast.specs.declared.programs.Body.TheVariants.{Acid, Base}
use Rattle.salt_ast.specs.declared.programs.Body.{Body}
use Rattle.salt_ast.specs.declared.programs.ProgramDef.{ProgramDef}
use Rattle.salt_cont.specs.Continued.{StandsAt, after_move}
use Rattle.salt_cont.specs.Moves.{move_on, move_to, parts_if_defined, parts_named}
use Rattle.law_story.proofs.Ids.{is_same_id-true}
use Rattle.salt_model.specs.Kept.{Kept, change_cont, cont_in, cont_of, conts_branched, conts_committed, kept_program, moved, parts_of, programs_of, tries_left, values_kept, without_cont}
use Rattle.salt_model.specs.declared.events.UnitKind.TheVariants.{Later}
use Rattle.salt_model.specs.declared.vars.Binding.{Binding}
use Rattle.salt_program.specs.Refusals.{parts_in}
use Rattle.salt_values.specs.Id.{is_same_id}
use Rattle.salt_values.specs.declared.cont.Cont.{Cont}
use Rattle.salt_values.specs.declared.id.Id.{Id}
use Rattle.salt_values.specs.declared.value.Value.{Value}
use Rattle.std.proofs.Common.{ap, sym, ◌∙◌}
use Rattle.std.specs.Prelude.{Bool, List, None, Option, Some, [], cond, false, option_and_then, refl, true, ℕ, ◌∷◌, ◌≡◌}

base-of : (b : Id) (cs : List Cont) (c : Cont) → cont_in b cs ≡ Some c → b ≡ c.base
base-of b [] c h = cc
base-of b (d ∷ ds) c h = by (is_same_id b d.base) refl h (base-of b ds c)
  where
    by : (t : Bool) → is_same_id b d.base ≡ t → cond t (Some d) (cont_in b ds) ≡ Some c → (cont_in b ds ≡ Some c → b ≡ c.base) → b ≡ c.base
    by true e h more = let is : d ≡ c = cc in is_same_id-true b d.base e ∙ ap (λ (z : Cont). z.base) is
    by false e h more = more h

-- a change of the one that is found
change-one : (b : Id) (f : Cont → Cont) (cs : List Cont) (c : Cont) → cont_in b cs ≡ Some c → change_cont b f cs ≡ change_cont b (λ d. f c) cs
change-one b f [] c h = refl
change-one b f (d ∷ ds) c h = by (is_same_id b d.base) h (change-one b f ds c)
  where
    by : (t : Bool) → cond t (Some d) (cont_in b ds) ≡ Some c → (cont_in b ds ≡ Some c → change_cont b f ds ≡ change_cont b (λ d. f c) ds) →
        cond t (f d ∷ ds) (d ∷ change_cont b f ds) ≡ cond t (f c ∷ ds) (d ∷ change_cont b (λ d. f c) ds)
    by true h more = let is : d ≡ c = cc in ap (λ z. f z ∷ ds) is
    by false h more = ap (λ l. d ∷ l) (more h)

parts-same : (p : ProgramDef) → parts_in p.body ≡ parts_of p
parts-same p = at p.body
  where
    at : (b : Body) → parts_in b ≡ elim b [ Acid block ↦ [] | Base parts ↦ parts ]
    at (Acid block) = refl
    at (Base parts) = refl

-- the parts of the program that stands there
its-parts : (k : Kept) (b : Id) (c : Cont) (p : ProgramDef) → StandsAt k b c p → parts_named (programs_of k) c.program ≡ parts_of p
its-parts k b c p s = ap parts_if_defined s.defined ∙ parts-same p

its-program : (k : Kept) (b : Id) (c : Cont) (p : ProgramDef) → StandsAt k b c p → option_and_then (λ (d : Cont). kept_program d.program k) (cont_of b k) ≡ Some p
its-program k b c p s = ap (option_and_then (λ (d : Cont). kept_program d.program k)) s.kept ∙ s.defined

-- the move to a position, with these variables
moves-to : (b : Id) (cs : List Cont) (c : Cont) (vars : List Value) → cont_in b cs ≡ Some c → (at : Option Position) →
    moved b at (λ d. record d { vars = vars }) cs ≡ after_move b (move_to c vars at) cs
moves-to b cs c vars h None = ap (λ z. without_cont z cs) (base-of b cs c h)
moves-to b cs c vars h (Some at) = change-one b (λ d. record d { vars = vars; next = at.part; tries = at.tries }) cs c h

-- and with those that it has
stays-to : (b : Id) (cs : List Cont) (c : Cont) → cont_in b cs ≡ Some c → (at : Option Position) → moved b at (λ d. d) cs ≡ after_move b (move_to c c.vars at) cs
stays-to b cs c h None = ap (λ z. without_cont z cs) (base-of b cs c h)
stays-to b cs c h (Some at) = change-one b (λ d. record d { next = at.part; tries = at.tries }) cs c h

pub commits : (k : Kept) (n : ℕ) (b : Id) (c : Cont) (p : ProgramDef) (vars : List Binding) → StandsAt k b c p →
    conts_committed k n (Later b c.next) vars ≡ after_move b (move_on (programs_of k) c (values_kept p vars) false) k.conts
commits k n b c p vars s =
    ap (λ o. elim o [ None ↦ k.conts | Some q ↦ moved b (next_on_commit (parts_of q) c.next) (λ d. record d { vars = values_kept q vars }) k.conts ]) (its-program k b c p s)
    ∙ (moves-to b k.conts c (values_kept p vars) s.kept (next_on_commit (parts_of p) c.next)
    ∙ ap (λ parts. after_move b (move_to c (values_kept p vars) (next_on_commit parts c.next)) k.conts) (sym (its-parts k b c p s)))

pub branches : (k : Kept) (b : Id) (c : Cont) (p : ProgramDef) (vars : List Value) → StandsAt k b c p →
    conts_branched k (Later b c.next) ≡ after_move b (move_on (programs_of k) c vars true) k.conts
branches k b c p vars s =
    ap (λ o. elim o [ None ↦ k.conts | Some q ↦ moved b (next_on_failure (parts_of q) c.next (tries_left b k)) (λ d. d) k.conts ]) (its-program k b c p s)
    ∙ (ap (λ o. moved b (next_on_failure (parts_of p) c.next (elim o [ None ↦ 0 | Some d ↦ d.tries ])) (λ d. d) k.conts) s.kept
    ∙ (stays-to b k.conts c s.kept (next_on_failure (parts_of p) c.next c.tries)
    ∙ ap (λ parts. after_move b (move_to c c.vars (next_on_failure parts c.next c.tries)) k.conts) (sym (its-parts k b c p s))))
