-- A move makes of the continuations what the words on the state say.
use Rattle.law_story.proofs.Defined.{named-own}
use Rattle.salt_ast.specs.Paths.{Position, next_on_commit}
use Rattle.salt_ast.specs.ProgramJudgement.{program_named}
use Rattle.salt_ast.specs.declared.programs.Body.TheVariants.{Acid, Base}
use Rattle.salt_ast.specs.declared.programs.Body.{Body}
use Rattle.salt_ast.specs.declared.programs.PartDef.{PartDef}
use Rattle.salt_ast.specs.declared.programs.ProgramDef.{ProgramDef}
use Rattle.salt_audit.proofs.Amiss.{id_is}
use Rattle.salt_audit.specs.Standing.{cont_named}
use Rattle.salt_audit.specs.Telling.{conts_ended, first_by, later_by, moved_by, program_by, tries_of, way_behind, with_last}
use Rattle.salt_cont.specs.Continued.{after_move}
use Rattle.salt_cont.specs.Moves.{move_on, move_to, next_from, parts_if_defined, vars_behind}
use Rattle.salt_model.specs.Kept.{begun_cont, change_cont, moved, parts_of, values_kept, without_cont}
use Rattle.salt_model.specs.declared.events.End.TheVariants as end
use Rattle.salt_model.specs.declared.events.End.{End}
use Rattle.salt_model.specs.declared.vars.Binding.{Binding}
use Rattle.salt_program.specs.Refusals.{parts_in}
use Rattle.salt_values.specs.Id.{is_same_id}
use Rattle.salt_values.specs.declared.cont.Cont.{Cont}
use Rattle.salt_values.specs.declared.id.Id.{Id}
use Rattle.salt_values.specs.declared.value.Value.{Value}
use Rattle.std.proofs.Common.{ap, drop, subst, sym, ◌∙◌}
use Rattle.std.specs.Prelude.{Bool, List, None, Option, Some, [], cond, false, map, length, option_and_then, refl, suc, true, zero, ℕ, ◌++◌, ◌∷◌, ◌≡◌}

-- THE CONTINUATION THAT IS FOUND

base_of : (b : Id) (cs : List Cont) (c : Cont) → cont_named b cs ≡ Some c → b ≡ c.base
base_of b [] c h = cc
base_of b (d ∷ ds) c h = by (is_same_id b d.base) refl h (base_of b ds c)
  where
    by : (t : Bool) → is_same_id b d.base ≡ t → cond t (Some d) (cont_named b ds) ≡ Some c → (cont_named b ds ≡ Some c → b ≡ c.base) → b ≡ c.base
    by true e f more = let is : d ≡ c = cc in id_is b d.base e ∙ ap (λ (z : Cont). z.base) is
    by false e f more = more f

change_one : (b : Id) (f : Cont → Cont) (cs : List Cont) (c : Cont) → cont_named b cs ≡ Some c → change_cont b f cs ≡ change_cont b (λ d. f c) cs
change_one b f [] c h = refl
change_one b f (d ∷ ds) c h = by (is_same_id b d.base) h (change_one b f ds c)
  where
    by : (t : Bool) → cond t (Some d) (cont_named b ds) ≡ Some c → (cont_named b ds ≡ Some c → change_cont b f ds ≡ change_cont b (λ d. f c) ds) →
        cond t (f d ∷ ds) (d ∷ change_cont b f ds) ≡ cond t (f c ∷ ds) (d ∷ change_cont b (λ d. f c) ds)
    by true g more = let is : d ≡ c = cc in ap (λ z. f z ∷ ds) is
    by false g more = ap (λ l. d ∷ l) (more g)

parts_same : (p : ProgramDef) → parts_in p.body ≡ parts_of p
parts_same p = at p.body
  where
    at : (b : Body) → parts_in b ≡ elim b [ Acid block ↦ [] | Base parts ↦ parts ]
    at (Acid block) = refl
    at (Base parts) = refl

-- A LATER PART

abbrev pub at_part : Cont → ℕ → Cont
at_part c part = record c { next = part }

way_of : (failed : Bool) (p : ProgramDef) (c : Cont) (part : ℕ) → next_from (parts_of p) (at_part c part) failed ≡ way_behind failed part c.tries p
way_of true p c part = refl
way_of false p c part = refl

own_vars : (failed : Bool) (c : Cont) (part : ℕ) → vars_behind (at_part c part) c.vars failed ≡ c.vars
own_vars true c part = refl
own_vars false c part = refl

moves : (b : Id) (cs : List Cont) (c : Cont) (part : ℕ) → cont_named b cs ≡ Some c → (way : Option Position) →
    after_move b (move_to (at_part c part) c.vars way) cs ≡ moved b way (λ d. d) cs
moves b cs c part here None = ap (λ (z : Id). without_cont z cs) (sym (base_of b cs c here))
moves b cs c part here (Some at) = sym (change_one b (λ d. record d { next = at.part; tries = at.tries }) cs c here)

module _ (failed : Bool) (catalogue : List ProgramDef) (b : Id) (part : ℕ) (cs : List Cont) where
  later_found : (c : Cont) (p : ProgramDef) → cont_named b cs ≡ Some c → program_named catalogue c.program ≡ Some p →
      later_by failed catalogue b part cs ≡ moved b (way_behind failed part c.tries p) (λ d. d) cs
  later_found c p here defined =
      ap (λ (o : Option ProgramDef). moved_by b (way_behind failed part (tries_of (cont_named b cs))) o cs)
      (ap (option_and_then (λ (d : Cont). program_named catalogue d.program)) here ∙ defined)
      ∙ ap (λ (o : Option Cont). moved b (way_behind failed part (tries_of o) p) (λ d. d) cs) here

  pub later_goes : (c : Cont) (p : ProgramDef) → cont_named b cs ≡ Some c → program_named catalogue c.program ≡ Some p →
      after_move b (move_on catalogue (at_part c part) c.vars failed) cs ≡ later_by failed catalogue b part cs
  later_goes c p here defined =
      ap (λ (ps : List PartDef). after_move b (move_to (at_part c part) (vars_behind (at_part c part) c.vars failed) (next_from ps (at_part c part) failed)) cs)
      (ap parts_if_defined defined ∙ parts_same p)
      ∙ ap (λ (vs : List Value). after_move b (move_to (at_part c part) vs (next_from (parts_of p) (at_part c part) failed)) cs) (own_vars failed c part)
      ∙ ap (λ (w : Option Position). after_move b (move_to (at_part c part) c.vars w) cs) (way_of failed p c part)
      ∙ moves b cs c part here (way_behind failed part c.tries p)
      ∙ sym (later_found c p here defined)

  -- a program that is not there stays
  pub later_stays : program_by catalogue cs b ≡ None → cs ≡ later_by failed catalogue b part cs
  later_stays none = sym (ap (λ (o : Option ProgramDef). moved_by b (way_behind failed part (tries_of (cont_named b cs))) o cs) none)

-- A FIRST PART

abbrev pub at_first : Id → ℕ → ProgramDef → List Value → Cont
at_first b n p args = record { base = b; accepted = n; program = p.name; args = args; vars = []; next = 1; tries = 0 }

abbrev begun_at : Id → ℕ → ProgramDef → List Value → Position → List Value → Cont
begun_at b n p args at vs = record { base = b; accepted = n; program = p.name; args = args; vars = vs; next = at.part; tries = at.tries }

abbrev no_bindings : List Binding
no_bindings = []

drop_none : (n : ℕ) → drop n no_bindings ≡ no_bindings
drop_none zero = refl
drop_none (suc n) = refl

no_values : (p : ProgramDef) → values_kept p no_bindings ≡ []
no_values p = ap (map (λ (x : Binding). x.value)) (drop_none (length p.params))

begins : (b : Id) (n : ℕ) (p : ProgramDef) (args : List Value) (cs : List Cont) (way : Option Position) →
    with_last (move_to (at_first b n p args) [] way) cs ≡ begun_cont b n p args [] way cs
begins b n p args cs None = refl
begins b n p args cs (Some at) = ap (λ (vs : List Value). cs ++ begun_at b n p args at vs ∷ []) (sym (no_values p))

pub first_goes : (b : Id) (n : ℕ) (catalogue : List ProgramDef) (name : List ℕ) (args : List Value) (p : ProgramDef) (cs : List Cont) →
    program_named catalogue name ≡ Some p →
    with_last (move_on catalogue (at_first b n p args) [] false) cs ≡ first_by b n args (program_named catalogue name) cs
first_goes b n catalogue name args p cs defined =
    let own : program_named catalogue p.name ≡ Some p = subst (λ (m : List ℕ). program_named catalogue m ≡ Some p) (named-own catalogue name p defined) defined in
    ap (λ (ps : List PartDef). with_last (move_to (at_first b n p args) [] (next_on_commit ps 1)) cs) (ap parts_if_defined own ∙ parts_same p)
    ∙ begins b n p args cs (next_on_commit (parts_of p) 1)
    ∙ sym (ap (λ (o : Option ProgramDef). first_by b n args o cs) defined)

-- AN END OF NO UNIT

pub ends_none : (catalogue : List ProgramDef) (e : End) (cs : List Cont) → cs ≡ conts_ended catalogue e None cs
ends_none catalogue (end.Committed n) cs = refl
ends_none catalogue (end.Failed c) cs = refl
ends_none catalogue (end.Branched n c) cs = refl
ends_none catalogue end.RolledBack cs = refl
ends_none catalogue end.Victim cs = refl
ends_none catalogue end.Cut cs = refl
