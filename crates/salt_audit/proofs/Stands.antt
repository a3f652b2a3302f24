-- Where programs stand, told of the continuations that are kept, whatever their arguments and variables are.
use Rattle.salt_ast.specs.Paths.{Position}
use Rattle.salt_ast.specs.declared.programs.ProgramDef.{ProgramDef}
use Rattle.salt_audit.specs.Knowing.{Stand, stand_of}
use Rattle.salt_audit.specs.Standing.{cont_named}
use Rattle.salt_audit.specs.Telling.{tries_of}
use Rattle.salt_model.specs.Kept.{begun_cont, change_cont, cont_in, moved, values_kept, without_cont}
use Rattle.salt_model.specs.declared.vars.Binding.{Binding}
use Rattle.salt_values.specs.Id.{is_same_id}
use Rattle.salt_values.specs.declared.cont.Cont.{Cont}
use Rattle.salt_values.specs.declared.id.Id.{Id}
use Rattle.salt_values.specs.declared.value.Value.{Value}
use Rattle.std.proofs.Common.{Bool, List, None, Option, Some, [], ap, cond, false, if◌then◌else◌, map, option_and_then, option_map, refl, sym, true, ℕ, ◌++◌, ◌∙◌, ◌∷◌, ◌≡◌}
use Rattle.std.specs.List.{find}

-- LOOKED UP

abbrev pub stand_in : Id → List Stand → Option Stand
stand_in b [] = None
stand_in b (d ∷ ds) = if is_same_id b d.base then Some d else stand_in b ds

pub there : (b : Id) (cs : List Cont) → option_map stand_of (cont_in b cs) ≡ stand_in b (map stand_of cs)
there b [] = refl
there b (c ∷ cs) = by (is_same_id b c.base) (there b cs)
  where
    by : (t : Bool) → option_map stand_of (cont_in b cs) ≡ stand_in b (map stand_of cs) →
        option_map stand_of (if t then Some c else cont_in b cs) ≡ (if t then Some (stand_of c) else stand_in b (map stand_of cs))
    by true more = refl
    by false more = more

pub named : (b : Id) (cs : List Cont) → option_map stand_of (cont_named b cs) ≡ stand_in b (map stand_of cs)
named b [] = refl
named b (c ∷ cs) = by (is_same_id b c.base) (named b cs)
  where
    by : (t : Bool) → option_map stand_of (cont_named b cs) ≡ stand_in b (map stand_of cs) →
        option_map stand_of (cond t (Some c) (find (λ (d : Cont). is_same_id b d.base) cs)) ≡ (if t then Some (stand_of c) else stand_in b (map stand_of cs))
    by true more = refl
    by false more = more

-- the part at which a program stands
next_of : (o : Option Cont) → option_map (λ (c : Cont). c.next) o ≡ option_map (λ (d : Stand). d.next) (option_map stand_of o)
next_of None = refl
next_of (Some c) = refl

pub next_there : (b : Id) (cs : List Cont) → option_map (λ (c : Cont). c.next) (cont_in b cs) ≡ option_map (λ (d : Stand). d.next) (stand_in b (map stand_of cs))
next_there b cs = next_of (cont_in b cs) ∙ ap (option_map (λ (d : Stand). d.next)) (there b cs)

pub next_named : (b : Id) (cs : List Cont) → option_map (λ (c : Cont). c.next) (cont_named b cs) ≡ option_map (λ (d : Stand). d.next) (stand_in b (map stand_of cs))
next_named b cs = next_of (cont_named b cs) ∙ ap (option_map (λ (d : Stand). d.next)) (named b cs)

-- what is told by the program that goes on
by_program : {A : Type 0} (f : List ℕ → Option A) (o : Option Cont) →
    option_and_then (λ (c : Cont). f c.program) o ≡ option_and_then (λ (d : Stand). f d.program) (option_map stand_of o)
by_program f None = refl
by_program f (Some c) = refl

pub same_program : {A : Type 0} (f : List ℕ → Option A) (b : Id) (cs ds : List Cont) → map stand_of cs ≡ map stand_of ds →
    option_and_then (λ (c : Cont). f c.program) (cont_in b cs) ≡ option_and_then (λ (c : Cont). f c.program) (cont_named b ds)
same_program f b cs ds same =
    by_program f (cont_in b cs) ∙ ap (option_and_then (λ (d : Stand). f d.program)) (there b cs ∙ ap (stand_in b) same ∙ sym (named b ds))
    ∙ sym (by_program f (cont_named b ds))

-- how often it may still be tried again
abbrev tries_told : Option Stand → ℕ
tries_told None = 0
tries_told (Some d) = d.tries

tries_there : (o : Option Cont) → (elim o as (λ _. ℕ) [ None ↦ 0 | Some c ↦ c.tries ]) ≡ tries_told (option_map stand_of o)
tries_there None = refl
tries_there (Some c) = refl

tries_named : (o : Option Cont) → tries_of o ≡ tries_told (option_map stand_of o)
tries_named None = refl
tries_named (Some c) = refl

pub same_tries : (b : Id) (cs ds : List Cont) → map stand_of cs ≡ map stand_of ds → (elim (cont_in b cs) as (λ _. ℕ) [ None ↦ 0 | Some c ↦ c.tries ]) ≡ tries_of (cont_named b ds)
same_tries b cs ds same =
    tries_there (cont_in b cs) ∙ ap tries_told (there b cs ∙ ap (stand_in b) same ∙ sym (named b ds)) ∙ sym (tries_named (cont_named b ds))

-- MOVED

abbrev without_stand : Id → List Stand → List Stand
without_stand b [] = []
without_stand b (d ∷ ds) = if is_same_id b d.base then ds else d ∷ without_stand b ds

abbrev at_place : Position → Stand → Stand
at_place at d = record d { next = at.part; tries = at.tries }

abbrev change_stand : Id → Position → List Stand → List Stand
change_stand b at [] = []
change_stand b at (d ∷ ds) = if is_same_id b d.base then at_place at d ∷ ds else d ∷ change_stand b at ds

abbrev moved_stand : Id → Option Position → List Stand → List Stand
moved_stand b None ds = without_stand b ds
moved_stand b (Some at) ds = change_stand b at ds

stands_without : (b : Id) (cs : List Cont) → map stand_of (without_cont b cs) ≡ without_stand b (map stand_of cs)
stands_without b [] = refl
stands_without b (c ∷ cs) = by (is_same_id b c.base) (stands_without b cs)
  where
    by : (t : Bool) → map stand_of (without_cont b cs) ≡ without_stand b (map stand_of cs) →
        map stand_of (if t then cs else c ∷ without_cont b cs) ≡ (if t then map stand_of cs else stand_of c ∷ without_stand b (map stand_of cs))
    by true more = refl
    by false more = ap (λ l. stand_of c ∷ l) more

stands_changed : (b : Id) (at : Position) (f : Cont → Cont) → ((c : Cont) → stand_of (f c) ≡ stand_of c) → (cs : List Cont) →
    map stand_of (change_cont b (λ c. record (f c) { next = at.part; tries = at.tries }) cs) ≡ change_stand b at (map stand_of cs)
stands_changed b at f same [] = refl
stands_changed b at f same (c ∷ cs) = by (is_same_id b c.base) (stands_changed b at f same cs)
  where
    by : (t : Bool) → map stand_of (change_cont b (λ d. record (f d) { next = at.part; tries = at.tries }) cs) ≡ change_stand b at (map stand_of cs) →
        map stand_of (if t then record (f c) { next = at.part; tries = at.tries } ∷ cs else c ∷ change_cont b (λ d. record (f d) { next = at.part; tries = at.tries }) cs)
        ≡ (if t then at_place at (stand_of c) ∷ map stand_of cs else stand_of c ∷ change_stand b at (map stand_of cs))
    by true more = ap (λ d. at_place at d ∷ map stand_of cs) (same c)
    by false more = ap (λ l. stand_of c ∷ l) more

stands_moved : (b : Id) (way : Option Position) (f : Cont → Cont) → ((c : Cont) → stand_of (f c) ≡ stand_of c) → (cs : List Cont) →
    map stand_of (moved b way f cs) ≡ moved_stand b way (map stand_of cs)
stands_moved b None f same cs = stands_without b cs
stands_moved b (Some at) f same cs = stands_changed b at f same cs

-- whatever becomes of the variables
pub same_moved : (b : Id) (way : Option Position) (f g : Cont → Cont) → ((c : Cont) → stand_of (f c) ≡ stand_of c) → ((c : Cont) → stand_of (g c) ≡ stand_of c) →
    (cs ds : List Cont) → map stand_of cs ≡ map stand_of ds → map stand_of (moved b way f cs) ≡ map stand_of (moved b way g ds)
same_moved b way f g of_f of_g cs ds same = stands_moved b way f of_f cs ∙ ap (moved_stand b way) same ∙ sym (stands_moved b way g of_g ds)

stands_more : (cs : List Cont) (c : Cont) → map stand_of (cs ++ c ∷ []) ≡ map stand_of cs ++ stand_of c ∷ []
stands_more [] c = refl
stands_more (d ∷ cs) c = ap (λ l. stand_of d ∷ l) (stands_more cs c)

pub same_begun : (b : Id) (n : ℕ) (p : ProgramDef) (args : List Value) (vars other : List Binding) (way : Option Position) (cs ds : List Cont) → map stand_of cs ≡ map stand_of ds →
    map stand_of (begun_cont b n p args vars way cs) ≡ map stand_of (begun_cont b n p args other way ds)
same_begun b n p args vars other None cs ds same = same
same_begun b n p args vars other (Some at) cs ds same =
    stands_more cs (new vars) ∙ ap (λ l. l ++ stand_of (new vars) ∷ []) same ∙ sym (stands_more ds (new other))
  where
    new : List Binding → Cont
    new with_vars = record { base = b; accepted = n; program = p.name; args = args; vars = values_kept p with_vars; next = at.part; tries = at.tries }
