-- A move made among continuations that rise is what the definitions say of its unit.
use Rattle.salt_ast.specs.Paths.{Position, next_on_commit, next_on_failure}
use Rattle.salt_ast.specs.declared.programs.Body.TheVariants.{Acid, Base}
use Rattle.salt_ast.specs.declared.programs.Body.{Body}
use Rattle.salt_ast.specs.declared.programs.PartDef.{PartDef}
use Rattle.salt_ast.specs.declared.programs.ProgramDef.{ProgramDef}
use Rattle.salt_cont.proofs.Joined.{branches, commits}
use Rattle.salt_cont.specs.Continued.{StandsAt, after_move}
use Rattle.salt_cont.specs.Moves.{move_on, move_to, next_from, parts_if_defined, parts_named, vars_behind, with_place}
use Rattle.salt_books.specs.Moves.{begun, conts_ended}
use Rattle.law_story.proofs.Defined.{named-own}
use Rattle.law_story.proofs.Ids.{is_same_id-true}
use Rattle.salt_model.specs.Kept as kept
use Rattle.salt_model.specs.Kept.{Kept, begun_cont, change_cont, cont_in, cont_of, kept_program, parts_of, programs_of, values_kept}
use Rattle.salt_model.specs.Words.{Every}
use Rattle.salt_model.specs.declared.events.UnitKind.TheVariants.{Later}
use Rattle.salt_model.specs.declared.vars.Binding.{Binding}
use Rattle.salt_stands.proofs.Booleans.{all_weaker, join, left, right}
use Rattle.salt_stands.specs.OpenConts.{do_rise, go_to, is_accepted_before, is_later_than, is_not_of, make_move, replace_cont}
use Rattle.salt_values.specs.Id.{is_same_id}
use Rattle.salt_values.specs.declared.cont.Cont.{Cont}
use Rattle.salt_values.specs.declared.id.Id.{Id}
use Rattle.salt_values.specs.declared.value.Value.{Value}
use Rattle.std.proofs.Common.{ap, arith, subst, sym, ◌∙◌}
use Rattle.std.proofs.lemmas.Bool.Decides.{Decides-eqb, nat_tests}
use Rattle.std.specs.List.{filter, list_all}
use Rattle.std.specs.Prelude.{Bool, List, None, Option, Some, [], cond, false, if◌then◌else◌, nat_lt, not, option_and_then, option_map, refl, true, ℕ, ◌++◌, ◌+◌, ◌∷◌, ◌≡◌, ◌≤◌}
use Rattle.std.specs.Bool.{then_some}

-- WHERE NONE, OR ONE, IS OF THE PROGRAM

from_not : (b : Bool) → not b ≡ true → b ≡ false
from_not true e = cc
from_not false e = refl

apart_replaced : (c : Cont) (ds : List Cont) → list_all (is_not_of c.base) ds ≡ true → replace_cont c ds ≡ ds
apart_replaced c [] e = refl
apart_replaced c (d ∷ ds) e =
    ap (λ b. (if b then c else d) ∷ replace_cont c ds) (from_not (is_same_id c.base d.base) (left (is_not_of c.base d) (list_all (is_not_of c.base) ds) e))
    ∙ ap (λ l. d ∷ l) (apart_replaced c ds (right (is_not_of c.base d) (list_all (is_not_of c.base) ds) e))

apart_left : (b : Id) (ds : List Cont) → list_all (is_not_of b) ds ≡ true → filter (is_not_of b) ds ≡ ds
apart_left b [] e = refl
apart_left b (d ∷ ds) e =
    ap (λ t. cond t (d ∷ filter (is_not_of b) ds) (filter (is_not_of b) ds)) (left (is_not_of b d) (list_all (is_not_of b) ds) e)
    ∙ ap (λ l. d ∷ l) (apart_left b ds (right (is_not_of b d) (list_all (is_not_of b) ds) e))

-- behind the one of a program there is no other
apart_behind : (b : Id) (d : Cont) (ds : List Cont) → is_same_id b d.base ≡ true → list_all (is_later_than d) ds ≡ true → list_all (is_not_of b) ds ≡ true
apart_behind b d ds same e =
    subst (λ u. list_all (is_not_of u) ds ≡ true) (sym (is_same_id-true b d.base same))
    (all_weaker (is_later_than d) (is_not_of d.base) (λ x f. right (nat_lt d.accepted x.accepted) (is_not_of d.base x) f) ds e)

changed_one : (c : Cont) (cs : List Cont) → do_rise cs ≡ true → replace_cont c cs ≡ change_cont c.base (λ d. c) cs
changed_one c [] rise = refl
changed_one c (d ∷ ds) rise = by (is_same_id c.base d.base) refl (changed_one c ds (right (list_all (is_later_than d) ds) (do_rise ds) rise))
  where
    by : (t : Bool) → is_same_id c.base d.base ≡ t → replace_cont c ds ≡ change_cont c.base (λ d. c) ds →
        (if t then c else d) ∷ replace_cont c ds ≡ cond t (c ∷ ds) (d ∷ change_cont c.base (λ d. c) ds)
    by true same more = ap (λ l. c ∷ l) (apart_replaced c ds (apart_behind c.base d ds same (left (list_all (is_later_than d) ds) (do_rise ds) rise)))
    by false other more = ap (λ l. d ∷ l) more

left_one : (b : Id) (cs : List Cont) → do_rise cs ≡ true → filter (is_not_of b) cs ≡ kept.without_cont b cs
left_one b [] rise = refl
left_one b (d ∷ ds) rise = by (is_same_id b d.base) refl (left_one b ds (right (list_all (is_later_than d) ds) (do_rise ds) rise))
  where
    by : (t : Bool) → is_same_id b d.base ≡ t → filter (is_not_of b) ds ≡ kept.without_cont b ds →
        cond (not t) (d ∷ filter (is_not_of b) ds) (filter (is_not_of b) ds) ≡ cond t ds (d ∷ kept.without_cont b ds)
    by true same more = apart_left b ds (apart_behind b d ds same (left (list_all (is_later_than d) ds) (do_rise ds) rise))
    by false other more = ap (λ l. d ∷ l) more

base_of : (b : Id) (cs : List Cont) (c : Cont) → cont_in b cs ≡ Some c → b ≡ c.base
base_of b [] c h = cc
base_of b (d ∷ ds) c h = by (is_same_id b d.base) refl h (base_of b ds c)
  where
    by : (t : Bool) → is_same_id b d.base ≡ t → cond t (Some d) (cont_in b ds) ≡ Some c → (cont_in b ds ≡ Some c → b ≡ c.base) → b ≡ c.base
    by true e h more = let is : d ≡ c = cc in is_same_id-true b d.base e ∙ ap (λ (z : Cont). z.base) is
    by false e h more = more h

-- A LATER PART

-- the move of a continuation that is there
made_own : (cs : List Cont) (c : Cont) (vars : List Value) (at : Option Position) → cont_in c.base cs ≡ Some c → do_rise cs ≡ true →
    make_move cs (move_to c vars at) ≡ Some (after_move c.base (move_to c vars at) cs)
made_own cs c vars None here rise = ap (λ o. option_map (λ d. filter (is_not_of c.base) cs) o) here ∙ ap (λ l. Some l) (left_one c.base cs rise)
made_own cs c vars (Some p) here rise =
    let moved : Cont = with_place c vars p in
    ap (λ o. go_to moved o cs) here
    ∙ ap (λ t. then_some t (replace_cont moved cs)) ((Decides-eqb c.accepted c.accepted).1 refl)
    ∙ ap (λ l. Some l) (changed_one moved cs rise)

made_to : (b : Id) (cs : List Cont) (c : Cont) (vars : List Value) (at : Option Position) → cont_in b cs ≡ Some c → do_rise cs ≡ true →
    make_move cs (move_to c vars at) ≡ Some (after_move b (move_to c vars at) cs)
made_to b cs c vars at here rise =
    let same = base_of b cs c here in
    subst (λ u. make_move cs (move_to c vars at) ≡ Some (after_move u (move_to c vars at) cs)) (sym same)
    (made_own cs c vars at (subst (λ u. cont_in u cs ≡ Some c) same here) rise)

ended : (failed : Bool) (k : Kept) (n : ℕ) (b : Id) (c : Cont) (p : ProgramDef) (vars : List Binding) → StandsAt k b c p →
    conts_ended failed k n (Later b c.next) vars ≡ after_move b (move_on (programs_of k) c (values_kept p vars) failed) k.conts
ended false k n b c p vars stands = commits k n b c p vars stands
ended true k n b c p vars stands = branches k b c p (values_kept p vars) stands

pub goes_on : (failed : Bool) (k : Kept) (n : ℕ) (b : Id) (part : ℕ) (vars : List Binding) (c : Cont) (p : ProgramDef) → StandsAt k b c p → c.next ≡ part →
    do_rise k.conts ≡ true →
    make_move k.conts (move_on (programs_of k) c (values_kept p vars) failed) ≡ Some (conts_ended failed k n (Later b part) vars)
goes_on failed k n b part vars c p stands next rise =
    made_to b k.conts c (vars_behind c (values_kept p vars) failed) (next_from (parts_named (programs_of k) c.program) c failed) stands.kept rise
    ∙ ap (λ l. Some l) (sym (ended failed k n b c p vars stands) ∙ ap (λ m. conts_ended failed k n (Later b m) vars) next)

-- a program that is not there stays
pub stays : (failed : Bool) (k : Kept) (n : ℕ) (b : Id) (part : ℕ) (vars : List Binding) →
    option_and_then (λ (c : Cont). kept_program c.program k) (cont_of b k) ≡ None → k.conts ≡ conts_ended failed k n (Later b part) vars
stays false k n b part vars h =
    sym (ap (λ (o : Option ProgramDef). elim o as (λ _. List Cont) [ None ↦ k.conts | Some p ↦ kept.moved b (next_on_commit (parts_of p) part) (λ c. record c { vars = values_kept p vars }) k.conts ]) h)
stays true k n b part vars h =
    sym (ap (λ (o : Option ProgramDef). elim o as (λ _. List Cont) [ None ↦ k.conts | Some p ↦ kept.moved b (next_on_failure (parts_of p) part (kept.tries_left b k)) (λ c. c) k.conts ]) h)

-- A FIRST PART

abbrev pub at_first : Id → ℕ → ProgramDef → List Value → List Binding → Cont
at_first b n p args vars = record { base = b; accepted = n; program = p.name; args = args; vars = values_kept p vars; next = 1; tries = 0 }

all_before : (n : ℕ) (c : Cont) (cs : List Cont) → c.accepted ≡ n + 1 → Every (λ (d : Cont). d.accepted ≤ n) cs → list_all (is_accepted_before c) cs ≡ true
all_before n c [] e h = refl
all_before n c (d ∷ ds) e h =
    join (is_accepted_before c d) (list_all (is_accepted_before c) ds) (below d.accepted c.accepted h.0 e) (all_before n c ds e h.1)
  where
    below : (x y : ℕ) → x ≤ n → y ≡ n + 1 → nat_lt x y ≡ true
    below x y l e = grind (arith, nat_tests)

begun_at : (k : Kept) (b : Id) (n : ℕ) (p : ProgramDef) (args : List Value) (vars : List Binding) (at : Option Position) → n ≡ k.decisions + 1 →
    cont_of b k ≡ None → Every (λ (c : Cont). c.accepted ≤ k.decisions) k.conts →
    make_move k.conts (begun (move_to (at_first b n p args vars) (values_kept p vars) at)) ≡ Some (begun_cont b n p args vars at k.conts)
begun_at k b n p args vars None number new before = refl
begun_at k b n p args vars (Some at) number new before =
    let c : Cont = with_place (at_first b n p args vars) (values_kept p vars) at in
    ap (λ o. go_to c o k.conts) new
    ∙ ap (λ t. then_some t (k.conts ++ c ∷ [])) (all_before k.decisions c k.conts number before)

parts-of : (p : ProgramDef) → parts_if_defined (Some p) ≡ parts_of p
parts-of p = by p.body
  where
    by : (b : Body) → parts_if_defined (Some (record p { body = b })) ≡ parts_of (record p { body = b })
    by (Acid block) = refl
    by (Base parts) = refl

pub begins : (k : Kept) (b : Id) (n : ℕ) (p : ProgramDef) (args : List Value) (vars : List Binding) → kept_program p.name k ≡ Some p → n ≡ k.decisions + 1 →
    cont_of b k ≡ None → Every (λ (c : Cont). c.accepted ≤ k.decisions) k.conts →
    make_move k.conts (begun (move_on (programs_of k) (at_first b n p args vars) (values_kept p vars) false)) ≡ Some (begun_cont b n p args vars (next_on_commit (parts_of p) 1) k.conts)
begins k b n p args vars defined number new before =
    subst (λ at. make_move k.conts (begun (move_to (at_first b n p args vars) (values_kept p vars) at)) ≡ Some (begun_cont b n p args vars (next_on_commit (parts_of p) 1) k.conts))
    (sym (ap (λ (ps : List PartDef). next_on_commit ps 1) (ap parts_if_defined defined ∙ parts-of p)))
    (begun_at k b n p args vars (next_on_commit (parts_of p) 1) number new before)

-- found by a name, a program is found by its own
pub found-own : (k : Kept) (n : List ℕ) (p : ProgramDef) → kept_program n k ≡ Some p → kept_program p.name k ≡ Some p
found-own k n p h = subst (λ m. kept_program m k ≡ Some p) (named-own (programs_of k) n p h) h
