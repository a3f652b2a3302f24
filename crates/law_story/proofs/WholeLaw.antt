-- What an ACID unit touches of a program's open and committed parts, it touches when the program is released.
use Rattle.law_story.proofs.Apart.{and-false, beside, touches-swap, unnot}
use Rattle.law_story.proofs.Coming.{Good}
use Rattle.law_story.proofs.Every.{every-map}
use Rattle.law_story.proofs.Ids.{is_same_id-true}
use Rattle.law_story.proofs.Replays.{good-event, replays}
use Rattle.salt_ast.specs.declared.lines.Act.TheVariants.{Call}
use Rattle.salt_ast.specs.declared.programs.Body.TheVariants.{Acid, Base}
use Rattle.salt_ast.specs.declared.trees.Statement.{Statement}
use Rattle.salt_model.specs.After.{reach_now}
use Rattle.salt_model.specs.Isolation.{IsWhole, TouchesWhole, is_open_or_committed, is_program_released, is_unreleased_part, touches_unreleased}
use Rattle.salt_model.specs.Locks.{Taken, as_held, family_of, lock_by, lock_of, saline_lock, taken_by, taken_in, taken_since, touches}
use Rattle.salt_model.specs.Played.{IsPlayed}
use Rattle.salt_model.specs.Programs.{released_in}
use Rattle.salt_model.specs.Trace.{Trace, from, start_of, ◌asks◌, ◌says◌, ◌turns◌}
use Rattle.salt_model.specs.Units.{Over, Running, Standing, Waiting, kind_of, program_of, program_of_kind, standing}
use Rattle.salt_model.specs.Words.{Every}
use Rattle.salt_model.specs.declared.events.Answer.{Answer}
use Rattle.salt_model.specs.declared.events.End.TheVariants.{Committed}
use Rattle.salt_model.specs.declared.events.Event.TheVariants.{Did, Early}
use Rattle.salt_model.specs.declared.events.Owner.TheVariants.{Base, Unit}
use Rattle.salt_model.specs.declared.events.UnitKind.{UnitKind}
use Rattle.salt_model.specs.declared.events.UnitKind.TheVariants.{Acid, Call, First, Later}
use Rattle.salt_model.specs.declared.locks.Family.{Family}
use Rattle.salt_model.specs.declared.locks.Family.TheVariants.{Acid, Saline}
use Rattle.salt_model.specs.declared.locks.Reach.{Reach}
use Rattle.salt_model.specs.declared.shown.BaseAt.TheVariants.{First}
use Rattle.salt_model.specs.declared.shown.Item.TheVariants.{Base}
use Rattle.salt_values.specs.Id.{has_id, is_same_id}
use Rattle.salt_values.specs.declared.id.Id.{Id}
use Rattle.std.proofs.Common.{ap, subst, sym, ◌∙◌}
use Rattle.std.specs.Bool.{then_some}
use Rattle.std.specs.List.{list_any}
use Rattle.std.specs.Prelude.{Bool, IsTrue, List, None, Option, Some, [], false, is_none, not, option_and_then, option_map, refl, true, ◌&&◌, ◌++◌, ◌∷◌, ◌≡◌}

pub acid-family : (k : Option UnitKind) → is_none (option_and_then program_of_kind k) ≡ true → family_of k ≡ Family.Acid
acid-family None h = refl
acid-family (Some (Acid s)) h = refl
acid-family (Some (Call s n args)) h = refl
acid-family (Some (First s b n args)) h = cc
acid-family (Some (Later b part)) h = cc

any-none : {A : Type 0} (p : A → Bool) (xs : List A) → Every (λ x. p x ≡ false) xs → list_any p xs ≡ false
any-none p [] h = refl
any-none p (x ∷ xs) h = rw (h.0, any-none p xs h.1) refl

pub untouched-part : (trace : Trace) (u : Id) (r : Reach) (t : Taken) (x : Standing) (k : Option UnitKind) → (is_same_id u t.unit ≡ true → option_and_then program_of_kind k ≡ None) →
    beside (Some (lock_of (Unit u) Family.Acid r)) (lock_by trace t x k) ≡ true → (touches r t.reach && (is_open_or_committed x && not (is_program_released trace (option_and_then program_of_kind k)))) ≡ false
untouched-part trace u r t x k own h = by x h
  where
    plain : option_and_then program_of_kind k ≡ None → (touches r t.reach && (true && not (is_program_released trace (option_and_then program_of_kind k)))) ≡ false
    plain e = rw e (and-false (touches r t.reach))

    alkaline : (b : Id) → option_and_then program_of_kind k ≡ Some b → (s : Bool) → is_same_id u t.unit ≡ s → not (not s && (true && touches r t.reach)) ≡ true → (touches r t.reach && (true && not (is_program_released trace (option_and_then program_of_kind k)))) ≡ false
    alkaline b e true s g = plain (own s)
    alkaline b e false s g = rw (unnot (touches r t.reach) g) refl

    part : beside (Some (lock_of (Unit u) Family.Acid r)) (Some (lock_of (Unit t.unit) (family_of k) t.reach)) ≡ true → (touches r t.reach && (true && not (is_program_released trace (option_and_then program_of_kind k)))) ≡ false
    part g = kinds k refl
      where
        kinds : (j : Option UnitKind) → k ≡ j → (touches r t.reach && (true && not (is_program_released trace (option_and_then program_of_kind k)))) ≡ false
        kinds (Some (First s b n args)) e = alkaline b (ap (option_and_then program_of_kind) e) (is_same_id u t.unit) refl (subst (λ j. beside (Some (lock_of (Unit u) Family.Acid r)) (Some (lock_of (Unit t.unit) (family_of j) t.reach)) ≡ true) e g)
        kinds (Some (Later b n)) e = alkaline b (ap (option_and_then program_of_kind) e) (is_same_id u t.unit) refl (subst (λ j. beside (Some (lock_of (Unit u) Family.Acid r)) (Some (lock_of (Unit t.unit) (family_of j) t.reach)) ≡ true) e g)
        kinds (Some (Acid s)) e = plain (ap (option_and_then program_of_kind) e)
        kinds (Some (Call s n args)) e = plain (ap (option_and_then program_of_kind) e)
        kinds None e = plain (ap (option_and_then program_of_kind) e)

    held-on : (p : Option Id) → beside (Some (lock_of (Unit u) Family.Acid r)) (saline_lock trace p t.reach) ≡ true → (touches r t.reach && (true && not (is_program_released trace p))) ≡ false
    held-on None g = and-false (touches r t.reach)
    held-on (Some b) g = at (has_id b (released_in trace)) g
      where
        at : (v : Bool) → beside (Some (lock_of (Unit u) Family.Acid r)) (then_some (not v) (lock_of (Base b) Saline t.reach)) ≡ true → (touches r t.reach && (true && not v)) ≡ false
        at true h = and-false (touches r t.reach)
        at false h = rw (unnot (touches r t.reach) h) refl

    by : (x : Standing) → beside (Some (lock_of (Unit u) Family.Acid r)) (lock_by trace t x k) ≡ true → (touches r t.reach && (is_open_or_committed x && not (is_program_released trace (option_and_then program_of_kind k)))) ≡ false
    by Running g = part g
    by Waiting g = part g
    by (Over (Committed n)) g = held-on (option_and_then program_of_kind k) g
    by x g = and-false (touches r t.reach)

pub no-program : (p : Option Id) → is_none p ≡ true → p ≡ None
no-program None e = refl
no-program (Some b) e = cc

touches-whole : (trace : Trace) (u : Id) (st : Statement) (a : Answer) → taken_since trace ≡ taken_in trace → Good trace (Did u st a) → TouchesWhole trace (Did u st a)
touches-whole trace u st a same g acid = by (reach_now u trace st) (subst (Every (λ s. beside (option_map (lock_of (Unit u) (family_of (kind_of u trace))) (reach_now u trace st)) (as_held trace s) ≡ true)) same g.4.0)
  where
    own : (t : Taken) → is_same_id u t.unit ≡ true → program_of t.unit trace ≡ None
    own t e = subst (λ v. program_of v trace ≡ None) (is_same_id-true u t.unit e) (no-program (program_of u trace) acid)

    by : (o : Option Reach) → Every (λ s. beside (option_map (lock_of (Unit u) (family_of (kind_of u trace))) o) (as_held trace s) ≡ true) (taken_in trace) → IsTrue (not (touches_unreleased trace o))
    by None c = refl
    by (Some r) c = ap not (any-none (λ t. touches t.reach r && is_unreleased_part trace t) (taken_in trace)
        (every-map (λ s. beside (Some (lock_of (Unit u) (family_of (kind_of u trace)) r)) (as_held trace s) ≡ true) (λ t. (touches t.reach r && is_unreleased_part trace t) ≡ false)
        (λ t h. ap (λ b. b && is_unreleased_part trace t) (touches-swap t.reach r) ∙ untouched-part trace u r t (standing t.unit trace) (kind_of t.unit trace) (own t) (ap (λ f. beside (Some (lock_of (Unit u) f r)) (as_held trace t)) (sym (acid-family (kind_of u trace) acid)) ∙ h)) (taken_in trace) c))

-- where openings are not early all that was taken counts
pub taken-same : (trace : Trace) → IsPlayed trace → (start_of trace).early ≡ false → taken_since trace ≡ taken_in trace
taken-same (from k) p n = refl
taken-same (trace asks line) p n = taken-same trace p.0 n
taken-same (trace turns b) p n = taken-same trace p.0 n
taken-same (trace says Did u st a) p n = ap (λ ts. ts ++ taken_by u (reach_now u trace st)) (taken-same trace p.0 n)
taken-same (trace says Early bs) p n = let g = good-event trace (Early bs) (replays trace p.0) p.1 in let x : true ≡ false = sym g.1 ∙ n in cc
taken-same (trace says e) p n = taken-same trace p.0 n

pub whole-late : (trace : Trace) → IsPlayed trace → (start_of trace).early ≡ false → IsWhole trace
whole-late (from k) p n = tt
whole-late (trace asks line) p n = whole-late trace p.0 n
whole-late (trace turns b) p n = whole-late trace p.0 n
whole-late (trace says Did u st a) p n = (whole-late trace p.0 n, touches-whole trace u st a (taken-same trace p.0 n) (good-event trace (Did u st a) (replays trace p.0) p.1))
whole-late (trace says e) p n = (whole-late trace p.0 n, tt)
