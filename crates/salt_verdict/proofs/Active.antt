-- The open units behind an event that is formed.
use Rattle.law_story.proofs.Ids.{is_same_id-refl, is_same_id-sym}
use Rattle.salt_ast.specs.declared.trees.Statement.{Statement}
use Rattle.salt_audit.proofs.Amiss.{both_true, id_is}
use Rattle.salt_audit.specs.Formed.{is_formed_by, may_begin, may_come, may_do}
use Rattle.salt_audit.specs.Retelling.{told}
use Rattle.salt_model.specs.Phases.{has_opened}
use Rattle.salt_model.specs.Trace.{Trace, ◌says◌}
use Rattle.salt_model.specs.Units.{Over, Running, Standing, Waiting, is_open, is_open_standing, kind_of, open_units, standing, units_begun}
use Rattle.salt_model.specs.declared.events.Answer.{Answer}
use Rattle.salt_model.specs.declared.events.End.{End}
use Rattle.salt_model.specs.declared.events.Event.TheVariants as event
use Rattle.salt_model.specs.declared.events.Event.{Event}
use Rattle.salt_model.specs.declared.events.UnitKind.{UnitKind}
use Rattle.salt_values.specs.Id.{has_id, is_same_id}
use Rattle.salt_values.specs.declared.id.Id.{Id}
use Rattle.salt_verdict.proofs.Listed.{begun_listed}
use Rattle.salt_verdict.specs.After.{active_by}
use Rattle.std.proofs.Common.{Bool, List, None, Option, Some, [], ap, cond, false, if◌then◌else◌, is_none, is_some, not, refl, subst, sym, true, ◌&&◌, ◌++◌, ◌∙◌, ◌∷◌, ◌≡◌, ◌||◌}
use Rattle.std.proofs.lemmas.List.Elements.{filter-append, filter_agree}
use Rattle.std.specs.List.{filter}

none_there : (o : Option UnitKind) → is_none o ≡ true → o ≡ None
none_there None e = refl
none_there (Some kind) e = absurd cc

-- where an event is formed, and no first opening, it may come
pub may : (t b : Bool) → (if t then b else false) ≡ true → b ≡ true
may true b f = f
may false b f = absurd cc

-- a unit that may begin has not begun
pub new_unit : (trace : Trace) (v : Id) (kind : UnitKind) → is_formed_by trace (event.Began v kind) ≡ true → kind_of v trace ≡ None
new_unit trace v kind f =
    none_there (kind_of v trace)
    (both_true (is_none (kind_of v trace)) (may_begin trace kind) (may (has_opened trace) (may_come trace (event.Began v kind)) f)).0

-- a unit that does a statement, and one that ends, is open before it
pub does_open : (trace : Trace) (v : Id) (st : Statement) (a : Answer) → is_formed_by trace (event.Did v st a) ≡ true → is_open trace v ≡ true
does_open trace v st a f = (both_true (is_open trace v) (may_do trace v st (kind_of v trace)) (may (has_opened trace) (may_come trace (event.Did v st a)) f)).0

pub ends_open : (trace : Trace) (v : Id) (end : End) → is_formed_by trace (event.Ended v end) ≡ true → is_open trace v ≡ true
ends_open trace v end f = may (has_opened trace) (is_open trace v) f

-- BEGAN

either_false : (a b : Bool) → (a || b) ≡ false → (a ≡ false) × (b ≡ false)
either_false true b e = absurd cc
either_false false b e = (refl, e)

others_stand : (trace : Trace) (u : Id) (us : List Id) → has_id u us ≡ false →
    filter (λ (x : Id). is_open_standing (if is_same_id x u then Running else standing x trace)) us ≡ filter (is_open trace) us
others_stand trace u [] h = refl
others_stand trace u (x ∷ us) h =
    let parts = either_false (is_same_id u x) (has_id u us) h in
    let other : is_same_id x u ≡ false = is_same_id-sym x u ∙ parts.0 in
    let more = others_stand trace u us parts.1 in
    (λ i. cond (is_open_standing (if other i then Running else standing x trace)) (x ∷ more i) (more i))

began : (trace : Trace) (u : Id) (kind : UnitKind) → kind_of u trace ≡ None → open_units (trace says event.Began u kind) ≡ open_units trace ++ u ∷ []
began trace u kind none =
    let p : Id → Bool = λ x. is_open_standing (if is_same_id x u then Running else standing x trace) in
    let fresh : has_id u (units_begun trace) ≡ false = sym (begun_listed trace u) ∙ ap (λ (o : Option UnitKind). is_some o) none in
    filter-append p (units_begun trace) (u ∷ [])
    ∙ (λ i. others_stand trace u (units_begun trace) fresh i
    ++ cond (is_open_standing (if is_same_id-refl u i then Running else standing u trace)) (u ∷ []) [])

-- ENDED

twice : {A : Type 0} (p q : A → Bool) (xs : List A) → filter p (filter q xs) ≡ filter (λ x. q x && p x) xs
twice p q [] = refl
twice {A} p q (x ∷ xs) = by (q x) (twice p q xs)
  where
    by : (b : Bool) → filter p (filter q xs) ≡ filter (λ y. q y && p y) xs →
        filter p (cond b (x ∷ filter q xs) (filter q xs)) ≡ cond (b && p x) (x ∷ filter (λ y. q y && p y) xs) (filter (λ y. q y && p y) xs)
    by true more = ap (λ (l : List A). cond (p x) (x ∷ l) l) more
    by false more = more

ended : (trace : Trace) (u : Id) (end : End) → open_units (trace says event.Ended u end) ≡ active_by (event.Ended u end) (open_units trace)
ended trace u end =
    filter_agree (λ (x : Id). is_open_standing (if is_same_id x u then Over end else standing x trace)) (λ (x : Id). is_open trace x && not (has_id x (u ∷ [])))
    (λ x. by (is_same_id x u) (standing x trace)) (units_begun trace)
    ∙ sym (twice (λ (x : Id). not (has_id x (u ∷ []))) (is_open trace) (units_begun trace))
  where
    and_true : (b : Bool) → b ≡ (b && true)
    and_true true = refl
    and_true false = refl

    and_false : (b : Bool) → false ≡ (b && false)
    and_false true = refl
    and_false false = refl

    by : (t : Bool) (s : Standing) → is_open_standing (if t then Over end else s) ≡ (is_open_standing s && not (t || false))
    by true s = and_false (is_open_standing s)
    by false s = and_true (is_open_standing s)

-- WHAT LEAVES A UNIT OPEN

stays : (trace : Trace) (u : Id) (to : Standing) → is_open_standing to ≡ true → is_open trace u ≡ true →
    filter (λ (x : Id). is_open_standing (if is_same_id x u then to else standing x trace)) (units_begun trace) ≡ open_units trace
stays trace u to still is =
    filter_agree (λ (x : Id). is_open_standing (if is_same_id x u then to else standing x trace)) (is_open trace) (λ x. by x (is_same_id x u) refl) (units_begun trace)
  where
    by : (x : Id) (t : Bool) → is_same_id x u ≡ t → is_open_standing (if t then to else standing x trace) ≡ is_open trace x
    by x true same = still ∙ sym (subst (λ (v : Id). is_open trace v ≡ true) (sym (id_is x u same)) is)
    by x false other = refl

pub open_units_on : (trace : Trace) (e : Event) → is_formed_by trace e ≡ true → open_units (told trace e) ≡ active_by e (open_units trace)
open_units_on trace (event.Began u kind) f = began trace u kind (new_unit trace u kind f)
open_units_on trace (event.Ended u end) f = ended trace u end
open_units_on trace (event.Did u st a) f = stays trace u Running refl (does_open trace u st a f)
open_units_on trace (event.Waits u os) f = stays trace u Waiting refl (may (has_opened trace) (is_open trace u) f)
open_units_on trace (event.Accepted b) f = refl
open_units_on trace (event.Finished b) f = refl
open_units_on trace (event.Released bs) f = refl
open_units_on trace (event.Early bs) f = refl
open_units_on trace (event.Down w) f = refl
open_units_on trace (event.Opened boot n) f = refl
open_units_on trace event.Ready f = refl
open_units_on trace (event.Defined n text) f = refl
open_units_on trace (event.Refused r) f = refl
open_units_on trace (event.Armed pairs) f = refl
open_units_on trace (event.Shown items) f = refl
