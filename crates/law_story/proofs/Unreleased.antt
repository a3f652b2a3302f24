-- What an ACID unit touches of open and committed parts is of released programs: else an alkaline or a saline lock would clash.
use Rattle.law_story.proofs.BaseTables.{Based}
use Rattle.law_story.proofs.Hiding.{Hides, found_early}
use Rattle.law_story.proofs.Ids.{and_left, and_right, is_same_id-true}
use Rattle.law_story.proofs.Lists.{In, any-false, either, has-in, in-has, in-left, in-right, into-filter, into-filter_map, into-map, order-none}
use Rattle.law_story.proofs.WholeLaw.{acid-family, no-program}
use Rattle.salt_ast.specs.declared.programs.Body.TheVariants.{Base}
use Rattle.salt_ast.specs.declared.trees.Statement.{Statement}
use Rattle.salt_model.specs.After.{kept, reach_now}
use Rattle.salt_model.specs.Isolation.{is_open_or_committed, is_program_released, is_unreleased_part, touches_unreleased}
use Rattle.salt_model.specs.Locks.{Taken, as_held, base_owner, base_tables, clash_locks, clashes, clashing, cover, cover_lock, cover_of, family_of, held, lock_by, lock_of, owners_of, saline_lock, taken_in, taken_since, touches, unit_owner}
use Rattle.salt_model.specs.Programs.{named_early, released_in}
use Rattle.salt_model.specs.Trace.{Trace}
use Rattle.salt_model.specs.Units.{Never, Over, Running, Standing, Waiting, kind_of, program_of, program_of_kind, standing}
use Rattle.salt_model.specs.Waiting.{is_acid}
use Rattle.salt_model.specs.Words.{first_of_list}
use Rattle.salt_model.specs.declared.events.End.TheVariants.{Committed}
use Rattle.salt_model.specs.declared.events.Owner.{Owner}
use Rattle.salt_model.specs.declared.events.Owner.TheVariants.{Base, Unit}
use Rattle.salt_model.specs.declared.events.UnitKind.{UnitKind}
use Rattle.salt_model.specs.declared.events.UnitKind.TheVariants.{Acid, Call, First, Later}
use Rattle.salt_model.specs.declared.locks.Family.{Family}
use Rattle.salt_model.specs.declared.locks.Family.TheVariants.{Alkaline, Saline}
use Rattle.salt_model.specs.declared.locks.Lock.{Lock}
use Rattle.salt_model.specs.declared.locks.Reach.{Reach}
use Rattle.salt_model.specs.declared.shown.Item.TheVariants.{Base}
use Rattle.salt_ranges.specs.Ranges.{all_keys, ends_meet, meets}
use Rattle.salt_ranges.specs.declared.range.KeyRange.{KeyRange}
use Rattle.salt_values.specs.Id.{has_id, in_order, is_same_id}
use Rattle.salt_values.specs.declared.id.Id.{Id}
use Rattle.salt_values.specs.declared.value.Value.{Value}
use Rattle.std.proofs.Common.{subst, sym}
use Rattle.std.specs.List.{cons_option, filter, filter_map}
use Rattle.std.specs.Prelude.{Bool, List, None, Option, Some, [], cond, false, map, not, option_and_then, refl, true, ℕ, ◌&&◌, ◌++◌, ◌==◌, ◌∷◌, ◌≡◌}

append-none : {A : Type 0} (xs ys : List A) → xs ++ ys ≡ [] → (xs ≡ []) × (ys ≡ [])
append-none [] ys h = (refl, h)
append-none (x ∷ xs) ys h = cc

map-none : {A B : Type 0} (f : A → B) (xs : List A) → map f xs ≡ [] → xs ≡ []
map-none f [] h = refl
map-none f (x ∷ xs) h = cc

owner-shown : (o : Owner) (us bs : List Id) → map Owner.Unit (in_order (cons_option (elim o [ Unit u ↦ Some u | Base b ↦ None ]) us)) ++ map Owner.Base (in_order (cons_option (elim o [ Unit u ↦ None | Base b ↦ Some b ]) bs)) ≡ [] → ⊥
owner-shown (Unit u) us bs h = let e : u ∷ us ≡ [] = order-none _ (map-none _ _ (append-none _ _ h).0) in cc
owner-shown (Base b) us bs h = let e : b ∷ bs ≡ [] = order-none _ (map-none _ _ (append-none (map Owner.Unit (in_order us)) _ h).1) in cc

owners-none : (ls : List Lock) → owners_of ls ≡ [] → ls ≡ []
owners-none [] h = refl
owners-none (l ∷ ls) h = absurd (owner-shown l.owner (filter_map unit_owner ls) (filter_map base_owner ls) h)

-- a lock that an ACID unit's reach would clash with
abbrev Clashing : Id → Reach → Option Lock → Type 0
Clashing a r o = (l : Lock) × (o ≡ Some l) × (clashes (Unit a) Family.Acid r l ≡ true)

-- an unreleased program's open or committed part holds its reach
holds-part : (trace : Trace) (a : Id) (r : Reach) (t : Taken) (s : Standing) (o : Option UnitKind) → touches t.reach r ≡ true → (is_same_id a t.unit ≡ true → option_and_then program_of_kind o ≡ None) →
    is_open_or_committed s ≡ true → not (is_program_released trace (option_and_then program_of_kind o)) ≡ true → Clashing a r (lock_by trace t s o)
holds-part trace a r t s o touch own = by s
  where
    open-one : (o : Option UnitKind) → (is_same_id a t.unit ≡ true → option_and_then program_of_kind o ≡ None) → not (is_program_released trace (option_and_then program_of_kind o)) ≡ true → Clashing a r (Some (lock_of (Unit t.unit) (family_of o) t.reach))
    open-one None own h = cc
    open-one (Some (Acid n)) own h = cc
    open-one (Some (Call n p args)) own h = cc
    open-one (Some (First n b p args)) own h = alkaline b own (is_same_id a t.unit) refl
      where
        alkaline : (b : Id) → (is_same_id a t.unit ≡ true → Some b ≡ None) → (x : Bool) → is_same_id a t.unit ≡ x → Clashing a r (Some (lock_of (Unit t.unit) Alkaline t.reach))
        alkaline b own true e = let z = own e in cc
        alkaline b own false e = (lock_of (Unit t.unit) Alkaline t.reach, refl, rw e touch)
    open-one (Some (Later b part)) own h = alkaline b own (is_same_id a t.unit) refl
      where
        alkaline : (b : Id) → (is_same_id a t.unit ≡ true → Some b ≡ None) → (x : Bool) → is_same_id a t.unit ≡ x → Clashing a r (Some (lock_of (Unit t.unit) Alkaline t.reach))
        alkaline b own true e = let z = own e in cc
        alkaline b own false e = (lock_of (Unit t.unit) Alkaline t.reach, refl, rw e touch)

    saline : (p : Option Id) → not (is_program_released trace p) ≡ true → Clashing a r (saline_lock trace p t.reach)
    saline None g = cc
    saline (Some b) g = (lock_of (Base b) Saline t.reach, rw g refl, touch)

    by : (s : Standing) → is_open_or_committed s ≡ true → not (is_program_released trace (option_and_then program_of_kind o)) ≡ true → Clashing a r (lock_by trace t s o)
    by Running c h = open-one o own h
    by Waiting c h = open-one o own h
    by (Over (Committed n)) c h = saline (option_and_then program_of_kind o) h
    by Never c h = cc
    by (Over end) c h = cc

-- a range that meets another meets all keys
ends-all : (o : Option Value) → ends_meet o None ≡ true
ends-all None = refl
ends-all (Some v) = refl

meets-all : (a b : KeyRange) → meets a b ≡ true → meets all_keys b ≡ true
meets-all a b h =
    let x : (ends_meet a.lo a.hi && ends_meet b.lo b.hi && ends_meet a.lo b.hi) ≡ true = and_left (ends_meet a.lo a.hi && ends_meet b.lo b.hi && ends_meet a.lo b.hi) _ h in
    let y : (ends_meet a.lo a.hi && ends_meet b.lo b.hi) ≡ true = and_left (ends_meet a.lo a.hi && ends_meet b.lo b.hi) _ x in
    rw (and_right (ends_meet a.lo a.hi) _ y, ends-all b.lo) refl

-- what a lock of the cover stands in the way of
covered-clash : (a c : Id) (r : Reach) (t : Reach) → touches t r ≡ true → clashes (Unit a) Family.Acid r (cover_lock c t.table) ≡ true
covered-clash a c r t h =
    let both : ((t.table == r.table) && meets t.range r.range) ≡ true = and_left ((t.table == r.table) && meets t.range r.range) _ h in
    let table : (t.table == r.table) ≡ true = and_left (t.table == r.table) _ both in
    let ranges : meets t.range r.range ≡ true = and_right (t.table == r.table) _ both in
    rw (table, meets-all t.range r.range ranges) refl

in-cover : (trace : Trace) (c : Id) (n : ℕ) → first_of_list (named_early trace) ≡ Some c → has_id c (released_in trace) ≡ false → In n (base_tables (kept trace)) → In (cover_lock c n) (cover trace)
in-cover trace c n q r i =
    subst (λ o. In (cover_lock c n) (cover_of (released_in trace) (base_tables (kept trace)) o)) (sym q)
    (subst (λ b. In (cover_lock c n) (cond b [] (map (cover_lock c) (base_tables (kept trace))))) (sym r) (into-map (cover_lock c) n (base_tables (kept trace)) i))

clash-none : (trace : Trace) (a : Id) (r : Reach) → Hides trace → Based trace → program_of a trace ≡ None → filter (clashes (Unit a) Family.Acid r) (held trace) ≡ [] → (t : Taken) → In t (taken_in trace) → (touches t.reach r && is_unreleased_part trace t) ≡ false
clash-none trace a r hides based acid none t h = go (touches t.reach r && is_unreleased_part trace t) refl
  where
    go : (b : Bool) → (touches t.reach r && is_unreleased_part trace t) ≡ b → b ≡ false
    go false e = refl
    go true e =
        let touch : touches t.reach r ≡ true = and_left (touches t.reach r) _ e in
        let part : is_unreleased_part trace t ≡ true = and_right (touches t.reach r) _ e in
        let lock = holds-part trace a r t (standing t.unit trace) (kind_of t.unit trace) touch (λ s. subst (λ v. program_of v trace ≡ None) (is_same_id-true a t.unit s) acid)
        (and_left (is_open_or_committed (standing t.unit trace)) _ part) (and_right (is_open_or_committed (standing t.unit trace)) _ part) in
        either
        (λ since. absurd (subst (In lock.0) none (into-filter (clashes (Unit a) Family.Acid r) lock.0 (held trace) (in-right lock.0 (cover trace) _ (into-filter_map (as_held trace) t lock.0 (taken_since trace) since lock.1)) lock.2)))
        (λ before. covered touch (program_of t.unit trace) refl (and_right (is_open_or_committed (standing t.unit trace)) _ part) before)
        (hides.taken t h)
      where
        covered : touches t.reach r ≡ true → (o : Option Id) → program_of t.unit trace ≡ o → not (is_program_released trace o) ≡ true → ((b : Id) → o ≡ Some b → In b (found_early trace)) → true ≡ false
        covered touch None e n before = cc
        covered touch (Some b) e n before =
            let c = hides.some b (before b refl) in
            by c.0 c.1 (has_id c.0 (released_in trace)) refl
          where
            by : (c : Id) → first_of_list (named_early trace) ≡ Some c → (x : Bool) → has_id c (released_in trace) ≡ x → true ≡ false
            by c q true r = let g : has_id b (released_in trace) ≡ true = in-has b (released_in trace) (hides.together c b q (has-in c (released_in trace) r) (before b refl)) in let z : not true ≡ true = subst (λ x. not x ≡ true) g n in cc
            by c q false f =
                let l = cover_lock c t.reach.table in
                let there = in-left l (cover trace) (filter_map (as_held trace) (taken_since trace)) (in-cover trace c t.reach.table q f (based t h b e)) in
                absurd (subst (In l) none (into-filter (clashes (Unit a) Family.Acid r) l (held trace) there (covered-clash a c r t.reach touch)))

pub whole-did : (trace : Trace) (a : Id) (st : Statement) → Hides trace → Based trace → is_acid trace a ≡ true → clashing trace a st ≡ [] → touches_unreleased trace (reach_now a trace st) ≡ false
whole-did trace a st hides based acid none = go (reach_now a trace st) none
  where
    go : (r : Option Reach) → owners_of (clash_locks trace a (kind_of a trace) r) ≡ [] → touches_unreleased trace r ≡ false
    go None n = refl
    go (Some r) n = any-false _ (taken_in trace) (clash-none trace a r hides based (no-program (program_of a trace) acid) (subst (λ f. filter (clashes (Unit a) f r) (held trace) ≡ []) (acid-family (kind_of a trace) acid) (owners-none _ n)))
