-- A statement that clashes with no held lock touches nothing that another open unit reached.
use Rattle.law_story.proofs.Every.{every-all, every-map}
use Rattle.law_story.proofs.Ids.{same_sym}
use Rattle.law_story.proofs.Opens.{Alone, Open}
use Rattle.law_story.proofs.Places.{both_true}
use Rattle.law_story.proofs.Runs.{NoTouch, Untouched}
use Rattle.salt_ast.specs.declared.programs.Body.TheVariants.{Base}
use Rattle.salt_ast.specs.declared.trees.Statement.{Statement}
use Rattle.salt_model.specs.After.{kept, reach_now}
use Rattle.salt_model.specs.Locks.{Taken, as_held, base_owner, base_tables, clash_locks, clashes, clashing, conflict, cover, cover_lock, cover_of, family_of, is_clash, is_read, is_same_owner, lock_by, lock_of, may_not_stand_together, owners_of, reach_of, saline_lock, taken_since, touches, unit_owner}
use Rattle.salt_model.specs.Programs.{named_early, released_in}
use Rattle.salt_model.specs.Trace.{Trace}
use Rattle.salt_model.specs.Units.{Never, Over, Running, Standing, Waiting, is_open_standing, kind_of, program_of_kind, standing}
use Rattle.salt_model.specs.Words.{Every, first_of_list}
use Rattle.salt_model.specs.declared.events.End.TheVariants.{Committed}
use Rattle.salt_model.specs.declared.events.Owner.{Owner}
use Rattle.salt_model.specs.declared.events.Owner.TheVariants.{Base, Unit}
use Rattle.salt_model.specs.declared.events.UnitKind.{UnitKind}
use Rattle.salt_model.specs.declared.events.UnitKind.TheVariants.{First, Later}
use Rattle.salt_model.specs.declared.locks.Family.{Family}
use Rattle.salt_model.specs.declared.locks.Family.TheVariants.{Alkaline, Saline}
use Rattle.salt_model.specs.declared.locks.Lock.{Lock}
use Rattle.salt_model.specs.declared.locks.Mode.{Mode}
use Rattle.salt_model.specs.declared.locks.Reach.{Reach}
use Rattle.salt_model.specs.declared.shown.BaseAt.TheVariants.{First}
use Rattle.salt_model.specs.declared.shown.Item.TheVariants.{Base}
use Rattle.salt_ranges.specs.Ranges.{ends_meet, meets}
use Rattle.salt_ranges.specs.declared.range.KeyRange.{KeyRange}
use Rattle.salt_values.specs.Id.{has_id, in_order, insert_id, is_older, is_same_id}
use Rattle.salt_values.specs.declared.id.Id.{Id}
use Rattle.std.proofs.Common.{ap, sym, ◌∙◌}
use Rattle.std.specs.Bool.{then_some}
use Rattle.std.specs.List.{cons_option, filter, filter_map, list_all}
use Rattle.std.specs.Prelude.{Bool, List, None, Option, Some, [], cond, false, map, not, option_and_then, option_map, option_to_list, refl, true, ℕ, ◌&&◌, ◌++◌, ◌==◌, ◌∷◌, ◌≡◌}

some-owner : (lock : Lock) (locks : List Lock) → owners_of (lock ∷ locks) ≡ [] → ⊥
some-owner lock locks h = by lock.owner h
  where
    insert-some : (u : Id) (us : List Id) {A : Type 0} (f : Id → A) (more : List A) → map f (insert_id u us) ++ more ≡ [] → ⊥
    insert-some u [] f more h = cc
    insert-some u (v ∷ vs) f more h = step (is_older u v) (is_same_id u v) h
      where
        step : (a b : Bool) → map f (cond a (u ∷ v ∷ vs) (cond b (v ∷ vs) (v ∷ insert_id u vs))) ++ more ≡ [] → ⊥
        step true b h = cc
        step false true h = cc
        step false false h = cc

    last-some : (xs : List Owner) (b : Id) (bs : List Id) → xs ++ map Owner.Base (insert_id b bs) ≡ [] → ⊥
    last-some (x ∷ xs) b bs h = cc
    last-some [] b [] h = cc
    last-some [] b (c ∷ cs) h = step (is_older b c) (is_same_id b c) h
      where
        step : (x y : Bool) → map Owner.Base (cond x (b ∷ c ∷ cs) (cond y (c ∷ cs) (c ∷ insert_id b cs))) ≡ [] → ⊥
        step true y h = cc
        step false true h = cc
        step false false h = cc

    by : (o : Owner) → map Owner.Unit (in_order (cons_option (elim o [ Unit u ↦ Some u | Base b ↦ None ]) (filter_map unit_owner locks))) ++ map Owner.Base (in_order (cons_option (elim o [ Unit u ↦ None | Base b ↦ Some b ]) (filter_map base_owner locks))) ≡ [] → ⊥
    by (Unit u) h = insert-some u (in_order (filter_map unit_owner locks)) Owner.Unit _ h
    by (Base b) h = last-some (map Owner.Unit (in_order (filter_map unit_owner locks))) b (in_order (filter_map base_owner locks)) h

no-owners : (locks : List Lock) → owners_of locks ≡ [] → locks ≡ []
no-owners [] h = refl
no-owners (lock ∷ locks) h = absurd (some-owner lock locks h)

abbrev passes_by : {X Y : Type 0} → (Y → Bool) → (X → Option Y) → X → Bool
passes_by p f x = elim (f x) [ None ↦ true | Some y ↦ not (p y) ]

filter-none : {X Y : Type 0} (p : Y → Bool) (f : X → Option Y) (xs : List X) → filter p (filter_map f xs) ≡ [] → list_all (passes_by p f) xs ≡ true
filter-none p f [] h = refl
filter-none {X} {Y} p f (x ∷ xs) h = by (f x) h (filter-none p f xs)
  where
    in-cond : (b : Bool) (y : Y) → cond b (y ∷ filter p (filter_map f xs)) (filter p (filter_map f xs)) ≡ [] → (filter p (filter_map f xs) ≡ [] → list_all (passes_by p f) xs ≡ true) → (not b && list_all (passes_by p f) xs) ≡ true
    in-cond true y h g = cc
    in-cond false y h g = g h

    by : (o : Option Y) → filter p (cons_option o (filter_map f xs)) ≡ [] → (filter p (filter_map f xs) ≡ [] → list_all (passes_by p f) xs ≡ true) → (elim o [ None ↦ true | Some y ↦ not (p y) ] && list_all (passes_by p f) xs) ≡ true
    by None h g = g h
    by (Some y) h g = in-cond (p y) y h g

-- of two lists one after another, where none passes: none of either does
pub filter-parts : {A : Type 0} (p : A → Bool) (xs ys : List A) → filter p (xs ++ ys) ≡ [] → (filter p xs ≡ []) × (filter p ys ≡ [])
filter-parts p [] ys h = (refl, h)
filter-parts {A} p (x ∷ xs) ys h = go (p x) h (filter-parts p xs ys)
  where
    go : (b : Bool) → cond b (x ∷ filter p (xs ++ ys)) (filter p (xs ++ ys)) ≡ [] → (filter p (xs ++ ys) ≡ [] → (filter p xs ≡ []) × (filter p ys ≡ [])) → (cond b (x ∷ filter p xs) (filter p xs) ≡ []) × (filter p ys ≡ [])
    go true g more = cc
    go false g more = more g

pub none-passes : {A : Type 0} (p : A → Bool) (xs : List A) → filter p xs ≡ [] → Every (λ x. p x ≡ false) xs
none-passes p [] h = tt
none-passes {A} p (x ∷ xs) h = go (p x) refl h (none-passes p xs)
  where
    go : (b : Bool) → p x ≡ b → cond b (x ∷ filter p xs) (filter p xs) ≡ [] → (filter p xs ≡ [] → Every (λ x. p x ≡ false) xs) → (p x ≡ false) × Every (λ x. p x ≡ false) xs
    go true e g more = cc
    go false e g more = (e, more g)

-- a fact of each lock of the cover
pub each-cover : (P : Lock → Type 0) (trace : Trace) → ((b : Id) (n : ℕ) → P (cover_lock b n)) → Every P (cover trace)
each-cover P trace f = by (first_of_list (named_early trace))
  where
    all : (b : Id) (ns : List ℕ) → Every P (map (cover_lock b) ns)
    all b [] = tt
    all b (n ∷ ns) = (f b n, all b ns)

    by : (o : Option Id) → Every P (cover_of (released_in trace) (base_tables (kept trace)) o)
    by None = tt
    by (Some b) = elim (has_id b (released_in trace)) as (λ x. Every P (cond x [] (map (cover_lock b) (base_tables (kept trace))))) [ true ↦ tt | false ↦ all b (base_tables (kept trace)) ]

-- a reach among those taken by a unit
abbrev pub IsTaken : Trace → Id → Reach → Type 0
IsTaken trace u r = (q : Taken → Bool) → list_all q (taken_since trace) ≡ true → q (record { unit = u; reach = r }) ≡ true

never-saline : (k : Option UnitKind) → family_of k ≡ Saline → ⊥
never-saline (Some (First s b n args)) h = cc
never-saline (Some (Later b part)) h = cc
never-saline k h = cc

pub unnot : (b : Bool) → not b ≡ true → b ≡ false
unnot true e = cc
unnot false e = refl

family-clash : (k j : Option UnitKind) (m n : Mode) → is_clash (family_of k) m (family_of j) n ≡ not (is_read m && is_read n)
family-clash k j m n = by (family_of k) (never-saline k)
  where
    by : (f : Family) → (f ≡ Saline → ⊥) → is_clash f m (family_of j) n ≡ not (is_read m && is_read n)
    by Family.Acid h = refl
    by Alkaline h = refl
    by Saline h = absurd (h refl)

unclashing : (u v : Id) (k j : Option UnitKind) (r s : Reach) → is_same_id u v ≡ false → clashes (Unit u) (family_of j) r (lock_of (Unit v) (family_of k) s) ≡ false → touches s r ≡ false
unclashing u v k j r s other h =
    ap (λ x. (s.table == r.table) && meets s.range r.range && x) (sym (family-clash k j s.mode r.mode))
    ∙ ap (λ b. not b && (s.table == r.table) && meets s.range r.range && is_clash (family_of k) s.mode (family_of j) r.mode) (sym other) ∙ h

held-lock : (trace : Trace) (v : Id) (s : Reach) (q : Lock → Bool) → Open trace v → passes_by q (as_held trace) (record { unit = v; reach = s }) ≡ true → q (lock_of (Unit v) (family_of (kind_of v trace)) s) ≡ false
held-lock trace v s q o h = by (standing v trace) o h
  where
    un : (b : Bool) → not b ≡ true → b ≡ false
    un true e = cc
    un false e = refl

    by : (x : Standing) → is_open_standing x ≡ true → elim (lock_by trace (record { unit = v; reach = s }) x (kind_of v trace)) [ None ↦ true | Some y ↦ not (q y) ] ≡ true → q (lock_of (Unit v) (family_of (kind_of v trace)) s) ≡ false
    by Running o h = un _ h
    by Waiting o h = un _ h
    by Never o h = cc
    by (Over e) o h = cc

-- the reach of a statement that comes where nothing clashes does not touch what other open units have taken
pub takes-apart : (trace : Trace) (u v : Id) (st : Statement) (s : Reach) → clashing trace u st ≡ [] → is_same_id u v ≡ false → Open trace v → IsTaken trace v s → Every (λ r. touches s r ≡ false) (option_to_list (reach_now u trace st))
takes-apart trace u v st s none other o taken = by (reach_now u trace st) (no-owners _ none)
  where
    by : (r : Option Reach) → clash_locks trace u (kind_of u trace) r ≡ [] → Every (λ r. touches s r ≡ false) (option_to_list r)
    by None h = tt
    by (Some r) h = (
      unclashing u v (kind_of v trace) (kind_of u trace) r s other
          (held-lock trace v s (clashes (Unit u) (family_of (kind_of u trace)) r) o
          (taken (passes_by (clashes (Unit u) (family_of (kind_of u trace)) r) (as_held trace)) (filter-none (clashes (Unit u) (family_of (kind_of u trace)) r) (as_held trace) (taken_since trace) (filter-parts (clashes (Unit u) (family_of (kind_of u trace)) r) (cover trace) _ h).1))),
      tt,
    )

and-swap : (a b : Bool) → (a && b) ≡ (b && a)
and-swap true true = refl
and-swap true false = refl
and-swap false true = refl
and-swap false false = refl

meets-swap : (a b : KeyRange) → meets a b ≡ meets b a
meets-swap a b = by (ends_meet a.lo a.hi) (ends_meet b.lo b.hi) (ends_meet a.lo b.hi) (ends_meet b.lo a.hi)
  where
    by : (w x y z : Bool) → (w && x && y && z) ≡ (x && w && z && y)
    by true true y z = and-swap y z
    by true false y z = refl
    by false true y z = refl
    by false false y z = refl

pub touches-swap : (r s : Reach) → touches r s ≡ touches s r
touches-swap r s = rw (same_sym r.table s.table, meets-swap r.range s.range, and-swap (is_read r.mode) (is_read s.mode)) refl

abbrev pub beside : Option Lock → Option Lock → Bool
beside None m = true
beside (Some l) None = true
beside (Some l) (Some m) = not (conflict l m)

pub and-false : (a : Bool) → (a && false) ≡ false
and-false true = refl
and-false false = refl

regroup : (a b c d : Bool) → (a && b && c && d) ≡ false → (a && (b && c && d)) ≡ false
regroup true b c d h = h
regroup false b c d h = refl

clear-lock : (u : Id) (k : Option UnitKind) (r : Reach) (m : Lock) → clashes (Unit u) (family_of k) r m ≡ false → not (conflict (lock_of (Unit u) (family_of k) r) m) ≡ true
clear-lock u k r m h = ap not (by (family_of k) m.family (never-saline k) h)
  where
    by : (f g : Family) → (f ≡ Saline → ⊥) → (not (is_same_owner (Unit u) m.owner) && (m.table == r.table) && meets m.range r.range && is_clash g m.mode f r.mode) ≡ false → (not (is_same_owner (Unit u) m.owner) && (may_not_stand_together f g && touches r (reach_of m))) ≡ false
    by Saline g n h = absurd (n refl)
    by Alkaline Saline n h = and-false _
    by Family.Acid Saline n h = rw (touches-swap r (reach_of m)) (regroup (not (is_same_owner (Unit u) m.owner)) _ _ _ h)
    by Family.Acid Alkaline n h = rw (touches-swap r (reach_of m)) (regroup (not (is_same_owner (Unit u) m.owner)) _ _ _ h)
    by Family.Acid Family.Acid n h = rw (touches-swap r (reach_of m)) (regroup (not (is_same_owner (Unit u) m.owner)) _ _ _ h)
    by Alkaline Alkaline n h = rw (touches-swap r (reach_of m)) (regroup (not (is_same_owner (Unit u) m.owner)) _ _ _ h)
    by Alkaline Family.Acid n h = rw (touches-swap r (reach_of m)) (regroup (not (is_same_owner (Unit u) m.owner)) _ _ _ h)

every-all-true : {A : Type 0} (p : A → Bool) (xs : List A) → list_all p xs ≡ true → Every (λ x. p x ≡ true) xs
every-all-true p [] h = tt
every-all-true p (x ∷ xs) h = let b = both_true (p x) _ h in (b.0, every-all-true p xs b.1)

pub takes-clear : (trace : Trace) (u : Id) (st : Statement) → clashing trace u st ≡ [] → Every (λ s. beside (option_map (lock_of (Unit u) (family_of (kind_of u trace))) (reach_now u trace st)) (as_held trace s) ≡ true) (taken_since trace)
takes-clear trace u st none = by (reach_now u trace st) (no-owners _ none)
  where
    one : (r : Reach) (o : Option Lock) → elim o [ None ↦ true | Some y ↦ not (clashes (Unit u) (family_of (kind_of u trace)) r y) ] ≡ true → beside (Some (lock_of (Unit u) (family_of (kind_of u trace)) r)) o ≡ true
    one r None h = refl
    one r (Some m) h = clear-lock u (kind_of u trace) r m (unnot _ h)

    by : (r : Option Reach) → clash_locks trace u (kind_of u trace) r ≡ [] → Every (λ s. beside (option_map (lock_of (Unit u) (family_of (kind_of u trace))) r) (as_held trace s) ≡ true) (taken_since trace)
    by None h = every-all _ (λ s. refl) (taken_since trace)
    by (Some r) h =
        every-map (λ s. passes_by (clashes (Unit u) (family_of (kind_of u trace)) r) (as_held trace) s ≡ true) _ (λ s e. one r (as_held trace s) e) (taken_since trace)
        (every-all-true (passes_by (clashes (Unit u) (family_of (kind_of u trace)) r) (as_held trace)) (taken_since trace) (filter-none (clashes (Unit u) (family_of (kind_of u trace)) r) (as_held trace) (taken_since trace) (filter-parts (clashes (Unit u) (family_of (kind_of u trace)) r) (cover trace) _ h).1))

-- and it stands beside the cover
pub takes-beside : (trace : Trace) (u : Id) (st : Statement) → clashing trace u st ≡ [] → Every (λ l. beside (option_map (lock_of (Unit u) (family_of (kind_of u trace))) (reach_now u trace st)) (Some l) ≡ true) (cover trace)
takes-beside trace u st none = by (reach_now u trace st) (no-owners _ none)
  where
    by : (r : Option Reach) → clash_locks trace u (kind_of u trace) r ≡ [] → Every (λ l. beside (option_map (lock_of (Unit u) (family_of (kind_of u trace))) r) (Some l) ≡ true) (cover trace)
    by None h = every-all _ (λ l. refl) (cover trace)
    by (Some r) h = every-map (λ l. clashes (Unit u) (family_of (kind_of u trace)) r l ≡ false) _ (λ l e. clear-lock u (kind_of u trace) r l e) (cover trace) (none-passes (clashes (Unit u) (family_of (kind_of u trace)) r) (cover trace) (filter-parts (clashes (Unit u) (family_of (kind_of u trace)) r) (cover trace) _ h).0)

-- a subtransaction alone among open units: what else is held is saline
pub alone-beside : (trace : Trace) (u : Id) (st : Statement) → Alone trace u → Every (λ l. beside (option_map (lock_of (Unit u) (family_of (kind_of u trace))) (reach_now u trace st)) (Some l) ≡ true) (cover trace)
alone-beside trace u st alone = rw alone.1 (by (reach_now u trace st))
  where
    by : (o : Option Reach) → Every (λ l. beside (option_map (lock_of (Unit u) Alkaline) o) (Some l) ≡ true) (cover trace)
    by None = every-all _ (λ l. refl) (cover trace)
    by (Some r) = each-cover (λ l. beside (Some (lock_of (Unit u) Alkaline r)) (Some l) ≡ true) trace (λ b n. refl)

pub alone-clear : (trace : Trace) (u : Id) (st : Statement) → Alone trace u → Every (λ s. beside (option_map (lock_of (Unit u) (family_of (kind_of u trace))) (reach_now u trace st)) (as_held trace s) ≡ true) (taken_since trace)
alone-clear trace u st alone = every-all _ (λ s. rw alone.1 (by s (reach_now u trace st) (standing s.unit trace) refl)) (taken_since trace)
  where
    own : (s : Taken) (r : Reach) (f : Family) → is_same_id u s.unit ≡ true → not (conflict (lock_of (Unit u) Alkaline r) (lock_of (Unit s.unit) f s.reach)) ≡ true
    own s r f e = rw e refl

    by : (s : Taken) (o : Option Reach) (x : Standing) → standing s.unit trace ≡ x → beside (option_map (lock_of (Unit u) Alkaline) o) (lock_by trace s x (kind_of s.unit trace)) ≡ true
    by s None x e = refl
    by s (Some r) Running e = own s r (family_of (kind_of s.unit trace)) (alone.0 s.unit (ap is_open_standing e))
    by s (Some r) Waiting e = own s r (family_of (kind_of s.unit trace)) (alone.0 s.unit (ap is_open_standing e))
    by s (Some r) Never e = refl
    by s (Some r) (Over (Committed n)) e = saline (option_and_then program_of_kind (kind_of s.unit trace)) (λ b. not (has_id b (released_in trace)))
      where
        saline : (p : Option Id) (q : Id → Bool) → beside (Some (lock_of (Unit u) Alkaline r)) (saline_lock trace p s.reach) ≡ true
        saline None q = refl
        saline (Some b) q = elim (not (has_id b (released_in trace))) as (λ v. beside (Some (lock_of (Unit u) Alkaline r)) (then_some v (lock_of (Base b) Saline s.reach)) ≡ true) [ true ↦ refl | false ↦ refl ]
    by s (Some r) (Over end) e = refl

none-each : (rs : List Reach) → NoTouch rs []
none-each [] = tt
none-each (r ∷ rs) = (tt, none-each rs)

no-touch-cons : (s : Reach) (rs ss : List Reach) → Every (λ r. Untouched r s) rs → NoTouch rs ss → NoTouch rs (s ∷ ss)
no-touch-cons s [] ss h g = tt
no-touch-cons s (r ∷ rs) ss h g = ((h.0, g.0), no-touch-cons s rs ss h.1 g.1)

pub no-touch-swap : (rs ss : List Reach) → NoTouch rs ss → NoTouch ss rs
no-touch-swap [] ss h = none-each ss
no-touch-swap (r ∷ rs) ss h = no-touch-cons r ss rs (every-map (Untouched r) (λ s. Untouched s r) (λ s e. touches-swap s r ∙ e) ss h.0) (no-touch-swap rs ss h.1)
