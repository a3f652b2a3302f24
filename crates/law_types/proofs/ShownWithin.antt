-- The locks that the story of a played trace shows are of tables of its schema.
use Rattle.law_types.proofs.Showing.{IsShownBy, shown-next}
use Rattle.law_types.proofs.WithinSchema.{held-within, longer, schema-grows}
use Rattle.law_types.specs.Naming.{IsEventOf, IsItemOf, IsStoryOf}
use Rattle.law_states.specs.Members.{In}
use Rattle.law_story.proofs.Every.{every-append, every-map}
use Rattle.law_story.proofs.Fresh.{IfComes}
use Rattle.law_story.proofs.Lists.{in-filter}
use Rattle.salt_model.specs.After.{kept}
use Rattle.salt_model.specs.Kept.{WellKept, schema_of}
use Rattle.salt_model.specs.Locks.{held, is_same_owner}
use Rattle.salt_model.specs.Played.{IsPlayed}
use Rattle.salt_model.specs.Programs.{under_way, unreleased}
use Rattle.salt_model.specs.Shown.{base_item, base_items, lock_items, locks_of}
use Rattle.salt_model.specs.Trace.{Trace, from, start_of, story_of, ◌asks◌, ◌says◌, ◌turns◌}
use Rattle.salt_model.specs.Units.{open_units}
use Rattle.salt_model.specs.Words.{Every}
use Rattle.salt_values.specs.Id.{in_order}
use Rattle.salt_model.specs.declared.events.Event.TheVariants.{Shown}
use Rattle.salt_model.specs.declared.events.Event.{Event}
use Rattle.salt_model.specs.declared.events.Owner.TheVariants.{Base, Unit}
use Rattle.salt_model.specs.declared.locks.Lock.{Lock}
use Rattle.salt_model.specs.declared.shown.Item.TheVariants as item
use Rattle.salt_model.specs.declared.shown.Item.{Item}
use Rattle.salt_values.specs.declared.id.Id.{Id}
use Rattle.std.proofs.Common.{inl, inr, subst, sym}
use Rattle.std.specs.List.{filter, flat_map}
use Rattle.std.specs.Prelude.{Bool, List, [], length, map, refl, ℕ, ◌<◌, ◌∷◌, ◌≡◌, ◌⊎◌}

locks-items : (n : ℕ) (ls : List Lock) → Every (λ (l : Lock). l.table < n) ls → Every (IsItemOf n) (map item.Lock ls)
locks-items n [] h = tt
locks-items n (l ∷ ls) h = (h.0, locks-items n ls h.1)

filter-within : (n : ℕ) (p : Lock → Bool) (ls : List Lock) → ((l : Lock) → In l ls → l.table < n) → Every (λ (l : Lock). l.table < n) (filter p ls)
filter-within n p ls h = into-every (filter p ls) (λ l i. h l (in-filter p l ls i).0)
  where
    into-every : (xs : List Lock) → ((l : Lock) → In l xs → l.table < n) → Every (λ (l : Lock). l.table < n) xs
    into-every [] g = tt
    into-every (x ∷ xs) g = (g x (inl refl), into-every xs (λ l i. g l (inr i)))

flat-within : {A : Type 0} (P : Lock → Type 0) (f : A → List Lock) → ((x : A) → Every P (f x)) → (xs : List A) → Every P (flat_map f xs)
flat-within P f h [] = tt
flat-within P f h (x ∷ xs) = every-append P (f x) (flat_map f xs) (h x) (flat-within P f h xs)

bases-within : (n : ℕ) (trace : Trace) (bs : List Id) → Every (IsItemOf n) (map (base_item trace) bs)
bases-within n trace [] = tt
bases-within n trace (b ∷ bs) = (tt, bases-within n trace bs)

locks-within : (n : ℕ) (trace : Trace) → ((l : Lock) → In l (held trace) → l.table < n) → Every (IsItemOf n) (lock_items trace)
locks-within n trace h =
    every-append (IsItemOf n) (map item.Lock (flat_map bases (unreleased trace))) (map item.Lock (flat_map units (in_order (open_units trace))))
    (locks-items n (flat_map bases (unreleased trace))
    (flat-within (λ (l : Lock). l.table < n) bases (λ b. filter-within n (λ l. is_same_owner (Base b) l.owner) (held trace) h) (unreleased trace)))
    (locks-items n (flat_map units (in_order (open_units trace)))
    (flat-within (λ (l : Lock). l.table < n) units (λ u. filter-within n (λ l. is_same_owner (Unit u) l.owner) (held trace) h) (in_order (open_units trace))))
  where
    bases : Id → List Lock
    bases b = locks_of trace (Base b)

    units : Id → List Lock
    units u = locks_of trace (Unit u)

said-within : (trace : Trace) (e : Event) → IsPlayed (trace says e) → WellKept (start_of trace).kept → IsEventOf (length (schema_of (kept trace))) e
said-within trace (Shown items) p w = by (subst (IfComes (IsShownBy trace)) p.1 (shown-next trace))
  where
    by : (items ≡ lock_items trace) ⊎ (items ≡ base_items trace) → Every (IsItemOf (length (schema_of (kept trace)))) items
    by (inl e) = subst (Every (IsItemOf (length (schema_of (kept trace))))) (sym e) (locks-within (length (schema_of (kept trace))) trace (held-within trace p.0 w))
    by (inr e) = subst (Every (IsItemOf (length (schema_of (kept trace))))) (sym e) (bases-within (length (schema_of (kept trace))) trace (under_way trace))
said-within trace e p w = tt

event-longer : (m n : ℕ) → ((k : ℕ) → k < m → k < n) → (e : Event) → IsEventOf m e → IsEventOf n e
event-longer m n h (Shown items) g = every-map (IsItemOf m) (IsItemOf n) by items g
  where
    by : (i : Item) → IsItemOf m i → IsItemOf n i
    by (item.Lock l) j = h l.table j
    by (item.Base b name at) j = tt
event-longer m n h e g = tt

pub shown-within : (trace : Trace) → IsPlayed trace → WellKept (start_of trace).kept → IsStoryOf (length (schema_of (kept trace))) (story_of trace)
shown-within (from k) p w = tt
shown-within (trace asks asked) p w = shown-within trace p.0 w
shown-within (trace turns b) p w = shown-within trace p.0 w
shown-within (trace says e) p w =
    let old = schema_of (kept trace) in
    let new = schema_of (kept (trace says e)) in
    let grown : (k : ℕ) → k < length old → k < length new = λ k. longer old new k (schema-grows trace e) in
    every-append (IsEventOf (length new)) (story_of trace) (e ∷ [])
    (every-map (IsEventOf (length old)) (IsEventOf (length new)) (event-longer (length old) (length new) grown) (story_of trace) (shown-within trace p.0 w))
    (event-longer (length old) (length new) grown e (said-within trace e p w), tt)
