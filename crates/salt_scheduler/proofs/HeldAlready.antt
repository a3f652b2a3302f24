-- With what is held nothing else that is held clashes.
use Rattle.law_states.specs.KeptLocks.{KeepsLocks, Numbered, clash_in}
use Rattle.law_states.specs.Members.{In}
use Rattle.law_states.specs.Readings.{locks_in}
use Rattle.law_states.specs.States.{State}
use Rattle.law_story.proofs.HeldLocks.{none-conflict}
use Rattle.law_story.proofs.Ids.{is_same_id-sym}
use Rattle.law_story.proofs.Lists.{in-map, into-map}
use Rattle.law_story.proofs.Reached.{every-in}
use Rattle.salt_books.specs.Sound.{IsSoundState}
use Rattle.salt_conflicts.specs.Waiters.{HoldsAlready}
use Rattle.salt_model.specs.Locks.{clashes, conflict, family_of, held, is_clash, is_read, is_same_owner, lock_of, may_not_stand_together, owners_of}
use Rattle.salt_model.specs.Words.{Every}
use Rattle.salt_model.specs.declared.events.Owner.TheVariants.{Base, Unit}
use Rattle.salt_model.specs.declared.events.Owner.{Owner}
use Rattle.salt_model.specs.declared.events.UnitKind.TheVariants.{First, Later}
use Rattle.salt_model.specs.declared.events.UnitKind.{UnitKind}
use Rattle.salt_model.specs.declared.locks.Family.TheVariants.{Acid, Alkaline, Saline}
use Rattle.salt_model.specs.declared.locks.Family.{Family}
use Rattle.salt_model.specs.declared.locks.Lock.{Lock}
use Rattle.salt_model.specs.declared.locks.Mode.{Mode}
use Rattle.salt_model.specs.declared.locks.Reach.{Reach}
use Rattle.salt_ranges.specs.Ranges.{meets}
use Rattle.std.proofs.Common.{ap, inl, inr, refl, subst, sym, ◌∙◌}
use Rattle.std.specs.List.{filter}
use Rattle.std.specs.Prelude.{Bool, List, None, Option, Some, [], cond, false, map, not, true, ◌&&◌, ◌==◌, ◌∷◌, ◌≡◌}

-- what no unit asks is a saline lock

pub never-saline : (kind : Option UnitKind) → family_of kind ≡ Saline → ⊥
never-saline (Some (First t b n args)) h = cc
never-saline (Some (Later b part)) h = cc
never-saline kind h = cc

told : (g f : Family) (p q : Mode) → (f ≡ Saline → ⊥) → is_clash g p f q ≡ (may_not_stand_together g f && not (is_read p && is_read q))
told Acid Saline p q n = absurd (n refl)
told Alkaline Saline p q n = absurd (n refl)
told Saline Saline p q n = absurd (n refl)
told Acid Acid p q n = refl
told Alkaline Acid p q n = refl
told Saline Acid p q n = refl
told Acid Alkaline p q n = refl
told Alkaline Alkaline p q n = refl
told Saline Alkaline p q n = refl

owner-swap : (o p : Owner) → is_same_owner o p ≡ is_same_owner p o
owner-swap (Unit u) (Unit v) = is_same_id-sym u v
owner-swap (Base u) (Base v) = is_same_id-sym u v
owner-swap (Unit u) (Base v) = refl
owner-swap (Base u) (Unit v) = refl

shuffled : (other table keys apart writes : Bool) → (other && (apart && (table && keys && writes))) ≡ false → (other && table && keys && (apart && writes)) ≡ false
shuffled false table keys apart writes h = refl
shuffled true false keys apart writes h = refl
shuffled true true false apart writes h = refl
shuffled true true true apart writes h = h

-- a lock that may stand beside what is asked does not clash with it
clear-of : (owner : Owner) (f : Family) (r : Reach) (m : Lock) → (f ≡ Saline → ⊥) → conflict m (lock_of owner f r) ≡ false → clashes owner f r m ≡ false
clear-of owner f r m plain h =
    let table = m.table == r.table in
    let keys = meets m.range r.range in
    let apart = may_not_stand_together m.family f in
    let writes = not (is_read m.mode && is_read r.mode) in
    ap (λ b. not (is_same_owner owner m.owner) && table && keys && b) (told m.family f m.mode r.mode plain)
    ∙ (ap (λ b. not b && table && keys && (apart && writes)) (owner-swap owner m.owner)
    ∙ shuffled (not (is_same_owner m.owner owner)) table keys apart writes h)

-- what is held, at a trace
at-trace : (table : List Numbered) (ls : List Lock) → KeepsLocks table ls → (l : Lock) → In l (map (λ (n : Numbered). n.lock) table) → In l ls
at-trace table ls k l i =
    let m = in-map (λ (n : Numbered). n.lock) l table i in
    subst (In l) k.locks (subst (λ (x : Lock). In x (map (λ (n : Numbered). n.lock) k.in_turn)) m.2 (into-map (λ (n : Numbered). n.lock) m.0 k.in_turn ((k.same m.0).0 m.1)))

none-pass : (p : Lock → Bool) (ls : List Lock) → ((l : Lock) → In l ls → p l ≡ false) → filter p ls ≡ []
none-pass p [] h = refl
none-pass p (l ∷ ls) h = ap (λ b. cond b (l ∷ filter p ls) (filter p ls)) (h l (inl refl)) ∙ none-pass p ls (λ m i. h m (inr i))

pub none-clash : (s : State) (owner : Owner) (f : Family) (r : Option Reach) → IsSoundState s → (f ≡ Saline → ⊥) → HoldsAlready owner f r (locks_in s.watch) →
    [] ≡ owners_of (clash_in owner f r (locks_in s.watch))
none-clash s owner f None sound plain holds = absurd holds
none-clash s owner f (Some r) sound plain holds =
    let locks = sound.keeps.watch.locks in
    let ls = held sound.trace in
    let all = none-conflict sound.trace sound.sound.played in
    let mine = at-trace s.watch.table ls locks (lock_of owner f r) holds in
    ap owners_of (sym (none-pass (clashes owner f r) (locks_in s.watch)
    (λ m i. clear-of owner f r m plain
    (every-in (λ l. conflict m l ≡ false) (lock_of owner f r) ls (every-in (λ l. Every (λ k. conflict l k ≡ false) ls) m ls all (at-trace s.watch.table ls locks m i)) mine))))
