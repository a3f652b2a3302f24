-- A store of disks that tell nothing stands as well with other names for its units.
use Rattle.salt_bytes.specs.Coordinator.{Decision}
use Rattle.salt_bytes.specs.Generations.{WhichLog}
use Rattle.salt_bytes.specs.Partition.{Prepared}
use Rattle.salt_bytes.specs.Spellable.{Every}
use Rattle.salt_parts.proofs.Lists.{if_some, make_some}
use Rattle.salt_commit.specs.Stores.{IsStore, decided_by, reading}
use Rattle.salt_commit.specs.declared.store.Store.{Store}
use Rattle.salt_devices.proofs.Renaming.{coordinator_renamed, decided_renamed, decision_renamed, renamed, view_renamed}
use Rattle.law_generations.specs.AsIf.{IsNewName}
use Rattle.salt_devices.specs.Holding.{IsStanding}
use Rattle.salt_disk.specs.Disks.{View}
use Rattle.salt_codec.specs.declared.prepared.PreparedUnit.{PreparedUnit}
use Rattle.salt_model.specs.Kept.{Definition}
use Rattle.salt_model.specs.Tables.{no_rows, with_changes}
use Rattle.salt_values.specs.Id.{has_id}
use Rattle.salt_paged.specs.Partitions.{IsPartition}
use Rattle.salt_paged.specs.declared.partition.Partition.{Partition}
use Rattle.salt_partition.specs.Contents.{ArePut}
use Rattle.salt_partition.specs.Partitions.{IsLastKept}
use Rattle.salt_rows.specs.Stores.{IsRowStore}
use Rattle.salt_stands.specs.Coordinator.{Coordinator, decided_for, unit_of}
use Rattle.salt_stands.specs.OpenConts.{move_on, moved}
use Rattle.salt_stands.specs.Partition.{changes_if, decided_changes, pages_device}
use Rattle.salt_stands.specs.Pieces.{PartView, is_prepared_in}
use Rattle.salt_stands.specs.Words.{has_bit}
use Rattle.salt_values.specs.Id.{is_same_id}
use Rattle.salt_values.specs.declared.cont.Cont.{Cont}
use Rattle.salt_values.specs.declared.id.Id.{Id}
use Rattle.salt_place.specs.declared.placement.Shape.{Shape}
use Rattle.std.proofs.Common.{Bool, IsTrue, List, Option, Some, [], ap, arith, false, refl, slice_get, subst, sym, true, ℕ, ◌+◌, ◌++◌, ◌≡◌, ◌∙◌, ◌∷◌}
use Rattle.std.proofs.lemmas.Bool.Decides.{Decides-eqb}
use Rattle.std.specs.List.{filter}
use Rattle.std.specs.Prelude.{if◌then◌else◌, map, ◌&&◌, ◌==◌, ◌||◌}

-- NAMES

same_seq : (a b s : ℕ) → (a + s + 1 == b + s + 1) ≡ (a == b)
same_seq a b s = by (a == b) refl
  where
    by : (t : Bool) → (a == b) ≡ t → (a + s + 1 == b + s + 1) ≡ t
    by true e = let same : a ≡ b = (Decides-eqb a b).0 e in (Decides-eqb (a + s + 1) (b + s + 1)).1 (omega (arith, same))
    by false e = differ (a + s + 1 == b + s + 1) refl
      where
        differ : (t : Bool) → (a + s + 1 == b + s + 1) ≡ t → t ≡ false
        differ true eq =
            let sum : a + s + 1 ≡ b + s + 1 = (Decides-eqb (a + s + 1) (b + s + 1)).0 eq in
            let same : (a == b) ≡ true = (Decides-eqb a b).1 (omega (arith, sum)) in
            cc
        differ false eq = refl

other_seq : (a s : ℕ) → (s == a + s + 1) ≡ false
other_seq a s = differ (s == a + s + 1) refl
  where
    differ : (t : Bool) → (s == a + s + 1) ≡ t → t ≡ false
    differ true eq = let sum : s ≡ a + s + 1 = (Decides-eqb s (a + s + 1)).0 eq in absurd (omega (arith, sum))
    differ false eq = refl

same_renamed : (u a b : Id) → is_same_id (renamed u a) (renamed u b) ≡ is_same_id a b
same_renamed u a b = ap (λ t. (a.boot == b.boot) && t) (same_seq a.seq b.seq u.seq)

nor_and : (b : Bool) → (b && false) ≡ false
nor_and true = refl
nor_and false = refl

apart_renamed : (u w : Id) → is_same_id u (renamed u w) ≡ false
apart_renamed u w = ap (λ t. (u.boot == w.boot) && t) (other_seq w.seq u.seq) ∙ nor_and (u.boot == w.boot)

has_renamed : (u a : Id) (us : List Id) → has_id (renamed u a) (map (renamed u) us) ≡ has_id a us
has_renamed u a [] = refl
has_renamed u a (w ∷ us) = ap (λ b. b || has_id (renamed u a) (map (renamed u) us)) (same_renamed u a w) ∙ ap (λ b. is_same_id a w || b) (has_renamed u a us)

none_renamed : (u : Id) (us : List Id) → has_id u (map (renamed u) us) ≡ false
none_renamed u [] = refl
none_renamed u (w ∷ us) = ap (λ b. b || has_id u (map (renamed u) us)) (apart_renamed u w) ∙ none_renamed u us

-- DECISIONS

decided_for_renamed : (u : Id) (p : ℕ) (ds : List Decision) → decided_for p (map (decision_renamed u) ds) ≡ map (renamed u) (decided_for p ds)
decided_for_renamed u p [] = refl
decided_for_renamed u p (d ∷ ds) = by (has_bit d.mask p) (decided_for_renamed u p ds)
  where
    by : (b : Bool) → decided_for p (map (decision_renamed u) ds) ≡ map (renamed u) (decided_for p ds)
        → map unit_of (if b then decision_renamed u d ∷ filter (λ d. has_bit d.mask p) (map (decision_renamed u) ds) else filter (λ d. has_bit d.mask p) (map (decision_renamed u) ds))
        ≡ map (renamed u) (map unit_of (if b then d ∷ filter (λ d. has_bit d.mask p) ds else filter (λ d. has_bit d.mask p) ds))
    by true h = ap (λ us. renamed u d.unit ∷ us) h
    by false h = h

-- a move is the same, whatever its unit is called
moved_renamed : (u : Id) (format : ℕ) (conts : Option (List Cont)) (ds : List Decision) → moved format conts (map (decision_renamed u) ds) ≡ moved format conts ds
moved_renamed u format conts [] = refl
moved_renamed u format conts (d ∷ ds) = moved_renamed u format (move_on format d conts) ds

-- ENTRIES

changes_renamed : (u : Id) (us : List Id) (ps : List Prepared) → decided_changes (map (renamed u) us) (decided_renamed u us ps) ≡ decided_changes us ps
changes_renamed u us [] = refl
changes_renamed u us (p ∷ ps) = by (has_id p.unit us) refl (changes_renamed u us ps)
  where
    by : (b : Bool) → has_id p.unit us ≡ b → decided_changes (map (renamed u) us) (decided_renamed u us ps) ≡ decided_changes us ps
        → decided_changes (map (renamed u) us) (if b then record { unit = renamed u p.unit; changes = p.changes } ∷ decided_renamed u us ps else decided_renamed u us ps)
        ≡ changes_if b p.changes ++ decided_changes us ps
    by true e h = ap (λ b. changes_if b p.changes ++ decided_changes (map (renamed u) us) (decided_renamed u us ps)) (has_renamed u p.unit us ∙ e) ∙ ap (λ cs. p.changes ++ cs) h
    by false e h = h

all_decided : (u : Id) (us : List Id) (ps : List Prepared) → Every (λ (p : Prepared). has_id p.unit (map (renamed u) us) ≡ true) (decided_renamed u us ps)
all_decided u us [] = tt
all_decided u us (p ∷ ps) = by (has_id p.unit us) refl (all_decided u us ps)
  where
    by : (b : Bool) → has_id p.unit us ≡ b → Every (λ (p : Prepared). has_id p.unit (map (renamed u) us) ≡ true) (decided_renamed u us ps)
        → Every (λ (p : Prepared). has_id p.unit (map (renamed u) us) ≡ true) (if b then record { unit = renamed u p.unit; changes = p.changes } ∷ decided_renamed u us ps else decided_renamed u us ps)
    by true e h = (has_renamed u p.unit us ∙ e, h)
    by false e h = h

put_renamed : (u : Id) (us : List Id) (ps : List Prepared) → Every ArePut ps → Every ArePut (decided_renamed u us ps)
put_renamed u us [] h = tt
put_renamed u us (p ∷ ps) h = by (has_id p.unit us) (put_renamed u us ps h.1)
  where
    by : (b : Bool) → Every ArePut (decided_renamed u us ps) → Every ArePut (if b then record { unit = renamed u p.unit; changes = p.changes } ∷ decided_renamed u us ps else decided_renamed u us ps)
    by true more = (h.0, more)
    by false more = more

none_prepared : (u : Id) (us : List Id) (ps : List Prepared) → is_prepared_in u (decided_renamed u us ps) ≡ false
none_prepared u us [] = refl
none_prepared u us (p ∷ ps) = by (has_id p.unit us) (none_prepared u us ps)
  where
    by : (b : Bool) → is_prepared_in u (decided_renamed u us ps) ≡ false → is_prepared_in u (if b then record { unit = renamed u p.unit; changes = p.changes } ∷ decided_renamed u us ps else decided_renamed u us ps) ≡ false
    by true h = ap (λ b. b || is_prepared_in u (decided_renamed u us ps)) (apart_renamed u p.unit) ∙ h
    by false h = h

-- of the last of a list
of_last : (P : Prepared → Type 0) (ps : List Prepared) (x : Prepared) → Every P (ps ++ x ∷ []) → P x
of_last P [] x h = h.0
of_last P (p ∷ ps) x h = of_last P ps x h.1

last_renamed : (u : Id) (us : List Id) (ps : List Prepared) (last : Option PreparedUnit) → IsLastKept (map (renamed u) us) (decided_renamed u us ps) last
last_renamed u us ps last before x e not =
    let is : has_id x.unit (map (renamed u) us) ≡ true = of_last (λ p. has_id p.unit (map (renamed u) us) ≡ true) before x (subst (Every (λ (p : Prepared). has_id p.unit (map (renamed u) us) ≡ true)) e (all_decided u us ps)) in
    absurd (cc (is, not))

-- THE STORE

module _ (d : View) (mute : d.told ≡ false) (u : Id) where
  not_told : (A : Type 0) → IsTrue d.told → A
  not_told A told = absurd cc

  part_renamed : (x : Partition) (p : ℕ) (v : PartView) (us : List Id) → IsPartition d x p v us
      → IsPartition d x p (record v { log = record v.log { prepared = decided_renamed u us v.log.prepared } }) (map (renamed u) us)
  part_renamed x p v us is = record {
    part = is.part;
    header = is.header;
    which = is.which;
    entries = is.entries;
    is_log = is.is_log;
    some = is.some;
    device = is.device;
    known = is.known;
    other = is.other;
    put = put_renamed u us v.log.prepared is.put;
    last = last_renamed u us v.log.prepared x.last;
    rows = subst (λ cs. IsRowStore d x.rows (pages_device p) v.log.header.sides (with_changes (v.rows ++ cs) no_rows)) (sym (changes_renamed u us v.log.prepared)) is.rows;
    keyed = is.keyed;
    told = λ told. not_told _ told;
  }

  module _ (x : Store) (which : WhichLog) (c : Coordinator Definition) (v : ℕ → PartView) (is : IsStore reading d x which c v) where
    store_renamed : IsStore reading d x which (coordinator_renamed u c) (view_renamed u c v)
    store_renamed = record {
      decisions = record {
        own = is.decisions.own;
        holds = record {
          format = is.decisions.holds.format;
          generation = is.decisions.holds.generation;
          shape = is.decisions.holds.shape;
          boot = is.decisions.holds.boot;
          decisions = is.decisions.holds.decisions;
          definitions = is.decisions.holds.definitions;
          conts = λ rises cs e. is.decisions.holds.conts rises cs (sym (moved_renamed u c.log.header.format (Some c.log.header.conts) c.log.told.decided) ∙ e);
          parts = is.decisions.holds.parts;
        };
        counting = record {
          entries = is.decisions.counting.entries;
          is_log = is.decisions.counting.is_log;
          device = is.decisions.counting.device;
          known = is.decisions.counting.known;
          other = is.decisions.counting.other;
          counts = λ told. not_told _ told;
        };
      };
      size = is.size;
      parts = record {
        each = λ p. make_some (slice_get x.parts p) (λ y. IsPartition d y p (view_renamed u c v p) (decided_by (coordinator_renamed u c) p))
            (λ y at. subst (IsPartition d y p (view_renamed u c v p)) (sym (decided_for_renamed u p c.log.told.decided))
            (part_renamed y p (v p) (decided_by c p) (if_some (slice_get x.parts p) y (λ z. IsPartition d z p (v p) (decided_by c p)) at (is.parts.each p))));
      };
      sound = λ told. not_told _ told;
    }

    fresh_renamed : IsNewName (coordinator_renamed u c) (view_renamed u c v) u
    fresh_renamed = record {
      fresh = λ p low. none_prepared u (decided_by c p) (v p).log.prepared;
      new = λ p low. ap (has_id u) (decided_for_renamed u p c.log.told.decided) ∙ none_renamed u (decided_by c p);
    }

-- a store that stands does so in a view in which no entry and no decision names the unit
pub record IsStandingWithout (d : View) (shape : Shape) (x : Store) (u : Id) : Type 0 where
  pub standing : IsStanding d shape x
  pub fresh : IsNewName standing.c standing.v u

pub standing_without : (d : View) (shape : Shape) (x : Store) (u : Id) → d.told ≡ false → IsStanding d shape x → IsStandingWithout d shape x u
standing_without d shape x u mute s = record {
  standing = record {
    which = s.which;
    c = coordinator_renamed u s.c;
    v = view_renamed u s.c s.v;
    is = store_renamed d mute u x s.which s.c s.v s.is;
    newest = record { has_shape = s.newest.has_shape; format = s.newest.format; nulls = s.newest.nulls };
  };
  fresh = fresh_renamed d mute u x s.which s.c s.v s.is;
}
