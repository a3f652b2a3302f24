-- A store with a unit more stands, and is held.
use Rattle.salt_bytes.specs.Formats.{has_nulls}
use Rattle.salt_commit.proofs.Shared.{mask_bit, share_is}
use Rattle.salt_commit.proofs.Ready.{store_placed}
use Rattle.salt_commit.specs.Shares.{next_decision, shares_of}
use Rattle.salt_commit.specs.Stores.{Generation, IsStore, StandForEither, decided_by, reading}
use Rattle.salt_shares.specs.Shares.{has_changes}
use Rattle.salt_commit.specs.declared.store.Store.{Store}
use Rattle.salt_devices.proofs.Entered.{leaves_either}
use Rattle.salt_devices.proofs.Stores.{logs_of_store, newest_on, one_fresh}
use Rattle.law_generations.specs.AsIf.{IsNewName}
use Rattle.salt_devices.specs.Holding.{IsHeld, IsInShape, IsNewTo}
use Rattle.salt_devices.specs.Leaving.{LeavesEither}
use Rattle.salt_disk.specs.Disks.{SameShape, View}
use Rattle.salt_model.specs.Kept.{Definition, Kept}
use Rattle.salt_model.specs.Tables.{Tables, with_changes}
use Rattle.salt_model.specs.Words.{Every}
use Rattle.salt_values.specs.Id.{has_id}
use Rattle.salt_stands.proofs.Commits.{listed_same}
use Rattle.salt_stands.proofs.Decided.{decided_with, decided_without}
use Rattle.salt_stands.proofs.Joined.{joined_changes}
use Rattle.salt_stands.proofs.Prepared.{decided_tables, undecided_tables}
use Rattle.salt_stands.specs.Commits.{each_tables, found_after, found_of, partition_count, share, view_after}
use Rattle.salt_stands.specs.Coordinator.{Coordinator, decided_for}
use Rattle.salt_stands.specs.Pieces.{PartView, is_prepared_in, tables_at_part, with_decision, with_prepared_unit}
use Rattle.salt_stands.specs.Placed.{AreOfParts, IsPlaced, changes_at}
use Rattle.salt_stands.specs.Fitting.{kept_in}
use Rattle.salt_stands.specs.Stands.{Found}
use Rattle.salt_stands.specs.Tables.{joined}
use Rattle.salt_stands.specs.Words.{has_bit}
use Rattle.salt_storage.specs.Storing.{MayDecide, decided}
use Rattle.salt_place.proofs.Places.{place_of-below}
use Rattle.salt_values.specs.Id.{is_same_id}
use Rattle.salt_place.specs.Placement.{IsParts}
use Rattle.salt_values.specs.Value.{IsValue}
use Rattle.salt_values.specs.declared.change.Change.{Change}
use Rattle.salt_values.specs.declared.cont.Cont.{Cont}
use Rattle.salt_values.specs.declared.id.Id.{Id}
use Rattle.salt_place.specs.declared.placement.Shape.{Shape}
use Rattle.salt_bytes.specs.declared.moves.Move.{Move}
use Rattle.std.proofs.Common.{Bool, IsTrue, List, [], ap, arith, false, refl, subst, sym, true, ℕ, ◌+◌, ◌++◌, ◌<◌, ◌≡◌, ◌∙◌, ◌∷◌}
use Rattle.std.specs.Prelude.{if◌then◌else◌, ◌||◌}

pub of_parts : (shape : Shape) (cs : List Change) → IsParts shape.parts → Every (λ (c : Change). IsValue c.key) cs → AreOfParts shape shape.parts cs
of_parts shape [] parts told = tt
of_parts shape (c ∷ cs) parts told = (place_of-below shape.kind c.key shape.parts told.0 parts, of_parts shape cs parts told.1)

no_changes : (cs : List Change) → has_changes cs ≡ false → cs ≡ []
no_changes [] e = refl
no_changes (c ∷ cs) e = absurd cc

none_changed : (t : Tables) → with_changes [] t ≡ t
unfolding with_changes
none_changed t = refl

-- a name behind one more
has_more : (w : Id) (us : List Id) (u : Id) → has_id w us ≡ false → is_same_id w u ≡ false → has_id w (us ++ u ∷ []) ≡ false
has_more w [] u h e = ap (λ b. b || false) e
has_more w (x ∷ us) u h e = by (is_same_id w x) refl h (λ more. has_more w us u more e)
  where
    by : (b : Bool) → is_same_id w x ≡ b → (b || has_id w us) ≡ false → (has_id w us ≡ false → has_id w (us ++ u ∷ []) ≡ false) → (is_same_id w x || has_id w (us ++ u ∷ [])) ≡ false
    by true is none more = absurd cc
    by false is none more = ap (λ b. b || has_id w (us ++ u ∷ [])) is ∙ more none

prepared_more : (w : Id) (ps : List Rattle.salt_bytes.specs.Partition.Prepared) (x : Rattle.salt_bytes.specs.Partition.Prepared) → is_prepared_in w ps ≡ false → is_same_id w x.unit ≡ false → is_prepared_in w (ps ++ x ∷ []) ≡ false
prepared_more w [] x h e = ap (λ b. b || false) e
prepared_more w (p ∷ ps) x h e = by (is_same_id w p.unit) refl h (λ more. prepared_more w ps x more e)
  where
    by : (b : Bool) → is_same_id w p.unit ≡ b → (b || is_prepared_in w ps) ≡ false → (is_prepared_in w ps ≡ false → is_prepared_in w (ps ++ x ∷ []) ≡ false) → (is_same_id w p.unit || is_prepared_in w (ps ++ x ∷ [])) ≡ false
    by true is none more = absurd cc
    by false is none more = ap (λ b. b || is_prepared_in w (ps ++ x ∷ [])) is ∙ more none

module _ (c : Coordinator Definition) (v : ℕ → PartView) (u : Id) (cs : List Change) (mv : List ℕ) (conts : List Cont) where
  bits : (p : ℕ) → p < partition_count c → has_bit (next_decision c u cs mv).mask p ≡ false → changes_at c.log.header.shape p cs ≡ []
  bits p low bit = no_changes (changes_at c.log.header.shape p cs) (ap has_changes (sym (share_is c.log.header.shape cs p low)) ∙ sym (mask_bit (shares_of c.log.header.shape cs) p) ∙ bit)

  module _ (fresh : IsNewName c v u) where
    -- each partition's tables with the unit's changes of its places
    tables_with : (p : ℕ) → p < partition_count c → each_tables (with_decision c (next_decision c u cs mv) conts) (view_after c v cs (next_decision c u cs mv)) p
        ≡ with_changes (changes_at c.log.header.shape p cs) (each_tables c v p)
    tables_with p low = by (has_bit (next_decision c u cs mv).mask p) refl
      where
        by : (b : Bool) → has_bit (next_decision c u cs mv).mask p ≡ b
            → tables_at_part (with_decision c (next_decision c u cs mv) conts) p (if b then with_prepared_unit (v p) (share c u cs p) else v p) ≡ with_changes (changes_at c.log.header.shape p cs) (each_tables c v p)
        by true bit = decided_tables reading c p (v p) (share c u cs p) (next_decision c u cs mv) conts bit refl (fresh.fresh p low) (fresh.new p low)
        by false bit = undecided_tables reading c p (v p) (next_decision c u cs mv) conts bit ∙ sym (ap (λ ds. with_changes ds (each_tables c v p)) (bits p low bit) ∙ none_changed (each_tables c v p))

    module _ (placed : (p : ℕ) → p < partition_count c → IsPlaced c.log.header.shape p (each_tables c v p)) where
      all_with : AreOfParts c.log.header.shape (partition_count c) cs
          → (found_of (with_decision c (next_decision c u cs mv) conts) (view_after c v cs (next_decision c u cs mv))).kept.tables ≡ with_changes cs (found_of c v).kept.tables
      all_with below =
          ap joined (listed_same (each_tables (with_decision c (next_decision c u cs mv) conts) (view_after c v cs (next_decision c u cs mv))) (λ p. with_changes (changes_at c.log.header.shape p cs) (each_tables c v p)) 0 (partition_count c)
          (λ p low. tables_with p (omega (arith, low))))
          ∙ joined_changes c.log.header.shape (each_tables c v) (partition_count c) cs placed below

  -- the names of others stay new
  pub fresh_after : (w : Id) → is_same_id w u ≡ false → IsNewName c v w → IsNewName (with_decision c (next_decision c u cs mv) conts) (view_after c v cs (next_decision c u cs mv)) w
  fresh_after w other f = record {
    fresh = λ p low. entry p low (has_bit (next_decision c u cs mv).mask p);
    new = λ p low. decision p low (has_bit (next_decision c u cs mv).mask p) refl;
  }
    where
      entry : (p : ℕ) → p < partition_count c → (b : Bool) → is_prepared_in w (if b then with_prepared_unit (v p) (share c u cs p) else v p).log.prepared ≡ false
      entry p low true = prepared_more w (v p).log.prepared (share c u cs p) (f.fresh p low) other
      entry p low false = f.fresh p low

      decision : (p : ℕ) → p < partition_count c → (b : Bool) → has_bit (next_decision c u cs mv).mask p ≡ b → has_id w (decided_for p (c.log.told.decided ++ next_decision c u cs mv ∷ [])) ≡ false
      decision p low true bit = ap (has_id w) (decided_with p c.log.told.decided (next_decision c u cs mv) bit) ∙ has_more w (decided_by c p) u (f.new p low) other
      decision p low false bit = ap (has_id w) (decided_without p c.log.told.decided (next_decision c u cs mv) bit) ∙ f.new p low

-- WHATEVER THE DISKS TELL, a store with the unit stands in the newest formats
pub newest_with : (shape : Shape) (c : Coordinator Definition) (v : ℕ → PartView) (u : Id) (cs : List Change) (mv : List ℕ) (conts : List Cont) → IsInShape shape c v
    → IsInShape shape (with_decision c (next_decision c u cs mv) conts) (view_after c v cs (next_decision c u cs mv))
newest_with shape c v u cs mv conts n = record { has_shape = n.has_shape; format = n.format; nulls = λ p low. nulls p low (has_bit (next_decision c u cs mv).mask p) }
  where
    nulls : (p : ℕ) → p < partition_count c → (b : Bool) → has_nulls (if b then with_prepared_unit (v p) (share c u cs p) else v p).log.header.format ≡ true
    nulls p low true = n.nulls p low
    nulls p low false = n.nulls p low

-- what is kept with these tables
abbrev kept_with : Coordinator Definition → List Cont → Tables → Kept
kept_with c conts t = record { boot = c.log.told.boot; decisions = c.log.told.decisions + 1; definitions = c.definitions; tables = t; conts = conts }

-- A STORE THAT IS HELD, with the unit, in another generation
module _ (d e : View) (shape : Shape) (x y : Store) (k : Kept) (h : IsHeld d shape x k) (u : Id) (cs : List Change) (m : Move) (mv : List ℕ) (conts : List Cont)
    (may : MayDecide k u cs m conts) (fresh : IsNewName h.c h.v u) (parts : IsParts shape.parts) (told : Every (λ (c : Change). IsValue c.key) cs) where
  pub unit_leaves : StandForEither reading e (found_of h.c h.v) (found_after h.c h.v cs (next_decision h.c u cs mv) conts) → LeavesEither e shape k (decided k cs conts)
  unit_leaves either = leaves_either d e shape x k h (found_after h.c h.v cs (next_decision h.c u cs mv) conts) (decided k cs conts) h.newest.has_shape (ap (λ z. decided z cs conts) h.keeps) either

  module _ (g : Generation h.c h.v) where
    abbrev c : Coordinator Definition
    c = g.coordinator

    abbrev v : ℕ → PartView
    v = g.views

    same_shape : c.log.header.shape ≡ h.c.log.header.shape
    same_shape = ap (λ (f : Found Definition). f.shape) g.as_if.found

    below : AreOfParts c.log.header.shape (partition_count c) cs
    below = of_parts c.log.header.shape cs (subst (λ (s : Shape). IsParts s.parts) (sym (same_shape ∙ h.newest.has_shape)) parts) told

    placed : (p : ℕ) → p < partition_count c → IsPlaced c.log.header.shape p (each_tables c v p)
    placed p low =
        let was : p < partition_count h.c = omega (arith, low, g.as_if.parts) in
        subst (λ (s : Shape). IsPlaced s p (each_tables c v p)) (sym same_shape)
        (subst (IsPlaced h.c.log.header.shape p) (sym (g.tables p was)) (store_placed reading d x h.which h.c h.v h.is h.told p was))

    new_name : IsNewName c v u
    new_name = g.as_if.names u fresh

    -- what it stands for
    with_unit : kept_in (found_of (with_decision c (next_decision c u cs mv) conts) (view_after c v cs (next_decision c u cs mv))) ≡ decided k cs conts
    with_unit = ap (kept_with c conts) (all_with c v u cs mv conts new_name placed below) ∙ ap (λ z. decided z cs conts) (ap kept_in g.as_if.found ∙ h.keeps)

    module _ (is : IsStore reading e y g.which (with_decision c (next_decision c u cs mv) conts) (view_after c v cs (next_decision c u cs mv))) where
      pub unit_held : IsTrue e.told → IsHeld e shape y (decided k cs conts)
      unit_held now = record {
        told = now;
        which = g.which;
        c = with_decision c (next_decision c u cs mv) conts;
        v = view_after c v cs (next_decision c u cs mv);
        is = is;
        newest = newest_with shape c v u cs mv conts (newest_on shape h.c h.v g h.newest);
        keeps = with_unit;
        kept = may.sound;
      }

      pub unit_new : SameShape d e → (w : Id) → is_same_id w u ≡ false → IsNewTo d w → IsNewTo e w
      unit_new same w other new now b t also =
          let c' = with_decision c (next_decision c u cs mv) conts in
          let v' = view_after c v cs (next_decision c u cs mv) in
          one_fresh e c' b v' t (logs_of_store e y g.which c' v' is now) also w (fresh_after c v u cs mv conts w other (g.as_if.names w (new h.told h.c h.v (logs_of_store d x h.which h.c h.v h.is h.told))))
