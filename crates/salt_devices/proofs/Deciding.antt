-- A unit is decided over a store that stands, whatever the disks tell, and over one that is held.
use Rattle.salt_bytes.specs.Changes.{are_in_order}
use Rattle.salt_bytes.specs.Conts.{move_in, spell_move}
use Rattle.salt_bytes.specs.Coordinator.{is_number_of_parts}
use Rattle.salt_bytes.specs.Generations.{WhichLog}
use Rattle.salt_bytes.specs.Spellable as bytes
use Rattle.salt_bytes.specs.declared.moves.Move.{Move}
use Rattle.salt_codec.specs.Entries.{CanBePut}
use Rattle.salt_commit.specs.Commits.{MayCommitUnit, StandsToCommit, fits_its_part}
use Rattle.salt_commit.specs.Shares.{next_decision}
use Rattle.salt_commit.specs.Stores.{Generation, IsStore, StandForEither, reading, shape_of_store}
use Rattle.salt_commit.specs.declared.store.Store.{Store}
use Rattle.salt_stands.specs.Fitting.{tables_defined}
use Rattle.law_generations.specs.AsIf.{IsNewName}
use Rattle.salt_devices.proofs.Committing.{may_commit_held, may_commit_mute}
use Rattle.salt_devices.proofs.Decided.{newest_with, unit_held, unit_leaves, unit_new}
use Rattle.salt_devices.proofs.Renamed.{IsStandingWithout, standing_without}
use Rattle.salt_devices.proofs.Stores.{logs_of_store, newest_on, standing_shape}
use Rattle.salt_devices.specs.Holding.{IsHeld, IsInShape, IsNewTo, IsStanding}
use Rattle.salt_devices.specs.Leaving.{LeavesEither}
use Rattle.salt_disk.specs.Disks.{SameShape, View}
use Rattle.salt_model.specs.Kept.{Definition, Kept}
use Rattle.salt_model.specs.Words.{Every}
use Rattle.salt_stands.proofs.Booleans.{left, right}
use Rattle.salt_stands.specs.Commits.{found_after, found_of, view_after}
use Rattle.salt_stands.specs.Coordinator.{Coordinator}
use Rattle.salt_stands.specs.Pieces.{PartView, with_decision}
use Rattle.salt_storage.specs.Storing.{MayDecide, decided}
use Rattle.law_types.specs.Typed.{AreChangesOf}
use Rattle.salt_values.specs.Id.{is_same_id}
use Rattle.salt_place.specs.Placement.{IsParts}
use Rattle.salt_values.specs.Value.{IsValue}
use Rattle.salt_values.specs.declared.change.Change.{Change}
use Rattle.salt_values.specs.declared.cont.Cont.{Cont}
use Rattle.salt_values.specs.declared.id.Id.{Id}
use Rattle.salt_place.specs.declared.placement.Shape.{Shape}
use Rattle.std.proofs.Common.{IsTrue, List, Some, arith, ap, false, subst, sym, true, ℕ, ◌≡◌, ◌≤◌, ◌∙◌}
use Rattle.std.proofs.lemmas.Bool.Decides.{nat_tests}
use Rattle.std.specs.List.{list_all}
use Rattle.std.specs.Prelude.{nat_le}

le_true : (a b : ℕ) → nat_le a b ≡ true → a ≤ b
le_true a b h = grind (arith, nat_tests)

is_parts : (n : ℕ) → is_number_of_parts n ≡ true → IsParts n
is_parts n e = (le_true 1 n (left (nat_le 1 n) (nat_le n 8) e), le_true n 8 (right (nat_le 1 n) (nat_le n 8) e))

-- the store stands in a view in which the unit may be committed
pub record MayBeCommitted (d : View) (x : Store) (u : Id) (cs : List Change) (mv : List ℕ) : Type 0 where
  pub which : WhichLog
  pub c : Coordinator Definition
  pub v : ℕ → PartView
  pub m : Move
  pub conts : List Cont
  pub is : IsStore reading d x which c v
  pub newest : IsInShape (shape_of_store x) c v
  pub may : MayCommitUnit d.told reading c v u cs mv m conts

-- what a commit that went well says
abbrev pub Commits : (d e : View) (x y : Store) (u : Id) (cs : List Change) (mv : List ℕ) → Type 0
Commits d e x y u cs mv = (which : WhichLog) (c : Coordinator Definition) (v : ℕ → PartView) (m : Move) (conts : List Cont) → IsStore reading d x which c v → MayCommitUnit d.told reading c v u cs mv m conts
    → (g : Generation c v) × IsStore reading e y g.which (with_decision g.coordinator (next_decision g.coordinator u cs mv) conts) (view_after g.coordinator g.views cs (next_decision g.coordinator u cs mv))

module _ (d : View) (x : Store) (u : Id) (cs : List Change) (mv : List ℕ) where
  pub stands_to_commit : MayBeCommitted d x u cs mv → StandsToCommit d x u cs mv
  stands_to_commit b = record { which = b.which; c = b.c; v = b.v; m = b.m; conts = b.conts; is = b.is; may = b.may }

  -- over disks that tell nothing
  pub mute_committed : (shape : Shape) (m : Move) → d.told ≡ false → IsStanding d shape x → are_in_order cs ≡ true → bytes.Every (CanBePut true) cs → MayBeCommitted d x u cs mv
  mute_committed shape m mute s ordered put =
      let w : IsStandingWithout d shape x u = standing_without d shape x u mute s in
      record {
        which = w.standing.which;
        c = w.standing.c;
        v = w.standing.v;
        m = m;
        conts = w.standing.c.conts;
        is = w.standing.is;
        newest = subst (λ (z : Shape). IsInShape z w.standing.c w.standing.v) (sym (standing_shape d shape x s)) w.standing.newest;
        may = may_commit_mute d.told shape w.standing.c w.standing.v u cs mv m mute w.standing.newest w.fresh ordered put;
      }

  -- behind Ok it stands, in the shape that it had
  pub committed_stands : (e : View) (y : Store) → MayBeCommitted d x u cs mv → Commits d e x y u cs mv → (shape : Shape) → IsStanding d shape x → IsStanding e shape y
  committed_stands e y b ok shape s =
      let made = ok b.which b.c b.v b.m b.conts b.is b.may in
      let n : IsInShape shape b.c b.v = subst (λ (z : Shape). IsInShape z b.c b.v) (standing_shape d shape x s) b.newest in
      record {
        which = made.0.which;
        c = with_decision made.0.coordinator (next_decision made.0.coordinator u cs mv) b.conts;
        v = view_after made.0.coordinator made.0.views cs (next_decision made.0.coordinator u cs mv);
        is = made.1;
        newest = newest_with shape made.0.coordinator made.0.views u cs mv b.conts (newest_on shape b.c b.v made.0 n);
      }

-- A STORE THAT IS HELD
module _ (d : View) (shape : Shape) (x : Store) (k : Kept) (h : IsHeld d shape x k) (u : Id) (cs : List Change) (m : Move) (conts : List Cont) (may : MayDecide k u cs m conts) (new : IsNewTo d u)
    (reads : move_in 3 (spell_move 3 m) ≡ Some m)
    (sound : (c : Coordinator Definition) → AreChangesOf (tables_defined c.definitions) cs → list_all (fits_its_part reading c) cs ≡ true)
    (mv : List ℕ) (spells : mv ≡ spell_move 3 m) where
  fresh : IsNewName h.c h.v u
  fresh = new h.told h.c h.v (logs_of_store d x h.which h.c h.v h.is h.told)

  may_now : MayCommitUnit d.told reading h.c h.v u cs mv m conts
  may_now = subst (λ b. MayCommitUnit d.told reading h.c h.v u cs b m conts) (sym spells) (may_commit_held d shape x k h u cs m conts may fresh reads (sound h.c))

  pub held_committed : MayBeCommitted d x u cs mv
  held_committed = record {
    which = h.which;
    c = h.c;
    v = h.v;
    m = m;
    conts = conts;
    is = h.is;
    newest = subst (λ (z : Shape). IsInShape z h.c h.v) (sym (h.is.decisions.holds.shape ∙ h.newest.has_shape)) h.newest;
    may = may_now;
  }

  module _ (e : View) (y : Store) (same : SameShape d e) (told : Every (λ (c : Change). IsValue c.key) cs) where
    parts : IsParts shape.parts
    parts = is_parts shape.parts (ap (λ (s : Shape). is_number_of_parts s.parts) (sym (h.is.decisions.holds.shape ∙ h.newest.has_shape)) ∙ h.is.decisions.holds.parts)

    module _ (ok : Commits d e x y u cs mv) where
      pub unit_holds : IsHeld e shape y (decided k cs conts)
      unit_holds = let made = ok h.which h.c h.v m conts h.is may_now in unit_held d e shape x y k h u cs m mv conts may fresh parts told made.0 made.1 (same.told ∙ h.told)

      pub others_stay_new : (w : Id) → is_same_id w u ≡ false → IsNewTo d w → IsNewTo e w
      others_stay_new = let made = ok h.which h.c h.v m conts h.is may_now in unit_new d e shape x y k h u cs m mv conts may fresh parts told made.0 made.1 same

    pub unit_leaves_either : ((which : WhichLog) (c : Coordinator Definition) (v : ℕ → PartView) (m' : Move) (conts' : List Cont) → IsStore reading d x which c v → MayCommitUnit d.told reading c v u cs mv m' conts' → IsTrue d.told
        → StandForEither reading e (found_of c v) (found_after c v cs (next_decision c u cs mv) conts')) → LeavesEither e shape k (decided k cs conts)
    unit_leaves_either images = unit_leaves d e shape x y k h u cs m mv conts may fresh parts told (images h.which h.c h.v m conts h.is may_now h.told)
