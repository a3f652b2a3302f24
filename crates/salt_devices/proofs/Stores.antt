-- A store that stands or is held: what it stands for, and what a stop leaves of it.
use Rattle.salt_bytes.specs.Generations.{BothBlank, Counts, WhichLog}
use Rattle.salt_commit.proofs.Standing.{part_at, unchanged_images}
use Rattle.salt_commit.specs.Stores.{Generation, IsStore, StandsOnDevices, decided_by, next_text, reading, shape_of_store}
use Rattle.salt_commit.specs.declared.store.Store.{Store}
use Rattle.salt_model.specs.Words.{and_then}
use Rattle.salt_stands.specs.Fitting.{tables_defined}
use Rattle.law_generations.specs.AsIf.{IsNewName}
use Rattle.salt_devices.specs.Holding.{AreLogsOf, IsHeld, IsInShape, IsNewTo, IsStanding}
use Rattle.salt_devices.specs.Leaving.{LeavesEither, StandsFor}
use Rattle.salt_disk.specs.Disks.{IsImage, SameShape, View}
use Rattle.salt_model.specs.Kept.{Definition, Kept, schema_of}
use Rattle.salt_values.specs.Id.{has_id}
use Rattle.salt_stands.specs.Commits.{found_of, partition_count}
use Rattle.salt_stands.specs.Coordinator.{Coordinator, coordinator_pair, decided_for, definitions_read, judge_coordinator}
use Rattle.salt_stands.specs.CoordinatorLog.{CoordinatorLog}
use Rattle.salt_stands.specs.PartitionLog.{PartitionLog}
use Rattle.salt_stands.specs.Pieces.{PartView, is_prepared_in, with_definition}
use Rattle.salt_stands.specs.Stands.{Found, stands_on, logs_of, nothing_found, with_parts}
use Rattle.salt_values.specs.declared.id.Id.{Id}
use Rattle.salt_place.specs.declared.placement.Shape.{Shape}
use Rattle.std.proofs.Common.{IsTrue, List, Ok, Some, [], ap, arith, inl, sym, ℕ, ◌+◌, ◌<◌, ◌≡◌, ◌∙◌}

pub same_of_some : {A : Type 0} (x y : A) → Some x ≡ Some y → x ≡ y
same_of_some x y e = cc

pub same_of_counts : {L : Type 0} (w z : WhichLog) (x y : L) → Counts w x ≡ Counts z y → x ≡ y
same_of_counts w z x y e = cc

-- WHERE THE DISKS TELL the logs that count are of one view
pub logs_of_store : (d : View) (x : Store) (w : WhichLog) (c : Coordinator Definition) (v : ℕ → PartView) → IsStore reading d x w c v → IsTrue d.told → AreLogsOf d c v
logs_of_store d x w c v is told = record {
  which = w;
  counts = is.decisions.counting.counts told;
  parts = λ p low. let one = part_at d x.parts v (decided_by c) is.parts p (omega (arith, low, is.size)) in (one.1.told told).counts;
}

module _ (d : View) (c b : Coordinator Definition) (v u : ℕ → PartView) (these : AreLogsOf d c v) (those : AreLogsOf d b u) where
  one_log : c.log ≡ b.log
  one_log = same_of_counts these.which those.which c.log b.log (sym these.counts ∙ those.counts)

  one_view : (p : ℕ) → p < partition_count c → (v p).log ≡ (u p).log
  one_view p low =
      let other : p < partition_count b = omega (arith, low, ap (λ (l : CoordinatorLog). l.header.shape.parts) one_log) in
      same_of_counts (v p).which (u p).which (v p).log (u p).log (sym (these.parts p low) ∙ those.parts p other)

  -- and so there is one set of names
  pub one_fresh : (n : Id) → IsNewName c v n → IsNewName b u n
  one_fresh n f =
      let same : partition_count c ≡ partition_count b = ap (λ (l : CoordinatorLog). l.header.shape.parts) one_log in
      record {
        fresh = λ p low. let low' : p < partition_count c = omega (arith, low, same) in sym (ap (λ (l : PartitionLog). is_prepared_in n l.prepared) (one_view p low')) ∙ f.fresh p low';
        new = λ p low. let low' : p < partition_count c = omega (arith, low, same) in sym (ap (λ (l : CoordinatorLog). has_id n (decided_for p l.told.decided)) one_log) ∙ f.new p low';
      }

-- and its definitions are of one store
pub one_definitions : (d : View) (x : Store) (told : IsTrue d.told) (w z : WhichLog) (c b : Coordinator Definition) (v u : ℕ → PartView) → IsStore reading d x w c v → IsStore reading d x z b u → c.definitions ≡ b.definitions
one_definitions d x told w z c b v u is also =
    let one = (is.sound told).coordinator in
    let two = (also.sound told).coordinator in
    let log = one_log d c b v u (logs_of_store d x w c v is told) (logs_of_store d x z b u also told) in
    same_of_some c.definitions b.definitions (sym one.defined ∙ ap (λ (l : CoordinatorLog). definitions_read reading (Some []) l.told.definitions) log ∙ two.defined)

pub one_schema : (d : View) (x : Store) (told : IsTrue d.told) (w z : WhichLog) (c b : Coordinator Definition) (v u : ℕ → PartView) → IsStore reading d x w c v → IsStore reading d x z b u → tables_defined c.definitions ≡ tables_defined b.definitions
one_schema d x told w z c b v u is also = ap tables_defined (one_definitions d x told w z c b v u is also)

-- WHERE A LOG WAS BEGUN what stands there is of one shape, whatever is asked for

pub record IsJudged (shape : Shape) (image : ℕ → List ℕ) (asked : Shape) : Type 0 where
  pub found : Found Definition
  pub has_shape : found.shape ≡ shape
  pub is : stands_on reading image asked ≡ Ok found

pub is_begun : (shape : Shape) (image : ℕ → List ℕ) → ((asked : Shape) → IsJudged shape image asked) → ¬ (coordinator_pair (logs_of image) ≡ BothBlank)
is_begun shape image each blank =
    let other : Shape = record shape { parts = shape.parts + 1 } in
    let j : IsJudged shape image other = each other in
    let new : stands_on reading image other ≡ Ok (nothing_found other) = ap (λ p. and_then (judge_coordinator reading p) (with_parts reading (logs_of image) image other)) blank in
    let both : Ok j.found ≡ Ok (nothing_found other) = sym j.is ∙ new in
    let same : j.found ≡ nothing_found other = cc both in
    let shapes : shape ≡ other = sym j.has_shape ∙ ap (λ (f : Found Definition). f.shape) same in
    let parts : shape.parts ≡ shape.parts + 1 = ap (λ (s : Shape). s.parts) shapes in
    omega (arith, parts)

-- A STORE THAT STANDS

module _ (d : View) (shape : Shape) (x : Store) (s : IsStanding d shape x) where
  pub standing_on : StandsOnDevices d x
  standing_on = record { which = s.which; c = s.c; v = s.v; is = s.is }

  pub standing_shape : shape_of_store x ≡ shape
  standing_shape = s.is.decisions.holds.shape ∙ s.newest.has_shape

  -- on other devices, or with other messages
  pub standing_again : (e : View) (y : Store) → IsStore reading e y s.which s.c s.v → IsStanding e shape y
  standing_again e y is = record { which = s.which; c = s.c; v = s.v; is = is; newest = s.newest }

-- so does one in another generation
pub newest_on : (shape : Shape) (c : Coordinator Definition) (v : ℕ → PartView) (g : Generation c v) → IsInShape shape c v → IsInShape shape g.coordinator g.views
newest_on shape c v g n = record {
  has_shape = ap (λ (f : Found Definition). f.shape) g.as_if.found ∙ n.has_shape;
  format = ap (λ (f : Found Definition). f.format) g.as_if.found ∙ n.format;
  nulls = λ p low. let was : p < partition_count c = omega (arith, low, g.as_if.parts) in g.nulls p was (n.nulls p was);
}

-- A STORE THAT IS HELD
module _ (d : View) (shape : Shape) (x : Store) (k : Kept) (h : IsHeld d shape x k) where
  pub held_standing : IsStanding d shape x
  held_standing = record { which = h.which; c = h.c; v = h.v; is = h.is; newest = h.newest }

  pub held_boot : h.c.log.told.boot ≡ k.boot
  held_boot = ap (λ (z : Kept). z.boot) h.keeps

  pub held_decisions : h.c.log.told.decisions ≡ k.decisions
  held_decisions = ap (λ (z : Kept). z.decisions) h.keeps

  pub held_definitions : h.c.definitions ≡ k.definitions
  held_definitions = ap (λ (z : Kept). z.definitions) h.keeps

  pub held_conts : h.c.conts ≡ k.conts
  held_conts = ap (λ (z : Kept). z.conts) h.keeps

  pub held_schema : schema_of k ≡ tables_defined h.c.definitions
  held_schema = ap tables_defined (sym held_definitions)

  -- each image stands for what is kept
  pub held_image : (image : ℕ → List ℕ) → IsImage d image → StandsFor shape image k
  held_image image left = record {
    found = found_of h.c h.v;
    is = unchanged_images reading d x h.which h.c h.v h.is h.told shape image left;
    has_shape = h.newest.has_shape;
    keeps = h.keeps;
  }

  pub held_leaves : (b : Kept) → LeavesEither d shape k b
  held_leaves b told image left = record {
    begun = is_begun shape image (λ asked. record { found = found_of h.c h.v; has_shape = h.newest.has_shape; is = unchanged_images reading d x h.which h.c h.v h.is h.told asked image left });
    stands = inl (held_image image left);
  }

-- A CALL THAT CHANGES NOTHING
module _ (d e : View) (x y : Store) (w : WhichLog) (c : Coordinator Definition) (v : ℕ → PartView) (is : IsStore reading d x w c v) (now : IsStore reading e y w c v) (same : SameShape d e) where
  pub new_again : (u : Id) → IsNewTo d u → IsNewTo e u
  new_again u new told b t also =
      let was : IsTrue d.told = sym same.told ∙ told in
      one_fresh e c b v t (logs_of_store e y w c v now told) also u (new was c v (logs_of_store d x w c v is was))

pub held_again : (d e : View) (shape : Shape) (x y : Store) (k : Kept) → IsTrue e.told → (h : IsHeld d shape x k) → IsStore reading e y h.which h.c h.v → IsHeld e shape y k
held_again d e shape x y k told h is = record { told = told; which = h.which; c = h.c; v = h.v; is = is; newest = h.newest; keeps = h.keeps; kept = h.kept }

-- A DEFINITION names no unit
module _ (d e : View) (x y : Store) (w : WhichLog) (c : Coordinator Definition) (v : ℕ → PartView) (is : IsStore reading d x w c v) (same : SameShape d e) (text : List ℕ) (def : Definition)
    (g : Generation c v) (now : IsStore reading e y g.which (with_definition g.coordinator (next_text g.coordinator text) def) g.views) where
  pub entered_new : (u : Id) → IsNewTo d u → IsNewTo e u
  entered_new u new told b t also =
      let was : IsTrue d.told = sym same.told ∙ told in
      let f = g.as_if.names u (new was c v (logs_of_store d x w c v is was)) in
      let c' = with_definition g.coordinator (next_text g.coordinator text) def in
      one_fresh e c' b g.views t (logs_of_store e y g.which c' g.views now told) also u (record { fresh = f.fresh; new = f.new })
