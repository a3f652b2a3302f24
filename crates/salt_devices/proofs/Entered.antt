-- A store with a boot or a definition more stands and is held, and what a stop leaves of it.
use Rattle.salt_commit.specs.Stores.{Generation, IsStore, StandForEither, last_boot, next_text, reading}
use Rattle.salt_commit.specs.Stores as commit
use Rattle.salt_commit.specs.declared.store.Store.{Store}
use Rattle.law_definitions.specs.Texts.{definition_in}
use Rattle.salt_stands.specs.Fitting.{is_refused, kept_in}
use Rattle.salt_devices.proofs.Stores.{IsJudged, held_definitions, is_begun, newest_on, one_definitions}
use Rattle.salt_devices.proofs.Kept.{booted_sound}
use Rattle.salt_devices.specs.Holding.{IsHeld, IsStanding}
use Rattle.salt_devices.specs.Leaving.{LeavesEither, StandsFor}
use Rattle.salt_disk.specs.Disks.{SameShape, Shrinks, View}
use Rattle.salt_model.specs.Kept.{Definition, Kept, OfTable}
use Rattle.salt_stands.specs.Commits.{found_of}
use Rattle.salt_bytes.specs.Generations.{WhichLog}
use Rattle.salt_stands.specs.Coordinator.{Coordinator}
use Rattle.salt_stands.specs.Pieces.{PartView, with_boot, with_definition}
use Rattle.salt_stands.specs.Stands.{Found, stands_on}
use Rattle.salt_storage.specs.Storing.{MayDefine, booted, defined}
use Rattle.salt_place.specs.declared.placement.Shape.{Shape}
use Rattle.std.proofs.Common.{IsTrue, List, Ok, Some, [], ap, arith, inl, inr, sym, ℕ, ◌≡◌, ◌⊎◌, ◌∙◌}

-- images shrink
pub leaves_on : (d e : View) (shape : Shape) (a b : Kept) → SameShape d e → ((dev : ℕ) → Shrinks d e dev) → LeavesEither d shape a b → LeavesEither e shape a b
leaves_on d e shape a b same fewer h told image left = h (sym same.told ∙ told) image (λ dev low. fewer dev (image dev) (left dev (omega (arith, low, same.count))))

-- WHATEVER THE DISKS TELL
module _ (d e : View) (shape : Shape) (x y : Store) (s : IsStanding d shape x) (g : Generation s.c s.v) where
  pub boot_stands : IsStore reading e y g.which (with_boot g.coordinator) g.views → IsStanding e shape y
  boot_stands is = let n = newest_on shape s.c s.v g s.newest in record {
    which = g.which;
    c = with_boot g.coordinator;
    v = g.views;
    is = is;
    newest = record { has_shape = n.has_shape; format = n.format; nulls = n.nulls };
  }

  pub definition_stands : (text : List ℕ) (def : Definition) → IsStore reading e y g.which (with_definition g.coordinator (next_text g.coordinator text) def) g.views → IsStanding e shape y
  definition_stands text def is = let n = newest_on shape s.c s.v g s.newest in record {
    which = g.which;
    c = with_definition g.coordinator (next_text g.coordinator text) def;
    v = g.views;
    is = is;
    newest = record { has_shape = n.has_shape; format = n.format; nulls = n.nulls };
  }

-- a definition begins no boot
pub definition_counted : (d e : View) (x y : Store) (which : WhichLog) (c : Coordinator Definition) (v : ℕ → PartView) → IsStore reading d x which c v → (g : Generation c v) (text : List ℕ) (def : Definition)
    → IsStore reading e y g.which (with_definition g.coordinator (next_text g.coordinator text) def) g.views → last_boot y ≡ last_boot x
definition_counted d e x y which c v was g text def is = is.decisions.holds.boot ∙ ap (λ (f : Found Definition). f.kept.boot) g.as_if.found ∙ sym was.decisions.holds.boot

-- WHERE THEY TELL
module _ (d e : View) (shape : Shape) (x : Store) (k : Kept) (h : IsHeld d shape x k) where
  -- each image stands for what was found, or for what is found now
  pub leaves_either : (after : Found Definition) (b : Kept) → after.shape ≡ shape → kept_in after ≡ b → StandForEither reading e (found_of h.c h.v) after → LeavesEither e shape k b
  leaves_either after b has_shape keeps either told image left = record { begun = is_begun shape image (λ asked. one asked (either asked image left)); stands = by (either shape image left) }
    where
      one : (asked : Shape) → (stands_on reading image asked ≡ Ok (found_of h.c h.v)) ⊎ (stands_on reading image asked ≡ Ok after) → IsJudged shape image asked
      one asked (inl is) = record { found = found_of h.c h.v; has_shape = h.newest.has_shape; is = is }
      one asked (inr is) = record { found = after; has_shape = has_shape; is = is }

      by : (stands_on reading image shape ≡ Ok (found_of h.c h.v)) ⊎ (stands_on reading image shape ≡ Ok after) → StandsFor shape image k ⊎ StandsFor shape image b
      by (inl is) = inl (record { found = found_of h.c h.v; is = is; has_shape = h.newest.has_shape; keeps = h.keeps })
      by (inr is) = inr (record { found = after; is = is; has_shape = has_shape; keeps = keeps })

  pub boot_leaves : StandForEither reading e (found_of h.c h.v) (found_of (with_boot h.c) h.v) → LeavesEither e shape k (booted k)
  boot_leaves either = leaves_either (found_of (with_boot h.c) h.v) (booted k) h.newest.has_shape (ap booted h.keeps) either

  pub definition_leaves : (text : List ℕ) (def : Definition) → StandForEither reading e (found_of h.c h.v) (found_of (with_definition h.c (next_text h.c text) def) h.v) → LeavesEither e shape k (defined k def)
  definition_leaves text def either = leaves_either (found_of (with_definition h.c (next_text h.c text) def) h.v) (defined k def) h.newest.has_shape (ap (λ z. defined z def) h.keeps) either

  -- AFTER OK
  module _ (y : Store) (told : IsTrue e.told) (g : Generation h.c h.v) where
    same : kept_in (found_of g.coordinator g.views) ≡ k
    same = ap kept_in g.as_if.found ∙ h.keeps

    pub boot_held : IsStore reading e y g.which (with_boot g.coordinator) g.views → IsHeld e shape y (booted k)
    boot_held is = let n = newest_on shape h.c h.v g h.newest in record {
      told = told;
      which = g.which;
      c = with_boot g.coordinator;
      v = g.views;
      is = is;
      newest = record { has_shape = n.has_shape; format = n.format; nulls = n.nulls };
      keeps = ap booted same;
      kept = booted_sound k h.kept;
    }

    pub definition_held : (text : List ℕ) (def : Definition) → MayDefine k def → IsStore reading e y g.which (with_definition g.coordinator (next_text g.coordinator text) def) g.views → IsHeld e shape y (defined k def)
    definition_held text def may is = let n = newest_on shape h.c h.v g h.newest in record {
      told = told;
      which = g.which;
      c = with_definition g.coordinator (next_text g.coordinator text) def;
      v = g.views;
      is = is;
      newest = record { has_shape = n.has_shape; format = n.format; nulls = n.nulls };
      keeps = ap (λ z. defined z def) same;
      kept = may.sound;
    }

  -- what is kept does not refuse it, and so the coordinator does not
  pub may_define : (text : List ℕ) (def : Definition) → definition_in text ≡ Some def → MayDefine k def → commit.MayDefine reading h.c text def
  may_define text def reads may = record { reads = reads; accepted = ap (λ ds. is_refused ds def) (held_definitions d shape x k h) ∙ may.accepted }

-- in any view of a store that is held
pub may_define_as : (d e : View) (shape other : Shape) (x : Store) (k : Kept) (h : IsHeld d shape x k) (s : IsStanding d other x) (text : List ℕ) (def : Definition) → definition_in text ≡ Some def → MayDefine k def → commit.MayDefine reading s.c text def
may_define_as d e shape other x k h s text def reads may =
    let m = may_define d e shape x k h text def reads may in
    record { reads = reads; accepted = ap (λ ds. is_refused ds def) (one_definitions d x h.told s.which h.which s.c h.c s.v h.v s.is h.is) ∙ m.accepted }

-- some definition
pub some_definition : Definition
some_definition = OfTable (record { name = []; columns = []; checks = [] })
