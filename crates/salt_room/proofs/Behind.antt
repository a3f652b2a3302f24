-- A partition is left as it is, which spells NULL and has no unit in its log.
use Rattle.law_generations.proofs.AsIf.{as_if_on, emptied_as_if}
use Rattle.law_generations.specs.AsIf.{IsAsIf}
use Rattle.salt_bytes.specs.Formats.{has_nulls}
use Rattle.salt_bytes.specs.Generations.{WhichLog}
use Rattle.salt_bytes.specs.Partition.{PartitionHeader, Prepared}
use Rattle.salt_disk.specs.Disks.{View}
use Rattle.salt_model.specs.Kept.{Definition}
use Rattle.salt_model.specs.Tables.{no_rows, with_changes}
use Rattle.salt_paged.proofs.Framed.{units_counted}
use Rattle.salt_paged.proofs.Keyed.{changed_keyed}
use Rattle.salt_paged.proofs.Paged.{store_untold}
use Rattle.salt_paged.specs.Partitions.{IsPartition, spells_nulls, unit_count}
use Rattle.salt_paged.specs.declared.partition.Partition.{Partition}
use Rattle.salt_room.proofs.Begun.{AreBegun, BegunSoFar, own, same_on}
use Rattle.salt_room.proofs.Formats.{newest_format}
use Rattle.salt_room.proofs.Lists.{if_each}
use Rattle.salt_room.specs.Rooms.{HaveSameTables}
use Rattle.salt_stands.specs.Commits.{each_tables, with_view}
use Rattle.salt_stands.specs.Coordinator.{Coordinator, decided_for}
use Rattle.salt_stands.specs.Partition.{decided_changes, pages_device}
use Rattle.salt_stands.specs.Pieces.{PartView, tables_at_part}
use Rattle.salt_stands.specs.Reading.{Reading}
use Rattle.salt_values.specs.declared.change.Change.{Change}
use Rattle.salt_values.specs.declared.id.Id.{Id}
use Rattle.std.proofs.Common.{Bool, IsTrue, List, Some, [], ap, arith, false, inl, inr, length, refl, subst, sym, true, ℕ, ◌+◌, ◌++◌, ◌<◌, ◌≡◌, ◌≢◌, ◌≤◌, ◌⊎◌, ◌∙◌, ◌∷◌}
use Rattle.std.proofs.lemmas.Bool.{cases_eq, eq-eqb, ne_eqb}
use Rattle.std.proofs.lemmas.List.{append-nil}
use Rattle.std.specs.Prelude.{IfSome, if◌then◌else◌, slice_get}

no_units : (units : List Prepared) → length units ≡ 0 → units ≡ []
no_units [] none = refl
no_units (x ∷ xs) none = absurd (omega (arith, none))

told_not : true ≡ false → ⊥
told_not e = cc

no_last : (before : List Prepared) (x : Prepared) → [] ≡ before ++ x ∷ [] → ⊥
no_last [] x e = cc
no_last (y ∷ ys) x e = cc

module _ (low : ℕ) (d0 d : View) (parts0 parts : List Partition) (n : ℕ) (so_far : BegunSoFar low d0 d parts0 parts n) (x : Partition) (within : n < length parts) (here : slice_get parts n ≡ Some x)
    (spells : spells_nulls x ≡ true) (empty : unit_count x ≡ 0) where
  module _ (r : Reading Definition) (which : WhichLog) (c : Coordinator Definition) (v : ℕ → PartView) (was : AreBegun low n r d parts which c v) where
    abbrev w : ℕ → PartView
    w = was.on.view

    abbrev us : List Id
    us = decided_for n c.log.told.decided

    stood : IsPartition d x n (w n) us
    stood = own r d d parts n x x which c w here within was.on.are

    nulls_here : has_nulls (w n).log.header.format ≡ true
    nulls_here = ap (λ (h : PartitionHeader). has_nulls h.format) (sym stood.header) ∙ spells

    -- WHERE THE DISKS TELL, its log has none
    module _ (told : d.told ≡ true) where
      none_here : (w n).log.prepared ≡ []
      none_here = no_units (w n).log.prepared (sym (units_counted d x n (w n) us stood told) ∙ empty)

      format_here : (w n).log.header.format ≡ 2
      format_here = newest_format n stood.entries (w n).log (stood.told told).reads nulls_here

      none-told : (p : ℕ) → low ≤ p → p < n + 1 → (p ≡ n) ⊎ (p ≢ n) → (w p).log.prepared ≡ []
      none-told p from below (inl same) = subst (λ (k : ℕ). (w k).log.prepared ≡ []) (sym same) none_here
      none-told p from below (inr other) = was.none p from (omega (arith, below, other))

      nulls-told : (p : ℕ) → low ≤ p → p < n + 1 → (p ≡ n) ⊎ (p ≢ n) → has_nulls (w p).log.header.format ≡ true
      nulls-told p from below (inl same) = subst (λ (k : ℕ). has_nulls (w k).log.header.format ≡ true) (sym same) nulls_here
      nulls-told p from below (inr other) = was.nulls p from (omega (arith, below, other))

      format-told : (p : ℕ) → low ≤ p → p < n + 1 → (p ≡ n) ⊎ (p ≢ n) → (w p).log.header.format ≡ 2
      format-told p from below (inl same) = subst (λ (k : ℕ). (w k).log.header.format ≡ 2) (sym same) format_here
      format-told p from below (inr other) = was.format told p from (omega (arith, below, other))

      left_told : AreBegun low (n + 1) r d parts which c v
      left_told = record {
        on = was.on;
        none = λ p from below. none-told p from below (cases_eq p n);
        nulls = λ p from below. nulls-told p from below (cases_eq p n);
        format = λ now p from below. format-told p from below (cases_eq p n);
      }

    -- WHERE THEY DO NOT, what units may have done is taken as rows
    abbrev rows_now : List Change
    rows_now = (w n).rows ++ decided_changes us (w n).log.prepared

    abbrev emptied : PartView
    emptied = record { which = (w n).which; log = record { header = (w n).log.header; prepared = [] }; rows = rows_now }

    abbrev views : ℕ → PartView
    views = with_view n emptied w

    view_here : views n ≡ emptied
    view_here = ap (λ b. if b then emptied else w n) (eq-eqb n n refl)

    there : (q : ℕ) → q ≢ n → views q ≡ w q
    there q other = ap (λ b. if b then emptied else w q) (ne_eqb q n other)

    tables_here : tables_at_part c n emptied ≡ tables_at_part c n (w n)
    tables_here = ap (λ (cs : List Change). with_changes cs no_rows) (append-nil rows_now)

    module _ (untold : d.told ≡ false) where
      mute : IsTrue d.told → ⊥
      mute told = told_not (sym told ∙ untold)

      stands_emptied : IsPartition d x n emptied us
      stands_emptied = record {
        part = stood.part;
        header = stood.header;
        which = stood.which;
        entries = stood.entries;
        is_log = stood.is_log;
        some = stood.some;
        device = stood.device;
        known = stood.known;
        other = stood.other;
        put = tt;
        last = λ before y at. absurd (no_last before y at);
        rows = store_untold d x.rows (pages_device n) (w n).log.header.sides (with_changes rows_now no_rows) (with_changes (rows_now ++ []) no_rows) untold stood.rows;
        keyed = changed_keyed (w n) us (w n).log.prepared stood.keyed stood.put;
        told = λ told. absurd (mute told);
      }

      each : (q : ℕ) → (q ≡ n) ⊎ (q ≢ n) → IfSome (slice_get parts q) (λ z. IsPartition d z q (views q) (decided_for q c.log.told.decided))
      each q (inl same) =
          subst (λ (k : ℕ). IfSome (slice_get parts k) (λ z. IsPartition d z k (views k) (decided_for k c.log.told.decided))) (sym same)
          (subst (λ o. IfSome o (λ z. IsPartition d z n (views n) us)) (sym here) (subst (λ (u : PartView). IsPartition d x n u us) (sym view_here) stands_emptied))
      each q (inr other) =
          if_each (slice_get parts q) (λ z. IsPartition d z q (w q) (decided_for q c.log.told.decided)) (λ z. IsPartition d z q (views q) (decided_for q c.log.told.decided))
          (λ z found stands. subst (λ (u : PartView). IsPartition d z q u (decided_for q c.log.told.decided)) (sym (there q other)) stands) (was.on.are.each q)

      as_if : IsAsIf c w c views
      as_if = emptied_as_if r c w n emptied refl tables_here

      tables : (q : ℕ) → (q ≡ n) ⊎ (q ≢ n) → each_tables c views q ≡ each_tables c w q
      tables q (inl same) = subst (λ (k : ℕ). each_tables c views k ≡ each_tables c w k) (sym same) (ap (tables_at_part c n) view_here ∙ tables_here)
      tables q (inr other) = ap (tables_at_part c q) (there q other)

      spelled : (q : ℕ) → (q ≡ n) ⊎ (q ≢ n) → has_nulls (w q).log.header.format ≡ true → has_nulls (views q).log.header.format ≡ true
      spelled q (inl same) is = subst (λ (k : ℕ). has_nulls (views k).log.header.format ≡ true) (sym same) (ap (λ (u : PartView). has_nulls u.log.header.format) view_here ∙ nulls_here)
      spelled q (inr other) is = ap (λ (u : PartView). has_nulls u.log.header.format) (there q other) ∙ is

      same : HaveSameTables c w c views
      same = record { tables = λ q below. tables q (cases_eq q n); nulls = λ q below. spelled q (cases_eq q n) }

      none-untold : (p : ℕ) → low ≤ p → p < n + 1 → (p ≡ n) ⊎ (p ≢ n) → (views p).log.prepared ≡ []
      none-untold p from below (inl same) = subst (λ (k : ℕ). (views k).log.prepared ≡ []) (sym same) (ap (λ (u : PartView). u.log.prepared) view_here)
      none-untold p from below (inr other) = ap (λ (u : PartView). u.log.prepared) (there p other) ∙ was.none p from (omega (arith, below, other))

      nulls-untold : (p : ℕ) → low ≤ p → p < n + 1 → (p ≡ n) ⊎ (p ≢ n) → has_nulls (views p).log.header.format ≡ true
      nulls-untold p from below (inl same) = subst (λ (k : ℕ). has_nulls (views k).log.header.format ≡ true) (sym same) (ap (λ (u : PartView). has_nulls u.log.header.format) view_here ∙ nulls_here)
      nulls-untold p from below (inr other) = ap (λ (u : PartView). has_nulls u.log.header.format) (there p other) ∙ was.nulls p from (omega (arith, below, other))

      left_untold : AreBegun low (n + 1) r d parts which c v
      left_untold = record {
        on = record {
          view = views;
          as_if = as_if_on c c c v w views was.on.as_if as_if;
          same = same_on c c c v w views refl was.on.same same;
          are = record { size = was.on.are.size; each = λ q. each q (cases_eq q n); ready = λ told. absurd (mute told) };
        };
        none = λ p from below. none-untold p from below (cases_eq p n);
        nulls = λ p from below. nulls-untold p from below (cases_eq p n);
        format = λ told. absurd (mute told);
      }

    left : AreBegun low (n + 1) r d parts which c v
    left = by d.told refl
      where
        by : (told : Bool) → d.told ≡ told → AreBegun low (n + 1) r d parts which c v
        by true told = left_told told
        by false untold = left_untold untold

  pub one_behind : BegunSoFar low d0 d parts0 parts (n + 1)
  one_behind = record {
    size = so_far.size;
    on = λ r which c v are. left r which c v (so_far.on r which c v are);
    rest = λ p high. so_far.rest p (omega (arith, high));
    stand = so_far.stand;
    pages = so_far.pages;
    keeps = so_far.keeps;
    cause = so_far.cause;
  }
