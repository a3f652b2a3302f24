-- The unit is applied in the first n partitions, and not yet in the others.
use Rattle.salt_bytes.specs.Page.{page_place}
use Rattle.salt_checkpoint.proofs.Torn.{keeps_all, keeps_more}
use Rattle.salt_checkpoint.specs.Sides.{KeepsNamed}
use Rattle.salt_directory.specs.Bytes.{IsWithin, bytes_of_changes, bytes_of_entries}
use Rattle.salt_disk.proofs.CallAfterCall.{cause_none, cause_on, keeps_on, keeps_wider, same_shape}
use Rattle.salt_disk.specs.Disks.{FullOnly, FullWhere, HasCause, KeepsBut, View}
use Rattle.salt_disk.specs.declared.disks.DiskErr.TheVariants.{Failed, Full, Memory, Stopped}
use Rattle.salt_disk.specs.declared.disks.DiskErr.{DiskErr}
use Rattle.salt_paged.proofs.Framed.{partition_kept}
use Rattle.salt_paged.specs.Partitions.{ArePartitions, IsPartition, page_count, pages_of}
use Rattle.salt_paged.specs.declared.partition.Partition.{Partition}
use Rattle.salt_partition.specs.Partitions.{IsPreparedLast}
use Rattle.salt_room.proofs.Lists.{if_each, if_some, set_other, set_same}
use Rattle.salt_shares.proofs.Sharing.{full_maps, less_or}
use Rattle.salt_shares.specs.Applies.{AreSharesLast, IsPagesOfShares, IsShareLast, IsSharePages, OnePagesPassLimit, PagesPassLimit, applied_with_shares, pages_with}
use Rattle.salt_shares.specs.Shares.{applied_with, has_changes, share_at}
use Rattle.salt_stands.specs.Partition.{pages_device, part_device, part_tables}
use Rattle.salt_stands.specs.Pieces.{PartView}
use Rattle.salt_values.specs.declared.change.Change.{Change}
use Rattle.salt_values.specs.declared.id.Id.{Id}
use Rattle.std.proofs.Common.{Bool, IsTrue, List, None, Option, Some, [], ap, arith, false, get_or, inl, inr, length, refl, slice_set, subst, sym, true, ℕ, ◌+◌, ◌<◌, ◌↔◌, ◌≡◌, ◌≢◌, ◌≤◌, ◌⊎◌, ◌∙◌, ◌∷◌}
use Rattle.std.proofs.lemmas.Bool.{cases_eq}
use Rattle.std.proofs.lemmas.List.{length-set}
use Rattle.std.proofs.lemmas.Option.{slice_get_past, slice_get_read}
use Rattle.std.specs.Prelude.{IfSome, slice_get}

differ : true ≡ false → ⊥
differ e = cc

-- a share that is not empty
pub changes_there : (empty : Bool) (cs : List Change) → (IsTrue empty ↔ (cs ≡ [])) → empty ≡ false → has_changes cs ≡ true
changes_there empty [] iff filled = absurd (differ (sym (iff.1 refl) ∙ filled))
changes_there empty (c ∷ cs) iff filled = refl

-- WHERE ONE IS FULL

further : (k m limit : ℕ) → limit < page_place k 0 → k ≤ m → limit < page_place m 0
further k m limit over most = omega (arith, over, most)

-- by the number of its pages behind the call
pub full_within : (limit : ℕ → ℕ) (x : Partition) (v : PartView) (applied : List Id) (u : Id) (last : IsPreparedLast v applied u) (now : ℕ) (answer : Option DiskErr)
    → IsWithin (page_count x) (bytes_of_entries (part_tables applied v.log v.rows).list + bytes_of_changes last.changes) now → FullOnly (pages_of x) (limit (pages_of x)) (page_place now 0) answer → FullWhere (PagesPassLimit limit x v applied u) answer
full_within limit x v applied u last now None within full = tt
full_within limit x v applied u last now (Some Failed) within full = tt
full_within limit x v applied u last now (Some Stopped) within full = tt
full_within limit x v applied u last now (Some Memory) within full = tt
full_within limit x v applied u last now (Some (Full dev)) within full = record {
  last = last;
  device = full.0;
  over = subst (λ (k : ℕ). limit k < page_place (pages_with x v applied last.changes) 0) (sym full.0) (further now (pages_with x v applied last.changes) (limit (pages_of x)) full.1 within);
}

-- DEVICES of partitions

apart_pages : (p q : ℕ) → p ≢ q → pages_device p ≢ pages_device q
apart_pages p q other e = other (omega (arith, e))

apart_first : (p q : ℕ) → part_device p ≢ pages_device q
apart_first p q e = omega (arith, e)

apart_second : (p q : ℕ) → part_device p + 1 ≢ pages_device q
apart_second p q e = omega (arith, e)

pub record AppliedSoFar (d0 d : View) (parts0 parts : List Partition) (u : Id) (shares : List (List Change)) (n : ℕ) : Type 0 where
  pub size : length parts ≡ length parts0
  pub same : (p : ℕ) → n ≤ p → slice_get parts p ≡ slice_get parts0 p
  pub done : (v : ℕ → PartView) (applied : ℕ → List Id) → ArePartitions d0 parts0 v applied → AreSharesLast v applied u shares → (p : ℕ) → p < n → IfSome (slice_get parts p) (λ x. IsPartition d x p (v p) (applied_with_shares u shares applied p))
  pub rest : (v : ℕ → PartView) (applied : ℕ → List Id) → ArePartitions d0 parts0 v applied → (p : ℕ) → n ≤ p → IfSome (slice_get parts p) (λ x. IsPartition d x p (v p) (applied p))
  pub images : (v : ℕ → PartView) (applied : ℕ → List Id) → ArePartitions d0 parts0 v applied → (p : ℕ) → KeepsNamed (v p).log.header.sides d0 d (pages_device p)
  pub others : KeepsBut (IsPagesOfShares parts0 shares n) d0 d None
  pub cause : HasCause d0 d None

pub none_yet : (d : View) (parts : List Partition) (u : Id) (shares : List (List Change)) → AppliedSoFar d d parts parts u shares 0
none_yet d parts u shares = record {
  size = refl;
  same = λ p h. refl;
  done = λ v applied are last p h. absurd (omega (arith, h));
  rest = λ v applied are p h. are.each p;
  images = λ v applied are p. keeps_all (v p).log.header.sides d d (pages_device p) (λ c left. left);
  others = record { shape = same_shape d; kept = λ dev other. record { bytes = refl; images = λ c left. left }; images = λ dev other c left. left };
  cause = cause_none d;
}

module _ (d0 d : View) (parts0 parts : List Partition) (u : Id) (shares : List (List Change)) (n : ℕ) (so_far : AppliedSoFar d0 d parts0 parts u shares n) (x : Partition) (within : n < length parts) (read : x ≡ get_or parts n x) where
  here : slice_get parts n ≡ Some x
  here = slice_get_read parts (length parts) n x refl within read

  here0 : slice_get parts0 n ≡ Some x
  here0 = sym (so_far.same n (omega arith)) ∙ here

  pub next_one : (v : ℕ → PartView) (applied : ℕ → List Id) → ArePartitions d0 parts0 v applied → IsPartition d x n (v n) (applied n)
  next_one v applied are = if_some (slice_get parts n) x (λ y. IsPartition d y n (v n) (applied n)) here (so_far.rest v applied are n (omega arith))

  -- AFTER THE NEXT ONE, whatever it answers
  module _ (e : View) (answer : Option DiskErr) (others : KeepsBut (IsSharePages x (share_at shares n)) d e answer) where
    pub images_next : ((p : ℕ) (v : PartView) (applied : List Id) → IsPartition d x p v applied → KeepsNamed v.log.header.sides d e (pages_of x))
        → (v : ℕ → PartView) (applied : ℕ → List Id) → ArePartitions d0 parts0 v applied → (p : ℕ) → KeepsNamed (v p).log.header.sides d0 e (pages_device p)
    images_next images v applied are p = keeps_more (v p).log.header.sides d0 d e (pages_device p) (so_far.images v applied are p) (by (cases_eq p n))
      where
        own : IsPartition d x n (v n) (applied n)
        own = next_one v applied are

        mine : KeepsNamed (v n).log.header.sides d e (pages_device n)
        mine = subst (λ (k : ℕ). KeepsNamed (v n).log.header.sides d e (pages_device k)) own.part (images n (v n) (applied n) own)

        by : (p ≡ n) ⊎ (p ≢ n) → KeepsNamed (v p).log.header.sides d e (pages_device p)
        by (inl is) = subst (λ (k : ℕ). KeepsNamed (v k).log.header.sides d e (pages_device k)) (sym is) mine
        by (inr other) = keeps_all (v p).log.header.sides d e (pages_device p) (others.images (pages_device p) (λ t. apart_pages p n other (t.device ∙ ap pages_device own.part)))

    pub others_next : KeepsBut (IsPagesOfShares parts0 shares (n + 1)) d0 e answer
    others_next =
        let wide = IsPagesOfShares parts0 shares (n + 1) in
        keeps_on wide d0 d e answer
        (keeps_wider (IsPagesOfShares parts0 shares n) wide d0 d None (λ dev t. record { p = t.p; low = omega (arith, t.low); x = t.x; at = t.at; pages = t.pages }) so_far.others)
        (keeps_wider (IsSharePages x (share_at shares n)) wide d e answer (λ dev t. record { p = n; low = omega arith; x = x; at = here0; pages = t }) others)

    pub others_all : KeepsBut (IsPagesOfShares parts0 shares (length parts0)) d0 e answer
    others_all = keeps_wider (IsPagesOfShares parts0 shares (n + 1)) (IsPagesOfShares parts0 shares (length parts0)) d0 e answer
        (λ dev t. record { p = t.p; low = omega (arith, t.low, within, so_far.size); x = t.x; at = t.at; pages = t.pages }) others_next

  -- where it is full
  pub full_next : (answer : Option DiskErr)
      → ((p : ℕ) (v : PartView) (applied : List Id) → IsPartition d x p v applied → IsShareLast v applied u (share_at shares n) → IsTrue d.told → FullWhere (PagesPassLimit d.limit x v applied u) answer)
      → (v : ℕ → PartView) (applied : ℕ → List Id) → ArePartitions d0 parts0 v applied → AreSharesLast v applied u shares → IsTrue d0.told → FullWhere (OnePagesPassLimit d0.limit parts0 v applied u) answer
  full_next answer full v applied are last told =
      full_maps (PagesPassLimit d.limit x (v n) (applied n) u) (OnePagesPassLimit d0.limit parts0 v applied u) answer
      (λ dev t. record { p = n; x = x; at = here0; passes = record { last = t.last; device = t.device; over = subst (λ (k : ℕ). k < page_place (pages_with x (v n) (applied n) t.last.changes) 0) (so_far.others.shape.limit dev) t.over } })
      (full n (v n) (applied n) (next_one v applied are) (last.each n) (so_far.others.shape.told ∙ told))

  -- AFTER IT HAS GONE WELL
  pub one_applied : (e : View) (x' : Partition) → KeepsBut (IsSharePages x (share_at shares n)) d e None → HasCause d e None
      → ((p : ℕ) (v : PartView) (applied : List Id) → IsPartition d x p v applied → KeepsNamed v.log.header.sides d e (pages_of x))
      → ((p : ℕ) (v : PartView) (applied : List Id) → IsPartition d x p v applied → IsShareLast v applied u (share_at shares n) → IsPartition e x' p v (applied_with u (share_at shares n) applied))
      → AppliedSoFar d0 e parts0 (slice_set parts n x') u shares (n + 1)
  one_applied e x' others cause images goes = record {
    size = length-set parts n x' ∙ so_far.size;
    same = λ p h. let other : p ≢ n = λ is. omega (arith, h, is) in set_other parts n p x' other ∙ so_far.same p (omega (arith, h));
    done = λ v applied are last p h. done_next v applied are last p h (cases_eq p n);
    rest = λ v applied are p h.
        let other : p ≢ n = λ is. omega (arith, h, is) in
        subst (λ o. IfSome o (λ y. IsPartition e y p (v p) (applied p))) (sym (set_other parts n p x' other))
        (kept v applied are p (v p) (applied p) other (so_far.rest v applied are p (omega (arith, h))));
    images = images_next e None others images;
    others = others_next e None others;
    cause = cause_on d0 d e None so_far.cause cause;
  }
    where
      kept : (v : ℕ → PartView) (applied : ℕ → List Id) → ArePartitions d0 parts0 v applied → (p : ℕ) (w : PartView) (us : List Id) → p ≢ n
          → IfSome (slice_get parts p) (λ y. IsPartition d y p w us) → IfSome (slice_get parts p) (λ y. IsPartition e y p w us)
      kept v applied are p w us other h =
          let own = ap pages_device (next_one v applied are).part in
          if_each (slice_get parts p) (λ y. IsPartition d y p w us) (λ y. IsPartition e y p w us)
          (λ y at stood. partition_kept d e y p w us others.shape
          (others.kept (part_device p) (λ t. apart_first p n (t.device ∙ own)))
          (others.kept (part_device p + 1) (λ t. apart_second p n (t.device ∙ own)))
          (others.kept (pages_device p) (λ t. apart_pages p n other (t.device ∙ own)))
          stood)
          h

      done_next : (v : ℕ → PartView) (applied : ℕ → List Id) → ArePartitions d0 parts0 v applied → AreSharesLast v applied u shares → (p : ℕ) → p < n + 1 → (p ≡ n) ⊎ (p ≢ n)
          → IfSome (slice_get (slice_set parts n x') p) (λ y. IsPartition e y p (v p) (applied_with_shares u shares applied p))
      done_next v applied are last p h (inl is) =
          subst (λ k. IfSome (slice_get (slice_set parts n x') k) (λ y. IsPartition e y k (v k) (applied_with_shares u shares applied k))) (sym is)
          (subst (λ o. IfSome o (λ y. IsPartition e y n (v n) (applied_with_shares u shares applied n))) (sym (set_same parts n x' within))
          (goes n (v n) (applied n) (next_one v applied are) (last.each n)))
      done_next v applied are last p h (inr other) =
          subst (λ o. IfSome o (λ y. IsPartition e y p (v p) (applied_with_shares u shares applied p))) (sym (set_other parts n p x' other))
          (kept v applied are p (v p) (applied_with_shares u shares applied p) other (so_far.done v applied are last p (omega (arith, h, other))))

-- AT THE END
pub all_applied : (d0 d : View) (parts0 parts : List Partition) (u : Id) (shares : List (List Change)) (n : ℕ) → AppliedSoFar d0 d parts0 parts u shares n → length parts ≤ n
    → (v : ℕ → PartView) (applied : ℕ → List Id) → ArePartitions d0 parts0 v applied → AreSharesLast v applied u shares → ArePartitions d parts v (applied_with_shares u shares applied)
all_applied d0 d parts0 parts u shares n so_far all v applied are last = record {
  each = λ p. elim (less_or p n) [
    | inl h ↦ so_far.done v applied are last p h
    | inr h ↦ subst (λ o. IfSome o (λ y. IsPartition d y p (v p) (applied_with_shares u shares applied p))) (sym (slice_get_past parts p (omega (arith, all, h)))) tt
  ];
}

-- what one call says, whatever it answers
pub record Applies (d e : View) (x : Partition) (u : Id) (cs : List Change) (answer : Option DiskErr) : Type 0 where
  pub images : (p : ℕ) (v : PartView) (applied : List Id) → IsPartition d x p v applied → KeepsNamed v.log.header.sides d e (pages_of x)
  pub others : KeepsBut (IsSharePages x cs) d e answer
  pub full : (p : ℕ) (v : PartView) (applied : List Id) → IsPartition d x p v applied → IsShareLast v applied u cs → IsTrue d.told → FullWhere (PagesPassLimit d.limit x v applied u) answer

-- and where it has gone well
pub record HasApplied (d e : View) (x x' : Partition) (u : Id) (cs : List Change) : Type 0 where
  pub cause : HasCause d e None
  pub goes : (p : ℕ) (v : PartView) (applied : List Id) → IsPartition d x p v applied → IsShareLast v applied u cs → IsPartition e x' p v (applied_with u cs applied)
