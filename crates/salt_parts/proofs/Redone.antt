-- The decided units of partitions are applied, one partition after another.
use Rattle.salt_bytes.specs.Page.{page_place}
use Rattle.salt_checkpoint.proofs.Torn.{keeps_all, keeps_more}
use Rattle.salt_checkpoint.specs.Sides.{KeepsNamed}
use Rattle.salt_disk.proofs.CallAfterCall.{cause_none, cause_on, keeps_on, keeps_wider, same_shape}
use Rattle.salt_disk.specs.Disks.{FullOnly, HasCause, IsUnchanged, KeepsBut, KeepsOthers, View}
use Rattle.salt_disk.specs.declared.disks.DiskErr.TheVariants.{Failed, Full, Memory, Stopped}
use Rattle.salt_disk.specs.declared.disks.DiskErr.{DiskErr}
use Rattle.salt_paged.proofs.Framed.{partition_kept, read_kept}
use Rattle.salt_paged.specs.Openings.{IsReadAs, page_bound}
use Rattle.salt_paged.specs.Partitions.{IsPartition, pages_of}
use Rattle.salt_paged.specs.declared.partition.Partition.{Partition}
use Rattle.salt_paged.specs.declared.redo.ReadPartition.{ReadPartition}
use Rattle.salt_parts.proofs.Lists.{each_push, if_some, longer, make_some, not_past}
use Rattle.salt_parts.specs.Openings.{AreRead, HaveUnits, IsPagesOf, PagesAreFull}
use Rattle.salt_stands.specs.Partition.{pages_device, part_device}
use Rattle.salt_stands.specs.Pieces.{PartView}
use Rattle.salt_values.specs.declared.id.Id.{Id}
use Rattle.std.proofs.Common.{List, None, Option, Some, [], ap, arith, inl, inr, length, refl, slice_get, subst, sym, ℕ, ◌+◌, ◌++◌, ◌<◌, ◌≡◌, ◌≢◌, ◌≤◌, ◌⊎◌, ◌∙◌, ◌∷◌}
use Rattle.std.proofs.lemmas.Bool.{cases_eq}
use Rattle.std.specs.Prelude.{IfSome}

pub record RedoneSoFar (d0 d : View) (read : List ReadPartition) (lists : List (List Id)) (made : List Partition) (n : ℕ) : Type 0 where
  pub size : length made ≡ n
  pub within : n ≤ length read
  pub done : (v : ℕ → PartView) (us : ℕ → List Id) → AreRead d0 read v → HaveUnits lists us → (p : ℕ) → IfSome (slice_get made p) (λ x. IsPartition d x p (v p) (us p))
  pub rest : (v : ℕ → PartView) → AreRead d0 read v → (p : ℕ) → n ≤ p → IfSome (slice_get read p) (λ x. IsReadAs d x p (v p))
  pub named : (v : ℕ → PartView) → AreRead d0 read v → (p : ℕ) → KeepsNamed (v p).log.header.sides d0 d (pages_device p)
  pub others : KeepsBut (IsPagesOf (length read)) d0 d None
  pub cause : HasCause d0 d None

pub none_redone : (d : View) (read : List ReadPartition) (lists : List (List Id)) → RedoneSoFar d d read lists [] 0
none_redone d read lists = record {
  size = refl;
  within = omega arith;
  done = λ v us are have p. tt;
  rest = λ v are p high. are.each p;
  named = λ v are p. keeps_all (v p).log.header.sides d d (pages_device p) (λ image left. left);
  others = record { shape = same_shape d; kept = λ dev apart. record { bytes = refl; images = λ image left. left }; images = λ dev apart image left. left };
  cause = cause_none d;
}

-- the devices of other partitions are not its pages
module _ (p n : ℕ) (other : p ≢ n) where
  first_apart : part_device p ≢ pages_device n
  first_apart same = omega (arith, same)

  second_apart : part_device p + 1 ≢ pages_device n
  second_apart same = omega (arith, same)

  pages_apart : pages_device p ≢ pages_device n
  pages_apart same = other (omega (arith, same))

-- where no memory is found nothing is done
pub without_memory : (touched : ℕ → Type 0) (d e : View) → KeepsBut touched d e None → KeepsBut touched d e (Some Memory)
without_memory touched d e keeps = record { shape = keeps.shape; kept = keeps.kept; images = keeps.images }

-- the limits are as they were
pub full_as : (d0 d : View) (n parts : ℕ) (v : ℕ → PartView) (us : ℕ → List Id) (pages : ℕ) (e : DiskErr) → n < parts → pages ≡ pages_device n → ((dev : ℕ) → d.limit dev ≡ d0.limit dev)
    → FullOnly pages (d.limit pages) (page_place (page_bound (us n) (v n)) 0) (Some e) → PagesAreFull d0 parts v us (Some e)
full_as d0 d n parts v us pages Failed low at same full = tt
full_as d0 d n parts v us pages Stopped low at same full = tt
full_as d0 d n parts v us pages Memory low at same full = tt
full_as d0 d n parts v us pages (Full dev) low at same full = record {
  p = n;
  low = low;
  device = full.0 ∙ at;
  over = let there : d0.limit dev ≡ d.limit pages = ap d0.limit full.0 ∙ sym (same pages) in omega (arith, there, full.1);
}

module _ (d0 d : View) (read : List ReadPartition) (lists : List (List Id)) (made : List Partition) (n : ℕ) (so : RedoneSoFar d0 d read lists made n) (x : ReadPartition) (at : slice_get read n ≡ Some x) (few : n < length read) where
  -- it is read still
  pub this_read : (v : ℕ → PartView) → AreRead d0 read v → IsReadAs d x n (v n)
  this_read v are = if_some (slice_get read n) x (λ y. IsReadAs d y n (v n)) at (so.rest v are n (omega arith))

  module _ (e : View) (answer : Option DiskErr) (v0 : ℕ → PartView) (are0 : AreRead d0 read v0) where
    -- its number
    number : x.partition.part ≡ n
    number = ((this_read v0 are0).is []).part

    pub at_pages : pages_of x.partition ≡ pages_device n
    at_pages = ap pages_device number

    pub others_then : KeepsOthers (pages_of x.partition) d e answer → KeepsBut (IsPagesOf (length read)) d0 e answer
    others_then others = keeps_on (IsPagesOf (length read)) d0 d e answer so.others
        (keeps_wider (λ dev. dev ≡ pages_of x.partition) (IsPagesOf (length read)) d e answer (λ dev same. record { p = n; low = few; is = same ∙ at_pages }) others)

    -- pages of others are as they were
    pub named_then : KeepsOthers (pages_of x.partition) d e answer → ((v : ℕ → PartView) → AreRead d0 read v → KeepsNamed (v n).log.header.sides d e (pages_of x.partition))
        → (v : ℕ → PartView) → AreRead d0 read v → (p : ℕ) → KeepsNamed (v p).log.header.sides d0 e (pages_device p)
    named_then others images v are p = keeps_more (v p).log.header.sides d0 d e (pages_device p) (so.named v are p) (by (cases_eq p n))
      where
        by : (p ≡ n) ⊎ (p ≢ n) → KeepsNamed (v p).log.header.sides d e (pages_device p)
        by (inl same) = subst (λ q. KeepsNamed (v q).log.header.sides d e (pages_device q)) (sym same) (subst (λ k. KeepsNamed (v n).log.header.sides d e k) at_pages (images v are))
        by (inr other) = keeps_all (v p).log.header.sides d e (pages_device p) (others.images (pages_device p) (λ same. pages_apart p n other (same ∙ at_pages)))

  -- one partition more is opened
  module _ (e : View) (y : Partition) (v0 : ℕ → PartView) (are0 : AreRead d0 read v0) (others : KeepsOthers (pages_of x.partition) d e None) (cause : HasCause d e None)
      (images : (v : ℕ → PartView) → AreRead d0 read v → KeepsNamed (v n).log.header.sides d e (pages_of x.partition))
      (ok : (v : ℕ → PartView) (us : ℕ → List Id) → AreRead d0 read v → HaveUnits lists us → IsPartition e y n (v n) (us n)) where
    same_there : (dev : ℕ) → dev ≢ pages_device n → IsUnchanged d e dev
    same_there dev apart = others.kept dev (λ same. apart (same ∙ at_pages e None v0 are0))

    module _ (v : ℕ → PartView) (us : ℕ → List Id) (are : AreRead d0 read v) (have : HaveUnits lists us) where
      Is : ℕ → Partition → Type 0
      Is p z = IsPartition e z p (v p) (us p)

      stay : (p : ℕ) → IfSome (slice_get made p) (Is p)
      unfolding Is
      stay p = make_some (slice_get made p) (λ z. IsPartition e z p (v p) (us p)) (λ z is.
          let other : p ≢ n = λ same. not_past made p z is (omega (arith, same, so.size)) in
          partition_kept d e z p (v p) (us p) others.shape (same_there (part_device p) (first_apart p n other)) (same_there (part_device p + 1) (second_apart p n other)) (same_there (pages_device p) (pages_apart p n other))
          (if_some (slice_get made p) z (λ w. IsPartition d w p (v p) (us p)) is (so.done v us are have p)))

      each : (p : ℕ) → IfSome (slice_get (made ++ y ∷ []) p) (Is p)
      unfolding Is
      each p =
          let zeroed : (q : ℕ) → 0 + q ≡ q = λ q. omega arith in
          subst (λ j. IfSome (slice_get (made ++ y ∷ []) p) (λ z. IsPartition e z j (v j) (us j))) (zeroed p)
          (each_push (λ j z. IsPartition e z j (v j) (us j)) made n 0 y (omega (arith, so.size)) (λ q. subst (λ j. IfSome (slice_get made q) (λ z. IsPartition e z j (v j) (us j))) (sym (zeroed q)) (stay q)) (ok v us are have) p)

    rest : (v : ℕ → PartView) → AreRead d0 read v → (p : ℕ) → n + 1 ≤ p → IfSome (slice_get read p) (λ z. IsReadAs e z p (v p))
    rest v are p high = make_some (slice_get read p) (λ z. IsReadAs e z p (v p)) (λ z is.
        let other : p ≢ n = λ same. omega (arith, same, high) in
        read_kept d e z p (v p) others.shape (same_there (part_device p) (first_apart p n other)) (same_there (part_device p + 1) (second_apart p n other)) (same_there (pages_device p) (pages_apart p n other))
        (if_some (slice_get read p) z (λ w. IsReadAs d w p (v p)) is (so.rest v are p (omega (arith, high)))))

    pub one_redone : RedoneSoFar d0 e read lists (made ++ y ∷ []) (n + 1)
    unfolding Is
    one_redone = record {
      size = longer made y ∙ ap (λ j. j + 1) so.size;
      within = omega (arith, few);
      done = λ v us are have p. each v us are have p;
      rest = rest;
      named = named_then e None v0 are0 others images;
      others = others_then e None v0 are0 others;
      cause = cause_on d0 d e None so.cause cause;
    }
