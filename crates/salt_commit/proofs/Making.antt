-- The first n partitions are made.
use Rattle.salt_paged.proofs.Framed.{partition_kept}
use Rattle.salt_paged.specs.Partitions.{IsPartition}
use Rattle.salt_parts.proofs.Lists.{each_push, if_some, longer, make_some, not_past}
use Rattle.salt_parts.specs.Openings.{HasRoom}
use Rattle.salt_stands.specs.LogDevices.{IsPartLog, IsPartitionLog}
use Rattle.salt_disk.proofs.CallAfterCall.{cause_on, cause_none, keeps_on, keeps_wider, same_shape}
use Rattle.salt_disk.specs.Disks.{HasCause, IsSettled, IsUnchanged, KeepsBut, View}
use Rattle.salt_disk.specs.declared.disks.DiskErr.TheVariants.{Memory}
use Rattle.salt_disk.specs.declared.disks.DiskErr.{DiskErr}
use Rattle.salt_paged.specs.declared.partition.Partition.{Partition}
use Rattle.salt_stands.specs.FirstOpening.{first_view}
use Rattle.salt_stands.specs.Partition.{pages_device, part_device}
use Rattle.std.proofs.Common.{List, None, Option, Some, [], ap, arith, inl, inr, length, refl, subst, sym, ℕ, ◌+◌, ◌++◌, ◌<◌, ◌≡◌, ◌≢◌, ◌⊎◌, ◌∙◌, ◌∷◌}
use Rattle.std.specs.Prelude.{IfSome, slice_get}

pub record MadeSoFar (d0 d : View) (made : List Partition) (n : ℕ) : Type 0 where
  pub size : length made ≡ n
  pub each : (p : ℕ) → IfSome (slice_get made p) (λ x. IsPartition d x p (first_view 2 p) [])
  pub others : KeepsBut (IsPartLog n) d0 d None
  pub cause : HasCause d0 d None

pub none_made : (d : View) → MadeSoFar d d [] 0
none_made d = record {
  size = refl;
  each = λ p. tt;
  others = record { shape = same_shape d; kept = λ dev other. record { bytes = refl; images = λ c left. left }; images = λ dev other c left. left };
  cause = cause_none d;
}

other_part : (p q dev : ℕ) → (dev ≡ part_device p) ⊎ (dev ≡ part_device p + 1) → IsPartitionLog q dev → p ≡ q
other_part p q dev (inl a) (inl b) = omega (arith, a, b)
other_part p q dev (inl a) (inr b) = omega (arith, a, b)
other_part p q dev (inr a) (inl b) = omega (arith, a, b)
other_part p q dev (inr a) (inr b) = omega (arith, a, b)

pub settled_on : (d e : View) (dev : ℕ) → IsUnchanged d e dev → IsSettled d dev → IsSettled e dev
settled_on d e dev kept is = λ c left. is c (kept.images c left) ∙ sym kept.bytes

module _ (d0 d : View) (made : List Partition) (n : ℕ) (so_far : MadeSoFar d0 d made n) where
  -- the next one's logs are as they were
  pub next_settled : (parts : ℕ) → HasRoom d0 parts → n < parts → IsSettled d (part_device n) × IsSettled d (part_device n + 1)
  next_settled parts room low = (
    settled_on d0 d (part_device n) (so_far.others.kept (part_device n) (λ t. omega (arith, other_part n t.p (part_device n) (inl refl) t.is, t.low))) (room.settled (part_device n) (omega (arith, room.known n low))),
    settled_on d0 d (part_device n + 1) (so_far.others.kept (part_device n + 1) (λ t. omega (arith, other_part n t.p (part_device n + 1) (inr refl) t.is, t.low))) (room.settled (part_device n + 1) (omega (arith, room.known n low))),
  )

  module _ (e : View) (answer : Option DiskErr) (others : KeepsBut (IsPartitionLog n) d e answer) where
    pub others_made : (parts : ℕ) → n < parts → KeepsBut (IsPartLog parts) d0 e answer
    others_made parts low = keeps_on (IsPartLog parts) d0 d e answer
        (keeps_wider (IsPartLog n) (IsPartLog parts) d0 d None (λ dev t. record { p = t.p; low = omega (arith, t.low, low); is = t.is }) so_far.others)
        (keeps_wider (IsPartitionLog n) (IsPartLog parts) d e answer (λ dev t. record { p = n; low = low; is = t }) others)

  pub one_made : (e : View) (x : Partition) → KeepsBut (IsPartitionLog n) d e None → HasCause d e None → IsPartition e x n (first_view 2 n) [] → MadeSoFar d0 e (made ++ x ∷ []) (n + 1)
  one_made e x others cause is = record {
    size = longer made x ∙ ap (λ k. k + 1) so_far.size;
    each = λ p. at p;
    others = others_made e None others (n + 1) (omega arith);
    cause = cause_on d0 d e None so_far.cause cause;
  }
    where
      below : (p : ℕ) (y : Partition) → slice_get made p ≡ Some y → p ≢ n
      below p y is' same = not_past made p y is' (omega (arith, same, so_far.size))

      no_log : (p : ℕ) → IsPartitionLog n (pages_device p) → ⊥
      no_log p (inl same) = omega (arith, same)
      no_log p (inr same) = omega (arith, same)

      kept : (p : ℕ) → IfSome (slice_get made p) (λ y. IsPartition e y p (first_view 2 p) [])
      kept p = make_some (slice_get made p) (λ y. IsPartition e y p (first_view 2 p) []) (λ y is'. partition_kept d e y p (first_view 2 p) [] others.shape
          (others.kept (part_device p) (λ t. below p y is' (other_part p n (part_device p) (inl refl) t)))
          (others.kept (part_device p + 1) (λ t. below p y is' (other_part p n (part_device p + 1) (inr refl) t)))
          (others.kept (pages_device p) (no_log p))
          (if_some (slice_get made p) y (λ z. IsPartition d z p (first_view 2 p) []) is' (so_far.each p)))

      at : (p : ℕ) → IfSome (slice_get (made ++ x ∷ []) p) (λ y. IsPartition e y p (first_view 2 p) [])
      at p =
          let zeroed : (q : ℕ) → 0 + q ≡ q = λ q. omega arith in
          subst (λ k. IfSome (slice_get (made ++ x ∷ []) p) (λ y. IsPartition e y k (first_view 2 k) [])) (zeroed p)
          (each_push (λ k y. IsPartition e y k (first_view 2 k) []) made n 0 x (omega (arith, so_far.size)) (λ q. subst (λ k. IfSome (slice_get made q) (λ y. IsPartition e y k (first_view 2 k) [])) (sym (zeroed q)) (kept q)) is p)

-- what holds after Ok holds where no memory is left
pub as_memory : (touched : ℕ → Type 0) (d e : View) → KeepsBut touched d e None → KeepsBut touched d e (Some Memory)
as_memory touched d e keeps = record { shape = keeps.shape; kept = keeps.kept; images = keeps.images }
