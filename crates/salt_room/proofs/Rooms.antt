-- Partitions that have room for a unit, or no unit at all, one after another.
use Rattle.salt_disk.specs.Disks.{View}
use Rattle.salt_paged.specs.Partitions.{unit_count}
use Rattle.salt_paged.specs.declared.partition.Partition.{Partition}
use Rattle.salt_room.proofs.Begun.{BegunSoFar, one_part}
use Rattle.salt_room.proofs.Lists.{set_other, set_same}
use Rattle.salt_room.specs.Rooms.{HaveNone, HaveRoom, most_units}
use Rattle.salt_values.specs.declared.change.Change.{Change}
use Rattle.std.proofs.Common.{List, Some, ap, arith, inl, inr, length, slice_set, subst, sym, ℕ, ◌+◌, ◌<◌, ◌≡◌, ◌≢◌, ◌⊎◌, ◌∙◌, ◌∷◌}
use Rattle.std.proofs.lemmas.Bool.{cases_eq}
use Rattle.std.specs.Prelude.{slice_get}

-- those before a number are begun where they had to be
pub record FilledSoFar (d0 d : View) (parts0 parts : List Partition) (shares : List (List Change)) (n : ℕ) : Type 0 where
  pub begun : BegunSoFar (length parts0) d0 d parts0 parts n
  pub room : HaveRoom n parts shares

pub no_room_yet : (parts : List Partition) (shares : List (List Change)) → HaveRoom 0 parts shares
no_room_yet parts shares = record { each = λ p low. absurd (omega (arith, low)) }

one_share : (s t : List Change) → Some s ≡ Some t → s ≡ t
one_share s t e = cc

module _ (n : ℕ) (parts : List Partition) (shares : List (List Change)) (room : HaveRoom n parts shares) where
  -- one that is begun anew has room
  pub room_begun : (y : Partition) → n < length parts → unit_count y ≡ 0 → HaveRoom (n + 1) (slice_set parts n y) shares
  room_begun y within none = record { each = λ p low x at. by p low x at (cases_eq p n) }
    where
      by : (p : ℕ) → p < n + 1 → (x : Partition) → slice_get (slice_set parts n y) p ≡ Some x → (p ≡ n) ⊎ (p ≢ n) → (c : Change) (cs : List Change) → slice_get shares p ≡ Some (c ∷ cs) → unit_count x < most_units
      by p low x at (inl same) c cs share =
          let is : y ≡ x = one_part y x (sym (set_same parts n y within) ∙ ap (λ (k : ℕ). slice_get (slice_set parts n y) k) (sym same) ∙ at) in
          subst (λ (z : Partition). unit_count z < most_units) is (omega (arith, none))
      by p low x at (inr other) c cs share = room.each p (omega (arith, low, other)) x (sym (set_other parts n p y other) ∙ at) c cs share

  -- and so has one that does not lack it
  pub room_left : (y : Partition) (own : List Change) → slice_get parts n ≡ Some y → slice_get shares n ≡ Some own → ((c : Change) (cs : List Change) → own ≡ c ∷ cs → unit_count y < most_units) → HaveRoom (n + 1) parts shares
  room_left y own here mine enough = record { each = λ p low x at. by p low x at (cases_eq p n) }
    where
      by : (p : ℕ) → p < n + 1 → (x : Partition) → slice_get parts p ≡ Some x → (p ≡ n) ⊎ (p ≢ n) → (c : Change) (cs : List Change) → slice_get shares p ≡ Some (c ∷ cs) → unit_count x < most_units
      by p low x at (inl same) c cs share =
          let is : y ≡ x = one_part y x (sym here ∙ ap (λ (k : ℕ). slice_get parts k) (sym same) ∙ at) in
          let own_is : own ≡ c ∷ cs = one_share own (c ∷ cs) (sym mine ∙ ap (λ (k : ℕ). slice_get shares k) (sym same) ∙ share) in
          subst (λ (z : Partition). unit_count z < most_units) is (enough c cs own_is)
      by p low x at (inr other) c cs share = room.each p (omega (arith, low, other)) x at c cs share

-- ALL OF THEM are begun anew
pub record EmptiedSoFar (d0 d : View) (parts0 parts : List Partition) (n : ℕ) : Type 0 where
  pub begun : BegunSoFar 0 d0 d parts0 parts n
  pub none : HaveNone n parts

pub none_yet : (parts : List Partition) → HaveNone 0 parts
none_yet parts = record { each = λ p low. absurd (omega (arith, low)) }

pub none_on : (n : ℕ) (parts : List Partition) (y : Partition) → HaveNone n parts → n < length parts → unit_count y ≡ 0 → HaveNone (n + 1) (slice_set parts n y)
none_on n parts y so_far within none = record { each = λ p low x at. by p low x at (cases_eq p n) }
  where
    by : (p : ℕ) → p < n + 1 → (x : Partition) → slice_get (slice_set parts n y) p ≡ Some x → (p ≡ n) ⊎ (p ≢ n) → unit_count x ≡ 0
    by p low x at (inl same) =
        let is : y ≡ x = one_part y x (sym (set_same parts n y within) ∙ ap (λ (k : ℕ). slice_get (slice_set parts n y) k) (sym same) ∙ at) in
        ap unit_count (sym is) ∙ none
    by p low x at (inr other) = so_far.each p (omega (arith, low, other)) x (sym (set_other parts n p y other) ∙ at)

-- where none has a unit each has room
pub room_of_none : (n : ℕ) (parts : List Partition) (shares : List (List Change)) → HaveNone n parts → HaveRoom n parts shares
room_of_none n parts shares none = record { each = λ p low x at c cs share. subst (λ (k : ℕ). k < most_units) (sym (none.each p low x at)) (omega arith) }
