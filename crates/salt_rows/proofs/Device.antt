-- What a device gives where a page stands, and how long it is.
use Rattle.salt_bytes.specs.Page.{page_length, page_place, rows_in_page}
use Rattle.salt_checkpoint.specs.Sides.{side_bytes}
use Rattle.salt_directory.proofs.PageAt.{no_page, page_is}
use Rattle.salt_disk.proofs.CallAfterCall.{cause_none, cause_on, keeps_on}
use Rattle.salt_disk.specs.Disks.{HasCause, IsRead, KeepsAll, View}
use Rattle.salt_gatelog.proofs.Entries.{not_told}
use Rattle.salt_rows.proofs.Applied.{keeps_same}
use Rattle.salt_stands.specs.Partition.{page_at}
use Rattle.std.proofs.Common.{Bool, IsTrue, List, None, ap, arith, drop, false, inl, inr, length, length-drop, length-take, refl, subst, sym, take, ℕ, ◌*◌, ◌+◌, ◌<◌, ◌^◌, ◌≡◌, ◌≤◌, ◌⊎◌, ◌∙◌}
use Rattle.std.proofs.lemmas.List.{take_all}

-- A PAGE

module _ (bytes : List ℕ) (page side at : ℕ) (old new : List ℕ) (n : ℕ) (read : IsRead bytes at old new n) (here : at ≡ page_place page side) (room : length old ≡ 8192) where
  count : n ≡ length (side_bytes bytes page side)
  count = read.count ∙ λ i. length (take (room i) (drop (here i) bytes))

  pub short_page : (nulls : Bool) → n < 8192 → page_at nulls bytes page side ≡ None
  short_page nulls short = no_page nulls bytes page side (omega (arith, count, short))

  pub whole_page : (nulls : Bool) → 8192 ≤ n → length new ≡ 8192 → page_at nulls bytes page side ≡ rows_in_page nulls new
  whole_page nulls long same =
      let few : n ≤ 8192 = omega (arith, count, length-take page_length (drop (page_place page side) bytes)) in
      let is : new ≡ side_bytes bytes page side = sym (take_all n new (omega (arith, same, long))) ∙ read.bytes ∙ λ i. take (room i) (drop (here i) bytes) in
      page_is nulls bytes page side (omega (arith, count, long, few)) ∙ ap (rows_in_page nulls) (sym is)

-- THE LENGTH

module _ (bytes : List ℕ) (at : ℕ) (old new : List ℕ) (n : ℕ) (room : length old ≡ 8192) (read : IsRead bytes at old new n) where
  left_of : n ≡ length (take (length old) (drop at bytes))
  left_of = read.count

  pub ends_there : n < 8192 → at ≤ length bytes → at + n ≡ length bytes
  ends_there short low = omega (arith, left_of, room, length-take (length old) (drop at bytes), length-drop at bytes, short, low)

  pub goes_beyond : 8192 ≤ n → at + 8192 ≤ length bytes
  goes_beyond long = omega (arith, left_of, room, length-take (length old) (drop at bytes), length-drop at bytes, long)

-- the device reaches to this side, as reads found that wrote nothing
pub record IsReaching (d0 d : View) (dev from side : ℕ) : Type 0 where
  pub above : from ≤ side
  pub reached : IsTrue d0.told → side * 8192 ≤ length (d0.bytes dev)
  pub bounded : IsTrue d0.told → (side ≡ from) ⊎ (length (d0.bytes dev) < 2 ^ 64)
  pub kept : KeepsAll d0 d None
  pub cause : HasCause d0 d None

pub reaching_begins : (d0 : View) (dev from : ℕ) → (IsTrue d0.told → from * 8192 ≤ length (d0.bytes dev)) → IsReaching d0 d0 dev from from
reaching_begins d0 dev from reached = record { above = omega arith; reached = reached; bounded = λ told. inl refl; kept = keeps_same (λ _. ⊥) d0; cause = cause_none d0 }

module _ (d0 d e : View) (dev from side : ℕ) (so : IsReaching d0 d dev from side) (old new : List ℕ) (n : ℕ) (room : length old ≡ 8192) (read : IsTrue d.told → IsRead (d.bytes dev) (side * 8192) old new n) where
  same : d.bytes dev ≡ d0.bytes dev
  same = (so.kept.kept dev (λ h. h)).bytes

  read_first : IsTrue d0.told → IsRead (d0.bytes dev) (side * 8192) old new n
  read_first told = subst (λ (bytes : List ℕ). IsRead bytes (side * 8192) old new n) same (read (so.kept.shape.told ∙ told))

  pub length_found : n < 8192 → IsTrue d0.told → side * 8192 + n ≡ length (d0.bytes dev)
  length_found short told = ends_there (d0.bytes dev) (side * 8192) old new n room (read_first told) short (so.reached told)

  pub reaching_on : 8192 ≤ n → (IsTrue d.told → length (d.bytes dev) < 2 ^ 64) → KeepsAll d e None → HasCause d e None → IsReaching d0 e dev from (side + 1)
  reaching_on long bound kept cause = record {
    above = omega (arith, so.above);
    reached = λ told. let beyond = goes_beyond (d0.bytes dev) (side * 8192) old new n room (read_first told) long in omega (arith, beyond);
    bounded = λ told. inr (subst (λ (bytes : List ℕ). length bytes < 2 ^ 64) same (bound (so.kept.shape.told ∙ told)));
    kept = keeps_on (λ _. ⊥) d0 d e None so.kept kept;
    cause = cause_on d0 d e None so.cause cause;
  }

-- no device is that long
pub never_reaches : (d0 d : View) (dev from side : ℕ) → from ≤ 2 ^ 33 → 2 ^ 51 ≤ side → IsReaching d0 d dev from side → d.told ≡ false
never_reaches d0 d dev from side few far so = not_told d.told (λ told. by (sym so.kept.shape.told ∙ told))
  where
    by : IsTrue d0.told → ⊥
    by told = either (so.bounded told)
      where
        either : (side ≡ from) ⊎ (length (d0.bytes dev) < 2 ^ 64) → ⊥
        either (inl first) = omega (arith, first, few, far)
        either (inr short) = omega (arith, short, so.reached told, far)
