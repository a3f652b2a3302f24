-- A store whose pages are written, and then made stable.
use Rattle.rows_pages.specs.Headers.{IsWritten}
use Rattle.salt_bytes.specs.Spellable.{Every}
use Rattle.salt_disk.specs.Disks.{AreUnchanged, KeepsOthers, View}
use Rattle.salt_rows.proofs.Reading.{standing_kept}
use Rattle.salt_rows.proofs.Written.{store_named}
use Rattle.salt_rows.specs.Stores.{HaveRows, IsRowStore, IsSide, StandsOnPages, with_named}
use Rattle.salt_disk.specs.declared.disks.DiskErr.{DiskErr}
use Rattle.salt_model.specs.Tables.{Tables}
use Rattle.salt_rows.specs.declared.error.RowsErr.{RowsErr}
use Rattle.salt_rows.specs.declared.store.RowStore.{RowStore}
use Rattle.std.proofs.Common.{Bool, Err, IfOk, IsTrue, List, None, Ok, OnOk, Result, inl, inr, subst, sym, ℕ, ◌≡◌, ◌⊎◌}
use Rattle.std.proofs.lemmas.Bool.{cases_eq}

-- a store on devices that have the same bytes
pub synced : (d e : View) (x : RowStore) → KeepsOthers 0 d e None → e.bytes 0 ≡ d.bytes 0 → StandsOnPages d x → StandsOnPages e x
synced d e x others same s = record {
  dev = s.dev;
  named = s.named;
  t = s.t;
  is = record { is = standing_kept d x s.dev s.named s.t s.is.is e others.shape (by (cases_eq s.dev 0)); few = s.is.few };
}
  where
    by : (s.dev ≡ 0) ⊎ (s.dev ≡ 0 → ⊥) → e.bytes s.dev ≡ d.bytes s.dev
    by (inl first) = subst (λ n. e.bytes n ≡ d.bytes n) (sym first) same
    by (inr other) = (others.kept s.dev other).bytes

pub unchanged : (d e : View) (x : RowStore) → AreUnchanged d e → StandsOnPages d x → StandsOnPages e x
unchanged d e x are s = record {
  dev = s.dev;
  named = s.named;
  t = s.t;
  is = record { is = standing_kept d x s.dev s.named s.t s.is.is e are.shape (are.each s.dev).bytes; few = s.is.few };
}

-- behind a call that went well
pub stands_then : {T : Type 0} (r : Result T DiskErr) (d e : View) (x y : RowStore) (to : Tables → Tables) → ((dev : ℕ) (named : List ℕ) (t : Tables) → IsRowStore d x dev named t → OnOk r (IsRowStore e y dev named (to t)))
    → StandsOnPages d x → OnOk r (StandsOnPages e y)
stands_then (Ok v) d e x y to on s = record { dev = s.dev; named = s.named; t = to s.t; is = on s.dev s.named s.t s.is }
stands_then (Err k) d e x y to on s = tt

-- a store that was opened
pub opened_stands : (r : Result RowStore RowsErr) (d e : View) (nulls : Bool) (dev : ℕ) (named : List ℕ) → IfOk r (λ x. (t : Tables) × IsRowStore e x dev named t × (IsTrue d.told → HaveRows nulls (d.bytes dev) named t)) → IfOk r (λ x. StandsOnPages e x)
opened_stands (Ok x) d e nulls dev named is = record { dev = dev; named = named; t = is.0; is = is.1 }
opened_stands (Err k) d e nulls dev named is = tt

-- each of the sides is one
pub written_sides : (d : View) (x : RowStore) (sides : List ℕ) → IsWritten d x sides → Every IsSide sides
written_sides d x sides w = subst (Every IsSide) (sym w.same) w.stands.is.is.kept.sides_low

-- the header names them
pub named_now : (d : View) (x : RowStore) (sides : List ℕ) → IsWritten d x sides → StandsOnPages d (with_named x sides)
named_now d x sides w = record { dev = w.stands.dev; named = sides; t = w.stands.t; is = store_named d x w.stands.dev w.stands.named sides w.stands.t w.stands.is w.clean w.same }

pub sides_then : (r : Result (List ℕ) DiskErr) (d : View) (x : RowStore) → IfOk r (λ sides. IsWritten d x sides) → IfOk r (Every IsSide)
sides_then (Ok sides) d x w = written_sides d x sides w
sides_then (Err k) d x w = tt

-- how far changes are made to it
pub record StandsOn (d0 d : View) (x : RowStore) : Type 0 where
  pub stands : StandsOnPages d x
  pub count : d.count ≡ d0.count
