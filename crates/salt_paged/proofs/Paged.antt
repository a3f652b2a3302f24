-- The store of a partition's rows, and the sides that its header names, behind calls.
use Rattle.salt_checkpoint.proofs.Torn.{named_back, named_on}
use Rattle.salt_checkpoint.specs.Checkpoints.{NamedSettled}
use Rattle.salt_checkpoint.specs.Sides.{KeepsNamed, NamedSame}
use Rattle.salt_disk.specs.Disks.{IsUnchanged, SameShape, View}
use Rattle.salt_model.specs.Tables.{Tables}
use Rattle.salt_rows.specs.Stores.{HasRows, IsRowStore}
use Rattle.salt_rows.specs.declared.store.RowStore.{RowStore}
use Rattle.std.proofs.Common.{Bool, IsTrue, List, arith, false, refl, subst, sym, true, ℕ, ◌≡◌, ◌∙◌}

-- a device that is not touched has the same rows
pub store_kept : (d e : View) (x : RowStore) (dev : ℕ) (named : List ℕ) (t : Tables) → SameShape d e → e.bytes dev ≡ d.bytes dev → IsRowStore d x dev named t → IsRowStore e x dev named t
store_kept d e x dev named t shape same is = record {
  is = record {
    device = is.is.device;
    known = omega (arith, is.is.known, shape.count);
    names = is.is.names;
    kept = is.is.kept;
    told = λ now. subst (λ (b : List ℕ). HasRows b x t) (sym same) (is.is.told (sym shape.told ∙ now));
  };
  few = is.few;
}

pub true_is_not_false : true ≡ false → ⊥
true_is_not_false e = cc

-- where the disks don't tell, nothing is said of the tables
pub store_untold : (d : View) (x : RowStore) (dev : ℕ) (named : List ℕ) (t u : Tables) → d.told ≡ false → IsRowStore d x dev named t → IsRowStore d x dev named u
store_untold d x dev named t u untold is = record {
  is = record {
    device = is.is.device;
    known = is.is.known;
    names = is.is.names;
    kept = is.is.kept;
    told = λ now. absurd (true_is_not_false (sym now ∙ untold));
  };
  few = is.few;
}

-- whether they tell or not, the tables may be said in another way where they tell
pub store_as : (d : View) (x : RowStore) (dev : ℕ) (named : List ℕ) (t u : Tables) → (IsTrue d.told → t ≡ u) → IsRowStore d x dev named t → IsRowStore d x dev named u
store_as d x dev named t u same is = by d.told refl
  where
    by : (told : Bool) → d.told ≡ told → IsRowStore d x dev named u
    by true told = subst (λ k. IsRowStore d x dev named k) (same told) is
    by false untold = store_untold d x dev named t u untold is

-- NAMED SIDES

pub settled_named_kept : (sides : List ℕ) (d e : View) (dev : ℕ) → IsUnchanged d e dev → NamedSettled sides d dev → NamedSettled sides e dev
settled_named_kept sides d e dev same settled c left = subst (λ (b : List ℕ). NamedSame sides b c) (sym same.bytes) (settled c (same.images c left))

-- behind writes to other sides
pub settled_named_on : (sides : List ℕ) (d e : View) (dev : ℕ) → KeepsNamed sides d e dev → NamedSame sides (d.bytes dev) (e.bytes dev) → NamedSettled sides d dev → NamedSettled sides e dev
settled_named_on sides d e dev keeps same settled c left =
    let from = keeps c left in
    named_on sides (e.bytes dev) (d.bytes dev) c (named_back sides (d.bytes dev) (e.bytes dev) same) (named_on sides (d.bytes dev) from.0 c (settled from.0 from.1) from.2)
