-- What a store says where a row was to be replaced, and room was made then.
use Rattle.salt_checkpoint.proofs.Torn.{keeps_all, keeps_more}
use Rattle.salt_checkpoint.specs.Sides.{KeepsNamed, NamedSame}
use Rattle.salt_directory.specs.Pages.{page_of}
use Rattle.salt_disk.specs.Disks.{KeepsAll, View}
use Rattle.salt_model.specs.Tables.{Tables, remove_at, set_row}
use Rattle.salt_model.specs.declared.places.Place.{Place}
use Rattle.salt_rows.proofs.Changing.{store_without}
use Rattle.salt_rows.specs.Stores.{IsRowStore, IsStanding, HasRowsStanding, StandsOnPages}
use Rattle.salt_rows.specs.declared.store.RowStore.{RowStore}
use Rattle.salt_values.specs.declared.value.Value.{Value}
use Rattle.std.proofs.Common.{Bool, Bor, IsTrue, List, None, Option, Some, ap, false, is_some, not, option_copied, refl, subst, true, ℕ, ◌≡◌, ◌∙◌}

clash : true ≡ false → ⊥
clash e = cc

-- WITH A PAGE

module _ (d e1 : View) (x x1 : RowStore) (q : Place) (row : Option (List Value)) (put : Bool)
    (puts : (dev : ℕ) (named : List ℕ) (t : Tables) → IsRowStore d x dev named t → IsTrue put → IsStanding e1 x1 dev named (set_row q row t))
    (gones : (dev : ℕ) (named : List ℕ) (t : Tables) → IsRowStore d x dev named t → put ≡ false → IsStanding e1 x1 dev named (remove_at q t)) where
  pub either : (dev : ℕ) (named : List ℕ) (t : Tables) → IsRowStore d x dev named t → (u : Tables) × IsStanding e1 x1 dev named u
  either dev named t is = by put refl
    where
      by : (b : Bool) → put ≡ b → (u : Tables) × IsStanding e1 x1 dev named u
      by true e = (set_row q row t, puts dev named t is e)
      by false e = (remove_at q t, gones dev named t is e)

  pub some_stands : StandsOnPages d x → HasRowsStanding e1 x1
  some_stands s = let u = either s.dev s.named s.t s.is in record { dev = s.dev; named = s.named; t = u.0; is = u.1 }

  module _ (e2 : View) (kept : KeepsAll d e1 None) where
    pub images_on : ((dev : ℕ) (named : List ℕ) (t : Tables) → IsStanding e1 x1 dev named t → KeepsNamed named e1 e2 dev) → (dev : ℕ) (named : List ℕ) (t : Tables) → IsRowStore d x dev named t → KeepsNamed named d e2 dev
    images_on images dev named t is = let u = either dev named t is in keeps_more named d e1 e2 dev (keeps_all named d e1 dev (kept.images dev (λ h. h))) (images dev named u.0 u.1)

    pub sides_on : ((dev : ℕ) (named : List ℕ) (t : Tables) → IsStanding e1 x1 dev named t → IsTrue e1.told → NamedSame named (e1.bytes dev) (e2.bytes dev))
        → (dev : ℕ) (named : List ℕ) (t : Tables) → IsRowStore d x dev named t → IsTrue d.told → NamedSame named (d.bytes dev) (e2.bytes dev)
    sides_on sides dev named t is told = let u = either dev named t is in subst (λ (bytes : List ℕ). NamedSame named bytes (e2.bytes dev)) (kept.kept dev (λ h. h)).bytes (sides dev named u.0 u.1 (kept.shape.told ∙ told))

-- WITHOUT ONE

pub left_without : (d : View) (x : RowStore) (q : Place) → page_of x.directory q ≡ None → (dev : ℕ) (named : List ℕ) (t : Tables) → IsRowStore d x dev named t → IsRowStore d x dev named (remove_at q t)
left_without d x q lacks dev named t is = record { is = store_without d x dev named t q is.is lacks; few = is.few }

-- no row is given
pub row_none : (row : Option (Bor (List Value))) (none : Bool) → is_some row ≡ not none → none ≡ true → option_copied row ≡ None
row_none None none so given = refl
row_none (Some row) none so given = absurd (clash (so ∙ ap not given))
