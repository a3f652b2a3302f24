-- A store behind calls, the first of which may write, the second reads alone, and the third makes room.
use Rattle.salt_checkpoint.proofs.Torn.{keeps_more, named_on}
use Rattle.salt_checkpoint.specs.Sides.{KeepsNamed, NamedSame}
use Rattle.salt_disk.proofs.CallAfterCall.{keeps_on, keeps_wider}
use Rattle.salt_disk.specs.Disks.{KeepsAll, KeepsOthers, View}
use Rattle.salt_disk.specs.declared.disks.DiskErr.{DiskErr}
use Rattle.salt_model.specs.Tables.{Tables}
use Rattle.salt_rows.proofs.Put.{images_kept, named_kept}
use Rattle.salt_rows.specs.Stores.{HasRowsStanding, IsRowStore, IsStanding, StandsOnPages, device_of}
use Rattle.salt_rows.specs.declared.store.RowStore.{RowStore}
use Rattle.std.proofs.Common.{Err, IsTrue, List, None, Ok, OnOk, Option, Result, ℕ, ◌≡◌, ◌∙◌}

module _ (d e1 e2 : View) (x : RowStore) (took : KeepsOthers (device_of x) d e1 None) (answer : Option DiskErr) (kept : KeepsAll e1 e2 answer) where
  pub others_put : KeepsOthers (device_of x) d e2 answer
  others_put = keeps_on (λ n. n ≡ device_of x) d e1 e2 answer took (keeps_wider (λ _. ⊥) (λ n. n ≡ device_of x) e1 e2 answer (λ dev h. absurd h) kept)

  pub images_put : ((dev : ℕ) (named : List ℕ) (t : Tables) → IsRowStore d x dev named t → KeepsNamed named d e1 dev) → (dev : ℕ) (named : List ℕ) (t : Tables) → IsRowStore d x dev named t → KeepsNamed named d e2 dev
  images_put images dev named t is = images_kept named d e1 e2 dev answer (images dev named t is) kept

module _ (d e1 e2 e3 : View) (x x2 x3 : RowStore) (to : Tables → Tables) (stands : (dev : ℕ) (named : List ℕ) (t : Tables) → IsRowStore d x dev named t → IsStanding e2 x2 dev named (to t)) where
  pub some_standing : StandsOnPages d x → HasRowsStanding e2 x2
  some_standing s = record { dev = s.dev; named = s.named; t = to s.t; is = stands s.dev s.named s.t s.is }

  module _ (took : KeepsOthers (device_of x) d e1 None) (kept : KeepsAll e1 e2 None) where
    pub images_room : ((dev : ℕ) (named : List ℕ) (t : Tables) → IsRowStore d x dev named t → KeepsNamed named d e1 dev) → ((dev : ℕ) (named : List ℕ) (t : Tables) → IsStanding e2 x2 dev named t → KeepsNamed named e2 e3 dev)
        → (dev : ℕ) (named : List ℕ) (t : Tables) → IsRowStore d x dev named t → KeepsNamed named d e3 dev
    images_room first second dev named t is = keeps_more named d e2 e3 dev (images_kept named d e1 e2 dev None (first dev named t is) kept) (second dev named (to t) (stands dev named t is))

    pub named_room : {T : Type 0} (r : Result T DiskErr) → ((dev : ℕ) (named : List ℕ) (t : Tables) → IsRowStore d x dev named t → IsTrue d.told → NamedSame named (d.bytes dev) (e1.bytes dev))
        → ((dev : ℕ) (named : List ℕ) (t : Tables) → IsStanding e2 x2 dev named t → IsTrue e2.told → OnOk r (NamedSame named (e2.bytes dev) (e3.bytes dev)))
        → (dev : ℕ) (named : List ℕ) (t : Tables) → IsRowStore d x dev named t → IsTrue d.told → OnOk r (NamedSame named (d.bytes dev) (e3.bytes dev))
    named_room {T} r first second dev named t is told =
        on r (named_kept named d e1 e2 dev (first dev named t is told) kept) (second dev named (to t) (stands dev named t is) ((others_put d e1 e2 x took None kept).shape.told ∙ told))
      where
        on : (s : Result T DiskErr) → NamedSame named (d.bytes dev) (e2.bytes dev) → OnOk s (NamedSame named (e2.bytes dev) (e3.bytes dev)) → OnOk s (NamedSame named (d.bytes dev) (e3.bytes dev))
        on (Ok y) before behind = named_on named (d.bytes dev) (e2.bytes dev) (e3.bytes dev) before behind
        on (Err y) before behind = tt
