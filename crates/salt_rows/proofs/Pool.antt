-- What is used of pools: frames, and pages that are to be written.
use Rattle.salt_bytes.specs.Page.{TableRow}
use Rattle.salt_bytes.specs.Spellable.{Every}
use Rattle.salt_pool.proofs.Seen.{frame_any}
use Rattle.salt_pool.specs.Dirtied.{is_dirty}
use Rattle.salt_pool.specs.Pools.{IsPool, with_frame}
use Rattle.salt_pool.specs.declared.places.Dirty.{Dirty}
use Rattle.salt_rows.specs.Frames.{Frames}
use Rattle.std.proofs.Common.{Bool, List, Some, [], false, inl, inr, nat_eq, refl, true, ℕ, ◌||◌, ◌≡◌, ◌⊎◌, ◌∷◌}
use Rattle.std.proofs.lemmas.Bool.Decides.{Decides-eqb}
use Rattle.std.specs.Map.{lookup}

pub every_both : {A : Type 0} (P Q : A → Type 0) (xs : List A) → Every P xs → Every Q xs → Every (λ x. P x × Q x) xs
every_both P Q [] h k = tt
every_both P Q (x ∷ xs) h k = ((h.0, k.0), every_both P Q xs h.1 k.1)

pub every_weaker : {A : Type 0} (P Q : A → Type 0) → ((x : A) → P x → Q x) → (xs : List A) → Every P xs → Every Q xs
every_weaker P Q on [] h = tt
every_weaker P Q on (x ∷ xs) h = (on x h.0, every_weaker P Q on xs h.1)

-- the one that is this page
pub the_dirty : (P : Dirty → Type 0) (ds : List Dirty) (q : ℕ) → Every P ds → is_dirty ds q ≡ true → (d : Dirty) × (d.page ≡ q) × P d
the_dirty P [] q all is = cc
the_dirty P (d ∷ ds) q all is = by (nat_eq d.page q) refl is (λ h. the_dirty P ds q all.1 h)
  where
    by : (b : Bool) → nat_eq d.page q ≡ b → (b || is_dirty ds q) ≡ true → (is_dirty ds q ≡ true → (e : Dirty) × (e.page ≡ q) × P e) → (e : Dirty) × (e.page ≡ q) × P e
    by true e h on = (d, (Decides-eqb d.page q).0 e, all.0)
    by false e h on = on h

-- another page that has a frame had it before
pub frame_other : (x : Frames) (page : ℕ) (rows : List TableRow) (q : ℕ) (own : List TableRow) → IsPool x → (q ≡ page → ⊥) → lookup (nat_eq q) (with_frame x page rows).frames.entries ≡ Some own → lookup (nat_eq q) x.frames.entries ≡ Some own
frame_other x page rows q own pool other is = by (frame_any x page rows q own pool is)
  where
    by : ((q ≡ page) × (own ≡ rows)) ⊎ (lookup (nat_eq q) x.frames.entries ≡ Some own) → lookup (nat_eq q) x.frames.entries ≡ Some own
    by (inl same) = absurd (other same.0)
    by (inr h) = h
