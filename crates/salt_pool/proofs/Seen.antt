-- What the layer above sees of a pool's frames and of its dirty pages behind each call.
use Rattle.salt_bytes.specs.Spellable.{Every}
use Rattle.salt_checkpoint.specs.Sides.{KeepsNamed, NamedSame}
use Rattle.salt_disk.specs.Disks.{View}
use Rattle.salt_pool.proofs.Frames.{first_found, none_found, removed_apart, stays}
use Rattle.salt_pool.proofs.Numbers.{equal, same, true_is_not_false}
use Rattle.salt_pool.proofs.Pools.{framed_each}
use Rattle.salt_pool.specs.Dirtied.{goes_to, is_dirty, put_dirty}
use Rattle.salt_pool.specs.Flushing.{AreSpared, KeepsSides, SameSides}
use Rattle.salt_pool.specs.Frames.{beside, victim, without}
use Rattle.salt_pool.specs.Pools.{IsPool, dirty_of, frame_of, with_frame}
use Rattle.salt_pool.specs.declared.places.Dirty.{Dirty}
use Rattle.salt_pool.specs.declared.pool.Pool.{Pool}
use Rattle.std.proofs.Common.{Bool, List, None, Option, Some, [], ap, cond, false, inl, inr, is_some, nat_eq, refl, subst, sym, true, ℕ, ◌&&◌, ◌||◌, ◌≡◌, ◌⊎◌, ◌∙◌, ◌∷◌}
use Rattle.std.specs.List.{IsDistinct}
use Rattle.std.specs.Map.{keys_of, lookup, remove_entry}
use Rattle.std.specs.Prelude.{nat_lt}

-- FRAMES

none_or_some : {X : Type 0} (o : Option X) (own : X) → o ≡ None → o ≡ Some own → ⊥
none_or_some o own none some = cc (none, some)

gone : {X : Type 0} (q v : ℕ) (es : List (ℕ × X)) → IsDistinct nat_eq (keys_of es) → q ≡ v → lookup (nat_eq q) (remove_entry (nat_eq v) es) ≡ None
gone q v es distinct is = subst (λ n. lookup (nat_eq n) (remove_entry (nat_eq v) es) ≡ None) (sym is) (none_found v (remove_entry (nat_eq v) es) (removed_apart v es distinct))

kept : {X : Type 0} (q : ℕ) (o : Option ℕ) (es : List (ℕ × X)) (own : X) → IsDistinct nat_eq (keys_of es) → lookup (nat_eq q) (without o es) ≡ Some own → lookup (nat_eq q) es ≡ Some own
kept q None es own distinct shown = shown
kept q (Some v) es own distinct shown = by (nat_eq q v) refl
  where
    by : (b : Bool) → nat_eq q v ≡ b → lookup (nat_eq q) es ≡ Some own
    by true is = absurd (none_or_some (lookup (nat_eq q) (remove_entry (nat_eq v) es)) own (gone q v es distinct (equal q v is)) shown)
    by false is = sym (stays q v es is) ∙ shown

beside_kept : {X : Type 0} (q page : ℕ) (ds : List Dirty) (es : List (ℕ × X)) (own : X) → IsDistinct nat_eq (keys_of es) → nat_eq q page ≡ false
    → (o : Option X) → lookup (nat_eq page) es ≡ o → lookup (nat_eq q) (cond (is_some o) (remove_entry (nat_eq page) es) (without (victim ds es) es)) ≡ Some own → lookup (nat_eq q) es ≡ Some own
beside_kept q page ds es own distinct apart None none there = kept q (victim ds es) es own distinct there
beside_kept q page ds es own distinct apart (Some r) some there = sym (stays q page es apart) ∙ there

value : {X : Type 0} (p own : X) → Some p ≡ Some own → own ≡ p
value p own same = cc

module _ {P C : Type 0} (x : Pool P C) (page : ℕ) (p : P) where
  pub frame_own : frame_of (with_frame x page p) page ≡ Some p
  frame_own = first_found page p (beside x.dirty.items x.frames.entries page)

  -- a page that has a frame then is this one, or had it before
  pub frame_any : (q : ℕ) (own : P) → IsPool x → frame_of (with_frame x page p) q ≡ Some own → ((q ≡ page) × (own ≡ p)) ⊎ (frame_of x q ≡ Some own)
  frame_any q own is shown = by (nat_eq q page) refl shown
    where
      by : (b : Bool) → nat_eq q page ≡ b → cond b (Some p) (lookup (nat_eq q) (beside x.dirty.items x.frames.entries page)) ≡ Some own → ((q ≡ page) × (own ≡ p)) ⊎ (lookup (nat_eq q) x.frames.entries ≡ Some own)
      by true it there = inl (equal q page it, value p own there)
      by false apart there = inr (beside_kept q page x.dirty.items x.frames.entries own is.distinct apart (lookup (nat_eq page) x.frames.entries) refl there)

-- each dirty page has a frame
pub dirty_framed : {P C : Type 0} (x : Pool P C) (q : ℕ) → IsPool x → is_dirty (dirty_of x) q ≡ true → is_some (frame_of x q) ≡ true
dirty_framed x q is dirty = framed_each q x.dirty.items x.frames.entries is.framed dirty

-- DIRTY PAGES

pub is_dirty_put : (d : Dirty) (ds : List Dirty) (q : ℕ) → is_dirty (put_dirty d ds) q ≡ (nat_eq d.page q || is_dirty ds q)
is_dirty_put d [] q = refl
is_dirty_put d (e ∷ ds) q = by (nat_lt e.page d.page) (nat_eq e.page d.page) refl (is_dirty_put d ds q)
  where
    turn : (a b c : Bool) → (a || (b || c)) ≡ (b || (a || c))
    turn true true c = refl
    turn true false c = refl
    turn false b c = refl

    twice : (a c : Bool) → (a || c) ≡ (a || (a || c))
    twice true c = refl
    twice false c = refl

    by : (b c : Bool) → nat_eq e.page d.page ≡ c → is_dirty (put_dirty d ds) q ≡ (nat_eq d.page q || is_dirty ds q) → is_dirty (cond b (e ∷ put_dirty d ds) (cond c (d ∷ ds) (d ∷ e ∷ ds))) q ≡ (nat_eq d.page q || (nat_eq e.page q || is_dirty ds q))
    by true c is on = ap (λ t. nat_eq e.page q || t) on ∙ turn (nat_eq e.page q) (nat_eq d.page q) (is_dirty ds q)
    by false true is on = twice (nat_eq d.page q) (is_dirty ds q) ∙ ap (λ n. nat_eq d.page q || (nat_eq n q || is_dirty ds q)) (sym (equal e.page d.page is))
    by false false is on = refl

pub every_put : (P : Dirty → Type 0) (d : Dirty) (ds : List Dirty) → P d → Every P ds → Every P (put_dirty d ds)
every_put P d [] own each = (own, tt)
every_put P d (e ∷ ds) own each = by (nat_lt e.page d.page) (nat_eq e.page d.page) (every_put P d ds own each.1)
  where
    by : (b c : Bool) → Every P (put_dirty d ds) → Every P (cond b (e ∷ put_dirty d ds) (cond c (d ∷ ds) (d ∷ e ∷ ds)))
    by true c on = (each.0, on)
    by false true on = (own, each.1)
    by false false on = (own, (each.0, each.1))

-- what holds of a list's pages holds of those of a longer one
more : (d : Dirty) (ds es : List Dirty) → Every (λ e. is_dirty ds e.page ≡ true) es → Every (λ e. is_dirty (d ∷ ds) e.page ≡ true) es
more d ds [] each = tt
more d ds (e ∷ es) each = (by (nat_eq d.page e.page) (is_dirty ds e.page) each.0, more d ds es each.1)
  where
    by : (a b : Bool) → b ≡ true → (a || b) ≡ true
    by true b is = refl
    by false b is = is

pub each_dirty : (ds : List Dirty) → Every (λ d. is_dirty ds d.page ≡ true) ds
each_dirty [] = tt
each_dirty (d ∷ ds) = (ap (λ t. t || is_dirty ds d.page) (same d.page), more d ds ds (each_dirty ds))

-- WHERE THEY GO

pub goes_none : (page side : ℕ) (ds : List Dirty) → Every (λ d. (d.page ≡ page) × (d.side ≡ side) → ⊥) ds → goes_to ds page side ≡ false
goes_none page side [] apart = refl
goes_none page side (d ∷ ds) apart = by (nat_eq d.page page) refl (nat_eq d.side side) refl (goes_none page side ds apart.1)
  where
    by : (a : Bool) → nat_eq d.page page ≡ a → (b : Bool) → nat_eq d.side side ≡ b → goes_to ds page side ≡ false → ((nat_eq d.page page && nat_eq d.side side) || goes_to ds page side) ≡ false
    by true one true two on = absurd (apart.0 (equal d.page page one, equal d.side side two))
    by true one false two on = (λ i. (one i && two i) || on i)
    by false one b two on = (λ i. (one i && nat_eq d.side side) || on i)

-- nor to a page that is not dirty
pub goes_clean : (page side : ℕ) (ds : List Dirty) → is_dirty ds page ≡ false → goes_to ds page side ≡ false
goes_clean page side [] clean = refl
goes_clean page side (d ∷ ds) clean = by (nat_eq d.page page) refl (λ h. goes_clean page side ds h)
  where
    by : (a : Bool) → nat_eq d.page page ≡ a → (is_dirty ds page ≡ false → goes_to ds page side ≡ false) → ((nat_eq d.page page && nat_eq d.side side) || goes_to ds page side) ≡ false
    by true is on = absurd (true_is_not_false (ap (λ t. t || is_dirty ds page) (sym is) ∙ clean))
    by false is on = (λ i. (is i && nat_eq d.side side) || on (ap (λ t. t || is_dirty ds page) (sym is) ∙ clean) i)

module _ (sides : List ℕ) (len : ℕ) (ds : List Dirty) where
  pub named_same : (old new : List ℕ) → AreSpared sides len ds → SameSides len ds old new → NamedSame sides old new
  named_same old new spared keeps = record { each = λ page side named. let known = spared.each page side named in keeps.each page side known.0 known.1 known.2 }

  pub keeps_named : (old new : View) (dev : ℕ) → AreSpared sides len ds → KeepsSides len ds old new dev → KeepsNamed sides old new dev
  keeps_named old new dev spared keeps c left =
      let from = keeps c left in
      (from.0, from.1, named_same from.0 c spared from.2)
