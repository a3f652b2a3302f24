-- A pool with a page in its frame: what the calls of the cache make is this, and it is a pool.
use Rattle.lru.specs.LruCache.{LruCache, lru_cache, put_entries}
use Rattle.salt_pool.proofs.Clean.{all_taken, clean}
use Rattle.salt_pool.proofs.Dirtied.{framed_put, rising_put, sides_put}
use Rattle.salt_pool.proofs.Distinct.{none_distinct, with_first}
use Rattle.salt_pool.proofs.Frames.{none_equal, put_first, removed_apart, removed_length, removes_all, removes_behind, removes_distinct, set_first, set_promoted, stays}
use Rattle.salt_pool.proofs.Numbers.{equal, same, true_is_not_false}
use Rattle.salt_pool.specs.Dirtied.{AreSides, IsRisingFrom, is_dirty}
use Rattle.salt_pool.specs.Flushing.{AreFramed}
use Rattle.salt_pool.specs.Frames.{beside, last_clean, victim, without}
use Rattle.salt_pool.specs.Pools.{IsPool, flushed, with_dirty, with_frame, with_length, with_page}
use Rattle.salt_pool.specs.declared.places.Dirty.{Dirty}
use Rattle.salt_pool.specs.declared.pool.Pool.{Pool}
use Rattle.std.proofs.Common.{Bool, List, None, Option, Some, [], ap, arith, cond, false, is_some, length, nat_eq, refl, subst, suc, sym, true, ℕ, ◌||◌, ◌<◌, ◌≡◌, ◌≤◌, ◌∙◌, ◌∷◌}
use Rattle.std.proofs.lemmas.Bool.Decides.{nat_tests}
use Rattle.std.specs.List.{IsDistinct}
use Rattle.std.specs.Map.{keys_of, lookup, remove_entry}
use Rattle.std.specs.Prelude.{nat_lt}

-- each dirty page has a frame, page by page
pub framed_each : {X : Type 0} (q : ℕ) (ds : List Dirty) (es : List (ℕ × X)) → AreFramed es ds → is_dirty ds q ≡ true → is_some (lookup (nat_eq q) es) ≡ true
framed_each q [] es framed dirty = cc
framed_each q (d ∷ ds) es framed dirty = by (nat_eq d.page q) refl (λ h. framed_each q ds es framed.1 h)
  where
    by : (b : Bool) → nat_eq d.page q ≡ b → (is_dirty ds q ≡ true → is_some (lookup (nat_eq q) es) ≡ true) → is_some (lookup (nat_eq q) es) ≡ true
    by true is on = ap (λ n. is_some (lookup (nat_eq n) es)) (sym (equal d.page q is)) ∙ framed.0
    by false is on = on (ap (λ t. t || is_dirty ds q) (sym is) ∙ dirty)

framed_from : {X : Type 0} (ds : List Dirty) (es : List (ℕ × X)) → ((q : ℕ) → is_dirty ds q ≡ true → is_some (lookup (nat_eq q) es) ≡ true) → AreFramed es ds
framed_from [] es each = tt
framed_from (d ∷ ds) es each = (each d.page (ap (λ t. t || is_dirty ds d.page) (same d.page)), framed_from ds es (λ q dirty. each q (more (nat_eq d.page q) (is_dirty ds q) dirty)))
  where
    more : (a b : Bool) → b ≡ true → (a || b) ≡ true
    more true b is = refl
    more false b is = is

none_is_not_some : (v : ℕ) → None ≡ Some v → ⊥
none_is_not_some v e = cc

module _ {X : Type 0} (page : ℕ) (ds : List Dirty) (es : List (ℕ × X)) where
  pub beside_found : is_some (lookup (nat_eq page) es) ≡ true → beside ds es page ≡ remove_entry (nat_eq page) es
  beside_found some = ap (λ b. cond b (remove_entry (nat_eq page) es) (without (victim ds es) es)) some

  pub beside_none : lookup (nat_eq page) es ≡ None → beside ds es page ≡ without (victim ds es) es
  beside_none none = ap (λ (o : Option X). cond (is_some o) (remove_entry (nat_eq page) es) (without (victim ds es) es)) none

  -- the one that gives way is there, clean, and another page
  pub victim_is : (v : ℕ) → victim ds es ≡ Some v → (is_dirty ds v ≡ false) × (is_some (lookup (nat_eq v) es) ≡ true)
  victim_is v is = by (nat_lt (length es) 64) refl
    where
      by : (b : Bool) → nat_lt (length es) 64 ≡ b → (is_dirty ds v ≡ false) × (is_some (lookup (nat_eq v) es) ≡ true)
      by true less = absurd (none_is_not_some v (ap (λ t. cond t None (last_clean ds es)) (sym less) ∙ is))
      by false more = clean ds es v (ap (λ t. cond t None (last_clean ds es)) (sym more) ∙ is)

  pub victim_apart : (v : ℕ) → victim ds es ≡ Some v → lookup (nat_eq page) es ≡ None → nat_eq v page ≡ false
  victim_apart v is none = by (nat_eq v page) refl
    where
      by : (b : Bool) → nat_eq v page ≡ b → nat_eq v page ≡ false
      by true own = absurd (true_is_not_false (sym (victim_is v is).1 ∙ (λ i. is_some (lookup (nat_eq (equal v page own i)) es)) ∙ ap is_some none))
      by false own = own

  none_clean : IsDistinct nat_eq (keys_of es) → length ds < 64 → (b : Bool) → nat_lt (length es) 64 ≡ b → victim ds es ≡ None → suc (length es) ≤ 64
  none_clean distinct dirty true less none = grind (arith, nat_tests)
  none_clean distinct dirty false more none =
      let all : length es ≤ length ds = all_taken ds es distinct (ap (λ t. cond t None (last_clean ds es)) (sym more) ∙ none) in
      omega (arith, all, dirty)

  -- with fewer dirty pages than frames there is room for one more
  room : IsDistinct nat_eq (keys_of es) → length es ≤ 64 → length ds < 64 → suc (length (without (victim ds es) es)) ≤ 64
  room distinct few dirty = by (victim ds es) refl
    where
      by : (o : Option ℕ) → victim ds es ≡ o → suc (length (without o es)) ≤ 64
      by None is = none_clean distinct dirty (nat_lt (length es) 64) refl is
      by (Some v) is = let one = removed_length v es (victim_is v is).1 in omega (arith, one, few)

  stays_beside : (q : ℕ) (b : Bool) → nat_eq q page ≡ false → is_dirty ds q ≡ true → is_some (lookup (nat_eq q) es) ≡ true → is_some (lookup (nat_eq q) (cond b (remove_entry (nat_eq page) es) (without (victim ds es) es))) ≡ true
  stays_beside q true apart dirty some = ap is_some (stays q page es apart) ∙ some
  stays_beside q false apart dirty some = by (victim ds es) refl
    where
      by : (o : Option ℕ) → victim ds es ≡ o → is_some (lookup (nat_eq q) (without o es)) ≡ true
      by None is = some
      by (Some v) is = other (nat_eq q v) refl
        where
          other : (c : Bool) → nat_eq q v ≡ c → is_some (lookup (nat_eq q) (remove_entry (nat_eq v) es)) ≡ true
          other true own = absurd (true_is_not_false (sym dirty ∙ ap (λ n. is_dirty ds n) (equal q v own) ∙ (victim_is v is).0))
          other false own = ap is_some (stays q v es own) ∙ some

  pub framed_with : (w : X) → AreFramed es ds → AreFramed ((page, w) ∷ beside ds es page) ds
  framed_with w framed = framed_from ds ((page, w) ∷ beside ds es page) each
    where
      each : (q : ℕ) → is_dirty ds q ≡ true → is_some (lookup (nat_eq q) ((page, w) ∷ beside ds es page)) ≡ true
      each q dirty = by (nat_eq q page) refl
        where
          by : (b : Bool) → nat_eq q page ≡ b → is_some (cond (nat_eq q page) (Some w) (lookup (nat_eq q) (beside ds es page))) ≡ true
          by true own = ap (λ c. is_some (cond c (Some w) (lookup (nat_eq q) (beside ds es page)))) own
          by false own = ap (λ c. is_some (cond c (Some w) (lookup (nat_eq q) (beside ds es page)))) own ∙ stays_beside q (is_some (lookup (nat_eq page) es)) own dirty (framed_each q ds es framed dirty)

  pub distinct_with : (w : X) → IsDistinct nat_eq (keys_of es) → IsDistinct nat_eq (keys_of ((page, w) ∷ beside ds es page))
  distinct_with w distinct = by (lookup (nat_eq page) es) refl
    where
      absent : (o : Option ℕ) → lookup (nat_eq page) es ≡ None → IsDistinct nat_eq (page ∷ keys_of (without o es))
      absent None none = with_first page (keys_of es) (none_equal page es none) distinct
      absent (Some v) none = with_first page (keys_of (remove_entry (nat_eq v) es)) (removes_all (λ q. nat_eq page q ≡ false) v es (none_equal page es none)) (removes_distinct v es distinct)

      by : (o : Option X) → lookup (nat_eq page) es ≡ o → IsDistinct nat_eq (page ∷ keys_of (cond (is_some o) (remove_entry (nat_eq page) es) (without (victim ds es) es)))
      by None none = absent (victim ds es) none
      by (Some p) own = with_first page (keys_of (remove_entry (nat_eq page) es)) (removed_apart page es distinct) (removes_distinct page es distinct)

module _ {P C : Type 0} (x : Pool P C) (page : ℕ) where
  pub pool_new : IsPool x → lookup (nat_eq page) x.frames.entries ≡ None → length x.dirty.items < 64 → (w : P) → IsPool (with_frame x page w)
  pool_new is none dirty w = record {
    cap = is.cap;
    few = let beside_is : length (beside x.dirty.items x.frames.entries page) ≡ length (without (victim x.dirty.items x.frames.entries) x.frames.entries) = ap length (beside_none page x.dirty.items x.frames.entries none) in
        let one = room page x.dirty.items x.frames.entries is.distinct is.few dirty in
        omega (arith, one, beside_is);
    distinct = distinct_with page x.dirty.items x.frames.entries w is.distinct;
    framed = framed_with page x.dirty.items x.frames.entries w is.framed;
    rising = is.rising;
    sides = is.sides;
  }

  pub pool_found : IsPool x → is_some (lookup (nat_eq page) x.frames.entries) ≡ true → (w : P) → IsPool (with_frame x page w)
  pool_found is some w = record {
    cap = is.cap;
    few = let beside_is : length (beside x.dirty.items x.frames.entries page) ≡ length (remove_entry (nat_eq page) x.frames.entries) = ap length (beside_found page x.dirty.items x.frames.entries some) in
        let one = removed_length page x.frames.entries some in
        let few = is.few in
        omega (arith, one, few, beside_is);
    distinct = distinct_with page x.dirty.items x.frames.entries w is.distinct;
    framed = framed_with page x.dirty.items x.frames.entries w is.framed;
    rising = is.rising;
    sides = is.sides;
  }

  pub page_found : is_some (lookup (nat_eq page) x.frames.entries) ≡ true → (w : P) → with_page x page w ≡ with_frame x page w
  page_found some w = λ i. record x { frames = lru_cache ((set_promoted page w x.frames.entries some ∙ ap (λ t. (page, w) ∷ t) (sym (beside_found page x.dirty.items x.frames.entries some))) i) x.frames.cap }

  pub page_again : (p w : P) → with_page (with_frame x page p) page w ≡ with_frame x page w
  page_again p w = λ i. record x { frames = lru_cache (set_first page p w (beside x.dirty.items x.frames.entries page) i) x.frames.cap }

  pub pool_dirty : (side : ℕ) → IsPool x → is_some (lookup (nat_eq page) x.frames.entries) ≡ true → side ≤ 1 → IsPool (with_dirty x (record { page = page; side = side }))
  pool_dirty side is own low = record {
    cap = is.cap;
    few = is.few;
    distinct = is.distinct;
    framed = framed_put (record { page = page; side = side }) x.dirty.items x.frames.entries own is.framed;
    rising = rising_put 0 (record { page = page; side = side }) x.dirty.items (omega arith) is.rising;
    sides = sides_put (record { page = page; side = side }) x.dirty.items low is.sides;
  }

  -- what the cache has behind `put`, and behind `pop` of the one that gives way
  pub put_is : (p : P) (o : Option ℕ) (f : LruCache ℕ P) → IsPool x → lookup (nat_eq page) x.frames.entries ≡ None → victim x.dirty.items x.frames.entries ≡ o → f ≡ lru_cache (without o (put_entries nat_eq x.frames page p)) x.frames.cap → record x { frames = f } ≡ with_frame x page p
  put_is p o f is none gives made = λ i. record x { frames = (made ∙ ap (λ es. lru_cache es x.frames.cap) entries) i }
    where
      behind : (v : Option ℕ) → victim x.dirty.items x.frames.entries ≡ v → without v ((page, p) ∷ x.frames.entries) ≡ (page, p) ∷ without v x.frames.entries
      behind None e = refl
      behind (Some v) e = removes_behind v page p x.frames.entries (victim_apart page x.dirty.items x.frames.entries v e none)

      entries : without o (put_entries nat_eq x.frames page p) ≡ (page, p) ∷ beside x.dirty.items x.frames.entries page
      entries =
          ap (without o) (put_first page x.frames.cap p x.frames.entries is.cap is.few none)
          ∙ behind o gives
          ∙ ap (λ t. (page, p) ∷ t) (ap (λ v. without v x.frames.entries) (sym gives) ∙ sym (beside_none page x.dirty.items x.frames.entries none))

module _ {P C : Type 0} (x : Pool P C) where
  pub pool_begun : x.frames ≡ lru_cache [] 65 → x.dirty.items ≡ [] → IsPool x
  pool_begun none clean = record {
    cap = ap (λ (f : LruCache ℕ P). f.cap) none;
    few = subst (λ (f : LruCache ℕ P). length f.entries ≤ 64) (sym none) (omega arith);
    distinct = subst (λ (f : LruCache ℕ P). IsDistinct nat_eq (keys_of f.entries)) (sym none) none_distinct;
    framed = subst (λ (l : List Dirty). AreFramed x.frames.entries l) (sym clean) tt;
    rising = subst (λ (l : List Dirty). IsRisingFrom 0 l) (sym clean) tt;
    sides = subst AreSides (sym clean) tt;
  }

  pub pool_length : (n : ℕ) → IsPool x → IsPool (with_length x n)
  pool_length n is = record { cap = is.cap; few = is.few; distinct = is.distinct; framed = is.framed; rising = is.rising; sides = is.sides }

  pub pool_flushed : IsPool x → IsPool (flushed x)
  pool_flushed is = record { cap = is.cap; few = is.few; distinct = is.distinct; framed = tt; rising = tt; sides = tt }
