-- Frames: a page that is put in, or found, and what stands beside it.
use Rattle.lru.specs.LruCache.{lru_cache, promoted, put_entries}
use Rattle.salt_pool.proofs.Distinct.{first_apart, rest_distinct, with_first}
use Rattle.salt_pool.proofs.Numbers.{equal, same, true_is_not_false}
use Rattle.std.proofs.Common.{Bool, List, None, Option, Some, [], ap, arith, cond, false, is_some, length, nat_eq, refl, subst, suc, sym, take, true, ℕ, ◌-◌, ◌≡◌, ◌≤◌, ◌∙◌, ◌∷◌}
use Rattle.std.proofs.lemmas.List.{take_all}
use Rattle.std.specs.List.{AllByRecursion, IsDistinct}
use Rattle.std.specs.Map.{keys_of, lookup, lookup_entry, remove_entry, set_value}
use Rattle.std.specs.Option.{option_map_or}

pub no_frame : {X : Type 0} (o : Option X) → is_some o ≡ false → o ≡ None
no_frame None is = refl
no_frame (Some x) is = absurd (true_is_not_false is)

module _ {X : Type 0} where
  found : (page : ℕ) (es : List (ℕ × X)) → is_some (lookup (nat_eq page) es) ≡ true → (v : X) × (lookup_entry (nat_eq page) es ≡ Some (page, v))
  found page [] some = cc
  found page (e ∷ es) some = by (nat_eq page e.0) refl (λ h. found page es h)
    where
      by : (b : Bool) → nat_eq page e.0 ≡ b → (is_some (lookup (nat_eq page) es) ≡ true → (v : X) × (lookup_entry (nat_eq page) es ≡ Some (page, v))) → (v : X) × (lookup_entry (nat_eq page) (e ∷ es) ≡ Some (page, v))
      by true is on = (e.1, ap (λ c. cond c (Some e) (lookup_entry (nat_eq page) es)) is ∙ (λ i. Some (sym (equal page e.0 is) i, e.1)))
      by false is next =
          let on = next (ap (λ c. is_some (cond c (Some e.1) (lookup (nat_eq page) es))) (sym is) ∙ some) in
          (on.0, ap (λ c. cond c (Some e) (lookup_entry (nat_eq page) es)) is ∙ on.1)

  some_is_not_none : (x : X) → Some x ≡ None → ⊥
  some_is_not_none x e = cc

  absent : (page : ℕ) (es : List (ℕ × X)) → lookup (nat_eq page) es ≡ None → lookup_entry (nat_eq page) es ≡ None
  absent page [] none = refl
  absent page (e ∷ es) none = by (nat_eq page e.0) refl (λ h. absent page es h)
    where
      by : (b : Bool) → nat_eq page e.0 ≡ b → (lookup (nat_eq page) es ≡ None → lookup_entry (nat_eq page) es ≡ None) → lookup_entry (nat_eq page) (e ∷ es) ≡ None
      by true is on = absurd (some_is_not_none e.1 (ap (λ c. cond c (Some e.1) (lookup (nat_eq page) es)) (sym is) ∙ none))
      by false is on = ap (λ c. cond c (Some e) (lookup_entry (nat_eq page) es)) is ∙ on (ap (λ c. cond c (Some e.1) (lookup (nat_eq page) es)) (sym is) ∙ none)

  -- a page that is found goes first, with what is written
  pub set_promoted : (page : ℕ) (w : X) (es : List (ℕ × X)) → is_some (lookup (nat_eq page) es) ≡ true → set_value (nat_eq page) (promoted (nat_eq page) es) w ≡ (page, w) ∷ remove_entry (nat_eq page) es
  set_promoted page w es some =
      let f = found page es some in
      let rest = remove_entry (nat_eq page) es in
      ap (λ o. set_value (nat_eq page) (option_map_or (λ e. e ∷ rest) o es) w) f.1
      ∙ ap (λ b. cond b ((page, w) ∷ rest) ((page, f.0) ∷ set_value (nat_eq page) rest w)) (same page)

  pub first_found : (page : ℕ) (p : X) (rest : List (ℕ × X)) → lookup (nat_eq page) ((page, p) ∷ rest) ≡ Some p
  first_found page p rest = ap (λ b. cond b (Some p) (lookup (nat_eq page) rest)) (same page)

  pub set_first : (page : ℕ) (p w : X) (rest : List (ℕ × X)) → set_value (nat_eq page) (promoted (nat_eq page) ((page, p) ∷ rest)) w ≡ (page, w) ∷ rest
  set_first page p w rest =
      set_promoted page w ((page, p) ∷ rest) (ap is_some (first_found page p rest))
      ∙ ap (λ b. (page, w) ∷ cond b rest ((page, p) ∷ remove_entry (nat_eq page) rest)) (same page)

  -- one that is not there is put before the others
  pub put_first : (page cap : ℕ) (p : X) (es : List (ℕ × X)) → cap ≡ 65 → length es ≤ 64 → lookup (nat_eq page) es ≡ None → put_entries nat_eq (lru_cache es cap) page p ≡ (page, p) ∷ es
  put_first page cap p es is few none =
      ap (λ o. option_map_or (λ e. (e.0, p) ∷ remove_entry (nat_eq page) es) o ((page, p) ∷ take (cap - 1) es)) (absent page es none)
      ∙ ap (λ t. (page, p) ∷ t) (take_all (cap - 1) es (omega (arith, is, few)))

  -- another's frame is taken away behind the first
  pub removes_behind : (v page : ℕ) (p : X) (es : List (ℕ × X)) → nat_eq v page ≡ false → remove_entry (nat_eq v) ((page, p) ∷ es) ≡ (page, p) ∷ remove_entry (nat_eq v) es
  removes_behind v page p es apart = ap (λ b. cond b es ((page, p) ∷ remove_entry (nat_eq v) es)) apart

  -- what another page has there stays
  pub stays : (q v : ℕ) (es : List (ℕ × X)) → nat_eq q v ≡ false → lookup (nat_eq q) (remove_entry (nat_eq v) es) ≡ lookup (nat_eq q) es
  stays q v [] apart = refl
  stays q v (e ∷ es) apart = by (nat_eq v e.0) refl (stays q v es apart)
    where
      by : (b : Bool) → nat_eq v e.0 ≡ b → lookup (nat_eq q) (remove_entry (nat_eq v) es) ≡ lookup (nat_eq q) es → lookup (nat_eq q) (cond (nat_eq v e.0) es (e ∷ remove_entry (nat_eq v) es)) ≡ cond (nat_eq q e.0) (Some e.1) (lookup (nat_eq q) es)
      by true is on =
          ap (λ c. lookup (nat_eq q) (cond c es (e ∷ remove_entry (nat_eq v) es))) is
          ∙ ap (λ c. cond c (Some e.1) (lookup (nat_eq q) es)) (sym (ap (nat_eq q) (sym (equal v e.0 is)) ∙ apart))
      by false is on =
          ap (λ c. lookup (nat_eq q) (cond c es (e ∷ remove_entry (nat_eq v) es))) is
          ∙ ap (λ o. cond (nat_eq q e.0) (Some e.1) o) on

  pub removed_length : (v : ℕ) (es : List (ℕ × X)) → is_some (lookup (nat_eq v) es) ≡ true → suc (length (remove_entry (nat_eq v) es)) ≡ length es
  removed_length v [] some = cc
  removed_length v (e ∷ es) some = by (nat_eq v e.0) refl (λ h. removed_length v es h)
    where
      by : (b : Bool) → nat_eq v e.0 ≡ b → (is_some (lookup (nat_eq v) es) ≡ true → suc (length (remove_entry (nat_eq v) es)) ≡ length es) → suc (length (cond (nat_eq v e.0) es (e ∷ remove_entry (nat_eq v) es))) ≡ length (e ∷ es)
      by true is on = ap (λ c. suc (length (cond c es (e ∷ remove_entry (nat_eq v) es)))) is
      by false is on =
          ap (λ c. suc (length (cond c es (e ∷ remove_entry (nat_eq v) es)))) is
          ∙ ap suc (on (ap (λ c. is_some (cond c (Some e.1) (lookup (nat_eq v) es))) (sym is) ∙ some))

  -- NO PAGE TWICE

  pub none_equal : (page : ℕ) (es : List (ℕ × X)) → lookup (nat_eq page) es ≡ None → AllByRecursion (λ q. nat_eq page q ≡ false) (keys_of es)
  none_equal page [] none = tt
  none_equal page (e ∷ es) none = by (nat_eq page e.0) refl (λ h. none_equal page es h)
    where
      by : (b : Bool) → nat_eq page e.0 ≡ b → (lookup (nat_eq page) es ≡ None → AllByRecursion (λ q. nat_eq page q ≡ false) (keys_of es)) → (nat_eq page e.0 ≡ false) × AllByRecursion (λ q. nat_eq page q ≡ false) (keys_of es)
      by true is on = absurd (some_is_not_none e.1 (ap (λ c. cond c (Some e.1) (lookup (nat_eq page) es)) (sym is) ∙ none))
      by false is on = (is, on (ap (λ c. cond c (Some e.1) (lookup (nat_eq page) es)) (sym is) ∙ none))

  pub none_found : (page : ℕ) (es : List (ℕ × X)) → AllByRecursion (λ q. nat_eq page q ≡ false) (keys_of es) → lookup (nat_eq page) es ≡ None
  none_found page [] apart = refl
  none_found page (e ∷ es) apart = ap (λ c. cond c (Some e.1) (lookup (nat_eq page) es)) apart.0 ∙ none_found page es apart.1

  pub removes_all : (P : ℕ → Type 0) (v : ℕ) (es : List (ℕ × X)) → AllByRecursion P (keys_of es) → AllByRecursion P (keys_of (remove_entry (nat_eq v) es))
  removes_all P v [] all = all
  removes_all P v (e ∷ es) all = by (nat_eq v e.0) (removes_all P v es all.1)
    where
      by : (b : Bool) → AllByRecursion P (keys_of (remove_entry (nat_eq v) es)) → AllByRecursion P (keys_of (cond b es (e ∷ remove_entry (nat_eq v) es)))
      by true on = all.1
      by false on = (all.0, on)

  pub removes_distinct : (v : ℕ) (es : List (ℕ × X)) → IsDistinct nat_eq (keys_of es) → IsDistinct nat_eq (keys_of (remove_entry (nat_eq v) es))
  removes_distinct v [] distinct = distinct
  removes_distinct v (e ∷ es) distinct = by (nat_eq v e.0) (removes_distinct v es (rest_distinct e.0 (keys_of es) distinct))
    where
      by : (b : Bool) → IsDistinct nat_eq (keys_of (remove_entry (nat_eq v) es)) → IsDistinct nat_eq (keys_of (cond b es (e ∷ remove_entry (nat_eq v) es)))
      by true on = rest_distinct e.0 (keys_of es) distinct
      by false on = with_first e.0 (keys_of (remove_entry (nat_eq v) es)) (removes_all (λ q. nat_eq e.0 q ≡ false) v es (first_apart e.0 (keys_of es) distinct)) on

  -- without it, it is there no more
  pub removed_apart : (page : ℕ) (es : List (ℕ × X)) → IsDistinct nat_eq (keys_of es) → AllByRecursion (λ q. nat_eq page q ≡ false) (keys_of (remove_entry (nat_eq page) es))
  removed_apart page [] distinct = tt
  removed_apart page (e ∷ es) distinct = by (nat_eq page e.0) refl (removed_apart page es (rest_distinct e.0 (keys_of es) distinct))
    where
      by : (b : Bool) → nat_eq page e.0 ≡ b → AllByRecursion (λ q. nat_eq page q ≡ false) (keys_of (remove_entry (nat_eq page) es)) → AllByRecursion (λ q. nat_eq page q ≡ false) (keys_of (cond b es (e ∷ remove_entry (nat_eq page) es)))
      by true is on = subst (λ n. AllByRecursion (λ q. nat_eq n q ≡ false) (keys_of es)) (sym (equal page e.0 is)) (first_apart e.0 (keys_of es) distinct)
      by false is on = (is, on)
