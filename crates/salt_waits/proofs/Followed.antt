-- A walk follows the edges of what it has seen.
use Rattle.salt_waits.proofs.Marks.{no_more}
use Rattle.salt_waits.specs.Graphs.{Graph, HasEdge, InRange, Leads, at_once, through}
use Rattle.salt_waits.specs.Walks.{Adds, IsSeen, IsStarted, IsWalk}
use Rattle.salt_waits.specs.declared.walk.Walk.{Walk}
use Rattle.std.proofs.Common.{⊎_elim, All, Contains, IsTrue, List, Vec, Global, [], arith, inl, inr, length, refl, slice_get, Some, subst, sym, true, ℕ, ◌++◌, ◌<◌, ◌∷◌, ◌≡◌, ◌∙◌, ◌↔◌, ap, false, get_or, slice_index_or, suc, zero, Bool}
use Rattle.std.proofs.lemmas.List.{get_or_default}
use Rattle.std.proofs.lemmas.Option.{get_or_from_slice_get}
use Rattle.std.proofs.lemmas.List.Elements.{Contains-append_left, Contains-push, Contains-push_cases}

-- edges lead on
pub led_on : (g : Graph) {a b c : ℕ} → Leads g a b → HasEdge g b c → Leads g a c
led_on g (at_once e) last = through e (at_once last)
led_on g (through e more) last = through e (led_on g more last)

-- where the edges of all that is seen were followed, all that they lead to is seen
pub all_seen : (g : Graph) (w : Walk) {a b : ℕ} → ((u : ℕ) → IsSeen w u → (v : ℕ) → HasEdge g u v → IsSeen w v) → ((v : ℕ) → HasEdge g a v → IsSeen w v) → Leads g a b → IsSeen w b
all_seen g w closed begun (at_once e) = begun _ e
all_seen g w closed begun (through {b = b} e more) = all_seen g w closed (closed b (begun _ e)) more

the_row : (g : Graph) (at : ℕ) (r s : Vec ℕ Global) → slice_get g at ≡ Some r → slice_get g at ≡ Some s → r ≡ s
the_row g at r s is_r is_s = let same : Some r ≡ Some s = sym is_r ∙ is_s in cc same

-- at the start the edges of the first vertex are followed
pub starts : (g : Graph) (start : ℕ) (row : Vec ℕ Global) (fresh w : Walk) → slice_get g start ≡ Some row → IsStarted (length g) fresh → Adds row.items fresh w → IsWalk g start w
starts g start row fresh w is none added = record {
  long = added.long ∙ none.0;
  led = λ v h. ⊎_elim (λ seen. absurd (none.1 v seen)) (λ target. at_once (row, is, target)) (added.only v h);
  begun = λ v edge. added.all v (subst (λ r. Contains r.items v) (the_row g start edge.0 row edge.1 is) edge.2);
  followed = λ u h. ⊎_elim (λ seen. absurd (none.1 u seen)) (λ left. inl left) (added.follows u h);
  left_seen = λ v h. ⊎_elim (λ old. absurd (no_more v (subst (λ l. Contains l v) (none.2) old))) (λ seen. seen) (added.left_seen v h);
}

-- a vertex is taken from what is left, and its edges are followed
pub goes_on : (g : Graph) (start u : ℕ) (row : Vec ℕ Global) (old popped new : Walk) → slice_get g u ≡ Some row → IsWalk g start old → old.left.items ≡ popped.left.items ++ u ∷ [] → popped.seen ≡ old.seen
    → Adds row.items popped new → IsWalk g start new
goes_on g start u row old popped new is walk left same added =
    let was_seen : (v : ℕ) → IsSeen popped v → IsSeen old v = λ v. subst (λ s. slice_index_or s.items v false ≡ true) same in
    let stays : (v : ℕ) → IsSeen old v → IsSeen new v = λ v h. added.keeps v (subst (λ s. slice_index_or s.items v false ≡ true) (sym same) h) in
    let u_seen = walk.left_seen u (subst (λ l. Contains l u) (sym left) (Contains-push popped.left.items u)) in
    record {
      long = added.long ∙ (ap (λ s. length s.items) same ∙ walk.long);
      led = λ v h. ⊎_elim (λ p. walk.led v (was_seen v p)) (λ target. led_on g (walk.led u u_seen) (row, is, target)) (added.only v h);
      begun = λ v edge. stays v (walk.begun v edge);
      followed = λ x h. ⊎_elim (λ p. ⊎_elim (λ l. ⊎_elim (λ before. inl (added.keeps_left x before)) (λ e. inr (λ v edge. added.all v (targets_of x e v edge))) (Contains-push_cases popped.left.items u x (subst (λ l. Contains l x) left l)))
          (λ closed. inr (λ v edge. stays v (closed v edge))) (walk.followed x (was_seen x p))) (λ l. inl l) (added.follows x h);
      left_seen = λ v h. ⊎_elim (λ l. stays v (walk.left_seen v (subst (λ l. Contains l v) (sym left) (Contains-append_left popped.left.items (u ∷ []) v l)))) (λ s. s) (added.left_seen v h);
    }
  where
    targets_of : (x : ℕ) → u ≡ x → (v : ℕ) → HasEdge g x v → Contains row.items v
    targets_of x e v edge = subst (λ r. Contains r.items v) (the_row g u edge.0 row (ap (slice_get g) e ∙ edge.1) is) (edge.2)

-- where nothing is left, it was seen exactly what the edges lead to
pub told_by : (g : Graph) (start : ℕ) (w : Walk) → IsWalk g start w → w.left.items ≡ [] → (v : ℕ) → IsSeen w v ↔ Leads g start v
told_by g start w walk none v = (λ seen. walk.led v seen, λ leads. all_seen g w closed walk.begun leads)
  where
    closed : (u : ℕ) → IsSeen w u → (x : ℕ) → HasEdge g u x → IsSeen w x
    closed u seen x edge = ⊎_elim (λ left. absurd (no_more u (subst (λ l. Contains l u) none left))) (λ followed. followed x edge) (walk.followed u seen)

seen_within : (seen : List Bool) (v : ℕ) → slice_index_or seen v false ≡ true → v < length seen
seen_within [] v is = absurd (cc is)
seen_within (b ∷ bs) zero is = omega arith
seen_within (b ∷ bs) (suc v) is = let below = seen_within bs v is in omega (arith, below)

-- what is left is in the graph
pub left_within : (g : Graph) (start u : ℕ) (w : Walk) (popped : List ℕ) → IsWalk g start w → w.left.items ≡ popped ++ u ∷ [] → u < length g
left_within g start u w popped walk left = let below = seen_within w.seen.items u (walk.left_seen u (subst (λ l. Contains l u) (sym left) (Contains-push popped u))) in omega (arith, below, walk.long)

-- the edges of a vertex lead into the graph
pub row_within : (g : Graph) (n u : ℕ) (row : Vec ℕ Global) → InRange g n → u < length g → slice_get g u ≡ Some row → All (λ v. v < n) row.items
row_within g n u row range below is = subst (λ r. All (λ v. v < n) r.items) (get_or_from_slice_get g u row row is) (range u row below)

pub none_is_left : (xs : List ℕ) → (0 < length xs → ⊥) → xs ≡ []
none_is_left [] none = refl
none_is_left (x ∷ xs) none = absurd (none (omega arith))

-- what is answered is whether a vertex was seen
pub reads : (seen : List Bool) (v : ℕ) (r : Bool) → v < length seen → r ≡ get_or seen v r → (slice_index_or seen v false ≡ true) ↔ IsTrue r
reads seen v r below read = (λ is. let now : r ≡ true = read ∙ (get_or_default seen v r false below ∙ is) in cc now, λ yes. let now : r ≡ true = cc yes in get_or_default seen v false r below ∙ (sym read ∙ now))
