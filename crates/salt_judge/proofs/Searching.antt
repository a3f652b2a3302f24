-- A search comes to all units in chains that are not settled, and to no others.
use Rattle.law_states.proofs.Widening.{come-all, come-in, come-old}
use Rattle.law_states.specs.Members.{In}
use Rattle.law_states.specs.PairClosures.{Leads, here, on}
use Rattle.law_story.proofs.Ids.{and_left, and_right}
use Rattle.law_story.proofs.Lists.{all-in, either, has-in, in-cases, in-filter, in-has, in-left, in-right, into-all, into-filter}
use Rattle.salt_audit.specs.Standing.{begun_in}
use Rattle.salt_audit.specs.declared.state.Begun.{Begun}
use Rattle.salt_values.specs.Id.{has_id}
use Rattle.salt_values.specs.declared.id.Id.{Id}
use Rattle.salt_verdict.proofs.Listed.{has_app}
use Rattle.salt_audit.specs.Marks.{AreMarks, is_marked}
use Rattle.salt_judge.specs.Reads.{chained, is_free, is_tied_by, near, parts_near, program_in, program_noted, shares_program, sources_in, ties_of, unsalted_of}
use Rattle.salt_judge.specs.Searching.{AreSettled, IsDone, IsLinked, IsReached, Searched, are_free, is_new, is_over, rests_as, visited, visited_all}
use Rattle.salt_verdict.specs.declared.ledger.Ledger.{Ledger}
use Rattle.salt_judge.specs.declared.reads.Reads.{Reads}
use Rattle.std.proofs.Common.{Bool, List, None, Option, Some, [], ap, arith, false, get_or, if◌then◌else◌, inl, inr, is_none, is_some, length, not, refl, subst, suc, sym, take, true, true≢false, zero, ℕ, ◌&&◌, ◌+◌, ◌++◌, ◌<◌, ◌∙◌, ◌∷◌, ◌≡◌, ◌≤◌, ◌||◌, ◌⊎◌}
use Rattle.std.proofs.lemmas.List.{length-append, take-append-le, take_more}
use Rattle.std.specs.BTreeMap.{BTreeMap}
use Rattle.std.specs.List.{list_all}
use Rattle.std.specs.Prelude.{slice_get}

-- PLACES

at_place : (xs : List Id) (i : ℕ) (u : Id) → slice_get xs i ≡ Some u → (i < length xs) × (take (suc i) xs ≡ take i xs ++ u ∷ []) × In u xs
at_place [] i u e = absurd cc
at_place (x ∷ xs) zero u e = let same : x ≡ u = cc in (omega arith, ap (λ (y : Id). y ∷ []) same, inl same)
at_place (x ∷ xs) (suc i) u e = let r = at_place xs i u e in (omega (arith, r.0), ap (λ (l : List Id). x ∷ l) r.1, inr r.2)

past : (xs : List Id) (i : ℕ) → slice_get xs i ≡ None → take i xs ≡ xs
past [] zero e = refl
past [] (suc i) e = refl
past (x ∷ xs) zero e = absurd cc
past (x ∷ xs) (suc i) e = ap (λ (l : List Id). x ∷ l) (past xs i e)

-- WHAT IS VISITED

module _ (l : Ledger) (settled : BTreeMap Id Bool) where
  visit_old : (u : Id) (found : List Id) (x : Id) → In x found → In x (visited l settled u found)
  visit_old u found x i = by (is_new l settled found u)
    where
      by : (t : Bool) → In x (if t then found ++ u ∷ [] else found)
      by true = in-left x found (u ∷ []) i
      by false = i

  visited_old : (us found : List Id) (x : Id) → In x found → In x (visited_all l settled us found)
  visited_old [] found x i = i
  visited_old (u ∷ us) found x i = visited_old us (visited l settled u found) x (visit_old u found x i)

  visit_new : (u : Id) (found : List Id) (x : Id) → In x (visited l settled u found) → In x found ⊎ ((u ≡ x) × (is_some (begun_in x l.state.units) ≡ true))
  visit_new u found x i = by (is_marked u settled) (is_some (begun_in u l.state.units)) refl (has_id u found) i
    where
      by : (s b : Bool) → is_some (begun_in u l.state.units) ≡ b → (t : Bool) → In x (if not s && (b && not t) then found ++ u ∷ [] else found) →
          In x found ⊎ ((u ≡ x) × (is_some (begun_in x l.state.units) ≡ true))
      by true b is t j = inl j
      by false true is true j = inl j
      by false true is false j =
          either (λ k. inl k) (λ k. either (λ e. inr (e, subst (λ (v : Id). is_some (begun_in v l.state.units) ≡ true) e is)) (λ none. absurd none) k) (in-cases x found (u ∷ []) j)
      by false false is t j = inl j

  visited_new : (us found : List Id) (x : Id) → In x (visited_all l settled us found) → In x found ⊎ (In x us × (is_some (begun_in x l.state.units) ≡ true))
  visited_new [] found x i = inl i
  visited_new (u ∷ us) found x i =
      either (λ j. either (λ k. inl k) (λ (k : (u ≡ x) × (is_some (begun_in x l.state.units) ≡ true)). inr (inl k.0, k.1)) (visit_new u found x j))
      (λ (j : In x us × (is_some (begun_in x l.state.units) ≡ true)). inr (inr j.0, j.1)) (visited_new us (visited l settled u found) x i)

  visit_comes : (u : Id) (found : List Id) → is_some (begun_in u l.state.units) ≡ true → IsReached settled (visited l settled u found) u
  visit_comes u found is = by (is_marked u settled) refl (is_some (begun_in u l.state.units)) is (has_id u found) refl
    where
      by : (s : Bool) → is_marked u settled ≡ s → (b : Bool) → b ≡ true → (t : Bool) → has_id u found ≡ t →
          IsReached settled (if not s && (b && not t) then found ++ u ∷ [] else found) u
      by true m b e t h = inr m
      by false m true e true h = inl (has-in u found h)
      by false m true e false h = inl (in-right u found (u ∷ []) (inl refl))
      by false m false e t h = absurd cc

  reached_old : (us found : List Id) (x : Id) → IsReached settled found x → IsReached settled (visited_all l settled us found) x
  reached_old us found x (inl i) = inl (visited_old us found x i)
  reached_old us found x (inr m) = inr m

  visited_comes : (us found : List Id) (x : Id) → In x us → is_some (begun_in x l.state.units) ≡ true → IsReached settled (visited_all l settled us found) x
  visited_comes [] found x i is = absurd i
  visited_comes (u ∷ us) found x (inl e) is =
      reached_old us (visited l settled u found) x
      (subst (λ (v : Id). IsReached settled (visited l settled u found) v) e (visit_comes u found (subst (λ (v : Id). is_some (begun_in v l.state.units) ≡ true) (sym e) is)))
  visited_comes (u ∷ us) found x (inr i) is = visited_comes us (visited l settled u found) x i is

  visit_front : (u : Id) (found : List Id) (k : ℕ) → k ≤ length found → (take k (visited l settled u found) ≡ take k found) × (k ≤ length (visited l settled u found))
  visit_front u found k h = by (is_new l settled found u)
    where
      by : (t : Bool) → (take k (if t then found ++ u ∷ [] else found) ≡ take k found) × (k ≤ length (if t then found ++ u ∷ [] else found))
      by true = (take-append-le k found (u ∷ []) h, omega (arith, length-append found (u ∷ [])))
      by false = (refl, h)

  visited_front : (us found : List Id) (k : ℕ) → k ≤ length found → take k (visited_all l settled us found) ≡ take k found
  visited_front [] found k h = refl
  visited_front (u ∷ us) found k h = let one = visit_front u found k h in visited_front us (visited l settled u found) k one.1 ∙ one.0

  pub visited_app : (us vs found : List Id) → visited_all l settled vs (visited_all l settled us found) ≡ visited_all l settled (us ++ vs) found
  visited_app [] vs found = refl
  visited_app (u ∷ us) vs found = visited_app us vs (visited l settled u found)

  pub visited_more : (us found : List Id) (i : ℕ) (d : Id) → i < length us →
      visited l settled (get_or us i d) (visited_all l settled (take i us) found) ≡ visited_all l settled (take (i + 1) us) found
  visited_more us found i d within =
      visited_app (take i us) (get_or us i d ∷ []) found ∙ ap (λ (vs : List Id). visited_all l settled vs found) (sym (take_more us i d within))

  -- by what is marked
  pub visit_marked : (marks : BTreeMap Id Bool) (found : List Id) (u : Id) → AreMarks marks found →
      (not (is_marked u settled) && (is_some (begun_in u l.state.units) && not (is_marked u marks))) ≡ is_new l settled found u
  visit_marked marks found u h = ap (λ (t : Bool). not (is_marked u settled) && (is_some (begun_in u l.state.units) && not t)) (h u)

-- WHAT RESTS

over_free : (l : Ledger) (r : Reads) (o : Option Id) → is_over l r o ≡ true → is_free r.released o ≡ true
over_free l r None h = refl
over_free l r (Some b) h = and_left (is_marked b r.released) (has_id b l.state.bases && has_id b l.state.finished) h

pub rests_free : (l : Ledger) (r : Reads) (o : Option Begun) → rests_as l r o ≡ true → is_free r.released (program_noted o) ≡ true
rests_free l r None h = absurd cc
rests_free l r (Some n) h = over_free l r (program_noted (Some n)) (and_right (not n.is_open) (is_over l r (program_noted (Some n))) h)

-- TIES

module _ (l : Ledger) (r : Reads) (linked : IsLinked l r) where
  parts_tied : (v : Id) (o : Option Id) → has_id v (parts_near r o) ≡ shares_program l o v
  parts_tied v None = refl
  parts_tied v (Some b) = linked.parts b v

  near_tied : (u v : Id) → has_id v (near l r u) ≡ is_tied_by l r u v
  near_tied u v =
      has_app v (sources_in u r.sources) (parts_near r (program_in l u))
      ∙ ap (λ (t : Bool). has_id v (sources_in u r.sources) || t) (parts_tied v (program_in l u))

  into_ties : (u v : Id) → In v (near l r u) → is_some (begun_in v l.state.units) ≡ true → In v (ties_of l r u)
  into_ties u v i is = into-filter (is_tied_by l r u) v l.order (has-in v l.order (sym (linked.begun v) ∙ is)) (sym (near_tied u v) ∙ in-has v (near l r u) i)

  from_ties : (u v : Id) → In v (ties_of l r u) → In v (near l r u) × (is_some (begun_in v l.state.units) ≡ true)
  from_ties u v i =
      let f = in-filter (is_tied_by l r u) v l.order i in
      (has-in v (near l r u) (near_tied u v ∙ f.1), linked.begun v ∙ in-has v l.order f.0)

  leads_then : (a b c : Id) → Leads (ties_of l r) a b → In c (ties_of l r b) → Leads (ties_of l r) a c
  leads_then a b c here i = on i here
  leads_then a b c (on {b = d} j p) i = on j (leads_then d b c p i)

  inner : (a b c : Id) → In b (ties_of l r a) → In c (ties_of l r b) → In b l.order
  inner a b c i j = (in-filter (is_tied_by l r a) b l.order i).0

  last : (a c : Id) → Leads (ties_of l r) a c → (a ≡ c) ⊎ In c l.order
  last a c here = inl refl
  last a c (on {b = d} j p) = either (λ (e : d ≡ c). inr (subst (λ (v : Id). In v l.order) e (in-filter (is_tied_by l r a) d l.order j).0)) (λ (i : In c l.order). inr i) (last d c p)

  in_chain : (a u : Id) → Leads (ties_of l r) a u → In u (chained l r a)
  in_chain a u p =
      either (λ (e : a ≡ u). come-old (ties_of l r) l.order (length l.order) u (a ∷ []) (inl e))
      (λ (i : In u l.order). come-all (ties_of l r) l.order inner (a ∷ []) a u (inl refl) p i) (last a u p)

  not_all : (p : Id → Bool) (xs : List Id) (x : Id) → In x xs → p x ≡ false → list_all p xs ≡ false
  not_all p xs x i e = by (list_all p xs) refl
    where
      by : (t : Bool) → list_all p xs ≡ t → t ≡ false
      by true h = absurd (true≢false (sym (all-in p x xs h i) ∙ e))
      by false h = refl

  -- THE SEARCH

  module _ (settled : BTreeMap Id Bool) where
    pub searched_start : (a : Id) → Searched l r settled a 0 (visited_all l settled (near l r a) [])
    searched_start a = record {
      start = λ v i. let f = from_ties a v i in visited_comes l settled (near l r a) [] v f.0 f.1;
      led = λ x i. either (λ (none : In x []). absurd none) (λ (j : In x (near l r a) × (is_some (begun_in x l.state.units) ≡ true)). on (into_ties a x j.0 j.1) here)
          (visited_new l settled (near l r a) [] x i);
      done = λ x i. absurd i;
    }

    pub searched_more : (a : Id) (at : ℕ) (found : List Id) (u : Id) → Searched l r settled a at found → slice_get found at ≡ Some u → is_free r.released (program_in l u) ≡ true →
        Searched l r settled a (at + 1) (visited_all l settled (near l r u) found)
    searched_more a at found u s e free = record {
      start = λ v i. reached_old l settled (near l r u) found v (s.start v i);
      led = λ x i. either (λ (j : In x found). s.led x j)
          (λ (j : In x (near l r u) × (is_some (begun_in x l.state.units) ≡ true)). leads_then a u x (s.led u place.2) (into_ties u x j.0 j.1)) (visited_new l settled (near l r u) found x i);
      done = λ x i.
          either (λ (j : In x (take at found)). let d = s.done x j in record { free = d.free; ties = λ v k. reached_old l settled (near l r u) found v (d.ties v k) })
          (λ (j : In x (u ∷ [])). either (λ (same : u ≡ x). subst (IsDone l r settled (visited_all l settled (near l r u) found)) same own) (λ none. absurd none) j)
          (in-cases x (take at found) (u ∷ []) (subst (In x) front i));
    }
      where
        place : (at < length found) × (take (suc at) found ≡ take at found ++ u ∷ []) × In u found
        place = at_place found at u e

        own : IsDone l r settled (visited_all l settled (near l r u) found) u
        own = record { free = free; ties = λ v k. let f = from_ties u v k in visited_comes l settled (near l r u) found v f.0 f.1 }

        front : take (at + 1) (visited_all l settled (near l r u) found) ≡ take at found ++ u ∷ []
        front =
            let within : at < length found = place.0 in
            let next : at + 1 ≡ suc at = omega arith in
            visited_front l settled (near l r u) found (at + 1) (omega (arith, within)) ∙ ap (λ (n : ℕ). take n found) next ∙ place.1

    -- one that is not free
    pub searched_unfree : (a : Id) (at : ℕ) (found : List Id) (u : Id) → Searched l r settled a at found → slice_get found at ≡ Some u → is_free r.released (program_in l u) ≡ false →
        false ≡ are_free l r (chained l r a)
    searched_unfree a at found u s e unfree =
        sym (not_all (λ (v : Id). is_free r.released (program_in l v)) (chained l r a) u (in_chain a u (s.led u (at_place found at u e).2)) unfree)

    -- no more
    pub searched_all : AreSettled l r settled → (a : Id) (at : ℕ) (found : List Id) → program_in l a ≡ None → Searched l r settled a at found → slice_get found at ≡ None →
        true ≡ are_free l r (chained l r a)
    searched_all rest a at found none s e = sym (into-all (λ (v : Id). is_free r.released (program_in l v)) (chained l r a) free)
      where
        all : take at found ≡ found
        all = past found at e

        done : (x : Id) → In x found → IsDone l r settled found x
        done x i = s.done x (subst (In x) (sym all) i)

        -- whom one is tied to that is reached
        near_reached : (x v : Id) → IsReached settled found x → In v (ties_of l r x) → IsReached settled found v
        near_reached x v (inl i) j = (done x i).ties v j
        near_reached x v (inr m) j = inr ((rest x m).ties v (from_ties x v j).0)

        walk : (x y : Id) → Leads (ties_of l r) x y → IsReached settled found x → IsReached settled found y
        walk x y here i = i
        walk x y (on {b = d} j p) i = walk d y p (near_reached x d i j)

        reached_free : (x : Id) → IsReached settled found x → is_free r.released (program_in l x) ≡ true
        reached_free x (inl i) = (done x i).free
        reached_free x (inr m) = rests_free l r (begun_in x l.state.units) (rest x m).rests

        led_free : (x : Id) → Leads (ties_of l r) a x → is_free r.released (program_in l x) ≡ true
        led_free x here = ap (is_free r.released) none
        led_free x (on {b = d} j p) = reached_free x (walk d x p (s.start d j))

        free : (x : Id) → In x (chained l r a) → is_free r.released (program_in l x) ≡ true
        free x i =
            let w = come-in (ties_of l r) l.order (length l.order) x (a ∷ []) i in
            either (λ (same : a ≡ w.0). led_free x (subst (λ (v : Id). Leads (ties_of l r) v x) (sym same) w.2)) (λ none. absurd none) w.1

-- WHAT IS JUDGED BY IT

pub of_program : (l : Ledger) (r : Reads) (a : Id) (o : Option Id) → program_in l a ≡ o → is_some o ≡ true → [] ≡ unsalted_of l r a
of_program l r a None e is = absurd cc
of_program l r a (Some b) e is = sym (ap (λ (p : Option Id). if is_none p && not (are_free l r (chained l r a)) then a ∷ [] else []) e)

pub of_session : (l : Ledger) (r : Reads) (a : Id) (free : Bool) → program_in l a ≡ None → free ≡ are_free l r (chained l r a) → (if free then [] else a ∷ []) ≡ unsalted_of l r a
of_session l r a free none e =
    by free ∙ ap (λ (t : Bool). if not t then a ∷ [] else []) e
    ∙ sym (ap (λ (p : Option Id). if is_none p && not (are_free l r (chained l r a)) then a ∷ [] else []) none)
  where
    by : (t : Bool) → (if t then [] else a ∷ []) ≡ (if not t then a ∷ [] else [])
    by true = refl
    by false = refl

pub no_program : (o : Option Id) → is_some o ≡ false → o ≡ None
no_program None is = refl
no_program (Some b) is = absurd cc
