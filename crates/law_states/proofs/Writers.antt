-- The live last writer of a key after each event; and the programs that write in a reach are those of its live last writers.
use Rattle.law_states.proofs.Begun.{Begun}
use Rattle.law_states.proofs.Gone.{absent, not-gone, present, released-now}
use Rattle.law_states.specs.KeptSources.{WritesIn, begun_early, gone_in, live_program, live_writer}
use Rattle.law_states.specs.Members.{In}
use Rattle.law_states.specs.WatchSteps.{writer_after}
use Rattle.law_story.proofs.Hiding.{program-in}
use Rattle.law_story.proofs.Ids.{and_left, and_right}
use Rattle.law_story.proofs.Lists.{either, has-in, in-cases, in-filter, in-filter_map, in-has, in-map, in-right, into-filter, into-filter_map}
use Rattle.law_story.proofs.NextFits.{Fits}
use Rattle.law_story.proofs.Places.{equal-is, place_same}
use Rattle.law_story.proofs.Reading.{Salty}
use Rattle.law_story.proofs.Sound.{Sound, kind-in, kind-stays, of-program}
use Rattle.law_story.specs.Rewordings.{WritesAtEnd}
use Rattle.salt_model.specs.After.{changes_now}
use Rattle.salt_model.specs.Programs.{passed_in, programs_in, released_in}
use Rattle.salt_model.specs.Reads.{Written, is_written_at, last_of_each, last_writer, programs_among, writers_in, written_at, written_by, written_in, wrote_of}
use Rattle.salt_model.specs.Tables.{place, place_cmp, place_total, is_within}
use Rattle.salt_model.specs.Trace.{Trace, from, ◌asks◌, ◌says◌, ◌turns◌}
use Rattle.salt_model.specs.Units.{is_open, kind_of, program_of, program_of_kind, units_begun}
use Rattle.salt_model.specs.declared.events.End.TheVariants.{Committed}
use Rattle.salt_model.specs.declared.events.Event.{Event}
use Rattle.salt_model.specs.declared.events.Event.TheVariants.{Did, Early, Ended, Ready, Released}
use Rattle.salt_model.specs.declared.locks.Reach.{Reach}
use Rattle.salt_model.specs.declared.places.Place.{Place}
use Rattle.salt_ranges.specs.Ranges.{has_key}
use Rattle.salt_values.specs.Id.{has_id, is_same_id}
use Rattle.salt_values.specs.declared.id.Id.{Id}
use Rattle.std.proofs.Common.{ap, inl, inr, is_some, subst, sym, ◌∙◌}
use Rattle.std.proofs.lemmas.Bool.{eq-eqb, eqb-true}
use Rattle.std.proofs.lemmas.Cmp.{tied_itself}
use Rattle.std.specs.Bool.{then_some}
use Rattle.std.specs.List.{filter, find, list_any}
use Rattle.std.specs.Ordering.{is_eq}
use Rattle.std.specs.Prelude.{Bool, List, None, Option, Some, [], cond, false, map, not, option_and_then, option_map, refl, true, ℕ, ◌++◌, ◌==◌, ◌||◌, ◌∷◌, ◌≡◌, ◌⊎◌}

-- what `find` gives
find-in : {A : Type 0} (p : A → Bool) (x : A) (xs : List A) → find p xs ≡ Some x → In x xs × (p x ≡ true)
find-in p x [] h = cc
find-in {A = A} p x (y ∷ ys) h = go (find-in p x ys) (p y) refl h
  where
    go : (find p ys ≡ Some x → In x ys × (p x ≡ true)) → (b : Bool) → p y ≡ b → cond b (Some y) (find p ys) ≡ Some x → In x (y ∷ ys) × (p x ≡ true)
    go more true e g = let s : y ≡ x = cc in (inl s, subst (λ z. p z ≡ true) s e)
    go more false e g = let r = more g in (inr r.0, r.1)

find-append : {A : Type 0} (p : A → Bool) (xs ys : List A) → find p (xs ++ ys) ≡ elim (find p xs) [ None ↦ find p ys | Some x ↦ Some x ]
find-append p [] ys = refl
find-append p (x ∷ xs) ys = by (p x) (find-append p xs ys)
  where
    by : (b : Bool) → find p (xs ++ ys) ≡ elim (find p xs) [ None ↦ find p ys | Some x ↦ Some x ] →
        cond b (Some x) (find p (xs ++ ys)) ≡ elim (cond b (Some x) (find p xs)) [ None ↦ find p ys | Some x ↦ Some x ]
    by true e = refl
    by false e = e

-- places that tie are equal
tie-self : (p : Place) → is_eq (place_cmp p p) ≡ true
tie-self p = ap is_eq (tied_itself place_total p)

tie-same : (p q : Place) → is_eq (place_cmp p q) ≡ true → p ≡ q
tie-same p q h = place_same p q (equal-is (place_cmp p q) h)

apart : (p q : Place) → (p ≡ q → ⊥) → is_eq (place_cmp p q) ≡ false
apart p q n = by (is_eq (place_cmp p q)) refl
  where
    by : (b : Bool) → is_eq (place_cmp p q) ≡ b → b ≡ false
    by true e = absurd (n (tie-same p q e))
    by false e = refl

-- the last writings are those that are found by their places
last-found : (w : Written) (ws : List Written) → In w (last_of_each ws) → find (is_written_at (written_at w)) ws ≡ Some w
last-found w [] h = absurd h
last-found w (v ∷ ws) (inl e) = subst (λ x. find (is_written_at (written_at x)) (v ∷ ws) ≡ Some x) e (rw (tie-self (written_at v)) refl)
last-found w (v ∷ ws) (inr h) =
    let r = in-filter (λ x. not (is_written_at (written_at v) x)) w (last_of_each ws) h in
    rw (apart (written_at w) (written_at v) (λ e. let x : not true ≡ true = sym (ap not (subst (λ q. is_eq (place_cmp (written_at v) q) ≡ true) (sym e) (tie-self (written_at v)))) ∙ r.1 in cc)) (last-found w ws r.0)

found-last : (p : Place) (w : Written) (ws : List Written) → find (is_written_at p) ws ≡ Some w → In w (last_of_each ws)
found-last p w [] h = cc
found-last p w (v ∷ ws) h = by (is_written_at p v) refl (found-last p w ws) h
  where
    by : (b : Bool) → is_written_at p v ≡ b → (find (is_written_at p) ws ≡ Some w → In w (last_of_each ws)) →
        cond b (Some v) (find (is_written_at p) ws) ≡ Some w → In w (v ∷ filter (λ x. not (is_written_at (written_at v) x)) (last_of_each ws))
    by true e more g = let s : v ≡ w = cc in inl s
    by false e more g =
        let q : p ≡ written_at w = tie-same p (written_at w) (find-in (is_written_at p) w ws g).1 in
        inr (into-filter (λ x. not (is_written_at (written_at v) x)) w (last_of_each ws) (more g) (ap not (apart (written_at v) (written_at w) (λ s. let x : true ≡ false = sym (subst (λ y. is_eq (place_cmp p y) ≡ true) (q ∙ sym s) (tie-self p)) ∙ e in cc))))

-- the program that is live for a unit
pub live-some : (trace : Trace) (u c : Id) → live_program trace u ≡ Some c →
    (program_of u trace ≡ Some c) × (has_id c (released_in trace) ≡ false) × (has_id u (begun_early trace) ≡ false)
live-some trace u c h = outer (has_id u (begun_early trace)) refl h
  where
    when-some : (b : Id) (t : Bool) → has_id b (released_in trace) ≡ t → then_some (not t) b ≡ Some c →
        (Some b ≡ Some c) × (has_id c (released_in trace) ≡ false)
    when-some b true e g = cc
    when-some b false e g = let s : b ≡ c = cc in (ap Some s, subst (λ x. has_id x (released_in trace) ≡ false) s e)

    by : (o : Option Id) → option_and_then (λ b. then_some (not (has_id b (released_in trace))) b) o ≡ Some c →
        (o ≡ Some c) × (has_id c (released_in trace) ≡ false)
    by None g = cc
    by (Some b) g = when-some b (has_id b (released_in trace)) refl g

    outer : (t : Bool) → has_id u (begun_early trace) ≡ t → cond t None (option_and_then (λ b. then_some (not (has_id b (released_in trace))) b) (program_of u trace)) ≡ Some c →
        (program_of u trace ≡ Some c) × (has_id c (released_in trace) ≡ false) × (has_id u (begun_early trace) ≡ false)
    outer true e g = cc
    outer false e g = let r = by (program_of u trace) g in (r.0, r.1, e)

some-live : (trace : Trace) (u c : Id) → program_of u trace ≡ Some c → has_id c (released_in trace) ≡ false → has_id u (begun_early trace) ≡ false →
    live_program trace u ≡ Some c
some-live trace u c p n e =
    ap (λ t. cond t None (option_and_then (λ b. then_some (not (has_id b (released_in trace))) b) (program_of u trace))) e
    ∙ ap (option_and_then (λ b. then_some (not (has_id b (released_in trace))) b)) p ∙ ap (λ t. then_some (not t) c) n

-- the unreleased programs that wrote a key of the reach last
pub writes-in : (trace : Trace) (r : Option Reach) (y : Id) → In y (programs_among trace (writers_in trace r)) →
    has_id y (released_in trace) ≡ false → WritesIn (live_writer trace) r y ⊎ ((u : Id) × In u (begun_early trace) × (program_of u trace ≡ Some y))
writes-in trace None y h n = absurd (in-filter_map (λ u. program_of u trace) y [] h).1
writes-in trace (Some r) y h n =
    let u = in-filter_map (λ u. program_of u trace) y (writers_in trace (Some r)) h in
    let w = in-map (λ (w : Written). w.unit) u.0 (filter (λ (w : Written). is_within r (written_at w)) (last_of_each (written_in trace))) u.1 in
    let i = in-filter (λ (w : Written). is_within r (written_at w)) w.0 (last_of_each (written_in trace)) w.1 in
    let table : w.0.table ≡ r.table = sym (eqb-true r.table w.0.table (and_left (r.table == w.0.table) _ i.1)) in
    let found : find (is_written_at (place r.table w.0.key)) (written_in trace) ≡ Some w.0 = subst (λ t. find (is_written_at (place t w.0.key)) (written_in trace) ≡ Some w.0) table (last-found w.0 (written_in trace) i.0) in
    early u.0 u.2 (has_id u.0 (begun_early trace)) refl (λ e. (w.0.key, and_right (r.table == w.0.table) _ i.1, ap (λ o. option_and_then (live_program trace) (option_map (λ (w : Written). w.unit) o)) found ∙ ap (live_program trace) w.2 ∙ some-live trace u.0 y u.2 n e))
  where
    early : (u : Id) → program_of u trace ≡ Some y → (t : Bool) → has_id u (begun_early trace) ≡ t → (has_id u (begun_early trace) ≡ false → WritesIn (live_writer trace) (Some r) y) →
        WritesIn (live_writer trace) (Some r) y ⊎ ((u : Id) × In u (begun_early trace) × (program_of u trace ≡ Some y))
    early u q true e f = inr (u, has-in u (begun_early trace) e, q)
    early u q false e f = inl (f e)

pub in-writes : (trace : Trace) (r : Option Reach) (y : Id) → Begun trace → WritesIn (live_writer trace) r y →
    In y (programs_among trace (writers_in trace r)) × (has_id y (gone_in trace) ≡ false)
in-writes trace None y k h = absurd h
in-writes trace (Some r) y k h = by (find (is_written_at (place r.table h.0)) (written_in trace)) refl h.2
  where
    mapped : (w : Written) (ws : List Written) → In w ws → In w.unit (map (λ w. w.unit) ws)
    mapped w [] i = absurd i
    mapped w (v ∷ ws) (inl e) = inl (ap (λ (x : Written). x.unit) e)
    mapped w (v ∷ ws) (inr i) = inr (mapped w ws i)

    by : (o : Option Written) → find (is_written_at (place r.table h.0)) (written_in trace) ≡ o →
        option_and_then (live_program trace) (option_map (λ w. w.unit) o) ≡ Some y →
        In y (programs_among trace (writers_in trace (Some r))) × (has_id y (gone_in trace) ≡ false)
    by None e g = cc
    by (Some w) e g =
        let l = live-some trace w.unit y g in
        let at : place r.table h.0 ≡ written_at w = tie-same _ _ (find-in (is_written_at (place r.table h.0)) w (written_in trace) e).1 in
        let table : (r.table == w.table) ≡ true = eq-eqb r.table w.table (ap (λ (p : Place). p.table) at) in
        let key : has_key r.range w.key ≡ true = subst (λ k. has_key r.range k ≡ true) (ap (λ (p : Place). p.key) at) h.1 in
        let reached : is_within r (written_at w) ≡ true = rw (table, key) refl in
        let i : In w (filter (λ (w : Written). is_within r (written_at w)) (last_of_each (written_in trace))) = into-filter (λ (w : Written). is_within r (written_at w)) w _ (found-last (place r.table h.0) w (written_in trace) e) reached in
        (into-filter_map (λ u. program_of u trace) w.unit y (writers_in trace (Some r)) (mapped w _ i) l.0, not-gone trace y (absent y (passed_in trace) (λ j. present w.unit (begun_early trace) (k.passed w.unit y l.0 j) l.2)) l.1)

-- an event that neither commits nor releases
live-stays : (trace : Trace) (e : Event) → Sound trace → Salty trace → Begun trace → Fits trace e → written_in (trace says e) ≡ written_in trace →
    begun_early (trace says e) ≡ begun_early trace → (more : Id → Bool) →
    ((b : Id) → has_id b (passed_in trace) ≡ false → has_id b (released_in (trace says e)) ≡ (has_id b (released_in trace) || more b)) →
    (p : Place) → live_writer (trace says e) p ≡ option_and_then (λ b. then_some (not (more b)) b) (live_writer trace p)
live-stays trace e s z g f same bg more rel p =
    ap (λ ws. option_and_then (live_program (trace says e)) (option_map (λ (w : Written). w.unit) (find (is_written_at p) ws))) same
    ∙ by (find (is_written_at p) (written_in trace)) refl
  where
    of-unit : (u : Id) → has_id u (begun_early trace) ≡ false → (o : Option Id) → program_of u trace ≡ o →
        option_and_then (λ b. then_some (not (has_id b (released_in (trace says e)))) b) o ≡ option_and_then (λ b. then_some (not (more b)) b) (option_and_then (λ b. then_some (not (has_id b (released_in trace))) b) o)
    of-unit u n None q = refl
    of-unit u n (Some b) q =
        ap (λ t. then_some (not t) b) (rel b (absent b (passed_in trace) (λ i. present u (begun_early trace) (g.passed u b q i) n)))
        ∙ two (has_id b (released_in trace)) (more b) refl
      where
        two : (x y : Bool) → more b ≡ y → then_some (not (x || y)) b ≡ option_and_then (λ b. then_some (not (more b)) b) (then_some (not x) b)
        two true y q = refl
        two false y q = ap (λ t. then_some (not t) b) (sym q)

    outer : (u : Id) (t : Bool) → has_id u (begun_early trace) ≡ t →
        cond t None (option_and_then (λ b. then_some (not (has_id b (released_in (trace says e)))) b) (program_of u trace)) ≡ option_and_then (λ b. then_some (not (more b)) b) (cond t None (option_and_then (λ b. then_some (not (has_id b (released_in trace))) b) (program_of u trace)))
    outer u true n = refl
    outer u false n = of-unit u n (program_of u trace) refl

    by : (o : Option Written) → find (is_written_at p) (written_in trace) ≡ o →
        option_and_then (live_program (trace says e)) (option_map (λ w. w.unit) o) ≡ option_and_then (λ b. then_some (not (more b)) b) (option_and_then (live_program trace) (option_map (λ w. w.unit) o))
    by None q = refl
    by (Some w) q =
        let k : kind_of w.unit (trace says e) ≡ kind_of w.unit trace = kind-stays trace e w.unit s f (z.written w (find-in (is_written_at p) w (written_in trace) q).0).kind_known in
        ap (λ us. cond (has_id w.unit us) None (option_and_then (λ b. then_some (not (has_id b (released_in (trace says e)))) b) (program_of w.unit (trace says e)))) bg
        ∙ ap (λ o. cond (has_id w.unit (begun_early trace)) None (option_and_then (λ b. then_some (not (has_id b (released_in (trace says e)))) b) (option_and_then program_of_kind o))) k
        ∙ outer w.unit (has_id w.unit (begun_early trace)) refl

all-keep : (o : Option Id) → option_and_then (λ b. then_some (not false) b) o ≡ o
all-keep None = refl
all-keep (Some b) = refl

or-false : (x : Bool) → x ≡ (x || false)
or-false true = refl
or-false false = refl

plain : (trace : Trace) (e : Event) → Sound trace → Salty trace → Begun trace → Fits trace e → written_in (trace says e) ≡ written_in trace →
    begun_early (trace says e) ≡ begun_early trace → released_in (trace says e) ≡ released_in trace → (p : Place) → live_writer (trace says e) p ≡ live_writer trace p
plain trace e s z g f ws bg rs p =
    live-stays trace e s z g f ws bg (λ b. false) (λ b n. ap (has_id b) rs ∙ or-false (has_id b (released_in trace))) p ∙ all-keep (live_writer trace p)

-- a commit
committed-live : (trace : Trace) (u : Id) (n : ℕ) → Sound trace → Begun trace → is_open trace u ≡ true →
    live_program (trace says Ended u (Committed n)) u ≡ program_of u trace
committed-live trace u n s k o =
    ap (λ t. cond t None (option_and_then (λ b. then_some (not (has_id b (released_in trace))) b) (program_of u trace))) (absent u (begun_early trace) (λ i. k.closed u i o))
    ∙ by (program_of u trace) refl
  where
    by : (p : Option Id) → program_of u trace ≡ p → option_and_then (λ b. then_some (not (has_id b (released_in trace))) b) p ≡ p
    by None e = refl
    by (Some b) e = its (has_id b (released_in trace)) refl
      where
        its : (t : Bool) → has_id b (released_in trace) ≡ t → then_some (not t) b ≡ Some b
        its true g = absurd (s.alive b u o (of-program trace u b e) (inr (inl (has-in b (released_in trace) g))))
        its false g = refl

wrote-unit : (trace : Trace) (u : Id) (w : Written) → In w (wrote_of u trace) → w.unit ≡ u
wrote-unit (from k) u w h = absurd h
wrote-unit (trace asks asked) u w h = wrote-unit trace u w h
wrote-unit (trace turns b) u w h = wrote-unit trace u w h
wrote-unit (trace says Did v st a) u w h = go (wrote-unit trace u w) (is_same_id u v) refl h
  where
    go : (In w (wrote_of u trace) → w.unit ≡ u) → (t : Bool) → is_same_id u v ≡ t →
        In w (cond t (written_by u (changes_now v trace st) ++ wrote_of u trace) (wrote_of u trace)) → w.unit ≡ u
    go more true e i =
        either (λ j. let m = in-map _ w (changes_now v trace st) j in ap (λ (x : Written). x.unit) (sym m.2)) (λ j. more j)
        (in-cases w _ (wrote_of u trace) i)
    go more false e i = more i
wrote-unit (trace says e) u w h = wrote-unit trace u w h

any-found : {A : Type 0} (p : A → Bool) (xs : List A) (t : Bool) → list_any p xs ≡ t → is_some (find p xs) ≡ t
any-found p [] t h = h
any-found p (x ∷ xs) t h = by (p x) h (any-found p xs t)
  where
    by : (b : Bool) → (b || list_any p xs) ≡ t → (list_any p xs ≡ t → is_some (find p xs) ≡ t) → is_some (cond b (Some x) (find p xs)) ≡ t
    by true g more = g
    by false g more = more g

writer-committed : (trace : Trace) (u : Id) (n : ℕ) → Sound trace → Salty trace → Begun trace → Fits trace (Ended u (Committed n)) →
    WritesAtEnd trace (Ended u (Committed n)) → (p : Place) →
    live_writer (trace says Ended u (Committed n)) p ≡ writer_after trace (Ended u (Committed n)) (live_writer trace) p
writer-committed trace u n s z g f same p =
    ap (λ o. option_and_then (live_program here) (option_map (λ (w : Written). w.unit) o)) (find-append (is_written_at p) (wrote_of u trace) (written_in trace))
    ∙ by (find (is_written_at p) (wrote_of u trace)) refl
    ∙ ap (λ t. cond t (program_of u trace) (live_writer trace p)) (any-found (is_written_at p) (wrote_of u trace) _ refl ∙ same p)
  where
    here : Trace
    here = trace says Ended u (Committed n)

    by : (o : Option Written) → find (is_written_at p) (wrote_of u trace) ≡ o →
        option_and_then (live_program (trace says Ended u (Committed n))) (option_map (λ w. w.unit) (elim o [ None ↦ find (is_written_at p) (written_in trace) | Some x ↦ Some x ])) ≡ cond (is_some o) (program_of u trace) (live_writer trace p)
    by None e = refl
    by (Some w) e =
        ap (live_program here) (wrote-unit trace u w (find-in (is_written_at p) w (wrote_of u trace) e).0) ∙ committed-live trace u n s g f.0

pub writer-ready : (trace : Trace) (p : Place) → live_writer (trace says Ready) p ≡ None
writer-ready trace p = by (last_writer trace p)
  where
    of-unit : (u : Id) (o : Option Id) → program_of u trace ≡ o →
        option_and_then (λ b. then_some (not (has_id b (released_in trace ++ programs_in trace))) b) o ≡ None
    of-unit u None e = refl
    of-unit u (Some b) e =
        ap (λ t. then_some (not t) b) (in-has b (released_in trace ++ programs_in trace) (in-right b (released_in trace) (programs_in trace) (program-in trace u b e)))

    by : (o : Option Id) → option_and_then (live_program (trace says Ready)) o ≡ None
    by None = refl
    by (Some u) = outer (has_id u (begun_early trace)) _ (of-unit u (program_of u trace) refl)
      where
        outer : (t : Bool) (o : Option Id) → o ≡ None → cond t None o ≡ None
        outer true o e = refl
        outer false o e = e

pub writer-early : (trace : Trace) (bs : List Id) → Salty trace → (p : Place) → live_writer (trace says Early bs) p ≡ None
writer-early trace bs z p = by (find (is_written_at p) (written_in trace)) refl
  where
    by : (o : Option Written) → find (is_written_at p) (written_in trace) ≡ o → option_and_then (live_program (trace says Early bs)) (option_map (λ w. w.unit) o) ≡ None
    by None q = refl
    by (Some w) q =
        rw (in-has w.unit (units_begun trace) (kind-in trace w.unit (z.written w (find-in (is_written_at p) w (written_in trace) q).0).kind_known)) refl

pub writer-says : (trace : Trace) (e : Event) → Sound trace → Salty trace → Begun trace → Fits trace e → WritesAtEnd trace e → (p : Place) →
    live_writer (trace says e) p ≡ writer_after trace e (live_writer trace) p
writer-says trace (Ended u (Committed n)) s z g f w p = writer-committed trace u n s z g f w p
writer-says trace (Released bs) s z g f w p = live-stays trace (Released bs) s z g f refl refl (λ b. has_id b bs) (λ b n. released-now trace bs b n) p
writer-says trace Ready s z g f w p = writer-ready trace p
writer-says trace (Early bs) s z g f w p = writer-early trace bs z p
writer-says trace e s z g f w p = plain trace e s z g f refl refl refl p
