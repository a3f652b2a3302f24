-- Direct reads and finished programs after each event.
use Rattle.law_states.proofs.Abandoned.{Firsts, finished-accepted, firsts}
use Rattle.law_states.proofs.Ascending.{has-append}
use Rattle.law_states.proofs.Begun.{Begun, begun}
use Rattle.law_states.proofs.Gone.{absent, gone-parts, gone-released, not-dead, not-gone, present, ready-gone}
use Rattle.law_states.proofs.Writers.{in-writes, writer-says, writes-in}
use Rattle.law_states.specs.KeptSources.{Dependencies, FinishedAfter, FinishedLive, IsKnown, KeepsDependencies, ReadsLive, WritesIn, abandoned_in, begun_early, first_of, given_up, gone_in, live_writer, unless_among}
use Rattle.law_states.specs.Members.{In}
use Rattle.law_states.specs.WatchSteps.{DependenciesAfter, ReadsAfter, writer_after}
use Rattle.law_story.proofs.Fresh.{or_left, or_right}
use Rattle.law_story.proofs.Hiding.{AllFree, Hides, acceptance-alive, found_early, hides, program-in, programs-say}
use Rattle.law_story.proofs.Ids.{is_same_id-refl, is_same_id-true}
use Rattle.law_story.proofs.Lists.{either, has-in, in-cases, in-left, in-right, in-without, into-filter}
use Rattle.law_story.proofs.NextFits.{Fits, IsLastEnd}
use Rattle.law_story.proofs.Salted.{salty}
use Rattle.law_story.proofs.Sound.{Dead, Sound, continued-of, named-bases, of-program, program-of}
use Rattle.law_story.proofs.Upheld.{OfBoots, holds, may-fit}
use Rattle.law_story.proofs.WellKept.{of-start}
use Rattle.law_story.proofs.WrittenKeys.{written-at-end}
use Rattle.law_story.specs.Rewordings.{is_changed}
use Rattle.salt_ast.specs.declared.trees.Statement.{Statement}
use Rattle.salt_model.specs.After.{reach_now, run_of}
use Rattle.salt_model.specs.Continuing.{last_said}
use Rattle.salt_model.specs.Kept.{WellKept}
use Rattle.salt_model.specs.Played.{IsPlayed}
use Rattle.salt_model.specs.Programs.{accepted_in, finished_in, named_early, passed_in, programs_in, released_in}
use Rattle.salt_model.specs.Reads.{programs_among, read_directly, writers_in}
use Rattle.salt_model.specs.Tables.{place}
use Rattle.salt_model.specs.Trace.{Trace, from, start_of, ◌asks◌, ◌says◌, ◌turns◌}
use Rattle.salt_model.specs.Units.{is_of_program, is_open, kind_of, program_of}
use Rattle.salt_model.specs.declared.events.Answer.{Answer}
use Rattle.salt_model.specs.declared.events.End.{End}
use Rattle.salt_model.specs.declared.events.End.TheVariants.{Branched, Committed}
use Rattle.salt_model.specs.declared.events.Event.{Event}
use Rattle.salt_model.specs.declared.events.Event.TheVariants.{Accepted, Did, Early, Ended, Finished, Ready, Released}
use Rattle.salt_model.specs.declared.locks.Reach.{Reach}
use Rattle.salt_model.specs.declared.places.Place.{Place}
use Rattle.salt_values.specs.Id.{has_id, is_same_id, without}
use Rattle.salt_values.specs.declared.id.Id.{Id}
use Rattle.std.proofs.Common.{ap, inl, inr, subst, sym, ◌∙◌}
use Rattle.std.specs.Prelude.{Bool, IsTrue, List, None, Option, Some, [], cond, false, not, refl, true, ◌++◌, ◌||◌, ◌↔◌, ◌∷◌, ◌≡◌, ◌⊎◌}

-- of tests that are false
pub neither-false : (x y : Bool) → x ≡ false → y ≡ false → (x || y) ≡ false
neither-false false y e f = f
neither-false true y e f = cc

pub not-in : (b : Id) (us : List Id) → (In b us → ⊥) → has_id b us ≡ false
not-in b us n = by (has_id b us) refl
  where
    by : (t : Bool) → has_id b us ≡ t → t ≡ false
    by true e = absurd (n (has-in b us e))
    by false e = refl

-- the program of an open unit is known
pub open-known : (trace : Trace) (u b : Id) → Sound trace → Firsts trace → is_open trace u ≡ true → program_of u trace ≡ Some b → IsKnown trace b
open-known trace u b s h o p = record {
  unreleased = not-dead trace b (λ d. s.alive b u o (of-program trace u b p) d);
  kept = not-in b (abandoned_in trace) (h.open_kept b u o p);
}

-- an accepted program that has not gone is known
pub accepted-known : (trace : Trace) (b : Id) → Firsts trace → In b (accepted_in trace) → has_id b (gone_in trace) ≡ false → IsKnown trace b
accepted-known trace b h a n = record { unreleased = n; kept = not-in b (abandoned_in trace) (h.accepted_kept b a) }

-- the same reads, where nothing is released or given up
same-reads : (trace : Trace) (e : Event) (old : Dependencies) → KeepsDependencies old trace →
    ((x : Id) → read_directly x (trace says e) ≡ read_directly x trace) → gone_in (trace says e) ≡ gone_in trace →
    abandoned_in (trace says e) ≡ abandoned_in trace → (x y : Id) → IsTrue (old.reads x y) ↔ ReadsLive (trace says e) x y
same-reads trace e old k rs fs gs x y = (
  (λ h. let r = (k.reads x y).0 h in record {
    reads = subst (In y) (sym (rs x)) r.reads;
    reader = record { unreleased = ap (has_id x) fs ∙ r.reader.unreleased; kept = ap (has_id x) gs ∙ r.reader.kept };
    source = ap (has_id y) fs ∙ r.source;
  }),
  (λ r. (k.reads x y).1 (record {
    reads = subst (In y) (rs x) r.reads;
    reader = record { unreleased = ap (has_id x) (sym fs) ∙ r.reader.unreleased; kept = ap (has_id x) (sym gs) ∙ r.reader.kept };
    source = ap (has_id y) (sym fs) ∙ r.source;
  })),
)

through-writers : (f g : (p : Place) → Option Id) → ((p : Place) → f p ≡ g p) → (r : Option Reach) (y : Id) → WritesIn f r y → WritesIn g r y
through-writers f g e None y h = absurd h
through-writers f g e (Some r) y h = (h.0, h.1, sym (e (place r.table h.0)) ∙ h.2)

reads-did : (trace : Trace) (u : Id) (st : Statement) (a : Answer) (old : Dependencies) → Sound trace → Firsts trace → Hides trace → Begun trace →
    is_open trace u ≡ true → KeepsDependencies old trace → (x y : Id) → ReadsAfter trace (Did u st a) old x y ↔ ReadsLive (trace says Did u st a) x y
reads-did trace u st a old s h d g o k x y = (forth, back)
  where
    added : List Id
    added = without (x ∷ []) (programs_among trace (writers_in trace (reach_now u trace st)))

    older : In y (read_directly x trace) → In y (read_directly x (trace says Did u st a))
    older i = by (is_of_program x trace u)
      where
        by : (t : Bool) → In y (cond t (without (x ∷ []) (programs_among trace (writers_in trace (reach_now u trace st))) ++ read_directly x trace) (read_directly x trace))
        by true = in-right y _ (read_directly x trace) i
        by false = i

    forth : ReadsAfter trace (Did u st a) old x y → ReadsLive (trace says Did u st a) x y
    forth (inl t) =
        let r = (k.reads x y).0 t in
        record { reads = older r.reads; reader = record { unreleased = r.reader.unreleased; kept = r.reader.kept }; source = r.source }
    forth (inr n) =
        let w = in-writes trace (reach_now u trace st) y g (through-writers old.writer (live_writer trace) k.writer (reach_now u trace st) y n.2) in
        let known = open-known trace u x s h o n.0 in
        let mine : In y (without (x ∷ []) (programs_among trace (writers_in trace (reach_now u trace st)))) = into-filter (λ z. not (has_id z (x ∷ []))) y _ w.0 (rw n.1 refl) in
        record {
          reads = rw (of-program trace u x n.0) (in-left y _ (read_directly x trace) mine);
          reader = record { unreleased = known.unreleased; kept = known.kept };
          source = w.1;
        }

    back : ReadsLive (trace says Did u st a) x y → ReadsAfter trace (Did u st a) old x y
    back r = by (is_of_program x trace u) refl r.reads
      where
        was : In y (read_directly x trace) → ReadsAfter trace (Did u st a) old x y
        was i =
            inl ((k.reads x y).1 (record { reads = i; reader = record { unreleased = r.reader.unreleased; kept = r.reader.kept }; source = r.source }))

        -- one that began before the last early opening is read from already: that opening names both
        named : In y (named_early trace) → is_same_id y x ≡ false → (In x (found_early trace)) ⊎ AllFree trace → ReadsAfter trace (Did u st a) old x y
        named n other (inl f) = either
            (λ m. either (λ q. absurd (apart q)) (λ i. was i) (d.group x y m n))
            (λ m. absurd (present x (passed_in trace) m (gone-parts trace x r.reader.unreleased).0)) (d.named_or_passed x f)
          where
            apart : y ≡ x → ⊥
            apart q = let t : true ≡ false = sym (is_same_id-refl x) ∙ subst (λ z. is_same_id z x ≡ false) q other in cc
        named n other (inr free) =
            let c = d.some y (d.named_found y n) in
            absurd (present y (released_in trace) (d.together c.0 y c.1 (free c.0 c.1) (d.named_found y n)) (gone-parts trace y r.source).1)

        early : (x-in : In x (programs_in trace)) → is_same_id y x ≡ false → (v : Id) × In v (begun_early trace) × (program_of v trace ≡ Some y) →
            ReadsAfter trace (Did u st a) old x y
        early x-in other m =
            either (λ n. named n other (d.fresh x x-in)) (λ n. absurd (present y (passed_in trace) n (gone-parts trace y r.source).0)) (d.named_or_passed y (g.found m.0 y m.1 m.2))

        by : (t : Bool) → is_of_program x trace u ≡ t →
            In y (cond t (without (x ∷ []) (programs_among trace (writers_in trace (reach_now u trace st))) ++ read_directly x trace) (read_directly x trace)) →
            ReadsAfter trace (Did u st a) old x y
        by true e i = either
            (λ j. let m = in-without y (x ∷ []) (programs_among trace (writers_in trace (reach_now u trace st))) j in
            either (λ w. inr (program-of trace u x e, or_left (is_same_id y x) false m.1, through-writers (live_writer trace) old.writer (λ p. sym (k.writer p)) (reach_now u trace st) y w)) (λ w. early (program-in trace u x (program-of trace u x e)) (or_left (is_same_id y x) false m.1) w) (writes-in trace (reach_now u trace st) y m.0 (gone-parts trace y r.source).1))
            was (in-cases y _ (read_directly x trace) i)
        by false e i = was i

reads-ended : (trace : Trace) (u : Id) (end : End) (old : Dependencies) → KeepsDependencies old trace → (x y : Id) →
    ReadsAfter trace (Ended u end) old x y ↔ ReadsLive (trace says Ended u end) x y
reads-ended trace u end old k x y = (
  (λ h. let r = (k.reads x y).0 h.0 in record {
    reads = r.reads;
    reader = record { unreleased = r.reader.unreleased; kept = has-append x (abandoned_in trace) _ ∙ neither-false _ _ r.reader.kept h.1 };
    source = r.source;
  }),
  (λ r. let n = sym (has-append x (abandoned_in trace) (given_up end (first_of u trace))) ∙ r.reader.kept in
      ((k.reads x y).1 (record { reads = r.reads; reader = record { unreleased = r.reader.unreleased; kept = or_left _ _ n }; source = r.source }), or_right (has_id x (abandoned_in trace)) _ n)),
)

reads-released : (trace : Trace) (bs : List Id) (old : Dependencies) → KeepsDependencies old trace → (x y : Id) →
    ReadsAfter trace (Released bs) old x y ↔ ReadsLive (trace says Released bs) x y
reads-released trace bs old k x y = (
  (λ h. let r = (k.reads x y).0 h.0 in record {
    reads = r.reads;
    reader = record { unreleased = gone-released trace bs x ∙ neither-false _ _ r.reader.unreleased h.1; kept = r.reader.kept };
    source = gone-released trace bs y ∙ neither-false _ _ r.source h.2;
  }),
  (λ r. let n = sym (gone-released trace bs x) ∙ r.reader.unreleased in
      let m = sym (gone-released trace bs y) ∙ r.source in
      ((k.reads x y).1 (record { reads = r.reads; reader = record { unreleased = or_left _ _ n; kept = r.reader.kept }; source = or_left _ _ m }), or_right (has_id x (gone_in trace)) _ n, or_right (has_id y (gone_in trace)) _ m)),
)

-- who reads has an event, and none reads from itself
pub reader-in : (trace : Trace) → IsPlayed trace → OfBoots (start_of trace).kept → (x y : Id) → In y (read_directly x trace) → In x (programs_in trace)
reader-in (from k) p w x y i = absurd i
reader-in (trace asks asked) p w x y i = reader-in trace p.0 w x y i
reader-in (trace turns b) p w x y i = reader-in trace p.0 w x y i
reader-in (trace says Did u st a) p w x y i = by (is_of_program x trace u) refl i (λ j. reader-in trace p.0 w x y j)
  where
    by : (t : Bool) → is_of_program x trace u ≡ t →
        In y (cond t (without (x ∷ []) (programs_among trace (writers_in trace (reach_now u trace st))) ++ read_directly x trace) (read_directly x trace)) →
        (In y (read_directly x trace) → In x (programs_in trace)) → In x (programs_in trace)
    by true e j more = program-in trace u x (program-of trace u x e)
    by false e j more = more j
reader-in (trace says Early bs) p w x y i = by (has_id x bs) refl i (λ j. reader-in trace p.0 w x y j)
  where
    by : (t : Bool) → has_id x bs ≡ t → In y (cond t (without (x ∷ []) bs ++ read_directly x trace) (read_directly x trace)) → (In y (read_directly x trace) → In x (programs_in trace)) → In x (programs_in trace)
    by true e j more =
        (hides trace p.0 w).goes x (named-bases trace bs (may-fit trace (Early bs) (holds trace p.0 w).comes p.1) x (has-in x bs e))
    by false e j more = more j
reader-in (trace says e) p w x y i = programs-say trace e x (reader-in trace p.0 w x y i)

no-self : (trace : Trace) (x : Id) → In x (read_directly x trace) → ⊥
no-self (from k) x i = i
no-self (trace asks asked) x i = no-self trace x i
no-self (trace turns b) x i = no-self trace x i
no-self (trace says Did u st a) x i = by (is_of_program x trace u) i (λ j. no-self trace x j)
  where
    by : (t : Bool) →
        In x (cond t (without (x ∷ []) (programs_among trace (writers_in trace (reach_now u trace st))) ++ read_directly x trace) (read_directly x trace)) → (In x (read_directly x trace) → ⊥) → ⊥
    by true j more = either (λ m. present x (x ∷ []) (inl refl) (in-without x (x ∷ []) _ m).1) (λ m. more m) (in-cases x (without (x ∷ []) (programs_among trace (writers_in trace (reach_now u trace st)))) _ j)
    by false j more = more j
no-self (trace says Early bs) x i = by (has_id x bs) i (λ j. no-self trace x j)
  where
    by : (t : Bool) → In x (cond t (without (x ∷ []) bs ++ read_directly x trace) (read_directly x trace)) → (In x (read_directly x trace) → ⊥) → ⊥
    by true j more = either (λ m. present x (x ∷ []) (inl refl) (in-without x (x ∷ []) bs m).1) (λ m. more m) (in-cases x (without (x ∷ []) bs) _ j)
    by false j more = more j
no-self (trace says e) x i = no-self trace x i

-- at an early opening what it found is named or gone
pub early-named : (trace : Trace) (bs : List Id) (b : Id) → In b (programs_in trace) → has_id b (gone_in (trace says Early bs)) ≡ false → has_id b bs ≡ true
early-named trace bs b i n = by (has_id b bs) refl
  where
    by : (t : Bool) → has_id b bs ≡ t → t ≡ true
    by true e = refl
    by false e = absurd (present b (passed_in (trace says Early bs)) (in-right b (passed_in trace) _ (into-filter (λ u. not (has_id u bs)) b (programs_in trace) i (rw e refl))) (gone-parts (trace says Early bs) b n).0)

named-alive : (trace : Trace) (bs : List Id) → Sound trace → Fits trace (Early bs) → Hides (trace says Early bs) → (b : Id) → In b bs →
    has_id b (gone_in (trace says Early bs)) ≡ false
named-alive trace bs s f d b i =
    not-gone (trace says Early bs) b (absent b (passed_in (trace says Early bs)) (λ j. d.unpassed b i j))
    (absent b (released_in trace) (λ j. s.goes_on b (named-bases trace bs f b i) (inr (inl j))))

pub reads-early : (trace : Trace) (bs : List Id) (old : Dependencies) → IsPlayed (trace says Early bs) → OfBoots (start_of trace).kept → Sound trace →
    Firsts trace → Fits trace (Early bs) → (x y : Id) → ReadsAfter trace (Early bs) old x y ↔ ReadsLive (trace says Early bs) x y
reads-early trace bs old p w s h f x y = (forth, back)
  where
    d : Hides (trace says Early bs)
    d = hides (trace says Early bs) p w

    forth : ReadsAfter trace (Early bs) old x y → ReadsLive (trace says Early bs) x y
    forth m =
        let i = has-in x bs m.0 in
        let j = has-in y bs m.1 in
        record {
          reads = rw m.0 (in-left y (without (x ∷ []) bs) _ (into-filter (λ z. not (has_id z (x ∷ []))) y bs j (rw m.2 refl)));
          reader = record { unreleased = named-alive trace bs s f d x i; kept = not-in x (abandoned_in trace) (h.accepted_kept x (d.named_accepted x i)) };
          source = named-alive trace bs s f d y j;
        }

    back : ReadsLive (trace says Early bs) x y → ReadsAfter trace (Early bs) old x y
    back r =
        (early-named trace bs x (reader-in (trace says Early bs) p w x y r.reads) r.reader.unreleased, early-named trace bs y (d.reads_in x y r.reads) r.source, other (is_same_id y x) refl)
      where
        other : (t : Bool) → is_same_id y x ≡ t → t ≡ false
        other true e = absurd (no-self (trace says Early bs) x (subst (λ z. In z (read_directly x (trace says Early bs))) (is_same_id-true y x e) r.reads))
        other false e = refl

reads-says : (trace : Trace) (e : Event) (old : Dependencies) → IsPlayed (trace says e) → OfBoots (start_of trace).kept → Sound trace → Firsts trace →
    Hides trace → Begun trace → Fits trace e → KeepsDependencies old trace → (x y : Id) → ReadsAfter trace e old x y ↔ ReadsLive (trace says e) x y
reads-says trace (Did u st a) old p w s h d g f k x y = reads-did trace u st a old s h d g f.0 k x y
reads-says trace (Ended u end) old p w s h d g f k x y = reads-ended trace u end old k x y
reads-says trace (Released bs) old p w s h d g f k x y = reads-released trace bs old k x y
reads-says trace Ready old p w s h d g f k x y =
    ((λ h. absurd h), (λ r. absurd (ready-gone trace y (d.reads_in x y r.reads) (gone-parts (trace says Ready) y r.source).1)))
reads-says trace (Early bs) old p w s h d g f k x y = reads-early trace bs old p w s h f x y
reads-says trace e old p w s h d g f k x y = same-reads trace e old k (λ x. refl) refl refl x y

-- finished programs
finished-says : (trace : Trace) (e : Event) (old : Dependencies) → Sound trace → Fits trace e → ((b : Id) → In b (finished_in trace) → In b (programs_in trace)) →
    (Dead : (b : Id) → e ≡ Finished b → has_id b (gone_in trace) ≡ false) → KeepsDependencies old trace → (b : Id) →
    FinishedAfter e old b ↔ FinishedLive (trace says e) b
finished-says trace (Finished c) old s f g d k b = (
  (λ h. either (λ e. record { finished = in-right b (finished_in trace) (c ∷ []) (inl e); unreleased = d b (ap Finished e) }) (λ t. let r = (k.finished b).0 t in record { finished = in-left b (finished_in trace) (c ∷ []) r.finished; unreleased = r.unreleased }) h),
  (λ r. either (λ i. inr ((k.finished b).1 (record { finished = i; unreleased = r.unreleased }))) (λ i. either (λ e. inl e) (λ x. absurd x) i) (in-cases b (finished_in trace) (c ∷ []) r.finished)),
)
finished-says trace (Released bs) old s f g d k b = (
  (λ h. let r = (k.finished b).0 h.0 in record { finished = r.finished; unreleased = gone-released trace bs b ∙ neither-false _ _ r.unreleased h.1 }),
  (λ r. let n = sym (gone-released trace bs b) ∙ r.unreleased in ((k.finished b).1 (record { finished = r.finished; unreleased = or_left _ _ n }), or_right (has_id b (gone_in trace)) _ n)),
)
finished-says trace Ready old s f g d k b = (
  (λ h. absurd h),
  (λ r. absurd (ready-gone trace b (g b r.finished) (gone-parts (trace says Ready) b r.unreleased).1)),
)
finished-says trace (Early bs) old s f g d k b = (
  (λ h. absurd h),
  (λ r. absurd (s.goes_on b (named-bases trace bs f b (has-in b bs (early-named trace bs b (g b r.finished) r.unreleased))) (inl r.finished))),
)
finished-says trace e old s f g d k b = (
  (λ h. let r = (k.finished b).0 h in record { finished = r.finished; unreleased = r.unreleased }),
  (λ r. (k.finished b).1 (record { finished = r.finished; unreleased = r.unreleased })),
)

-- a program that comes to its end is not released
pub ends-alive : (trace : Trace) → IsPlayed trace → OfBoots (start_of trace).kept → (b : Id) → IsLastEnd b trace (last_said trace) → Dead trace b → ⊥
ends-alive (from k) p w b h d = absurd h
ends-alive (trace asks asked) p w b h d = ends-alive trace p.0 w b (before (last_said trace) h) d
  where
    before : (o : Option Event) → IsLastEnd b (trace asks asked) o → IsLastEnd b trace o
    before (Some (Ended u (Committed n))) g = g
    before (Some (Ended u (Branched n c))) g = g
    before (Some (Accepted c)) g = g
    before o g = absurd g
ends-alive (trace turns x) p w b h d = ends-alive trace p.0 w b (before (last_said trace) h) d
  where
    before : (o : Option Event) → IsLastEnd b (trace turns x) o → IsLastEnd b trace o
    before (Some (Ended u (Committed n))) g = g
    before (Some (Ended u (Branched n c))) g = g
    before (Some (Accepted c)) g = g
    before o g = absurd g
ends-alive (trace says Ended u (Committed n)) p w b h d =
    let k = holds trace p.0 w in
    k.sound.alive b u (may-fit trace (Ended u (Committed n)) k.comes p.1).0 (of-program trace u b (continued-of (kind_of u trace) b h.0)) d
ends-alive (trace says Ended u (Branched n c)) p w b h d =
    let k = holds trace p.0 w in
    k.sound.alive b u (may-fit trace (Ended u (Branched n c)) k.comes p.1).0 (of-program trace u b (continued-of (kind_of u trace) b h.0)) d
ends-alive (trace says Accepted c) p w b h d =
    acceptance-alive trace p.0 w c (may-fit trace (Accepted c) (holds trace p.0 w).comes p.1) (subst (Dead trace) (sym h.0) d)
ends-alive (trace says e) p w b h d = absurd h

-- what is kept after an event is what the event makes of what was kept
pub deps-after : (trace : Trace) (e : Event) (old new : Dependencies) → IsPlayed (trace says e) → WellKept (start_of trace).kept →
    KeepsDependencies old trace → DependenciesAfter trace e old new → KeepsDependencies new (trace says e)
deps-after trace e old new p w k d =
    let o : OfBoots (start_of trace).kept = of-start (start_of trace).kept w in
    let h = holds trace p.0 o in
    let f = may-fit trace e h.comes p.1 in
    let first = firsts trace p.0 o in
    let d' = hides trace p.0 o in
    let g = begun trace p.0 o in
    record {
      writer = λ q. d.writer q ∙ same-after e q ∙ sym (writer-says trace e h.sound (salty trace p.0 o w.defined) g f (written-at-end (trace says e) p o).1 q);
      reads = λ x y. ((λ t. (reads-says trace e old p o h.sound first d' g f k x y).0 ((d.reads x y).0 t)), (λ r. (d.reads x y).1 ((reads-says trace e old p o h.sound first d' g f k x y).1 r)));
      finished = λ b. let r = finished-says trace e old h.sound f (λ b i. first.accepted_known b (finished-accepted trace p.0 o b i)) (finishing f o) k b in ((λ t. r.0 ((d.finished b).0 t)), (λ q. (d.finished b).1 (r.1 q)));
    }
  where
    same-after : (e : Event) (q : Place) → writer_after trace e old.writer q ≡ writer_after trace e (live_writer trace) q
    same-after (Ended u (Committed n)) q = ap (cond (is_changed q (run_of u trace).changes) (program_of u trace)) (k.writer q)
    same-after (Released bs) q = ap (unless_among bs) (k.writer q)
    same-after Ready q = refl
    same-after (Early bs) q = refl
    same-after e q = k.writer q

    finishing : Fits trace e → OfBoots (start_of trace).kept → (b : Id) → e ≡ Finished b → has_id b (gone_in trace) ≡ false
    finishing f o b q = not-dead trace b (λ i. ends-alive trace p.0 o b (subst (Fits trace) q f) i)
