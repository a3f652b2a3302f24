-- The accepted programs that are not released, after each event; and what holds at a Ready, at a finish and where a program is given up.
use Rattle.law_states.proofs.Abandoned.{Firsts, finished-accepted, firsts, not-both}
use Rattle.law_states.proofs.Ascending.{Older, in_order-same, order-ascends, order-of-ascending}
use Rattle.law_states.proofs.Closures.{any-in, filter-ascends, into-any, same-bool}
use Rattle.law_states.proofs.Gone.{absent, gone-parts, not-over, over-parts, over-released, present, ready-gone}
use Rattle.law_states.proofs.LocksAfter.{first-in, held-ready}
use Rattle.law_states.proofs.Pairs.{ends-alive, neither-false}
use Rattle.law_states.proofs.Writers.{live-some, writer-ready}
use Rattle.law_states.specs.KeptPrograms.{KeepsNothing, unreleased_after}
use Rattle.law_states.specs.KeptSources.{Dependencies, FinishedLive, KeepsDependencies, ReadsLive, first_of, live_program, live_writer}
use Rattle.law_states.specs.KeptWaits.{asker}
use Rattle.law_states.specs.Members.{Ascends, In}
use Rattle.law_story.proofs.FinishedSources.{sources-played}
use Rattle.law_story.proofs.Fresh.{or_left, or_right}
use Rattle.law_story.proofs.Hiding.{Hides, acceptance-alive, hides}
use Rattle.law_story.proofs.Lists.{either, has-in, in-cases, in-filter, in-has, in-left, in-order, in-right, in-without, into-filter, into-order}
use Rattle.law_story.proofs.NextFits.{Fits, find-in, wait-open}
use Rattle.law_story.proofs.Salted.{salty}
use Rattle.law_story.proofs.Sound.{Sound, named-bases, none-open}
use Rattle.law_story.proofs.Upheld.{OfBoots, holds, may-fit}
use Rattle.law_story.proofs.WellKept.{of-start}
use Rattle.salt_model.specs.After.{kept}
use Rattle.salt_model.specs.Isolation.{is_committed_standing}
use Rattle.salt_model.specs.Kept.{WellKept}
use Rattle.salt_model.specs.Locks.{is_holding}
use Rattle.salt_model.specs.Played.{IsPlayed}
use Rattle.salt_model.specs.Programs.{accepted_in, left_out, named_early, over_in, released_in, shares, unreleased}
use Rattle.salt_model.specs.Reads.{Written, is_written_at, written_in}
use Rattle.salt_model.specs.Refusals.{is_busy, is_covering}
use Rattle.salt_model.specs.Trace.{Asked, Trace, start_of, ◌asks◌, ◌says◌, ◌turns◌}
use Rattle.salt_model.specs.Units.{is_open, open_units, standing, units_begun, wait_list}
use Rattle.salt_model.specs.Words.{is_empty}
use Rattle.salt_model.specs.declared.events.Event.{Event}
use Rattle.salt_model.specs.declared.events.Event.TheVariants.{Accepted, Early, Finished, Ready, Released}
use Rattle.salt_model.specs.declared.places.Place.{Place}
use Rattle.salt_values.specs.Id.{has_id, in_order, insert_id, without}
use Rattle.salt_values.specs.declared.cont.Cont.{Cont}
use Rattle.salt_values.specs.declared.id.Id.{Id}
use Rattle.std.proofs.Common.{ap, inl, inr, subst, sym, ◌∙◌}
use Rattle.std.specs.List.{find, list_any}
use Rattle.std.specs.Prelude.{Bool, List, None, Option, Some, [], false, map, not, option_and_then, option_map, refl, true, ◌++◌, ◌||◌, ◌∷◌, ◌≡◌}

pub none-in : (us : List Id) → ((u : Id) → In u us → ⊥) → us ≡ []
none-in [] h = refl
none-in (u ∷ us) h = absurd (h u (inl refl))

pub ready-empty : (trace : Trace) → IsPlayed (trace says Ready) → OfBoots (start_of trace).kept → KeepsNothing (trace says Ready)
ready-empty trace p w =
    let k = holds trace p.0 w in
    let f = may-fit trace Ready k.comes p.1 in
    let h = firsts trace p.0 w in
    let d = hides trace p.0 w in
    record {
      units = none-in (open_units trace) (λ u i. none-open trace k.sound f u (in-filter (is_open trace) u (units_begun trace) i).1);
      locks = held-ready trace k.sound d f;
      waits = ap (map (asker (trace says Ready))) (none-in (wait_list trace) (λ u i. none-open trace k.sound f u (wait-open trace u i)));
      programs = ap in_order (none-in (without (over_in (trace says Ready)) (accepted_in trace)) (λ b i. let r = in-without b (over_in (trace says Ready)) (accepted_in trace) i in ready-gone trace b (h.accepted_known b r.0) (over-parts (trace says Ready) b r.1).1));
      dependencies = record {
        writer = λ q. sym (writer-ready trace q);
        reads = λ x y. ((λ t. cc), (λ r. absurd (ready-gone trace y (d.reads_in x y r.reads) (gone-parts (trace says Ready) y r.source).1)));
        finished = λ b. ((λ t. cc), (λ r. absurd (ready-gone trace b (h.accepted_known b (finished-accepted trace p.0 w b r.finished)) (gone-parts (trace says Ready) b r.unreleased).1)));
      };
    }

-- the accepted programs that are neither released nor left out
pub unreleased-in : (trace : Trace) (b : Id) → In b (unreleased trace) → In b (accepted_in trace) × (has_id b (over_in trace) ≡ false)
unreleased-in trace b i = in-without b (over_in trace) (accepted_in trace) (in-order b _ i)

into-unreleased : (trace : Trace) (b : Id) → In b (accepted_in trace) → has_id b (over_in trace) ≡ false →
    In b (without (over_in trace) (accepted_in trace))
into-unreleased trace b i n = into-filter (λ u. not (has_id u (over_in trace))) b (accepted_in trace) i (ap not n)

unreleased-accepted : (trace : Trace) (b : Id) → has_id b (over_in trace) ≡ false →
    unreleased (trace says Accepted b) ≡ insert_id b (unreleased trace)
unreleased-accepted trace b n =
    in_order-same (without (over_in trace) (accepted_in trace ++ b ∷ [])) (b ∷ without (over_in trace) (accepted_in trace)) forth back
  where
    forth : (x : Id) → In x (without (over_in trace) (accepted_in trace ++ b ∷ [])) → In x (b ∷ without (over_in trace) (accepted_in trace))
    forth x i =
        let r = in-without x (over_in trace) (accepted_in trace ++ b ∷ []) i in
        either (λ j. inr (into-unreleased trace x j r.1)) (λ j. either (λ e. inl e) (λ z. absurd z) j) (in-cases x (accepted_in trace) (b ∷ []) r.0)

    back : (x : Id) → In x (b ∷ without (over_in trace) (accepted_in trace)) → In x (without (over_in trace) (accepted_in trace ++ b ∷ []))
    back x (inl e) =
        into-filter (λ u. not (has_id u (over_in trace))) x _ (in-right x (accepted_in trace) (b ∷ []) (inl e))
        (ap not (subst (λ y. has_id y (over_in trace) ≡ false) e n))
    back x (inr i) =
        let r = in-without x (over_in trace) (accepted_in trace) i in
        into-filter (λ u. not (has_id u (over_in trace))) x _ (in-left x (accepted_in trace) (b ∷ []) r.0) (ap not r.1)

unreleased-released : (trace : Trace) (bs : List Id) → Hides trace → unreleased (trace says Released bs) ≡ without bs (unreleased trace)
unreleased-released trace bs h =
    sym (order-of-ascending (without bs (unreleased trace)) (without (over_in (trace says Released bs)) (accepted_in trace)) (filter-ascends (λ u. not (has_id u bs)) (unreleased trace) (order-ascends (without (over_in trace) (accepted_in trace)))) forth back)
  where
    forth : (x : Id) → In x (without bs (unreleased trace)) → In x (without (over_in (trace says Released bs)) (accepted_in trace))
    forth x i =
        let r = in-without x bs (unreleased trace) i in
        let q = unreleased-in trace x r.0 in
        into-filter (λ u. not (has_id u (over_in (trace says Released bs)))) x (accepted_in trace) q.0
        (ap not (over-released trace bs x h q.0 ∙ neither-false _ _ q.1 r.1))

    back : (x : Id) → In x (without (over_in (trace says Released bs)) (accepted_in trace)) → In x (without bs (unreleased trace))
    back x i =
        let r = in-without x (over_in (trace says Released bs)) (accepted_in trace) i in
        let n = sym (over-released trace bs x h r.0) ∙ r.1 in
        into-filter (λ u. not (has_id u bs)) x (unreleased trace) (into-order x _ (into-unreleased trace x r.0 (or_left _ _ n))) (ap not (or_right (has_id x (over_in trace)) _ n))

-- an early opening leaves those that it names
unreleased-early : (trace : Trace) (bs : List Id) → Sound trace → Fits trace (Early bs) → Hides (trace says Early bs) → unreleased (trace says Early bs) ≡ bs
unreleased-early trace bs s f h =
    sym (order-of-ascending bs (without (over_in (trace says Early bs)) (accepted_in trace)) (subst (Ascends Older) (sym f.1) (order-ascends (map (λ (c : Cont). c.base) (kept trace).conts))) forth back)
  where
    forth : (x : Id) → In x bs → In x (without (over_in (trace says Early bs)) (accepted_in trace))
    forth x i =
        into-filter (λ u. not (has_id u (over_in (trace says Early bs)))) x (accepted_in trace) (h.named_accepted x i)
        (ap not (not-over (trace says Early bs) x (absent x (left_out (trace says Early bs)) (λ j. h.named x i j)) (absent x (released_in trace) (λ j. s.goes_on x (named-bases trace bs f x i) (inr (inl j))))))

    back : (x : Id) → In x (without (over_in (trace says Early bs)) (accepted_in trace)) → In x bs
    back x i = by (has_id x bs) refl
      where
        by : (t : Bool) → has_id x bs ≡ t → In x bs
        by true e = has-in x bs e
        by false e =
            let r = in-without x (over_in (trace says Early bs)) (accepted_in trace) i in
            absurd (present x (left_out (trace says Early bs)) (in-right x (left_out trace) _ (into-filter (λ u. not (has_id u bs)) x (accepted_in trace) r.0 (rw e refl))) (over-parts (trace says Early bs) x r.1).0)

pub unreleased-says : (trace : Trace) (e : Event) → IsPlayed (trace says e) → OfBoots (start_of trace).kept →
    unreleased (trace says e) ≡ unreleased_after e (unreleased trace)
unreleased-says trace (Accepted b) p w =
    let f = may-fit trace (Accepted b) (holds trace p.0 w).comes p.1 in
    unreleased-accepted trace b (not-over trace b (absent b (left_out trace) (λ i. acceptance-alive trace p.0 w b f (inl ((hides trace p.0 w).left b i)))) (absent b (released_in trace) (λ i. acceptance-alive trace p.0 w b f (inr (inl i)))))
unreleased-says trace (Released bs) p w = unreleased-released trace bs (hides trace p.0 w)
unreleased-says trace Ready p w = (ready-empty trace p w).programs
unreleased-says trace (Early bs) p w =
    let k = holds trace p.0 w in unreleased-early trace bs k.sound (may-fit trace (Early bs) k.comes p.1) (hides (trace says Early bs) p w)
unreleased-says trace e p w = refl

-- where a program that an early opening found is not released, the first that it names is neither
pub into-held : (trace : Trace) → Hides trace → (b : Id) → In b (accepted_in trace) → has_id b (released_in trace) ≡ false →
    (c : Id) × In c (unreleased trace)
into-held trace h b a n = by (has_id b (left_out trace)) refl
  where
    by : (t : Bool) → has_id b (left_out trace) ≡ t → (c : Id) × In c (unreleased trace)
    by false e = (b, into-order b _ (into-unreleased trace b a (not-over trace b e n)))
    by true e =
        let f = h.out b (has-in b (left_out trace) e) in
        let c = h.some b f in
        let i = first-in c.0 (named_early trace) c.1 in
        let o : has_id c.0 (over_in trace) ≡ false = not-over trace c.0 (absent c.0 (left_out trace) (λ j. h.named c.0 i j)) (absent c.0 (released_in trace) (λ j. present b (released_in trace) (h.together c.0 b c.1 j f) n)) in
        (c.0, into-order c.0 _ (into-unreleased trace c.0 (h.named_accepted c.0 i) o))

-- a program is not released yet: the trace is busy
pub holds-by : (trace : Trace) → Hides trace → list_any (is_holding trace) (accepted_in trace) ≡ not (is_empty (unreleased trace))
holds-by trace d = same-bool _ _ forth back
  where
    un-not : (t : Bool) → not t ≡ true → t ≡ false
    un-not true h = cc
    un-not false h = refl

    forth : list_any (is_holding trace) (accepted_in trace) ≡ true → not (is_empty (unreleased trace)) ≡ true
    forth h =
        let m = any-in (is_holding trace) (accepted_in trace) h in
        let c = into-held trace d m.0 m.1 (un-not _ m.2) in
        some c.0 (unreleased trace) c.1
      where
        some : (x : Id) (us : List Id) → In x us → not (is_empty us) ≡ true
        some x [] i = absurd i
        some x (u ∷ us) i = refl

    back : not (is_empty (unreleased trace)) ≡ true → list_any (is_holding trace) (accepted_in trace) ≡ true
    back h = by (unreleased trace) (λ b i. unreleased-in trace b i) h
      where
        by : (us : List Id) → ((b : Id) → In b us → In b (accepted_in trace) × (has_id b (over_in trace) ≡ false)) → not (is_empty us) ≡ true →
            list_any (is_holding trace) (accepted_in trace) ≡ true
        by [] f e = cc
        by (u ∷ us) f e = let r = f u (inl refl) in into-any (is_holding trace) u (accepted_in trace) r.0 (ap not (over-parts trace u r.1).1)

pub busy-by : (trace : Trace) → IsPlayed trace → OfBoots (start_of trace).kept → is_busy trace ≡ (not (is_empty (open_units trace)) || not (is_empty (unreleased trace)))
busy-by trace p w = ap (λ t. not (is_empty (open_units trace)) || t) (holds-by trace (hides trace p w))

-- a program that the last early opening names is not released
any-agree : (p q : Id → Bool) (xs : List Id) → ((x : Id) → In x xs → p x ≡ q x) → list_any p xs ≡ list_any q xs
any-agree p q [] h = refl
any-agree p q (x ∷ xs) h = λ i. h x (inl refl) i || any-agree p q xs (λ y m. h y (inr m)) i

pub covers-by : (trace : Trace) → Hides trace → is_covering trace ≡ shares (named_early trace) (unreleased trace)
covers-by trace h = any-agree (is_holding trace) (λ b. has_id b (unreleased trace)) (named_early trace) one
  where
    un-not : (t : Bool) → not t ≡ true → t ≡ false
    un-not true h = cc
    un-not false h = refl

    one : (b : Id) → In b (named_early trace) → is_holding trace b ≡ has_id b (unreleased trace)
    one b i = same-bool _ _
        (λ e. in-has b (unreleased trace) (into-order b _ (into-unreleased trace b (h.named_accepted b i) (not-over trace b (absent b (left_out trace) (λ j. h.named b i j)) (un-not _ e)))))
        (λ e. ap not (over-parts trace b (unreleased-in trace b (has-in b (unreleased trace) e)).1).1)

-- a program that comes to its end is not among the finished ones
pub finishes-once : (trace : Trace) (b : Id) → IsPlayed (trace says Finished b) → OfBoots (start_of trace).kept → FinishedLive trace b → ⊥
finishes-once trace b p w h = ends-alive trace p.0 w b (may-fit trace (Finished b) (holds trace p.0 w).comes p.1) (inl h.finished)

-- a program whose first part is open wrote no key last, and none reads from it
pub first-unseen : (trace : Trace) (u b : Id) → IsPlayed trace → WellKept (start_of trace).kept → is_open trace u ≡ true → first_of u trace ≡ Some b →
    ((p : Place) → live_writer trace p ≡ Some b → ⊥) × ((x : Id) → ReadsLive trace x b → ⊥)
first-unseen trace u b p w o f =
    ((λ q e. writer q (find (is_written_at q) (written_in trace)) refl e), (λ x r. h.new b u o f ((sources-played trace p (of-start (start_of trace).kept w) w.defined).read x b r.reads)))
  where
    h : Firsts trace
    h = firsts trace p (of-start (start_of trace).kept w)

    writer : (q : Place) (m : Option Written) → find (is_written_at q) (written_in trace) ≡ m →
        option_and_then (live_program trace) (option_map (λ w. w.unit) m) ≡ Some b → ⊥
    writer q None e g = cc
    writer q (Some x) e g =
        let c = (salty trace p (of-start (start_of trace).kept w) w.defined).written x (find-in (is_written_at q) x (written_in trace) e).0 in
        let same : x.unit ≡ u = h.alone b u x.unit o f (live-some trace x.unit b g).0 in
        not-both (standing u trace) o (subst (λ y. is_committed_standing (standing y trace) ≡ true) same c.committed)

-- lines and turns leave what is kept of programs
pub deps-asks : (trace : Trace) (asked : Asked) (d : Dependencies) → KeepsDependencies d trace → KeepsDependencies d (trace asks asked)
deps-asks trace asked d k = record {
  writer = k.writer;
  reads = λ x y. ((λ t. let r = (k.reads x y).0 t in record { reads = r.reads; reader = record { unreleased = r.reader.unreleased; kept = r.reader.kept }; source = r.source }), (λ r. (k.reads x y).1 (record { reads = r.reads; reader = record { unreleased = r.reader.unreleased; kept = r.reader.kept }; source = r.source })));
  finished = λ b. ((λ t. let r = (k.finished b).0 t in record { finished = r.finished; unreleased = r.unreleased }), (λ r. (k.finished b).1 (record { finished = r.finished; unreleased = r.unreleased })));
}

pub deps-turns : (trace : Trace) (c : Id) (d : Dependencies) → KeepsDependencies d trace → KeepsDependencies d (trace turns c)
deps-turns trace c d k = record {
  writer = k.writer;
  reads = λ x y. ((λ t. let r = (k.reads x y).0 t in record { reads = r.reads; reader = record { unreleased = r.reader.unreleased; kept = r.reader.kept }; source = r.source }), (λ r. (k.reads x y).1 (record { reads = r.reads; reader = record { unreleased = r.reader.unreleased; kept = r.reader.kept }; source = r.source })));
  finished = λ b. ((λ t. let r = (k.finished b).0 t in record { finished = r.finished; unreleased = r.unreleased }), (λ r. (k.finished b).1 (record { finished = r.finished; unreleased = r.unreleased })));
}
