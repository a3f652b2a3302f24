-- What is released, and who waits for whom, by the kept pairs alone.
use Rattle.law_states.proofs.Abandoned.{Firsts, finished-accepted, firsts}
use Rattle.law_states.proofs.Ascending.{Older, order-ascends, order-of-ascending}
use Rattle.law_states.proofs.Gone.{accepted-over, gone-parts, not-dead, not-gone, over-parts, present}
use Rattle.law_states.proofs.Pairs.{accepted-known, reader-in}
use Rattle.law_states.specs.KeptSources.{Dependencies, FinishedLive, IsDue, IsKnown, KeepsDependencies, Through, gone_in, itself as kept-itself, through as kept-through}
use Rattle.law_states.specs.Members.{Ascends, In}
use Rattle.law_story.proofs.Every.{every-filter}
use Rattle.law_story.proofs.FinishedSources.{Sources, sources-played as source-facts}
use Rattle.law_story.proofs.Hiding.{AllFree, Hides, found_early, hides}
use Rattle.law_story.proofs.Ids.{and_right}
use Rattle.law_story.proofs.Lists.{either, has-in, in-cases, in-has, or_cases, or_right_true}
use Rattle.law_story.proofs.NextFits.{wait-open}
use Rattle.law_story.proofs.ReadSources.{sources-exact as sources-through}
use Rattle.law_story.proofs.Reading.{Salty}
use Rattle.law_story.proofs.Releasable.{to_release-exact}
use Rattle.law_story.proofs.Salted.{salty as salty-facts}
use Rattle.law_story.proofs.Sound.{Sound}
use Rattle.law_story.proofs.Upheld.{holds}
use Rattle.law_story.proofs.WellKept.{of-start}
use Rattle.salt_model.specs.Kept.{WellKept}
use Rattle.salt_model.specs.Played.{IsPlayed}
use Rattle.salt_model.specs.Programs.{accepted_in, finished_in, left_out, named_early, over_in, passed_in, programs_in, released_in}
use Rattle.salt_model.specs.Reads.{is_finished, read_directly, reads_within, releasable, sources, to_release}
use Rattle.salt_model.specs.Releasing.{ReadsThrough, itself, through}
use Rattle.salt_model.specs.Trace.{Trace, start_of}
use Rattle.salt_model.specs.Units.{is_of_program, wait_list}
use Rattle.salt_model.specs.Waiting.{waiting_of}
use Rattle.salt_model.specs.Words.{shrink}
use Rattle.salt_values.specs.Id.{has_id, in_order, without}
use Rattle.salt_values.specs.declared.id.Id.{Id}
use Rattle.std.proofs.Common.{inl, inr, subst, sym, ◌∙◌}
use Rattle.std.specs.List.{filter, list_all, list_any}
use Rattle.std.specs.Prelude.{Bool, IsTrue, List, [], cond, false, not, refl, suc, true, zero, ℕ, ◌&&◌, ◌||◌, ◌↔◌, ◌∷◌, ◌≡◌, ◌⊎◌}

-- kept pairs are reads
kept-reads : (trace : Trace) (d : Dependencies) → KeepsDependencies d trace → (b c : Id) → Through d.reads b c → ReadsThrough trace b c
kept-reads trace d k b c kept-itself = itself
kept-reads trace d k b c (kept-through {c = x} h r) =
    through (in-has x (read_directly b trace) ((k.reads b x).0 h).reads) (kept-reads trace d k x c r)

-- by kept pairs one comes only to programs that have not gone
kept-unreleased : (trace : Trace) (d : Dependencies) → KeepsDependencies d trace → (b c : Id) → Through d.reads b c →
    has_id b (gone_in trace) ≡ false → has_id c (gone_in trace) ≡ false
kept-unreleased trace d k b c kept-itself n = n
kept-unreleased trace d k b c (kept-through {c = x} h r) n = kept-unreleased trace d k x c r ((k.reads b x).0 h).source

-- what a released program reads, directly or through programs, is released
released-through : (trace : Trace) → Salty trace → (b c : Id) → ReadsThrough trace b c → In b (released_in trace) → In c (released_in trace)
released-through trace z b c itself h = h
released-through trace z b c (through {c = x} i r) h = released-through trace z x c r (z.closed b x h (has-in x (read_directly b trace) i))

or-false-first : (p : Bool) → p ≡ false → (true ≡ p → ⊥)
or-false-first true e h = cc
or-false-first false e h = cc

-- from a program that the last early opening found one comes to such programs, unless all that it found are released
found-through : (trace : Trace) → Hides trace → (b c : Id) → ReadsThrough trace b c → In b (found_early trace) → In c (found_early trace) ⊎ AllFree trace
found-through trace h b c itself i = inl i
found-through trace h b c (through {c = x} j r) i =
    either (λ k. found-through trace h x c r k) (λ a. inr a) (h.reads_found b x i (has-in x (read_directly b trace) j))

all-free : (trace : Trace) → Hides trace → (x : Id) → In x (found_early trace) → AllFree trace → In x (released_in trace)
all-free trace h x i a = let c = h.some x i in h.together c.0 x c.1 (a c.0 c.1) i

-- what is known of reads
pub record Ways (trace : Trace) : Type 0 where
  pub salty : Salty trace
  pub sources : Sources trace
  pub firsts : Firsts trace
  pub hides : Hides trace
  pub readers : (x y : Id) → In y (read_directly x trace) → In x (programs_in trace)

-- reads between programs that have not gone are kept
reads-kept : (trace : Trace) (d : Dependencies) → Ways trace → KeepsDependencies d trace → (b c : Id) →
    IsKnown trace b → has_id c (gone_in trace) ≡ false → ReadsThrough trace b c → Through d.reads b c
reads-kept trace d w k b c known n itself = kept-itself
reads-kept trace d w k b c known n (through {c = x} i r) =
    by (has_id x (gone_in trace)) refl (λ live. reads-kept trace d w k x c (accepted-known trace x w.firsts (w.sources.read b x read) live) n r)
  where
    read : In x (read_directly b trace)
    read = has-in x (read_directly b trace) i

    one : (y : Id) → In y (read_directly b trace) → has_id y (gone_in trace) ≡ false → IsTrue (d.reads b y)
    one y j live = (k.reads b y).1 (record { reads = j; reader = record { unreleased = known.unreleased; kept = known.kept }; source = live })

    not-released : In x (released_in trace) → ⊥
    not-released h = present c (released_in trace) (released-through trace w.salty x c r h) (gone-parts trace c n).1

    named : (y : Id) → has_id y (gone_in trace) ≡ false → In y (found_early trace) → In y (named_early trace)
    named y m j = either (λ q. q) (λ q. absurd (present y (passed_in trace) q (gone-parts trace y m).0)) (w.hides.named_or_passed y j)

    -- through a program that was passed over: an early opening names both
    passed : In x (passed_in trace) → Through d.reads b c
    passed q =
        let f = w.hides.passed x q in
        let e = either (λ j. j) (λ a. absurd (not-released (all-free trace w.hides x f a))) (found-through trace w.hides x c r f) in
        let g = either (λ j. j) (λ a. absurd (not-released (all-free trace w.hides x f a))) (w.hides.fresh b (w.readers b x read)) in
        either (λ same. subst (Through d.reads b) (sym same) kept-itself) (λ j. kept-through (one c j n) kept-itself)
        (w.hides.group b c (named b known.unreleased g) (named c n e))

    by : (t : Bool) → has_id x (gone_in trace) ≡ t → (has_id x (gone_in trace) ≡ false → Through d.reads x c) → Through d.reads b c
    by false e more = kept-through (one x read e) (more e)
    by true e more =
        either (λ q. passed q) (λ h. absurd (not-released h)) (in-cases x (passed_in trace) (released_in trace) (has-in x (gone_in trace) e))

-- RELEASES

due-of : (trace : Trace) (d : Dependencies) → Ways trace →
    ((b : Id) → In b (finished_in trace) → In b (accepted_in trace)) → KeepsDependencies d trace → (b : Id) →
    IsTrue (has_id b (to_release trace)) ↔ IsDue d b
due-of trace d w g k b = (
  (λ h. let r = (to_release-exact trace w.salty.closed b).0 h in
      let own = here r.0 (r.1 b itself) in record {
        finished = live b own (r.1 b itself);
        sources = λ c t. let m = kept-unreleased trace d k b c t own in live c m (r.1 c (kept-reads trace d k b c t));
      }),
  (λ h. let own = (k.finished b).0 h.finished in (to_release-exact trace w.salty.closed b).1 (accepted-over trace b w.hides (g b own.finished) ∙ own.unreleased, λ c r. may-go own c r h.sources (has_id c (released_in trace)) refl)),
)
  where
    live : (c : Id) → has_id c (gone_in trace) ≡ false → (has_id c (finished_in trace) || has_id c (released_in trace)) ≡ true →
        IsTrue (d.finished c)
    live c n h =
        (k.finished c).1 (record { finished = has-in c (finished_in trace) (either (λ e. e) (λ e. absurd (or-false-first (has_id c (released_in trace)) (gone-parts trace c n).1 (sym e))) (or_cases (has_id c (finished_in trace)) _ h)); unreleased = n })

    here : has_id b (over_in trace) ≡ false → (has_id b (finished_in trace) || has_id b (released_in trace)) ≡ true → has_id b (gone_in trace) ≡ false
    here n h =
        let f = has-in b (finished_in trace) (either (λ e. e) (λ e. absurd (or-false-first (has_id b (released_in trace)) (over-parts trace b n).1 (sym e))) (or_cases (has_id b (finished_in trace)) _ h)) in
        sym (accepted-over trace b w.hides (g b f)) ∙ n

    or-first : (p q : Bool) → p ≡ true → (p || q) ≡ true
    or-first true q h = refl
    or-first false q h = cc

    read-accepted : (x c : Id) → In x (accepted_in trace) → ReadsThrough trace x c → In c (accepted_in trace)
    read-accepted x c a itself = a
    read-accepted x c a (through {c = y} i r) = read-accepted y c (w.sources.read x y (has-in y (read_directly x trace) i)) r

    may-go : FinishedLive trace b → (c : Id) → ReadsThrough trace b c → ((c : Id) → Through d.reads b c → IsTrue (d.finished c)) → (t : Bool) →
        has_id c (released_in trace) ≡ t → (has_id c (finished_in trace) || has_id c (released_in trace)) ≡ true
    may-go own c r all true e = or_right_true (has_id c (finished_in trace)) _ e
    may-go own c r all false e = or-first (has_id c (finished_in trace)) _ (in-has c (finished_in trace) (done (has_id c (passed_in trace)) refl))
      where
        known : IsKnown trace b
        known = accepted-known trace b w.firsts (g b own.finished) own.unreleased

        done : (t : Bool) → has_id c (passed_in trace) ≡ t → In c (finished_in trace)
        done true q = w.hides.left c (w.hides.old c (has-in c (passed_in trace) q) (read-accepted b c (g b own.finished) r))
        done false q = ((k.finished c).0 (all c (reads-kept trace d w k b c known (not-gone trace c q e) r))).finished

-- what is left of an ascending list ascends
pub filter-ascends : (p : Id → Bool) (us : List Id) → Ascends Older us → Ascends Older (filter p us)
filter-ascends p [] h = tt
filter-ascends p (u ∷ us) h = by (p u) (filter-ascends p us h.1)
  where
    by : (b : Bool) → Ascends Older (filter p us) → Ascends Older (cond b (u ∷ filter p us) (filter p us))
    by true more = (every-filter (Older u) p us h.0, more)
    by false more = more

shrink-ascends : (test : List Id → Id → Bool) (n : ℕ) (us : List Id) → Ascends Older us → Ascends Older (shrink test n us)
shrink-ascends test zero us h = h
shrink-ascends test (suc n) us h = by (list_all (test us) us) (shrink-ascends test n (filter (test us) us) (filter-ascends (test us) us h))
  where
    by : (b : Bool) → Ascends Older (shrink test n (filter (test us) us)) →
        Ascends Older (elim b [ true ↦ us | false ↦ shrink test n (filter (test us) us) ])
    by true more = h
    by false more = more

pub ways : (trace : Trace) → IsPlayed trace → WellKept (start_of trace).kept → Ways trace
ways trace p w =
    let o = of-start (start_of trace).kept w in
    record {
      salty = salty-facts trace p o w.defined;
      sources = source-facts trace p o w.defined;
      firsts = firsts trace p o;
      hides = hides trace p o;
      readers = reader-in trace p o;
    }

-- the programs to release are those that are due by what is kept, in order of names
pub release-from : (trace : Trace) (d : Dependencies) → IsPlayed trace → WellKept (start_of trace).kept → KeepsDependencies d trace → (bs : List Id) →
    ((b : Id) → In b bs ↔ IsDue d b) → to_release trace ≡ in_order bs
release-from trace d p w k bs h =
    order-of-ascending (to_release trace) bs
    (filter-ascends (λ u. not (has_id u (left_out trace))) (releasable trace) (shrink-ascends (reads_within trace) _ _ (order-ascends (without (released_in trace) (finished_in trace)))))
    (λ b i. (h b).1 ((due b).0 (in-has b (to_release trace) i))) (λ b i. has-in b (to_release trace) ((due b).1 ((h b).0 i)))
  where
    due : (b : Id) → IsTrue (has_id b (to_release trace)) ↔ IsDue d b
    due = due-of trace d (ways trace p w) (finished-accepted trace p (of-start (start_of trace).kept w)) k

-- SOURCES: b and all that it reads from, directly or through programs
pub sources-exact : (trace : Trace) → Sources trace → (b c : Id) → In c (sources trace b) ↔ ReadsThrough trace b c
sources-exact trace s b c =
    let exact = sources-through trace s b c in ((λ h. exact.0 (in-has c (sources trace b) h)), (λ r. has-in c (sources trace b) (exact.1 r)))

-- WAITS: the waiting subtransactions of unfinished programs among the sources of a program that is not forgotten

pub filter-same : {A : Type 0} (p q : A → Bool) (xs : List A) → ((x : A) → In x xs → p x ≡ q x) → filter p xs ≡ filter q xs
filter-same p q [] h = refl
filter-same p q (x ∷ xs) h = λ i. cond (h x (inl refl) i) (x ∷ filter-same p q xs (λ y m. h y (inr m)) i) (filter-same p q xs (λ y m. h y (inr m)) i)

pub any-in : {A : Type 0} (p : A → Bool) (xs : List A) → list_any p xs ≡ true → (x : A) × In x xs × (p x ≡ true)
any-in p [] h = cc
any-in {A} p (x ∷ xs) h = either (λ e. (x, inl refl, e)) (λ e. let r = any-in p xs e in (r.0, inr r.1, r.2)) (or_cases (p x) _ h)

pub into-any : {A : Type 0} (p : A → Bool) (x : A) (xs : List A) → In x xs → p x ≡ true → list_any p xs ≡ true
into-any p x [] h e = absurd h
into-any p x (y ∷ ys) (inl g) e = rw (subst (λ z. p z ≡ true) (sym g) e) refl
into-any p x (y ∷ ys) (inr g) e = or_right_true (p y) _ (into-any p x ys g e)

pub same-bool : (x y : Bool) → (x ≡ true → y ≡ true) → (y ≡ true → x ≡ true) → x ≡ y
same-bool true true f g = refl
same-bool true false f g = sym (f refl)
same-bool false true f g = g refl
same-bool false false f g = refl

waiting-same : (trace : Trace) (d : Dependencies) → Sound trace → Ways trace → KeepsDependencies d trace → (c : Id) →
    IsKnown trace c → (bs : List Id) → ((b : Id) → In b bs ↔ Through d.reads c b) → waiting_of trace (sources trace c) ≡ waiting_of trace bs
waiting-same trace d s w k c known bs h = filter-same _ _ (wait_list trace) (λ u i. same-bool _ _ (forth u i) (back u))
  where
    forth : (u : Id) → In u (wait_list trace) → list_any (λ b. not (is_finished trace b) && is_of_program b trace u) (sources trace c) ≡ true →
        list_any (λ b. not (is_finished trace b) && is_of_program b trace u) bs ≡ true
    forth u i e =
        let m = any-in (λ b. not (is_finished trace b) && is_of_program b trace u) (sources trace c) e in
        let live : has_id m.0 (gone_in trace) ≡ false = not-dead trace m.0 (λ j. s.alive m.0 u (wait-open trace u i) (and_right (not (is_finished trace m.0)) _ m.2) j) in
        into-any (λ b. not (is_finished trace b) && is_of_program b trace u) m.0 bs ((h m.0).1 (reads-kept trace d w k c m.0 known live ((sources-exact trace w.sources c m.0).0 m.1))) m.2

    back : (u : Id) → list_any (λ b. not (is_finished trace b) && is_of_program b trace u) bs ≡ true →
        list_any (λ b. not (is_finished trace b) && is_of_program b trace u) (sources trace c) ≡ true
    back u e =
        let m = any-in (λ b. not (is_finished trace b) && is_of_program b trace u) bs e in
        into-any (λ b. not (is_finished trace b) && is_of_program b trace u) m.0 (sources trace c) ((sources-exact trace w.sources c m.0).1 (kept-reads trace d k c m.0 ((h m.0).0 m.1))) m.2

pub waiting-from : (trace : Trace) (d : Dependencies) → IsPlayed trace → WellKept (start_of trace).kept → KeepsDependencies d trace → (c : Id) →
    IsKnown trace c → (bs : List Id) → ((b : Id) → In b bs ↔ Through d.reads c b) → waiting_of trace (sources trace c) ≡ waiting_of trace bs
waiting-from trace d p w k c known bs h =
    waiting-same trace d (holds trace p (of-start (start_of trace).kept w)).sound (ways trace p w) k c known bs h
