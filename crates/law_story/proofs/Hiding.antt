-- What an early opening finds is released as one: the programs that it names together, and with them all others that it found.
use Rattle.law_story.proofs.Accounts.{Accounts, accounts, goes-along, none-some}
use Rattle.law_story.proofs.Due.{accepts-due, finishes-due}
use Rattle.law_story.proofs.Ids.{and_left, is_same_id-true}
use Rattle.law_story.proofs.Lists.{In, PassesSelf, all-in, any-not, either, has-in, in-cases, in-filter_map, in-has, in-left, in-right, in-without, into-filter, or_cases, shrink-ends}
use Rattle.law_story.proofs.NextFits.{Fits, FitsKind, IsAcceptance, IsLastEnd, NoneHolds, first-in, is_first_of}
use Rattle.law_story.proofs.Sound.{Dead, Sound, bases-named, bases_in, conts-back, due-in, first-program, freed-passed, kind-some, kind-stays, named-bases, of-program, program-of, programs-began}
use Rattle.law_story.proofs.Upheld.{OfBoots, holds, may-fit}
use Rattle.salt_model.specs.After.{kept, reach_now}
use Rattle.salt_model.specs.Continuing.{AcceptsDue, FinishesDue, GoesAlong, last_said, program_continued}
use Rattle.salt_model.specs.Locks.{Taken, base_tables, cover, cover_lock, cover_of, is_holding, taken_by, taken_in, taken_since}
use Rattle.salt_model.specs.Played.{IsPlayed}
use Rattle.salt_model.specs.Programs.{accepted_in, finished_in, freed_by, left_out, named_early, passed_in, programs_in, released_in, shares}
use Rattle.salt_model.specs.Reads.{programs_among, read_directly, reads_within, releasable, to_release, writers_in}
use Rattle.salt_model.specs.Refusals.{is_covering}
use Rattle.salt_model.specs.Trace.{Trace, from, start_of, ◌asks◌, ◌says◌, ◌turns◌}
use Rattle.salt_model.specs.Units.{is_of_program, kind_of, program_of, program_of_kind}
use Rattle.salt_model.specs.Words.{first_of_list}
use Rattle.salt_model.specs.declared.events.End.TheVariants.{Branched, Committed}
use Rattle.salt_model.specs.declared.events.Event.{Event}
use Rattle.salt_model.specs.declared.events.Event.TheVariants.{Accepted, Began, Did, Early, Ended, Finished, Ready, Released}
use Rattle.salt_model.specs.declared.events.UnitKind.{UnitKind}
use Rattle.salt_model.specs.declared.events.UnitKind.TheVariants.{Acid, Call, First, Later}
use Rattle.salt_model.specs.declared.locks.Reach.{Reach}
use Rattle.salt_values.specs.Id.{has_id, in_order, is_same_id, without}
use Rattle.salt_values.specs.declared.id.Id.{Id}
use Rattle.std.proofs.Common.{ap, arith, inl, inr, subst, sym, ◌∙◌}
use Rattle.std.specs.Bool.{then_some}
use Rattle.std.specs.Option.{option_or}
use Rattle.std.specs.Prelude.{Bool, List, None, Option, Some, [], cond, false, is_some, map, not, option_and_then, refl, true, ℕ, ⊤, ◌++◌, ◌||◌, ◌∷◌, ◌≡◌, ◌⊎◌}

-- released programs and reads stay
pub released-says : (trace : Trace) (e : Event) (b : Id) → In b (released_in trace) → In b (released_in (trace says e))
released-says trace (Released bs) b h = in-right b (freed_by bs trace) _ (in-left b (released_in trace) bs h)
released-says trace Ready b h = in-left b (released_in trace) _ h
released-says trace e b h = h

pub reads-says : (trace : Trace) (e : Event) (b c : Id) → In c (read_directly b trace) → In c (read_directly b (trace says e))
reads-says trace (Did u st a) b c h = go (is_of_program b trace u)
  where
    go : (t : Bool) → In c (cond t (without (b ∷ []) (programs_among trace (writers_in trace (reach_now u trace st))) ++ read_directly b trace) (read_directly b trace))
    go true = in-right c _ (read_directly b trace) h
    go false = h
reads-says trace (Early bs) b c h = go (has_id b bs)
  where
    go : (t : Bool) → In c (cond t (without (b ∷ []) bs ++ read_directly b trace) (read_directly b trace))
    go true = in-right c (without (b ∷ []) bs) (read_directly b trace) h
    go false = h
reads-says trace e b c h = h

-- the program of a unit has an event
pub program-in : (trace : Trace) (v c : Id) → program_of v trace ≡ Some c → In c (programs_in trace)
program-in (from k) v c h = cc
program-in (trace asks line) v c h = program-in trace v c h
program-in (trace turns b) v c h = program-in trace v c h
program-in (trace says Began u kind) v c h = go (program-in trace v c) (is_same_id v u) h
  where
    more : (o : Option Id) → In c (programs_in trace) → In c (elim o [ None ↦ programs_in trace | Some b ↦ programs_in trace ++ b ∷ [] ])
    more None i = i
    more (Some b) i = in-left c (programs_in trace) (b ∷ []) i

    its : (o : Option Id) → o ≡ Some c → In c (elim o [ None ↦ programs_in trace | Some b ↦ programs_in trace ++ b ∷ [] ])
    its None e = cc
    its (Some b) e = in-right c (programs_in trace) (b ∷ []) (inl (cc))

    go : (program_of v trace ≡ Some c → In c (programs_in trace)) → (t : Bool) → option_and_then program_of_kind (option_or (then_some t kind) (kind_of v trace)) ≡ Some c → In c (programs_in (trace says Began u kind))
    go before true e = its (program_of_kind kind) e
    go before false e = more (program_of_kind kind) (before e)
program-in (trace says e) v c h = program-in trace v c h

pub programs-say : (trace : Trace) (e : Event) (c : Id) → In c (programs_in trace) → In c (programs_in (trace says e))
programs-say trace (Began u kind) c h = go (program_of_kind kind)
  where
    go : (o : Option Id) → In c (elim o [ None ↦ programs_in trace | Some b ↦ programs_in trace ++ b ∷ [] ])
    go None = h
    go (Some b) = in-left c (programs_in trace) (b ∷ []) h
programs-say trace e c h = h

pub accepted-says : (trace : Trace) (e : Event) (c : Id) → In c (accepted_in trace) → In c (accepted_in (trace says e))
accepted-says trace (Accepted b) c i = in-left c (accepted_in trace) (b ∷ []) i
accepted-says trace e c i = i

-- the programs of later parts are accepted
abbrev pub AreLaterAccepted : Trace → Type 0
AreLaterAccepted trace = (u c : Id) (part : ℕ) → kind_of u trace ≡ Some (Later c part) → In c (accepted_in trace)

pub later-step : (trace : Trace) (e : Event) → AreLaterAccepted trace → GoesAlong trace e → (u c : Id) (part : ℕ) → kind_of u (trace says e) ≡ Some (Later c part) → In c (accepted_in (trace says e))
later-step trace (Began v kind) s g u c part k = by (is_same_id u v) kind g k
  where
    begun : (kind : UnitKind) → GoesAlong trace (Began v kind) → kind ≡ Later c part → In c (accepted_in trace)
    begun (Later d part') g e = let s : d ≡ c = cc in subst (λ x. In x (accepted_in trace)) s (has-in d (accepted_in trace) (and_left _ _ g.1))
    begun (Acid t) g e = cc
    begun (Call t n args) g e = cc
    begun (First t b n args) g e = cc

    by : (t : Bool) (kind : UnitKind) → GoesAlong trace (Began v kind) → option_or (then_some t kind) (kind_of u trace) ≡ Some (Later c part) → In c (accepted_in trace)
    by true kind g e = begun kind g cc
    by false kind g e = s u c part e
later-step trace e s g u c part k = accepted-says trace e c (s u c part k)

-- a program that is about to be accepted is not over
pub acceptance-alive : (trace : Trace) → IsPlayed trace → OfBoots (start_of trace).kept → (c : Id) → IsAcceptance c trace (last_said trace) → Dead trace c → ⊥
acceptance-alive (from k) p w c a d = absurd a
acceptance-alive (trace asks asked) p w c a d = acceptance-alive trace p.0 w c (before (last_said trace) a) d
  where
    before : (o : Option Event) → IsAcceptance c (trace asks asked) o → IsAcceptance c trace o
    before (Some (Ended u (Committed n))) h = h
    before o h = absurd h
acceptance-alive (trace turns b) p w c a d = acceptance-alive trace p.0 w c (before (last_said trace) a) d
  where
    before : (o : Option Event) → IsAcceptance c (trace turns b) o → IsAcceptance c trace o
    before (Some (Ended u (Committed n))) h = h
    before o h = absurd h
acceptance-alive (trace says Ended u (Committed n)) p w c a d = let h = holds trace p.0 w in h.sound.alive c u (may-fit trace (Ended u (Committed n)) h.comes p.1).0 (of-program trace u c (first (kind_of u trace) a)) d
  where
    first : (o : Option UnitKind) → is_first_of c o ≡ true → option_and_then program_of_kind o ≡ Some c
    first (Some (First t b name args)) g = ap Some (sym (is_same_id-true c b g))
    first None g = cc
    first (Some (Acid t)) g = cc
    first (Some (Call t name args)) g = cc
    first (Some (Later b part)) g = cc
acceptance-alive (trace says e) p w c a d = absurd a

-- the programs that the last early opening found, and those that some early opening named
abbrev pub found_early : Trace → List Id
found_early (from k) = []
found_early (trace asks asked) = found_early trace
found_early (trace turns b) = found_early trace
found_early (trace says Early bs) = programs_in trace
found_early (trace says e) = found_early trace

abbrev pub ever_named : Trace → List Id
ever_named (from k) = []
ever_named (trace asks asked) = ever_named trace
ever_named (trace turns b) = ever_named trace
ever_named (trace says Early bs) = ever_named trace ++ bs
ever_named (trace says e) = ever_named trace

-- the first program that the last early opening names, if there is one, is released
abbrev pub AllFree : Trace → Type 0
AllFree trace = (c : Id) → first_of_list (named_early trace) ≡ Some c → In c (released_in trace)

pub record Hides (trace : Trace) : Type 0 where
  pub left : (b : Id) → In b (left_out trace) → In b (finished_in trace)
  pub named : (b : Id) → In b (named_early trace) → In b (left_out trace) → ⊥
  pub unpassed : (b : Id) → In b (named_early trace) → In b (passed_in trace) → ⊥
  pub group : (b c : Id) → In b (named_early trace) → In c (named_early trace) → (c ≡ b) ⊎ In c (read_directly b trace)
  pub some : (b : Id) → In b (found_early trace) → (c : Id) × (first_of_list (named_early trace) ≡ Some c)
  pub together : (c b : Id) → first_of_list (named_early trace) ≡ Some c → In c (released_in trace) → In b (found_early trace) → In b (released_in trace)
  pub found : (b : Id) → In b (found_early trace) → In b (programs_in trace)
  pub goes : (b : Id) → In b (bases_in trace) → In b (programs_in trace)
  pub passed : (b : Id) → In b (passed_in trace) → In b (found_early trace)
  pub ever : (b : Id) → In b (ever_named trace) → In b (accepted_in trace) × (In b (named_early trace) ⊎ In b (left_out trace))
  pub out : (b : Id) → In b (left_out trace) → In b (found_early trace)
  pub accepted : (b : Id) → In b (accepted_in trace) → In b (programs_in trace)
  pub later : AreLaterAccepted trace
  pub finished : (b : Id) → In b (finished_in trace) → In b (accepted_in trace)
  pub fresh : (b : Id) → In b (programs_in trace) → In b (found_early trace) ⊎ AllFree trace
  pub old : (b : Id) → In b (passed_in trace) → In b (accepted_in trace) → In b (left_out trace)
  pub named_or_passed : (b : Id) → In b (found_early trace) → In b (named_early trace) ⊎ In b (passed_in trace)
  pub reads_in : (b c : Id) → In c (read_directly b trace) → In c (programs_in trace)
  pub reads_found : (b c : Id) → In b (found_early trace) → In c (read_directly b trace) → In c (found_early trace) ⊎ AllFree trace
  pub named_found : (b : Id) → In b (named_early trace) → In b (found_early trace)
  pub named_accepted : (b : Id) → In b (named_early trace) → In b (accepted_in trace)
  pub since_taken : (t : Taken) → In t (taken_since trace) → In t (taken_in trace)
  pub since : (t : Taken) → In t (taken_since trace) → (b : Id) → program_of t.unit trace ≡ Some b → In b (passed_in trace) → ⊥
  pub known : (t : Taken) → In t (taken_in trace) → is_some (kind_of t.unit trace) ≡ true
  pub taken : (t : Taken) → In t (taken_in trace) → In t (taken_since trace) ⊎ ((b : Id) → program_of t.unit trace ≡ Some b → In b (found_early trace))

-- the steps, of one fact each

left-step : (trace : Trace) (e : Event) → Accounts trace → Fits trace e → FinishesDue trace e → Hides trace → (b : Id) → In b (left_out (trace says e)) → In b (finished_in (trace says e))
left-step trace (Early bs) a f d h b i = either (λ j. h.left b j) (λ j. new (in-without b bs (accepted_in trace) j)) (in-cases b (left_out trace) _ i)
  where
    new : In b (accepted_in trace) × (has_id b bs ≡ false) → In b (finished_in trace)
    new r = either (λ g. g) (λ g. either (λ k. absurd (let n : has_id b bs ≡ true = in-has b bs (bases-named trace bs f b k) in let x : true ≡ false = sym n ∙ r.1 in cc)) (λ x. none-some _ b x d) g) (a.ends b r.0)
left-step trace (Finished c) a f d h b i = in-left b (finished_in trace) (c ∷ []) (h.left b i)
left-step trace e a f d h b i = h.left b i

not-without : (b : Id) (bs us : List Id) → In b bs → In b (without bs us) → ⊥
not-without b bs us i j = let n : has_id b bs ≡ true = in-has b bs i in let x : true ≡ false = sym n ∙ (in-without b bs us j).1 in cc

named-step : (trace : Trace) (e : Event) → Sound trace → Fits trace e → Hides trace → (b : Id) → In b (named_early (trace says e)) → In b (left_out (trace says e)) → ⊥
named-step trace (Early bs) s f h b i j = either (λ k. s.goes_on b (named-bases trace bs f b i) (inl (h.left b k))) (λ k. not-without b bs (accepted_in trace) i k) (in-cases b (left_out trace) _ j)
named-step trace e s f h b i j = h.named b i j

unpassed-step : (trace : Trace) (e : Event) → Sound trace → Fits trace e → Hides trace → (b : Id) → In b (named_early (trace says e)) → In b (passed_in (trace says e)) → ⊥
unpassed-step trace (Early bs) s f h b i j = either (λ k. s.goes_on b (named-bases trace bs f b i) (inr (inr k))) (λ k. not-without b bs (programs_in trace) i k) (in-cases b (passed_in trace) _ j)
unpassed-step trace e s f h b i j = h.unpassed b i j

group-step : (trace : Trace) (e : Event) → Hides trace → (b c : Id) → In b (named_early (trace says e)) → In c (named_early (trace says e)) → (c ≡ b) ⊎ In c (read_directly b (trace says e))
group-step trace (Early bs) h b c i j = go (has_id b bs) (in-has b bs i) (is_same_id c b) refl
  where
    go : (t : Bool) → t ≡ true → (x : Bool) → is_same_id c b ≡ x → (c ≡ b) ⊎ In c (cond t (without (b ∷ []) bs ++ read_directly b trace) (read_directly b trace))
    go false n x e = cc
    go true n true e = inl (is_same_id-true c b e)
    go true n false e = inr (in-left c (without (b ∷ []) bs) _ (into-filter (λ u. not (has_id u (b ∷ []))) c bs j (rw e refl)))
group-step trace e h b c i j = either (λ g. inl g) (λ g. inr (reads-says trace e b c g)) (h.group b c i j)

first-some : (bs : List Id) → (bs ≡ [] → ⊥) → (c : Id) × (first_of_list bs ≡ Some c)
first-some [] n = absurd (n refl)
first-some (c ∷ cs) n = (c, refl)

some-step : (trace : Trace) (e : Event) → Fits trace e → Hides trace → (b : Id) → In b (found_early (trace says e)) → (c : Id) × (first_of_list (named_early (trace says e)) ≡ Some c)
some-step trace (Early bs) f h b i = first-some bs f.5
some-step trace e f h b i = h.some b i

-- a release that names a program of the last early opening frees what that found and did not name
freed-last : (bs : List Id) (trace : Trace) (b : Id) → shares (named_early trace) bs ≡ true → In b (found_early trace) → has_id b (named_early trace) ≡ false → In b (freed_by bs trace)
freed-last bs (from k) b s i n = absurd i
freed-last bs (trace asks asked) b s i n = freed-last bs trace b s i n
freed-last bs (trace turns c) b s i n = freed-last bs trace b s i n
freed-last bs (trace says Early names) b s i n = rw s (in-left b (without names (programs_in trace)) _ (into-filter (λ u. not (has_id u names)) b (programs_in trace) i (rw n refl)))
freed-last bs (trace says e) b s i n = freed-last bs trace b s i n

shares-in : (c : Id) (xs ys : List Id) → In c xs → In c ys → shares xs ys ≡ true
shares-in c [] ys i j = absurd i
shares-in c (x ∷ xs) ys (inl e) j = rw (subst (λ z. has_id z ys ≡ true) (sym e) (in-has c ys j)) refl
shares-in c (x ∷ xs) ys (inr i) j = go (has_id x ys) (shares-in c xs ys i j)
  where
    go : (t : Bool) → shares xs ys ≡ true → (t || shares xs ys) ≡ true
    go true g = refl
    go false g = g

pub in-shares : (xs ys : List Id) → shares xs ys ≡ true → (c : Id) × In c xs × In c ys
in-shares [] ys h = cc
in-shares (x ∷ xs) ys h = go (has_id x ys) refl h (in-shares xs ys)
  where
    go : (t : Bool) → has_id x ys ≡ t → (t || shares xs ys) ≡ true → (shares xs ys ≡ true → (c : Id) × In c xs × In c ys) → (c : Id) × In c (x ∷ xs) × In c ys
    go true e g more = (x, inl refl, has-in x ys e)
    go false e g more = let r = more g in (r.0, inr r.1, r.2)

-- whatever is freed is so by a program that some early opening named
freed-shares : (bs : List Id) (trace : Trace) (b : Id) → In b (freed_by bs trace) → (d : Id) × In d bs × In d (ever_named trace)
freed-shares bs (from k) b i = absurd i
freed-shares bs (trace asks asked) b i = freed-shares bs trace b i
freed-shares bs (trace turns c) b i = freed-shares bs trace b i
freed-shares bs (trace says Early names) b i = go (shares names bs) refl i (freed-shares bs trace b)
  where
    go : (t : Bool) → shares names bs ≡ t → In b (cond t (without names (programs_in trace) ++ freed_by bs trace) (freed_by bs trace)) → (In b (freed_by bs trace) → (d : Id) × In d bs × In d (ever_named trace)) → (d : Id) × In d bs × In d (ever_named trace ++ names)
    go true e g more = let r = in-shares names bs e in (r.0, r.2, in-right r.0 (ever_named trace) names r.1)
    go false e g more = let r = more g in (r.0, r.1, in-left r.0 (ever_named trace) names r.2)
freed-shares bs (trace says e) b i = freed-shares bs trace b i

-- what a released program reads from is released or releasable
pub releasable-reads : (trace : Trace) (b c : Id) → In b (releasable trace) → In c (read_directly b trace) → In c (releasable trace) ⊎ In c (released_in trace)
releasable-reads trace b c i h =
    let all : PassesSelf (reads_within trace) (releasable trace) = shrink-ends (reads_within trace) _ (in_order (without (released_in trace) (finished_in trace))) (omega arith) in
    let one : reads_within trace (releasable trace) b ≡ true = all-in (reads_within trace (releasable trace)) b (releasable trace) all i in
    let mine : (has_id c (releasable trace) || has_id c (released_in trace)) ≡ true = all-in _ c (read_directly b trace) one h in
    either (λ g. inl (has-in c _ g)) (λ g. inr (has-in c _ g)) (or_cases (has_id c (releasable trace)) _ mine)

module _ (trace : Trace) (bs : List Id) (due : bs ≡ to_release trace) (h : Hides trace) where
  abbrev Now : Id → Type 0
  Now b = In b (freed_by bs trace ++ (released_in trace ++ bs))

  pub now-old : (b : Id) → In b (released_in trace) → Now b
  now-old b i = in-right b (freed_by bs trace) _ (in-left b (released_in trace) bs i)

  pub now-new : (b : Id) → In b (releasable trace) → (In b (left_out trace) → ⊥) → Now b
  now-new b i n = in-right b (freed_by bs trace) _ (in-right b (released_in trace) bs (subst (In b) (sym due) (into-filter (λ u. not (has_id u (left_out trace))) b (releasable trace) i (absent (has_id b (left_out trace)) refl))))
    where
      absent : (t : Bool) → has_id b (left_out trace) ≡ t → not t ≡ true
      absent false e = refl
      absent true e = absurd (n (has-in b (left_out trace) e))

  pub due-parts : (b : Id) → In b bs → In b (releasable trace) × (has_id b (left_out trace) ≡ false)
  due-parts b i = in-without b (left_out trace) (releasable trace) (subst (In b) due i)

  -- where a program of the last early opening is named, all that it found are released
  pub found-now : (d b : Id) → In d (named_early trace) → In d bs → In b (found_early trace) → Now b
  found-now d b i j k = go (has_id b (named_early trace)) refl
    where
      go : (t : Bool) → has_id b (named_early trace) ≡ t → Now b
      go false e = in-left b (freed_by bs trace) _ (freed-last bs trace b (shares-in d (named_early trace) bs i j) k e)
      go true e =
          let n = has-in b (named_early trace) e in
          either (λ same. in-right b (freed_by bs trace) _ (in-right b (released_in trace) bs (subst (λ x. In x bs) (sym same) j)))
          (λ r. either (λ x. now-new b x (h.named b n)) (λ x. now-old b x) (releasable-reads trace d b (due-parts d j).0 r)) (h.group d b i n)

  -- a program that is named and was found by the last early opening is one of those that this names, or nothing is hidden
  pub due-named : (b : Id) → In b bs → In b (found_early trace) → (finished : In b (finished_in trace)) → In b (named_early trace)
  due-named b i k fin = either (λ n. n) (λ p. absurd (let x : has_id b (left_out trace) ≡ true = in-has b _ (h.old b p (h.finished b fin)) in let y : true ≡ false = sym x ∙ (due-parts b i).1 in cc)) (h.named_or_passed b k)

  -- what is freed shows a program of the last early opening among those that are released
  pub freed-by-last : (b : Id) → In b (freed_by bs trace) → (d : Id) × In d (named_early trace) × In d bs
  freed-by-last b i =
      let r = freed-shares bs trace b i in
      (r.0, either (λ n. n) (λ o. absurd (let x : has_id r.0 (left_out trace) ≡ true = in-has r.0 _ o in let y : true ≡ false = sym x ∙ (due-parts r.0 r.1).1 in cc)) (h.ever r.0 r.2).1, r.1)

together-step : (trace : Trace) (e : Event) → Sound trace → Fits trace e → Hides trace → (c b : Id) → first_of_list (named_early (trace says e)) ≡ Some c → In c (released_in (trace says e)) → In b (found_early (trace says e)) → In b (released_in (trace says e))
together-step trace (Early bs) s f h c b q r i = absurd (s.goes_on c (named-bases trace bs f c (first-in c bs q)) (inr (inl r)))
together-step trace (Released bs) s f h c b q r i =
    either (λ g. absurd (h.unpassed c (first-in c (named_early trace) q) (freed-passed bs trace c g)))
    (λ g. either (λ x. now-old trace bs f.0 h b (h.together c b q x i)) (λ x. found-now trace bs f.0 h c b (first-in c (named_early trace) q) x i) (in-cases c (released_in trace) bs g))
    (in-cases c (freed_by bs trace) _ r)
together-step trace Ready s f h c b q r i = in-right b (released_in trace) (programs_in trace) (h.found b i)
together-step trace e s f h c b q r i = h.together c b q r i

found-step : (trace : Trace) (e : Event) → Hides trace → (b : Id) → In b (found_early (trace says e)) → In b (programs_in (trace says e))
found-step trace (Early bs) h b i = i
found-step trace e h b i = programs-say trace e b (h.found b i)

goes-step : (trace : Trace) (e : Event) → Hides trace → (b : Id) → In b (bases_in (trace says e)) → In b (programs_in (trace says e))
goes-step trace (Ended u end) h b i = either (λ j. h.goes b j) (λ p. program-in trace u b (program-of trace u b p)) (conts-back trace u end b i)
goes-step trace e h b i = programs-say trace e b (h.goes b i)

passed-step : (trace : Trace) (e : Event) → Hides trace → (b : Id) → In b (passed_in (trace says e)) → In b (found_early (trace says e))
passed-step trace (Early bs) h b i = either (λ j. h.found b (h.passed b j)) (λ j. (in-without b bs (programs_in trace) j).0) (in-cases b (passed_in trace) _ i)
passed-step trace e h b i = h.passed b i

ever-step : (trace : Trace) (e : Event) → Accounts trace → Fits trace e → AcceptsDue trace e → Hides trace → (b : Id) → In b (ever_named (trace says e)) → In b (accepted_in (trace says e)) × (In b (named_early (trace says e)) ⊎ In b (left_out (trace says e)))
ever-step trace (Early bs) a f d h b i = either (λ j. let r = h.ever b j in (r.0, split (has_id b bs) refl r.0)) (λ j. (either (λ g. g) (λ x. none-some _ b x d) (a.begins b (named-bases trace bs f b j)), inl j)) (in-cases b (ever_named trace) bs i)
  where
    split : (t : Bool) → has_id b bs ≡ t → In b (accepted_in trace) → In b bs ⊎ In b (left_out trace ++ without bs (accepted_in trace))
    split true e j = inl (has-in b bs e)
    split false e j = inr (in-right b (left_out trace) _ (into-filter (λ u. not (has_id u bs)) b (accepted_in trace) j (rw e refl)))
ever-step trace e a f d h b i = let r = h.ever b i in (accepted-says trace e b r.0, r.1)

out-step : (trace : Trace) (e : Event) → Hides trace → (b : Id) → In b (left_out (trace says e)) → In b (found_early (trace says e))
out-step trace (Early bs) h b i = either (λ j. h.found b (h.out b j)) (λ j. h.accepted b (in-without b bs (accepted_in trace) j).0) (in-cases b (left_out trace) _ i)
out-step trace e h b i = h.out b i

acceptance-in : (trace : Trace) (c : Id) (o : Option Event) → IsAcceptance c trace o → In c (programs_in trace)
acceptance-in trace c (Some (Ended u (Committed n))) h = program-in trace u c (program-of trace u c (first-program trace c u h))
acceptance-in trace c o h = absurd h

single : (b c : Id) → In b (c ∷ []) → c ≡ b
single b c (inl e) = e
single b c (inr e) = absurd e

accepted-step : (trace : Trace) (e : Event) → Fits trace e → Hides trace → (b : Id) → In b (accepted_in (trace says e)) → In b (programs_in (trace says e))
accepted-step trace (Accepted c) f h b i = either (λ j. h.accepted b j) (λ j. subst (λ x. In x (programs_in trace)) (single b c j) (acceptance-in trace c (last_said trace) f)) (in-cases b (accepted_in trace) (c ∷ []) i)
accepted-step trace e f h b i = programs-say trace e b (h.accepted b i)

said-accepted : (trace : Trace) (b : Id) → last_said trace ≡ Some (Accepted b) → In b (accepted_in trace)
said-accepted (from k) b h = cc
said-accepted (trace asks asked) b h = said-accepted trace b h
said-accepted (trace turns c) b h = said-accepted trace b h
said-accepted (trace says Accepted c) b h = let s : c ≡ b = cc in in-right b (accepted_in trace) (c ∷ []) (inl s)
said-accepted (trace says e) b h = cc

continued-later : (o : Option UnitKind) (b : Id) → option_and_then program_continued o ≡ Some b → (part : ℕ) × (o ≡ Some (Later b part))
continued-later (Some (Later c part)) b h = let s : c ≡ b = cc in (part, ap (λ x. Some (Later x part)) s)
continued-later None b h = cc
continued-later (Some (Acid s)) b h = cc
continued-later (Some (Call s n args)) b h = cc
continued-later (Some (First s c n args)) b h = cc

last-accepted : (trace : Trace) (b : Id) (o : Option Event) → last_said trace ≡ o → IsLastEnd b trace o → AreLaterAccepted trace → In b (accepted_in trace)
last-accepted trace b (Some (Ended u (Committed n))) e h l = let r = continued-later (kind_of u trace) b h.0 in l u b r.0 r.1
last-accepted trace b (Some (Ended u (Branched n c))) e h l = let r = continued-later (kind_of u trace) b h.0 in l u b r.0 r.1
last-accepted trace b (Some (Accepted c)) e h l = subst (λ x. In x (accepted_in trace)) h.0 (said-accepted trace c e)
last-accepted trace b o e h l = absurd h

finished-step : (trace : Trace) (e : Event) → Fits trace e → Hides trace → (b : Id) → In b (finished_in (trace says e)) → In b (accepted_in (trace says e))
finished-step trace (Finished c) f h b i = either (λ j. h.finished b j) (λ j. subst (λ x. In x (accepted_in trace)) (single b c j) (last-accepted trace c (last_said trace) refl f h.later)) (in-cases b (finished_in trace) (c ∷ []) i)
finished-step trace e f h b i = accepted-says trace e b (h.finished b i)

abbrev IsNoEarly : Event → Type 0
IsNoEarly (Early bs) = ⊥
IsNoEarly e = ⊤

free-says : (trace : Trace) (e : Event) → IsNoEarly e → AllFree trace → AllFree (trace says e)
free-says trace (Early bs) n a c q = absurd n
free-says trace e n a c q = released-says trace e c (a c q)

uncovered-free : (trace : Trace) → is_covering trace ≡ false → AllFree trace
uncovered-free trace h c q = go (has_id c (released_in trace)) refl (any-not (is_holding trace) c (named_early trace) h (first-in c (named_early trace) q))
  where
    go : (t : Bool) → has_id c (released_in trace) ≡ t → not t ≡ false → In c (released_in trace)
    go true e g = has-in c (released_in trace) e
    go false e g = cc

fresh-step : (trace : Trace) (e : Event) → Fits trace e → Hides trace → (b : Id) → In b (programs_in (trace says e)) → In b (found_early (trace says e)) ⊎ AllFree (trace says e)
fresh-step trace (Early bs) f h b i = inl i
fresh-step trace (Began u kind) f h b i = either (λ j. h.fresh b j) (λ q. begun kind f.2 q) (programs-began trace u kind b i)
  where
    begun : (kind : UnitKind) → FitsKind trace kind → program_of_kind kind ≡ Some b → In b (found_early trace) ⊎ AllFree trace
    begun (First s c n args) g q = inr (uncovered-free trace g.2)
    begun (Later c part) g q = let e : c ≡ b = cc in h.fresh b (h.goes b (subst (λ x. In x (bases_in trace)) e (due-in c part (kept trace).conts g.1)))
    begun (Acid s) g q = cc
    begun (Call s n args) g q = cc
fresh-step trace (Released bs) f h b i = either (λ j. inl j) (λ j. inr (free-says trace (Released bs) tt j)) (h.fresh b i)
fresh-step trace Ready f h b i = either (λ j. inl j) (λ j. inr (free-says trace Ready tt j)) (h.fresh b i)
fresh-step trace e f h b i = h.fresh b i

old-step : (trace : Trace) (e : Event) → Fits trace e → ((c : Id) → IsAcceptance c trace (last_said trace) → Dead trace c → ⊥) → Hides trace → (b : Id) → In b (passed_in (trace says e)) → In b (accepted_in (trace says e)) → In b (left_out (trace says e))
old-step trace (Early bs) f n h b i j = either (λ k. in-left b (left_out trace) _ (h.old b k j)) (λ k. in-right b (left_out trace) _ (into-filter (λ u. not (has_id u bs)) b (accepted_in trace) j (rw (in-without b bs (programs_in trace) k).1 refl))) (in-cases b (passed_in trace) _ i)
old-step trace (Accepted c) f n h b i j = either (λ k. h.old b i k) (λ k. absurd (n c f (inr (inr (subst (λ x. In x (passed_in trace)) (sym (single b c k)) i))))) (in-cases b (accepted_in trace) (c ∷ []) j)
old-step trace e f n h b i j = h.old b i j

named_or_passed-step : (trace : Trace) (e : Event) → Hides trace → (b : Id) → In b (found_early (trace says e)) → In b (named_early (trace says e)) ⊎ In b (passed_in (trace says e))
named_or_passed-step trace (Early bs) h b i = go (has_id b bs) refl
  where
    go : (t : Bool) → has_id b bs ≡ t → In b bs ⊎ In b (passed_in trace ++ without bs (programs_in trace))
    go true e = inl (has-in b bs e)
    go false e = inr (in-right b (passed_in trace) _ (into-filter (λ u. not (has_id u bs)) b (programs_in trace) i (rw e refl)))
named_or_passed-step trace e h b i = h.named_or_passed b i

-- whom a statement reads from has an event
among-in : (trace : Trace) (b c u : Id) (o : Option Reach) → In c (without (b ∷ []) (programs_among trace (writers_in trace o))) → In c (programs_in trace)
among-in trace b c u o i = let m = in-filter_map (λ x. program_of x trace) c (writers_in trace o) (in-without c (b ∷ []) _ i).0 in program-in trace m.0 c m.2

named-reads : (trace : Trace) (bs : List Id) (b c : Id) → Fits trace (Early bs) → Hides trace → In c (read_directly b (trace says Early bs)) → In c (programs_in trace)
named-reads trace bs b c f h i = go (has_id b bs) i
  where
    go : (t : Bool) → In c (cond t (without (b ∷ []) bs ++ read_directly b trace) (read_directly b trace)) → In c (programs_in trace)
    go true g = either (λ j. h.goes c (named-bases trace bs f c (in-without c (b ∷ []) bs j).0)) (λ j. h.reads_in b c j) (in-cases c (without (b ∷ []) bs) _ g)
    go false g = h.reads_in b c g

reads_in-step : (trace : Trace) (e : Event) → Fits trace e → Hides trace → (b c : Id) → In c (read_directly b (trace says e)) → In c (programs_in (trace says e))
reads_in-step trace (Did u st a) f h b c i = go (is_of_program b trace u) i
  where
    go : (t : Bool) → In c (cond t (without (b ∷ []) (programs_among trace (writers_in trace (reach_now u trace st))) ++ read_directly b trace) (read_directly b trace)) → In c (programs_in trace)
    go true g = either (λ j. among-in trace b c u (reach_now u trace st) j) (λ j. h.reads_in b c j) (in-cases c _ (read_directly b trace) g)
    go false g = h.reads_in b c g
reads_in-step trace (Early bs) f h b c i = named-reads trace bs b c f h i
reads_in-step trace e f h b c i = programs-say trace e c (h.reads_in b c i)

reads_found-step : (trace : Trace) (e : Event) → Fits trace e → Hides trace → (b c : Id) → In b (found_early (trace says e)) → In c (read_directly b (trace says e)) → In c (found_early (trace says e)) ⊎ AllFree (trace says e)
reads_found-step trace (Early bs) f h b c i j = inl (named-reads trace bs b c f h j)
reads_found-step trace (Did u st a) f h b c i j = go (is_of_program b trace u) j
  where
    go : (t : Bool) → In c (cond t (without (b ∷ []) (programs_among trace (writers_in trace (reach_now u trace st))) ++ read_directly b trace) (read_directly b trace)) → In c (found_early trace) ⊎ AllFree trace
    go true g = either (λ k. h.fresh c (among-in trace b c u (reach_now u trace st) k)) (λ k. h.reads_found b c i k) (in-cases c _ (read_directly b trace) g)
    go false g = h.reads_found b c i g
reads_found-step trace (Released bs) f h b c i j = either (λ g. inl g) (λ g. inr (free-says trace (Released bs) tt g)) (h.reads_found b c i j)
reads_found-step trace Ready f h b c i j = either (λ g. inl g) (λ g. inr (free-says trace Ready tt g)) (h.reads_found b c i j)
reads_found-step trace e f h b c i j = h.reads_found b c i j

taken-of : (u : Id) (o : Option Reach) (t : Taken) → In t (taken_by u o) → t.unit ≡ u
taken-of u None t i = absurd i
taken-of u (Some r) t (inl e) = ap (λ (x : Taken). x.unit) (sym e)
taken-of u (Some r) t (inr e) = absurd e

known-step : (trace : Trace) (e : Event) → Sound trace → Fits trace e → Hides trace → (t : Taken) → In t (taken_in (trace says e)) → is_some (kind_of t.unit (trace says e)) ≡ true
known-step trace (Did u st a) s f h t i = either (λ j. h.known t j) (λ j. subst (λ x. is_some (kind_of x trace) ≡ true) (sym (taken-of u (reach_now u trace st) t j)) (s.known u f.0)) (in-cases t (taken_in trace) _ i)
known-step trace e s f h t i = kind-some trace e t.unit (h.known t i)

taken-step : (trace : Trace) (e : Event) → Sound trace → Fits trace e → Hides trace → (t : Taken) → In t (taken_in (trace says e)) → In t (taken_since (trace says e)) ⊎ ((b : Id) → program_of t.unit (trace says e) ≡ Some b → In b (found_early (trace says e)))
taken-step trace (Early bs) s f h t i = inr (λ b p. program-in trace t.unit b p)
taken-step trace (Did u st a) s f h t i = either (λ j. either (λ k. inl (in-left t (taken_since trace) _ k)) (λ k. inr k) (h.taken t j)) (λ j. inl (in-right t (taken_since trace) _ j)) (in-cases t (taken_in trace) _ i)
taken-step trace (Began u kind) s f h t i = either (λ k. inl k) (λ k. inr (λ b p. k b (ap (option_and_then program_of_kind) (sym (kind-stays trace (Began u kind) t.unit s f (h.known t i))) ∙ p))) (h.taken t i)
taken-step trace e s f h t i = h.taken t i

named_found-step : (trace : Trace) (e : Event) → Fits trace e → Hides trace → (b : Id) → In b (named_early (trace says e)) → In b (found_early (trace says e))
named_found-step trace (Early bs) f h b i = h.goes b (named-bases trace bs f b i)
named_found-step trace e f h b i = h.named_found b i

named_accepted-step : (trace : Trace) (e : Event) → Accounts trace → Fits trace e → AcceptsDue trace e → Hides trace → (b : Id) → In b (named_early (trace says e)) → In b (accepted_in (trace says e))
named_accepted-step trace (Early bs) a f d h b i = either (λ g. g) (λ x. none-some _ b x d) (a.begins b (named-bases trace bs f b i))
named_accepted-step trace e a f d h b i = accepted-says trace e b (h.named_accepted b i)

since_taken-step : (trace : Trace) (e : Event) → Hides trace → (t : Taken) → In t (taken_since (trace says e)) → In t (taken_in (trace says e))
since_taken-step trace (Early bs) h t i = absurd i
since_taken-step trace (Did u st a) h t i = either (λ j. in-left t (taken_in trace) _ (h.since_taken t j)) (λ j. in-right t (taken_in trace) _ j) (in-cases t (taken_since trace) _ i)
since_taken-step trace e h t i = h.since_taken t i

since-step : (trace : Trace) (e : Event) → Sound trace → Fits trace e → Hides trace → (t : Taken) → In t (taken_since (trace says e)) → (b : Id) → program_of t.unit (trace says e) ≡ Some b → In b (passed_in (trace says e)) → ⊥
since-step trace (Early bs) s f h t i b q p = absurd i
since-step trace (Did u st a) s f h t i b q p = either (λ j. h.since t j b q p) (λ j. s.alive b u f.0 (of-program trace u b (subst (λ x. program_of x trace ≡ Some b) (taken-of u (reach_now u trace st) t j) q)) (inr (inr p))) (in-cases t (taken_since trace) _ i)
since-step trace (Began u kind) s f h t i b q p = h.since t i b (ap (option_and_then program_of_kind) (sym (kind-stays trace (Began u kind) t.unit s f (h.known t (h.since_taken t i)))) ∙ q) p
since-step trace e s f h t i b q p = h.since t i b q p

hides-step : (trace : Trace) (e : Event) → Sound trace → Accounts trace → Fits trace e → AcceptsDue trace e → FinishesDue trace e → GoesAlong trace e → ((c : Id) → IsAcceptance c trace (last_said trace) → Dead trace c → ⊥) → Hides trace → Hides (trace says e)
hides-step trace e s a f d n g w h = record {
  left = left-step trace e a f n h;
  named = named-step trace e s f h;
  unpassed = unpassed-step trace e s f h;
  group = group-step trace e h;
  some = some-step trace e f h;
  together = together-step trace e s f h;
  found = found-step trace e h;
  goes = goes-step trace e h;
  passed = passed-step trace e h;
  ever = ever-step trace e a f d h;
  out = out-step trace e h;
  accepted = accepted-step trace e f h;
  later = later-step trace e h.later g;
  finished = finished-step trace e f h;
  fresh = fresh-step trace e f h;
  old = old-step trace e f w h;
  named_or_passed = named_or_passed-step trace e h;
  reads_in = reads_in-step trace e f h;
  reads_found = reads_found-step trace e f h;
  named_found = named_found-step trace e f h;
  named_accepted = named_accepted-step trace e a f d h;
  since_taken = since_taken-step trace e h;
  since = since-step trace e s f h;
  known = known-step trace e s f h;
  taken = taken-step trace e s f h;
}

-- where each accepted program is released nothing is covered
pub cover-none : (trace : Trace) → Hides trace → NoneHolds trace → cover trace ≡ []
cover-none trace h n = by (first_of_list (named_early trace)) refl
  where
    by : (o : Option Id) → first_of_list (named_early trace) ≡ o → cover_of (released_in trace) (base_tables (kept trace)) o ≡ []
    by None e = refl
    by (Some c) e = go (has_id c (released_in trace)) refl (any-not (is_holding trace) c (accepted_in trace) n (h.named_accepted c (first-in c (named_early trace) e)))
      where
        go : (t : Bool) → has_id c (released_in trace) ≡ t → not t ≡ false → cond t [] (map (cover_lock c) (base_tables (kept trace))) ≡ []
        go true e g = refl
        go false e g = cc

pub hides : (trace : Trace) → IsPlayed trace → OfBoots (start_of trace).kept → Hides trace
hides (from k) p w = record {
  left = λ b i. absurd i;
  named = λ b i j. absurd i;
  unpassed = λ b i j. absurd i;
  group = λ b c i j. absurd i;
  some = λ b i. absurd i;
  together = λ c b q r i. absurd i;
  found = λ b i. absurd i;
  goes = λ b i. i;
  passed = λ b i. absurd i;
  ever = λ b i. absurd i;
  out = λ b i. absurd i;
  accepted = λ b i. i;
  later = λ u c part q. cc;
  finished = λ b i. absurd i;
  fresh = λ b i. inr (λ c q. cc);
  old = λ b i j. absurd i;
  named_or_passed = λ b i. absurd i;
  reads_in = λ b c i. absurd i;
  reads_found = λ b c i j. absurd i;
  named_found = λ b i. absurd i;
  named_accepted = λ b i. absurd i;
  since_taken = λ t i. absurd i;
  since = λ t i b q p. absurd i;
  known = λ t i. absurd i;
  taken = λ t i. absurd i;
}
hides (trace asks asked) p w = let h = hides trace p.0 w in record { left = h.left; named = h.named; unpassed = h.unpassed; group = h.group; some = h.some; together = h.together; found = h.found; goes = h.goes; passed = h.passed; ever = h.ever; out = h.out; accepted = h.accepted; later = h.later; finished = h.finished; fresh = h.fresh; old = h.old; named_or_passed = h.named_or_passed; reads_in = h.reads_in; reads_found = h.reads_found; named_found = h.named_found; named_accepted = h.named_accepted; since_taken = h.since_taken; since = h.since; known = h.known; taken = h.taken }
hides (trace turns b) p w = let h = hides trace p.0 w in record { left = h.left; named = h.named; unpassed = h.unpassed; group = h.group; some = h.some; together = h.together; found = h.found; goes = h.goes; passed = h.passed; ever = h.ever; out = h.out; accepted = h.accepted; later = h.later; finished = h.finished; fresh = h.fresh; old = h.old; named_or_passed = h.named_or_passed; reads_in = h.reads_in; reads_found = h.reads_found; named_found = h.named_found; named_accepted = h.named_accepted; since_taken = h.since_taken; since = h.since; known = h.known; taken = h.taken }
hides (trace says e) p w =
    let u = holds trace p.0 w in
    let f = may-fit trace e u.comes p.1 in
    let d = accepts-due trace e p.0 u.comes p.1 in
    let n = finishes-due trace e p.0 u.comes p.1 in
    let a = accounts trace p.0 w in
    hides-step trace e u.sound a f d n (goes-along trace e a u.sound f d n) (acceptance-alive trace p.0 w) (hides trace p.0 w)
