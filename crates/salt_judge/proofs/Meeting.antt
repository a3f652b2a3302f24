-- What is known of who met what goes on, and is judged as the trace is.
use Rattle.law_story.proofs.HeldLocks.{any-right}
use Rattle.law_story.proofs.Replays.{any-left}
use Rattle.salt_ast.specs.declared.trees.Statement.{Statement}
use Rattle.salt_audit.proofs.Amiss.{both_true, id_is}
use Rattle.salt_audit.specs.Formed.{is_formed_by, may_come, may_do}
use Rattle.salt_audit.specs.Laws as law
use Rattle.salt_audit.specs.Order.{id_cmp}
use Rattle.salt_audit.specs.Retelling.{told}
use Rattle.salt_model.specs.After.{reach_now}
use Rattle.salt_model.specs.Isolation.{is_committed_standing, is_program_released}
use Rattle.salt_model.specs.Locks as locks
use Rattle.salt_model.specs.Locks.{taken_in, touches}
use Rattle.salt_model.specs.Phases.{has_opened}
use Rattle.salt_model.specs.Programs.{freed_by, programs_in, released_in}
use Rattle.salt_model.specs.Reaches.{reach}
use Rattle.salt_model.specs.Trace.{Trace, ◌says◌}
use Rattle.salt_model.specs.Units.{Never, Over, Running, Standing, Waiting, is_open, is_open_standing, kind_of, program_of, program_of_kind, standing}
use Rattle.salt_model.specs.Words.{Every}
use Rattle.salt_model.specs.declared.events.Answer.{Answer}
use Rattle.salt_model.specs.declared.events.End.TheVariants as end
use Rattle.salt_model.specs.declared.events.End.{End}
use Rattle.salt_model.specs.declared.events.Event.TheVariants as event
use Rattle.salt_model.specs.declared.events.Event.{Event}
use Rattle.salt_model.specs.declared.events.UnitKind.{UnitKind}
use Rattle.salt_model.specs.declared.locks.Reach.{Reach}
use Rattle.salt_values.specs.Id.{is_same_id}
use Rattle.salt_values.specs.declared.id.Id.{Id}
use Rattle.salt_verdict.proofs.Active.{does_open, ends_open, may, new_unit}
use Rattle.salt_verdict.proofs.Going.{run_same}
use Rattle.salt_judge.proofs.Reading.{program_same}
use Rattle.salt_verdict.specs.Ledger.{HoldsTrace}
use Rattle.salt_judge.specs.Meetings.{HasBegun, HoldsMeetings, IsMetAfter, committed_by, counted, counts, counts_met, has_committed, is_commit, is_ending, is_given_up, is_live, live, met_as, met_by, met_of, met_told, taken_by, touch_told, touches_of, unwhole_by}
use Rattle.salt_judge.specs.ReadAfter.{reach_by}
use Rattle.salt_judge.specs.Reads.{HoldsReads, is_free, program_in}
use Rattle.salt_verdict.specs.declared.ledger.Ledger.{Ledger}
use Rattle.salt_judge.specs.declared.met.Ending.{Ending}
use Rattle.salt_judge.specs.declared.met.Meetings.{Meetings}
use Rattle.salt_judge.specs.declared.met.Met.{Met}
use Rattle.salt_judge.specs.declared.met.Touch.{Touch}
use Rattle.salt_judge.specs.declared.reads.Reads.{Reads}
use Rattle.std.proofs.Common.{Bool, List, None, Option, Some, [], ap, cond, false, if◌then◌else◌, is_none, is_some, map, not, option_and_then, refl, subst, sym, true, true≢false, ◌&&◌, ◌++◌, ◌∙◌, ◌∷◌, ◌≡◌}
use Rattle.std.proofs.lemmas.List.Elements.{filter-append, filter_agree}
use Rattle.std.specs.BTreeMap.{BTreeMap, get}
use Rattle.std.specs.Bool.{then_some}
use Rattle.std.specs.List.{filter}
use Rattle.std.specs.Option.{option_or}

abbrev law_met : Id → locks.Taken → law.Meeting
law_met a t = record { acid = a; part = t.unit }

app_told : (xs ys : List Met) → map met_told xs ++ map met_told ys ≡ map met_told (xs ++ ys)
app_told [] ys = refl
app_told (x ∷ xs) ys = ap (λ l. met_told x ∷ l) (app_told xs ys)

pub ending_put : (endings : BTreeMap Id Ending) (u : Id) (committed : Bool) (t : Bool) →
    is_ending (if t then Some (record { committed = committed }) else get id_cmp endings u) ≡ (if t then committed else has_committed endings u)
ending_put endings u committed true = refl
ending_put endings u committed false = refl

-- FILTERS

twice : {A : Type 0} (p q : A → Bool) (xs : List A) → ((x : A) → p x ≡ true → q x ≡ true) → filter p xs ≡ filter p (filter q xs)
twice p q [] more = refl
twice {A} p q (x ∷ xs) more = by (q x) refl (p x) refl (twice p q xs more)
  where
    by : (s : Bool) → q x ≡ s → (t : Bool) → p x ≡ t → filter p xs ≡ filter p (filter q xs) → cond t (x ∷ filter p xs) (filter p xs) ≡ filter p (cond s (x ∷ filter q xs) (filter q xs))
    by true e true f rest = ap (λ (l : List A). x ∷ l) rest ∙ ap (λ (b : Bool). cond b (x ∷ filter p (filter q xs)) (filter p (filter q xs))) (sym f)
    by true e false f rest = rest ∙ ap (λ (b : Bool). cond b (x ∷ filter p (filter q xs)) (filter p (filter q xs))) (sym f)
    by false e true f rest = let sure : q x ≡ true = more x f in absurd (true≢false (sym sure ∙ e))
    by false e false f rest = rest

both_tests : {A : Type 0} (p q : A → Bool) (xs : List A) → filter (λ x. p x && q x) xs ≡ filter p (filter q xs)
both_tests p q [] = refl
both_tests {A} p q (x ∷ xs) = by (q x) (p x) refl (both_tests p q xs)
  where
    by : (s t : Bool) → p x ≡ t → filter (λ y. p y && q y) xs ≡ filter p (filter q xs) →
        cond (t && s) (x ∷ filter (λ y. p y && q y) xs) (filter (λ y. p y && q y) xs) ≡ filter p (cond s (x ∷ filter q xs) (filter q xs))
    by true true f rest = ap (λ (l : List A). x ∷ l) rest ∙ ap (λ (b : Bool). cond b (x ∷ filter p (filter q xs)) (filter p (filter q xs))) (sym f)
    by true false f rest = rest ∙ ap (λ (b : Bool). cond b (x ∷ filter p (filter q xs)) (filter p (filter q xs))) (sym f)
    by false true f rest = rest
    by false false f rest = rest

-- a filter before another one, in turn
again : {A : Type 0} (p q : A → Bool) (xs : List A) → filter p (filter q xs) ≡ filter p (filter q (filter p xs))
again p q xs = sym (both_tests p q xs) ∙ twice (λ x. p x && q x) p xs (λ x is. (both_true (p x) (q x) is).0) ∙ both_tests p q (filter p xs)

and_turn : (a b : Bool) → (a && b) ≡ (b && a)
and_turn true true = refl
and_turn true false = refl
and_turn false true = refl
and_turn false false = refl

turned : {A : Type 0} (p q : A → Bool) (xs : List A) → filter p (filter q xs) ≡ filter q (filter p xs)
turned p q xs = sym (both_tests p q xs) ∙ filter_agree (λ x. p x && q x) (λ x. q x && p x) (λ x. and_turn (p x) (q x)) xs ∙ both_tests q p xs

every_filter : {A : Type 0} (P : A → Type 0) (p : A → Bool) (xs : List A) → Every P xs → Every P (filter p xs)
every_filter P p [] h = tt
every_filter P p (x ∷ xs) h = by (p x) (every_filter P p xs h.1)
  where
    by : (t : Bool) → Every P (filter p xs) → Every P (cond t (x ∷ filter p xs) (filter p xs))
    by true rest = (h.0, rest)
    by false rest = rest

over_map : (a : Id) (p : law.Meeting → Bool) (ts : List locks.Taken) → filter p (map (law_met a) ts) ≡ map (law_met a) (filter (λ (t : locks.Taken). p (law_met a t)) ts)
over_map a p [] = refl
over_map a p (t ∷ ts) = by (p (law_met a t)) (over_map a p ts)
  where
    q : locks.Taken → Bool
    q u = p (law_met a u)

    by : (b : Bool) → filter p (map (law_met a) ts) ≡ map (law_met a) (filter q ts) →
        cond b (law_met a t ∷ filter p (map (law_met a) ts)) (filter p (map (law_met a) ts)) ≡ map (law_met a) (cond b (t ∷ filter q ts) (filter q ts))
    by true rest = ap (λ (l : List law.Meeting). law_met a t ∷ l) rest
    by false rest = rest

-- of elements of which a fact holds
agreed : {A : Type 0} (Q : A → Type 0) (p q : A → Bool) (xs : List A) → Every Q xs → ((x : A) → Q x → p x ≡ q x) → filter p xs ≡ filter q xs
agreed Q p q [] h same = refl
agreed Q p q (x ∷ xs) h same = λ i. cond (same x h.0 i) (x ∷ agreed Q p q xs h.1 same i) (agreed Q p q xs h.1 same i)

told_filtered : (p : locks.Taken → Bool) (q : Touch → Bool) (ts : List Touch) → ((t : Touch) → p (touch_told t) ≡ q t) → filter p (map touch_told ts) ≡ map touch_told (filter q ts)
told_filtered p q [] same = refl
told_filtered p q (t ∷ ts) same = by (q t) (same t) (told_filtered p q ts same)
  where
    by : (b : Bool) → p (touch_told t) ≡ b → filter p (map touch_told ts) ≡ map touch_told (filter q ts) →
        cond (p (touch_told t)) (touch_told t ∷ filter p (map touch_told ts)) (filter p (map touch_told ts)) ≡ map touch_told (cond b (t ∷ filter q ts) (filter q ts))
    by true is more = ap (λ (s : Bool). cond s (touch_told t ∷ filter p (map touch_told ts)) (filter p (map touch_told ts))) is ∙ ap (λ (l : List locks.Taken). touch_told t ∷ l) more
    by false is more = ap (λ (s : Bool). cond s (touch_told t ∷ filter p (map touch_told ts)) (filter p (map touch_told ts))) is ∙ more

map_app : (xs ys : List Touch) → map touch_told xs ++ map touch_told ys ≡ map touch_told (xs ++ ys)
map_app [] ys = refl
map_app (x ∷ xs) ys = ap (λ (l : List locks.Taken). touch_told x ∷ l) (map_app xs ys)

each : {A : Type 0} (P Q : A → Type 0) (xs : List A) → Every P xs → ((x : A) → P x → Q x) → Every Q xs
each P Q [] h f = tt
each P Q (x ∷ xs) h f = (f x h.0, each P Q xs h.1 f)

every_app : {A : Type 0} (P : A → Type 0) (xs ys : List A) → Every P xs → Every P ys → Every P (xs ++ ys)
every_app P [] ys g h = h
every_app P (x ∷ xs) ys g h = (g.0, every_app P xs ys g.1 h)

-- what one statement reached
one_filtered : (p : locks.Taken → Bool) (u : Id) (o : Option Reach) (free : Bool) → ((r : Reach) → p (touch_told (record { unit = u; reach = r })) ≡ not free) →
    filter p (locks.taken_by u o) ≡ map touch_told (if free then [] else touches_of u o)
one_filtered p u None true same = refl
one_filtered p u None false same = refl
one_filtered p u (Some r) true same =
    ap (λ (b : Bool). cond b (touch_told (record { unit = u; reach = r }) ∷ []) []) (same r)
one_filtered p u (Some r) false same =
    ap (λ (b : Bool). cond b (touch_told (record { unit = u; reach = r }) ∷ []) []) (same r)

not_more : (p q : Bool) → (q ≡ true → p ≡ true) → not p ≡ true → not q ≡ true
not_more true q f e = absurd cc
not_more false true f e = let never : false ≡ true = f refl in absurd cc
not_more false false f e = refl

some_or : (o p : Option UnitKind) → is_some p ≡ true → is_some (option_or o p) ≡ true
some_or None p e = e
some_or (Some x) p e = refl

did_begun : (trace : Trace) (u : Id) (st : Statement) (o : Option UnitKind) → may_do trace u st o ≡ true → is_some o ≡ true
did_begun trace u st None g = absurd cc
did_begun trace u st (Some kind) g = refl

may_do_of : (trace : Trace) (u : Id) (st : Statement) (x : Answer) → is_formed_by trace (event.Did u st x) ≡ true → may_do trace u st (kind_of u trace) ≡ true
may_do_of trace u st x f =
    (both_true (is_open trace u) (may_do trace u st (kind_of u trace)) (may (has_opened trace) (may_come trace (event.Did u st x)) f)).1

one_begun : (trace : Trace) (u : Id) (o : Option Reach) → is_some (kind_of u trace) ≡ true → Every (HasBegun trace) (locks.taken_by u o)
one_begun trace u None sure = tt
one_begun trace u (Some r) sure = (sure, tt)

-- WHAT COUNTS

open_counts : (s : Standing) → is_open_standing s ≡ true → not (is_given_up s) ≡ true
open_counts Never is = absurd cc
open_counts Running is = refl
open_counts Waiting is = refl
open_counts (Over e) is = absurd cc

committed_counts : (s : Standing) → is_committed_standing s ≡ true → not (is_given_up s) ≡ true
committed_counts Never is = absurd cc
committed_counts Running is = absurd cc
committed_counts Waiting is = absurd cc
committed_counts (Over (end.Committed n)) is = refl
committed_counts (Over (end.Failed c)) is = absurd cc
committed_counts (Over (end.Branched n c)) is = absurd cc
committed_counts (Over end.Cut) is = absurd cc
committed_counts (Over end.RolledBack) is = absurd cc
committed_counts (Over end.Victim) is = absurd cc

-- a unit that counts stands otherwise, and counts
same_count : (trace : Trace) (v : Id) (to : Standing) → not (is_given_up to) ≡ true → counts trace v ≡ true → (u : Id) →
    not (is_given_up (if is_same_id u v then to else standing u trace)) ≡ counts trace u
same_count trace v to still was u = by (is_same_id u v) refl
  where
    by : (t : Bool) → is_same_id u v ≡ t → not (is_given_up (if t then to else standing u trace)) ≡ counts trace u
    by true same = still ∙ sym (subst (λ (x : Id). counts trace x ≡ true) (sym (id_is u v same)) was)
    by false other = refl

-- fewer count
met_less : (trace t : Trace) → ((u : Id) → counts t u ≡ true → counts trace u ≡ true) → (ms ns : List law.Meeting) → filter (counts_met trace) ms ≡ filter (counts_met trace) ns →
    filter (counts_met t) ms ≡ filter (counts_met t) ns
met_less trace t less ms ns same =
    twice (counts_met t) (counts_met trace) ms (λ x. less x.part) ∙ ap (filter (counts_met t)) same
    ∙ sym (twice (counts_met t) (counts_met trace) ns (λ x. less x.part))

listed : (a : Id) (ts : List Touch) → map (law_met a) (map touch_told ts) ≡ map met_told (map (met_as a) ts)
listed a [] = refl
listed a (t ∷ ts) = ap (λ (ms : List law.Meeting). met_told (met_as a t) ∷ ms) (listed a ts)

module _ (l : Ledger) (s : Reads) (m : Meetings) (trace : Trace) (h : HoldsTrace l trace) (w : HoldsMeetings m trace) where
  abbrev unreleased : locks.Taken → Bool
  unreleased t = law.is_unreleased trace (program_of t.unit trace)

  free_behind : (t : Trace) → HoldsReads s t → (o : Option Id) → is_program_released t o ≡ is_free s.released o
  free_behind t k None = refl
  free_behind t k (Some b) = k.released b

  -- of a touch's program, behind an event that begins no unit
  live_same : (t : Trace) → HoldsReads s t → (u : Id) → not (is_program_released t (program_of u trace)) ≡ not (is_free s.released (program_in l u))
  live_same t k u = ap not (ap (is_program_released t) (program_same l trace h u) ∙ free_behind t k (program_in l u))

  reach_same : (u : Id) (st : Statement) → is_open trace u ≡ true → reach_now u trace st ≡ reach_by l u st
  reach_same u st runs = λ i. reach (h.knows.schema i) (run_same l trace h u runs i).vars st

  open_count : (v : Id) → is_open trace v ≡ true → counts trace v ≡ true
  open_count v runs = open_counts (standing v trace) runs

  -- none that has not begun stands anywhere
  still_fresh : (v : Id) (to : Standing) → is_open trace v ≡ true → (u : Id) → kind_of u trace ≡ None → (if is_same_id u v then to else standing u trace) ≡ Never
  still_fresh v to runs u none = by (is_same_id u v) refl
    where
      by : (t : Bool) → is_same_id u v ≡ t → (if t then to else standing u trace) ≡ Never
      by true same =
          let here : is_open trace u ≡ true = ap (is_open trace) (id_is u v same) ∙ runs in
          absurd (true≢false (sym here ∙ ap is_open_standing (w.fresh u none)))
      by false other = w.fresh u none

  -- all that counted counts, and no more
  counted_same : (v : Id) (to : Standing) → not (is_given_up to) ≡ true → counts trace v ≡ true →
      filter (λ (t : locks.Taken). not (is_given_up (if is_same_id t.unit v then to else standing t.unit trace))) (taken_in trace) ≡ counted trace
  counted_same v to still was =
      filter_agree (λ (t : locks.Taken). not (is_given_up (if is_same_id t.unit v then to else standing t.unit trace))) (λ (t : locks.Taken). counts trace t.unit)
      (λ t. same_count trace v to still was t.unit) (taken_in trace)

  met_still : (t : Trace) → ((u : Id) → counts t u ≡ counts trace u) → (ms ns : List law.Meeting) → filter (counts_met trace) ms ≡ filter (counts_met trace) ns →
      filter (counts_met t) ms ≡ filter (counts_met t) ns
  met_still t same ms ns = met_less trace t (λ u is. sym (same u) ∙ is) ms ns

  counted_did : (a : Id) (st : Statement) (x : Answer) → is_open trace a ≡ true → counted (told trace (event.Did a st x)) ≡ counted trace ++ locks.taken_by a (reach_now a trace st)
  counted_did a st x runs =
      filter-append after (taken_in trace) (locks.taken_by a (reach_now a trace st))
      ∙ (λ i. counted_same a Running refl (open_count a runs) i ++ own (reach_now a trace st) i)
    where
      after : locks.Taken → Bool
      after t = counts (told trace (event.Did a st x)) t.unit

      own : (o : Option Reach) → filter after (locks.taken_by a o) ≡ locks.taken_by a o
      own None = refl
      own (Some r) =
          ap (λ (b : Bool). cond b (touch_told (record { unit = a; reach = r }) ∷ []) [])
          (same_count trace a Running refl (open_count a runs) a ∙ open_count a runs)

  live_did : (a : Id) (st : Statement) (x : Answer) → is_open trace a ≡ true → HoldsReads s (told trace (event.Did a st x)) →
      live (told trace (event.Did a st x)) ≡ map touch_told (m.taken.items ++ (if is_free s.released (program_in l a) then [] else touches_of a (reach_by l a st)))
  live_did a st x runs k =
      let free = is_free s.released (program_in l a) in
      ap (filter unreleased) (counted_did a st x runs)
      ∙ filter-append unreleased (counted trace) (locks.taken_by a (reach_now a trace st))
      ∙ (λ i. w.taken i ++ filter unreleased (locks.taken_by a (reach_same a st runs i)))
      ∙ ap (λ (ts : List locks.Taken). map touch_told m.taken.items ++ ts)
      (one_filtered unreleased a (reach_by l a st) free (λ r. live_same (trace says event.Did a st x) k a))
      ∙ map_app m.taken.items (if free then [] else touches_of a (reach_by l a st))

  -- more is released
  live_less : (t : Trace) → HoldsReads s t → ((o : Option Id) → is_program_released trace o ≡ true → is_program_released t o ≡ true) →
      filter (λ (x : locks.Taken). law.is_unreleased t (program_of x.unit trace)) (counted trace) ≡ map touch_told (filter (is_live l s) m.taken.items)
  live_less t k grows =
      let p : locks.Taken → Bool = λ x. law.is_unreleased t (program_of x.unit trace) in
      twice p unreleased (counted trace)
      (λ x sure. not_more (is_program_released t (program_of x.unit trace)) (is_program_released trace (program_of x.unit trace)) (grows (program_of x.unit trace)) sure)
      ∙ ap (filter p) w.taken ∙ told_filtered p (is_live l s) m.taken.items (λ x. live_same t k x.unit)

  released_grows : (bs : List Id) (o : Option Id) → is_program_released trace o ≡ true → is_program_released (trace says event.Released bs) o ≡ true
  released_grows bs None sure = refl
  released_grows bs (Some b) sure = any-right b (freed_by bs trace) (released_in trace ++ bs) (any-left b (released_in trace) bs sure)

  ready_grows : (o : Option Id) → is_program_released trace o ≡ true → is_program_released (trace says event.Ready) o ≡ true
  ready_grows None sure = refl
  ready_grows (Some b) sure = any-left b (released_in trace) (programs_in trace) sure

  -- a unit begins
  fresh_count : (v : Id) → kind_of v trace ≡ None → counts trace v ≡ true
  fresh_count v none = ap (λ (s : Standing). not (is_given_up s)) (w.fresh v none)

  begun_fresh : (v : Id) (kind : UnitKind) (u : Id) → kind_of u (told trace (event.Began v kind)) ≡ None → standing u (told trace (event.Began v kind)) ≡ Never
  begun_fresh v kind u none = by (is_same_id u v) none
    where
      by : (t : Bool) → option_or (then_some t kind) (kind_of u trace) ≡ None → (if t then Running else standing u trace) ≡ Never
      by true nothing = absurd cc
      by false nothing = w.fresh u nothing

  live_began : (v : Id) (kind : UnitKind) → kind_of v trace ≡ None → live (told trace (event.Began v kind)) ≡ map touch_told m.taken.items
  live_began v kind none =
      ap (filter after) (counted_same v Running refl (fresh_count v none))
      ∙ agreed (HasBegun trace) after unreleased (counted trace) (every_filter (HasBegun trace) (λ (t : locks.Taken). counts trace t.unit) (taken_in trace) w.begun)
      (λ t sure. same t sure (is_same_id t.unit v) refl) ∙ w.taken
    where
      after : locks.Taken → Bool
      after t = law.is_unreleased (trace says event.Began v kind) (program_of t.unit (trace says event.Began v kind))

      same : (t : locks.Taken) → HasBegun trace t → (b : Bool) → is_same_id t.unit v ≡ b →
          not (is_program_released trace (option_and_then program_of_kind (option_or (then_some b kind) (kind_of t.unit trace)))) ≡ not (is_program_released trace (program_of t.unit trace))
      same t sure true is =
          let nothing : kind_of t.unit trace ≡ None = subst (λ (u : Id). kind_of u trace ≡ None) (sym (id_is t.unit v is)) none in
          absurd (true≢false (sym sure ∙ ap (λ (o : Option UnitKind). is_some o) nothing))
      same t sure false other = refl

  met_same : (a : Id) (o : Option Reach) → filter (counts_met trace) (law.met_by trace a o) ≡ filter (counts_met trace) (map met_told (met_of a o m.taken.items))
  met_same a None = refl
  met_same a (Some c) =
      let p : locks.Taken → Bool = λ t. touches t.reach c in
      let q : locks.Taken → Bool = λ t. p t && unreleased t in
      let r : locks.Taken → Bool = λ t. counts trace t.unit in
      over_map a (counts_met trace) (filter q (taken_in trace))
      ∙ ap (map (law_met a)) (again r q (taken_in trace))
      ∙ sym (over_map a (counts_met trace) (filter q (counted trace)))
      ∙ ap (λ (ts : List locks.Taken). filter (counts_met trace) (map (law_met a) ts))
      (both_tests p unreleased (counted trace) ∙ ap (filter p) w.taken ∙ told_filtered p (λ (t : Touch). touches t.reach c) m.taken.items (λ t. refl))
      ∙ ap (filter (counts_met trace)) (listed a (filter (λ (t : Touch). touches t.reach c) m.taken.items))

  met_more : (a : Id) (o : Option Reach) (t : Bool) →
      filter (counts_met trace) (if t then law.met_by trace a o ++ law.meetings trace else law.meetings trace)
      ≡ filter (counts_met trace) (map met_told ((if t then met_of a o m.taken.items else []) ++ m.met))
  met_more a o true =
      let p : law.Meeting → Bool = counts_met trace in
      filter-append p (law.met_by trace a o) (law.meetings trace) ∙ (λ i. met_same a o i ++ w.met i)
      ∙ sym (filter-append p (map met_told (met_of a o m.taken.items)) (map met_told m.met)) ∙ ap (filter p) (app_told (met_of a o m.taken.items) m.met)
  met_more a o false = w.met

  -- a unit ends: what it has done counts no more, or as it did
  gives_up : (v : Id) (e : End) → is_given_up (Over e) ≡ true → live (told trace (event.Ended v e)) ≡ map touch_told (filter (λ (t : Touch). not (is_same_id t.unit v)) m.taken.items)
  gives_up v e is =
      ap (filter unreleased) (filter_agree after (λ (t : locks.Taken). others t && counts trace t.unit) (λ t. split t (is_same_id t.unit v)) (taken_in trace)
      ∙ both_tests others (λ (t : locks.Taken). counts trace t.unit) (taken_in trace))
      ∙ turned unreleased others (counted trace) ∙ ap (filter others) w.taken
      ∙ told_filtered others (λ (t : Touch). not (is_same_id t.unit v)) m.taken.items (λ t. refl)
    where
      others : locks.Taken → Bool
      others t = not (is_same_id t.unit v)

      after : locks.Taken → Bool
      after t = not (is_given_up (if is_same_id t.unit v then Over e else standing t.unit trace))

      split : (t : locks.Taken) (b : Bool) → not (is_given_up (if b then Over e else standing t.unit trace)) ≡ (not b && counts trace t.unit)
      split t true = ap not is
      split t false = refl

  live_end : (v : Id) (e : End) → is_open trace v ≡ true → live (told trace (event.Ended v e)) ≡ map touch_told (taken_by (event.Ended v e) l s m.taken.items)
  live_end v (end.Committed n) runs = ap (filter unreleased) (counted_same v (Over (end.Committed n)) refl (open_count v runs)) ∙ w.taken
  live_end v (end.Failed c) runs = gives_up v (end.Failed c) refl
  live_end v (end.Branched n c) runs = gives_up v (end.Branched n c) refl
  live_end v end.Cut runs = gives_up v end.Cut refl
  live_end v end.RolledBack runs = gives_up v end.RolledBack refl
  live_end v end.Victim runs = gives_up v end.Victim refl

  less_end : (v : Id) (e : End) → is_open trace v ≡ true → (u : Id) → counts (told trace (event.Ended v e)) u ≡ true → counts trace u ≡ true
  less_end v e runs u = by (is_same_id u v) refl
    where
      by : (t : Bool) → is_same_id u v ≡ t → not (is_given_up (if t then Over e else standing u trace)) ≡ true → counts trace u ≡ true
      by true same is = ap (counts trace) (id_is u v same) ∙ open_count v runs
      by false other is = is

  still : (t : Bool) (u : Id) → is_committed_standing (standing u trace) ≡ has_committed m.endings u → (s : Standing) → is_committed_standing s ≡ false →
      is_committed_standing (if t then s else standing u trace) ≡ (if t then false else has_committed m.endings u)
  still true u e s never = never
  still false u e s never = e

  ended : (t : Bool) (u : Id) (e : End) → is_committed_standing (if t then Over e else standing u trace) ≡ (if t then is_commit e else has_committed m.endings u)
  ended true u (end.Committed n) = refl
  ended true u (end.Failed c) = refl
  ended true u (end.Branched n c) = refl
  ended true u end.Cut = refl
  ended true u end.RolledBack = refl
  ended true u end.Victim = refl
  ended false u e = w.committed u

  record Goes (e : Event) : Type 0 where
    taken : live (told trace e) ≡ map touch_told (taken_by e l s m.taken.items)
    begun : Every (HasBegun (told trace e)) (taken_in (told trace e))
    fresh : (u : Id) → kind_of u (told trace e) ≡ None → standing u (told trace e) ≡ Never
    met : filter (counts_met (told trace e)) (law.meetings (told trace e)) ≡ filter (counts_met (told trace e)) (map met_told (met_by e l m.taken.items m.met))
    committed : (u : Id) → is_committed_standing (standing u (told trace e)) ≡ committed_by e m.endings u

  goes : (e : Event) → HoldsReads s (told trace e) → is_formed_by trace e ≡ true → Goes e
  goes (event.Did a st x) k f =
      let runs : is_open trace a ≡ true = does_open trace a st x f in
      let p : law.Meeting → Bool = counts_met trace in
      record {
        taken = live_did a st x runs k;
        begun = every_app (HasBegun trace) (taken_in trace) (locks.taken_by a (reach_now a trace st)) w.begun
            (one_begun trace a (reach_now a trace st) (did_begun trace a st (kind_of a trace) (may_do_of trace a st x f)));
        fresh = still_fresh a Running runs;
        met = met_still (told trace (event.Did a st x)) (same_count trace a Running refl (open_count a runs)) _ (map met_told (met_by (event.Did a st x) l m.taken.items m.met))
            ((λ i. filter p (if is_none (program_of a trace) then law.met_by trace a (reach_same a st runs i) ++ law.meetings trace else law.meetings trace))
            ∙ met_more a (reach_by l a st) (is_none (program_of a trace))
            ∙ (λ i. filter p (map met_told ((if is_none (program_same l trace h a i) then met_of a (reach_by l a st) m.taken.items else []) ++ m.met))));
        committed = λ u. still (is_same_id u a) u (w.committed u) Running refl;
      }
  goes (event.Began v kind) k f =
      let none : kind_of v trace ≡ None = new_unit trace v kind f in
      record {
        taken = live_began v kind none;
        begun = each (HasBegun trace) (HasBegun (trace says event.Began v kind)) (taken_in trace) w.begun
            (λ t sure. some_or (then_some (is_same_id t.unit v) kind) (kind_of t.unit trace) sure);
        fresh = begun_fresh v kind;
        met = met_still (told trace (event.Began v kind)) (same_count trace v Running refl (fresh_count v none)) (law.meetings trace) (map met_told m.met) w.met;
        committed = λ u. still (is_same_id u v) u (w.committed u) Running refl;
      }
  goes (event.Waits v os) k f =
      let runs : is_open trace v ≡ true = may (has_opened trace) (is_open trace v) f in
      record {
        taken = ap (filter unreleased) (counted_same v Waiting refl (open_count v runs)) ∙ w.taken;
        begun = w.begun;
        fresh = still_fresh v Waiting runs;
        met = met_still (told trace (event.Waits v os)) (same_count trace v Waiting refl (open_count v runs)) (law.meetings trace) (map met_told m.met) w.met;
        committed = λ u. still (is_same_id u v) u (w.committed u) Waiting refl;
      }
  goes (event.Ended v e) k f =
      let runs : is_open trace v ≡ true = ends_open trace v e f in
      record {
        taken = live_end v e runs;
        begun = w.begun;
        fresh = still_fresh v (Over e) runs;
        met = met_less trace (told trace (event.Ended v e)) (less_end v e runs) (law.meetings trace) (map met_told m.met) w.met;
        committed = λ u. ended (is_same_id u v) u e;
      }
  goes (event.Released bs) k f = record { taken = live_less (trace says event.Released bs) k (released_grows bs); begun = w.begun; fresh = w.fresh; met = w.met; committed = w.committed }
  goes event.Ready k f = record { taken = live_less (trace says event.Ready) k ready_grows; begun = w.begun; fresh = w.fresh; met = w.met; committed = w.committed }
  goes (event.Accepted b) k f = record { taken = w.taken; begun = w.begun; fresh = w.fresh; met = w.met; committed = w.committed }
  goes (event.Finished b) k f = record { taken = w.taken; begun = w.begun; fresh = w.fresh; met = w.met; committed = w.committed }
  goes (event.Early bs) k f = record { taken = w.taken; begun = w.begun; fresh = w.fresh; met = w.met; committed = w.committed }
  goes (event.Down y) k f = record { taken = w.taken; begun = w.begun; fresh = w.fresh; met = w.met; committed = w.committed }
  goes (event.Opened boot n) k f = record { taken = w.taken; begun = w.begun; fresh = w.fresh; met = w.met; committed = w.committed }
  goes (event.Defined n text) k f = record { taken = w.taken; begun = w.begun; fresh = w.fresh; met = w.met; committed = w.committed }
  goes (event.Refused r) k f = record { taken = w.taken; begun = w.begun; fresh = w.fresh; met = w.met; committed = w.committed }
  goes (event.Armed pairs) k f = record { taken = w.taken; begun = w.begun; fresh = w.fresh; met = w.met; committed = w.committed }
  goes (event.Shown items) k f = record { taken = w.taken; begun = w.begun; fresh = w.fresh; met = w.met; committed = w.committed }

  pub meetings_on : (e : Event) → HoldsReads s (told trace e) → is_formed_by trace e ≡ true → (n : Meetings) → IsMetAfter l s m n e → HoldsMeetings n (told trace e)
  meetings_on e k f n after =
      let g = goes e k f in
      record {
        taken = g.taken ∙ ap (map touch_told) (sym after.taken);
        begun = g.begun;
        fresh = g.fresh;
        met = g.met ∙ ap (λ (ms : List Met). filter (counts_met (told trace e)) (map met_told ms)) (sym after.met);
        committed = λ u. g.committed u ∙ sym (after.committed u);
      }

-- THE JUDGE

judged : (p : law.Meeting → Bool) (q : Met → Bool) → ((x : Met) → p (met_told x) ≡ q x) → (ms : List Met) →
    map (λ (x : law.Meeting). x.acid) (filter p (map met_told ms)) ≡ map (λ (x : Met). x.acid) (filter q ms)
judged p q same [] = refl
judged p q same (x ∷ xs) = by (q x) (same x) (judged p q same xs)
  where
    by : (b : Bool) → p (met_told x) ≡ b → map (λ (y : law.Meeting). y.acid) (filter p (map met_told xs)) ≡ map (λ (y : Met). y.acid) (filter q xs) →
        map (λ (y : law.Meeting). y.acid) (cond (p (met_told x)) (met_told x ∷ filter p (map met_told xs)) (filter p (map met_told xs)))
        ≡ map (λ (y : Met). y.acid) (cond b (x ∷ filter q xs) (filter q xs))
    by true is more =
        ap (λ (s : Bool). map (λ (y : law.Meeting). y.acid) (cond s (met_told x ∷ filter p (map met_told xs)) (filter p (map met_told xs)))) is ∙ ap (λ ids. x.acid ∷ ids) more
    by false is more =
        ap (λ (s : Bool). map (λ (y : law.Meeting). y.acid) (cond s (met_told x ∷ filter p (map met_told xs)) (filter p (map met_told xs)))) is ∙ more

pub unwhole_exactly : (m : Meetings) (trace : Trace) (e : Event) → HoldsMeetings m (told trace e) → unwhole_by m ≡ law.unwhole trace e
unwhole_exactly m trace e w =
    let after = told trace e in
    let p : law.Meeting → Bool = law.is_of_committed after in
    let more : (x : law.Meeting) → p x ≡ true → counts_met after x ≡ true = λ x is. committed_counts (standing x.part after) is in
    sym (ap (map (λ (x : law.Meeting). x.acid))
    (twice p (counts_met after) (law.meetings after) more ∙ ap (filter p) w.met ∙ sym (twice p (counts_met after) (map met_told m.met) more))
    ∙ judged p (λ (x : Met). has_committed m.endings x.part) (λ x. w.committed x.part) m.met)
